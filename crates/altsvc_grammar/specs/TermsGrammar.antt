-- What the parameters of an alternative mean (RFC 7838 3.1): for how many seconds it is fresh, and whether it persists.
use Rattle.std.specs.Prelude.{◌≡◌, ◌⊎◌, ◌↔◌, ℕ, Bool, true, List, [], ◌∷◌, ◌++◌, map, codes, Option, None, Some}
use Rattle.std.specs.Char.{to_ascii_lowercase}
use Rattle.field_text.specs.DeltaGrammar.{SpellsDelta, IsNoDelta}
use Rattle.altsvc_grammar.specs.ParameterGrammar.{Parameter, value_bytes}

-- a name of these lower-case letters, without regard to case
abbrev pub IsNamed : List ℕ → Parameter → Type 0
IsNamed letters p = map to_ascii_lowercase p.name ≡ letters

abbrev pub NoneNamed : List ℕ → List Parameter → Type 0
NoneNamed letters [] = Unit {0}
NoneNamed letters (p ∷ ps) = (IsNamed letters p → ⊥) × NoneNamed letters ps

-- the value of the first parameter of this name
pub record IsFirstNamed (letters : List ℕ) (ps : List Parameter) (value : List ℕ) : Type 0 where
  pub before : List Parameter
  pub first : Parameter
  pub after : List Parameter
  pub split : ps ≡ before ++ first ∷ after
  pub none : NoneNamed letters before
  pub named : IsNamed letters first
  pub says : value ≡ value_bytes first.value

-- what stands for a name: the first value, or nothing where no parameter has it
abbrev pub GivesFirst : List ℕ → List Parameter → Option (List ℕ) → Type 0
GivesFirst letters ps None = NoneNamed letters ps
GivesFirst letters ps (Some value) = IsFirstNamed letters ps value

-- delta-seconds spell their number, at most 2,147,483,648; another value counts as none, and none is a day
abbrev pub MeansSeconds : Option (List ℕ) → ℕ → Type 0
MeansSeconds None seconds = seconds ≡ 86400
MeansSeconds (Some value) seconds = SpellsDelta value seconds ⊎ (IsNoDelta value × (seconds ≡ 86400))

-- the seconds are what the first `ma` means
pub record SaysMa (ps : List Parameter) (ma : ℕ) : Type 0 where
  pub said : Option (List ℕ)
  pub first : GivesFirst (codes "ma") ps said
  pub means : MeansSeconds said ma

-- it persists where the first `persist` is `1`, and nowhere else
pub record SaysPersist (ps : List Parameter) (persist : Bool) : Type 0 where
  pub said : Option (List ℕ)
  pub first : GivesFirst (codes "persist") ps said
  pub means : (persist ≡ true) ↔ (said ≡ Some (codes "1"))
