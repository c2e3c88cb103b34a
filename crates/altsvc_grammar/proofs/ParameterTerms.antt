-- What parameters mean, computed by the tests of the reading, is what the grammar says that they mean, and only that.
use Rattle.std.proofs.Common.{◌≡◌, ◌⊎◌, ℕ, Bool, true, false, cond, ◌&&◌, nat_eq, List, [], ◌∷◌, ◌++◌, map, codes, Option, None, Some, refl, ap, sym, ◌∙◌, subst, inl, inr}
use Rattle.std.specs.Char.{to_ascii_lowercase}
use Rattle.alt_base.proofs.Booleans.{one_truth}
use Rattle.alt_base.proofs.Numbers.{eq_self, true_eq}
use Rattle.field_text.specs.DeltaGrammar.{SpellsDelta, IsNoDelta}
use Rattle.field_text.proofs.DeltaLemmas.{delta_spelled, delta_refused, one_delta_of}
use Rattle.altsvc_grammar.specs.ParameterReading.{is_named, is_one, ma_value, or_else}
use Rattle.altsvc_grammar.specs.ParameterGrammar.{Parameter, value_bytes}
use Rattle.altsvc_grammar.specs.TermsGrammar.{IsNamed, NoneNamed, GivesFirst, MeansSeconds, SaysMa, SaysPersist}

-- the test of a name is that it has the letters
named_true : (letters name : List ℕ) → map to_ascii_lowercase name ≡ letters → is_named letters name ≡ true
named_true letters name e = go name letters e
  where
    same : (name : List ℕ) → is_named (map to_ascii_lowercase name) name ≡ true
    same [] = refl
    same (b ∷ bs) = rw (eq_self (to_ascii_lowercase b)) (same bs)

    go : (name letters : List ℕ) → map to_ascii_lowercase name ≡ letters → is_named letters name ≡ true
    go name letters e = subst (λ ls. is_named ls name ≡ true) e (same name)

true_named : (letters name : List ℕ) → is_named letters name ≡ true → map to_ascii_lowercase name ≡ letters
true_named [] [] h = refl
true_named [] (b ∷ bs) h = cc
true_named (c ∷ letters) [] h = cc
true_named (c ∷ letters) (b ∷ bs) h = go (nat_eq (to_ascii_lowercase b) c) refl h (λ rest. true_named letters bs rest)
  where
    go : (t : Bool) → nat_eq (to_ascii_lowercase b) c ≡ t → (t && is_named letters bs) ≡ true → (is_named letters bs ≡ true → map to_ascii_lowercase bs ≡ letters)
        → to_ascii_lowercase b ∷ map to_ascii_lowercase bs ≡ c ∷ letters
    go true is rest rec = let head = true_eq (to_ascii_lowercase b) c is in let tail = rec rest in cc
    go false is rest rec = cc

-- the value of the first parameter of a name, by that test
abbrev pub first_named : List ℕ → List Parameter → Option (List ℕ)
first_named letters [] = None
first_named letters (p ∷ ps) = cond (is_named letters p.name) (Some (value_bytes p.value)) (first_named letters ps)

gives_first : (letters : List ℕ) (ps : List Parameter) → GivesFirst letters ps (first_named letters ps)
gives_first letters [] = tt
gives_first letters (p ∷ ps) = go (is_named letters p.name) refl (first_named letters ps) (gives_first letters ps)
  where
    none : is_named letters p.name ≡ false → IsNamed letters p → ⊥
    none is e = let holds = named_true letters p.name e in cc

    go : (t : Bool) → is_named letters p.name ≡ t → (said : Option (List ℕ)) → GivesFirst letters ps said → GivesFirst letters (p ∷ ps) (cond t (Some (value_bytes p.value)) said)
    go true is said rest = record { before = []; first = p; after = ps; split = refl; none = tt; named = true_named letters p.name is; says = refl }
    go false is None rest = (none is, rest)
    go false is (Some value) rest = record { before = p ∷ rest.before; first = rest.first; after = rest.after; split = ap (λ qs. p ∷ qs) rest.split; none = (none is, rest.none); named = rest.named; says = rest.says }

not_named : (letters : List ℕ) (p : Parameter) → (IsNamed letters p → ⊥) → is_named letters p.name ≡ false
not_named letters p none = go (is_named letters p.name) refl
  where
    go : (t : Bool) → is_named letters p.name ≡ t → t ≡ false
    go true is = absurd (none (true_named letters p.name is))
    go false is = refl

none_first : (letters : List ℕ) (ps : List Parameter) → NoneNamed letters ps → first_named letters ps ≡ None
none_first letters [] none = refl
none_first letters (p ∷ ps) none = rw (not_named letters p none.0) (none_first letters ps none.1)

behind_first : (letters : List ℕ) (before after : List Parameter) (first : Parameter) → NoneNamed letters before → IsNamed letters first → first_named letters (before ++ first ∷ after) ≡ Some (value_bytes first.value)
behind_first letters [] after first none named = rw (named_true letters first.name named) refl
behind_first letters (p ∷ ps) after first none named = rw (not_named letters p none.0) (behind_first letters ps after first none.1 named)

first_is : (letters : List ℕ) (ps : List Parameter) (said : Option (List ℕ)) → GivesFirst letters ps said → first_named letters ps ≡ said
first_is letters ps None h = none_first letters ps h
first_is letters ps (Some value) h = ap (first_named letters) h.split ∙ behind_first letters h.before h.after h.first h.none h.named ∙ ap Some (sym h.says)

-- the seconds
abbrev pub ma_said : Option (List ℕ) → ℕ
ma_said None = 86400
ma_said (Some value) = ma_value value

abbrev pub ma_of : List Parameter → ℕ
ma_of ps = ma_said (first_named (codes "ma") ps)

means_seconds : (said : Option (List ℕ)) → MeansSeconds said (ma_said said)
means_seconds None = refl
means_seconds (Some value) = go (one_delta_of value).some
  where
    go : ((seconds : ℕ) × SpellsDelta value seconds) ⊎ IsNoDelta value → MeansSeconds (Some value) (ma_value value)
    go (inl s) = inl (subst (SpellsDelta value) (sym (ap (or_else 86400) (delta_spelled s.0 value s.1))) s.1)
    go (inr s) = inr (s, ap (or_else 86400) (delta_refused value s))

seconds_are : (said : Option (List ℕ)) (seconds : ℕ) → MeansSeconds said seconds → ma_said said ≡ seconds
seconds_are None seconds h = sym h
seconds_are (Some value) seconds (inl s) = ap (or_else 86400) (delta_spelled seconds value s)
seconds_are (Some value) seconds (inr s) = ap (or_else 86400) (delta_refused value s.0) ∙ sym s.1

pub says_ma : (ps : List Parameter) → SaysMa ps (ma_of ps)
says_ma ps = record { said = first_named (codes "ma") ps; first = gives_first (codes "ma") ps; means = means_seconds (first_named (codes "ma") ps) }

pub ma_is : (ps : List Parameter) (ma : ℕ) → SaysMa ps ma → ma_of ps ≡ ma
ma_is ps ma h = ap ma_said (first_is (codes "ma") ps h.said h.first) ∙ seconds_are h.said ma h.means

-- whether it persists
abbrev pub persist_said : Option (List ℕ) → Bool
persist_said None = false
persist_said (Some value) = is_one value

abbrev pub persist_of : List Parameter → Bool
persist_of ps = persist_said (first_named (codes "persist") ps)

said_one : (said : Option (List ℕ)) → persist_said said ≡ true → said ≡ Some (codes "1")
said_one None h = cc
said_one (Some []) h = cc
said_one (Some (b ∷ [])) h = ap (λ c. Some (c ∷ [])) (true_eq b 49 h)
said_one (Some (b ∷ c ∷ bs)) h = cc

one_said : (said : Option (List ℕ)) → said ≡ Some (codes "1") → persist_said said ≡ true
one_said said e = ap persist_said e

pub says_persist : (ps : List Parameter) → SaysPersist ps (persist_of ps)
says_persist ps = record { said = first_named (codes "persist") ps; first = gives_first (codes "persist") ps; means = (said_one (first_named (codes "persist") ps), one_said (first_named (codes "persist") ps)) }

pub persist_is : (ps : List Parameter) (persist : Bool) → SaysPersist ps persist → persist_of ps ≡ persist
persist_is ps persist h =
    let same = first_is (codes "persist") ps h.said h.first in
    one_truth (persist_of ps) persist (λ t. h.means.1 (sym same ∙ said_one (first_named (codes "persist") ps) t)) (λ t. one_said (first_named (codes "persist") ps) (same ∙ h.means.0 t))
