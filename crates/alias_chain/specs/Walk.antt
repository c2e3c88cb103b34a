-- The walk along aliases, from the name that is asked for to the name whose records count (RFC 9460 2.4.2 and 3).
use Rattle.std.specs.Prelude.{◌≡◌, ◌≢◌, ◌≤◌, ℕ, Bool, nat_eq, List, [], ◌∷◌, length, Option, None, Some, option_map}
use Rattle.std.specs.List.{find, AllPairs}
use Rattle.origin_values.specs.declared.origin.Origin.{Origin}
use Rattle.svcb_wire.specs.declared.svcb.Svcb.{Svcb}
use Rattle.alias_chain.specs.QueryName.{IsQueryName}

-- a name, as its labels
abbrev pub NameOf : Type 0
NameOf = List (List ℕ)

-- the map of the answers: the records of each name that has some in force, in delivered order
abbrev pub AnswerMap : Type 0
AnswerMap = NameOf → Option (List Svcb)

-- a record in AliasMode (RFC 9460 2.4.1)
abbrev pub is_alias : Svcb → Bool
is_alias record_ = nat_eq record_.priority 0

-- the target of the first alias among the records of a name, beside which nothing else of them counts
abbrev pub alias_of : Option (List Svcb) → Option NameOf
alias_of None = None
alias_of (Some records) = option_map (λ (r : Svcb). r.target) (find is_alias records)

-- from a name each alias leads to the next of the targets, none of them the root, and the last name has no alias
abbrev pub LeadsAlong : AnswerMap → NameOf → List NameOf → Type 0
LeadsAlong answers name [] = alias_of (answers name) ≡ None
LeadsAlong answers name (target ∷ targets) = (alias_of (answers name) ≡ Some target) × (target ≢ []) × LeadsAlong answers target targets

-- a walk for an origin: the name asked for, and the targets of at most eight aliases; all its names differ
pub record IsWalk (answers : AnswerMap) (origin : Origin) (name : NameOf) (targets : List NameOf) : Type 0 where
  pub asked : IsQueryName origin name
  pub led : LeadsAlong answers name targets
  pub few : length targets ≤ 8
  pub differ : AllPairs (λ (a b : NameOf). a ≢ b) (name ∷ targets)

-- the name at which a walk ends
abbrev pub end_of : NameOf → List NameOf → NameOf
end_of name [] = name
end_of name (target ∷ targets) = end_of target targets
