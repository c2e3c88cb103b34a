-- How many entries pass a test.
use Rattle.std.proofs.Common.{◌≡◌, ℕ, Bool, true, false, cond, Some, List, [], ◌∷◌, filter, refl, ap, ◌∙◌}
use Rattle.std.specs.Prelude.{is_some}
use Rattle.std.specs.Cmp.{IsEquivalence}
use Rattle.std.specs.List.{list_any, IsDistinct}
use Rattle.std.specs.Map.{lookup, keys_of}
use Rattle.std.proofs.lemmas.Map.{lookup-none}
use Rattle.std.proofs.lemmas.Map.Entries.{none_past_head}
use Rattle.std.proofs.lemmas.Map.Keys.{IsDistinct-tail}
use Rattle.alias_chain.specs.Held.{is_in_force, in_force}
use Rattle.alias_chain.specs.declared.held.Held.{Held}

module _ {K V : Type 0} where
  abbrev pub passes : ℕ → K × Held V → Bool
  passes now e = is_in_force now e.1

  -- a key stands among those in force where what it has is
  pub members_in_force : (eq : K → K → Bool) → IsEquivalence eq → (now : ℕ) (key : K) (es : List (K × Held V)) → IsDistinct eq (keys_of es) → list_any (eq key) (keys_of (filter (passes now) es)) ≡ is_some (in_force now (lookup (eq key) es))
  members_in_force eq laws now key [] distinct = refl
  members_in_force eq laws now key (e ∷ es) distinct = by_tests (eq key e.0) (is_in_force now e.1) refl (members_in_force eq laws now key es (IsDistinct-tail eq e.0 (keys_of es) distinct)) ∙ shown (eq key e.0) (is_in_force now e.1) refl
    where
      by_tests : (same fresh : Bool) → eq key e.0 ≡ same → list_any (eq key) (keys_of (filter (passes now) es)) ≡ is_some (in_force now (lookup (eq key) es))
          → list_any (eq key) (keys_of (cond fresh (e ∷ filter (passes now) es) (filter (passes now) es))) ≡ cond same fresh (is_some (in_force now (lookup (eq key) es)))
      by_tests true true is rest = rw is refl
      by_tests true false is rest = rest ∙ ap (λ o. is_some (in_force now o)) (lookup-none (eq key) es (none_past_head laws key e es distinct is))
      by_tests false true is rest = rw is rest
      by_tests false false is rest = rest

      shown : (same fresh : Bool) → is_in_force now e.1 ≡ fresh → cond same fresh (is_some (in_force now (lookup (eq key) es))) ≡ is_some (in_force now (cond same (Some e.1) (lookup (eq key) es)))
      shown true true is = rw is refl
      shown true false is = rw is refl
      shown false fresh is = refl
