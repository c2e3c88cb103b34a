-- The map of the parameters that were found, by their keys.
use Rattle.std.proofs.Common.{◌≡◌, ◌≢◌, ℕ, Bool, true, false, cond, ◌||◌, nat_eq, nat_lt, List, [], ◌∷◌, Some, refl, ap, sym, ◌∙◌, arith}
use Rattle.std.specs.BTreeMap.{insert_entry, is_at}
use Rattle.std.specs.Map.{values_of, lookup}
use Rattle.std.specs.Option.{is_some}
use Rattle.std.specs.Ordering.{nat_cmp, is_eq}
use Rattle.svcb_wire.specs.declared.param.Param.{Param}
use Rattle.svcb_wire.specs.Octets.{key_of}
use Rattle.svcb_wire.specs.Usable.{has_key}
use Rattle.alt_base.proofs.Numbers.{eq_false, true_eq, false_eq, lt_true, lt_false, true_lt, false_lt}
use Rattle.svcb_text.specs.ParamOrder.{AreKeyed}
use Rattle.svcb_text.specs.Placing.{placed}
use Rattle.std.proofs.lemmas.Bool.{or_parts}

abbrev Entries : Type 0
Entries = List (ℕ × Param)

eq_same : (a b c : ℕ) → b ≡ c → is_eq (nat_cmp a b) ≡ nat_eq c a
eq_same a b c e = by (nat_lt a b) (nat_eq a b) (nat_eq c a) refl refl refl
  where
    by : (s t u : Bool) → nat_lt a b ≡ s → nat_eq a b ≡ t → nat_eq c a ≡ u → is_eq (nat_cmp a b) ≡ u
    by true t true p q r = absurd (omega (arith, true_lt a b p, true_eq c a r, e))
    by true t false p q r = rw p refl
    by false true true p q r = rw (p, q) refl
    by false true false p q r = absurd (false_eq c a r (sym e ∙ sym (true_eq a b q)))
    by false false true p q r = absurd (false_eq a b q (sym (true_eq c a r) ∙ sym e))
    by false false false p q r = rw (p, q) refl

-- a key is in the map exactly where it is one of the parameters'
pub has_found : (key : ℕ) (entries : Entries) → AreKeyed entries → is_some (lookup (is_at (nat_cmp key)) entries) ≡ has_key key (values_of entries)
has_found key [] h = refl
has_found key (e ∷ es) h = go (is_eq (nat_cmp key e.0)) refl (has_found key es h.1)
  where
    go : (t : Bool) → is_eq (nat_cmp key e.0) ≡ t → is_some (lookup (is_at (nat_cmp key)) es) ≡ has_key key (values_of es)
        → is_some (cond t (Some e.1) (lookup (is_at (nat_cmp key)) es)) ≡ (nat_eq (key_of e.1) key || has_key key (values_of es))
    go true is rec = let same : nat_eq (key_of e.1) key ≡ true = sym (eq_same key e.0 (key_of e.1) h.0) ∙ is in rw same refl
    go false is rec = let same : nat_eq (key_of e.1) key ≡ false = sym (eq_same key e.0 (key_of e.1) h.0) ∙ is in rw same rec

-- a new one goes to its place
pub record IsPlaced (param : Param) (entries longer : Entries) : Type 0 where
  pub keyed : AreKeyed longer
  pub values : values_of longer ≡ placed param (values_of entries)

pub placed_found : (key : ℕ) (param : Param) (entries : Entries) → key ≡ key_of param → AreKeyed entries → has_key (key_of param) (values_of entries) ≡ false → IsPlaced param entries (insert_entry nat_cmp entries key param)
placed_found key param [] same h new = record { keyed = (same, tt); values = refl }
placed_found key param (e ∷ es) same h new =
    let parts = or_parts (nat_eq (key_of e.1) (key_of param)) (has_key (key_of param) (values_of es)) new in
    let apart : key_of e.1 ≢ key_of param = false_eq (key_of e.1) (key_of param) parts.0 in
    let rec = placed_found key param es same h.1 parts.1 in
    go (nat_lt key e.0) refl apart rec
  where
    go : (t : Bool) → nat_lt key e.0 ≡ t → key_of e.1 ≢ key_of param → IsPlaced param es (insert_entry nat_cmp es key param) → IsPlaced param (e ∷ es) (insert_entry nat_cmp (e ∷ es) key param)
    go true is apart rec =
        let below : nat_lt (key_of param) (key_of e.1) ≡ true = lt_true _ _ (omega (arith, true_lt key e.0 is, same, h.0)) in
        rw is (record { keyed = (same, (h.0, h.1)); values = rw below refl })
    go false is apart rec =
        let above : nat_lt (key_of param) (key_of e.1) ≡ false = lt_false _ _ (omega (arith, false_lt key e.0 is, same, h.0)) in
        let other : nat_eq key e.0 ≡ false = eq_false key e.0 (λ e'. apart (sym h.0 ∙ sym e' ∙ same)) in
        rw (is, other) (record { keyed = (h.0, rec.keyed); values = rw above (ap (λ ps. e.1 ∷ ps) rec.values) })
