-- The keys of a mandatory list: placed one by one among rising ones.
use Rattle.std.proofs.Common.{◌≡◌, ◌≢◌, ℕ, suc, ◌<◌, ◌≤◌, Bool, true, false, cond, ◌||◌, nat_eq, nat_lt, List, [], ◌∷◌, length, map, Option, Some, None, refl, ap, sym, ◌∙◌, subst, arith}
use Rattle.std.specs.List.{join_with_byte}
use Rattle.field_text.specs.Runs.{AllIn}
use Rattle.svcb_wire.specs.Forms.{AreRising}
use Rattle.alt_base.proofs.Numbers.{true_eq, false_eq, eq_false, true_lt, false_lt}
use Rattle.svcb_values.specs.KeyNames.{key_name, key_named, is_key_byte}
use Rattle.svcb_values.specs.KeyOrder.{IsNew, IsOrderOf}
use Rattle.svcb_values.specs.Placing.{placed_key}
use Rattle.svcb_values.specs.ValueGrammar.{AreMandatory, SpellsKeys}
use Rattle.svcb_values.specs.ValueReading.{items_of, has_number, with_key, then_keys, keys_beside, read_keys}
use Rattle.svcb_values.proofs.CommaItems.{NoComma, NoCommas, items_joined, items_whole, items_some}
use Rattle.svcb_values.proofs.KeyLaws.{named_key, key_is_named, name_bytes}
use Rattle.svcb_values.proofs.Order.{all_placed_by, only_order, placed_order}
use Rattle.svcb_values.proofs.RisingKeys.{keys_rise}
use Rattle.std.proofs.lemmas.Bool.{or_parts}
use Rattle.alt_base.proofs.Booleans.{or_swap}

-- keys placed in turn among others
abbrev pub keys_placed : List ℕ → List ℕ → List ℕ
keys_placed before keys = all_placed_by (λ key. key) before keys

abbrev pub keys_in_order : List ℕ → List ℕ
keys_in_order keys = keys_placed [] keys

-- what stands among the keys once one is placed
placed_has : (key other : ℕ) (keys : List ℕ) → has_number (placed_key key keys) other ≡ (nat_eq key other || has_number keys other)
placed_has key other [] = refl
placed_has key other (first ∷ keys) = go (nat_lt key first) (placed_has key other keys)
  where
    go : (t : Bool) → has_number (placed_key key keys) other ≡ (nat_eq key other || has_number keys other)
        → has_number (cond t (key ∷ first ∷ keys) (first ∷ placed_key key keys)) other ≡ (nat_eq key other || (nat_eq first other || has_number keys other))
    go true h = refl
    go false h = ap (λ r. nat_eq first other || r) h ∙ or_swap (nat_eq first other) (nat_eq key other) (has_number keys other)

-- none of some keys stands among others
abbrev pub AreFresh : List ℕ → List ℕ → Type 0
AreFresh [] keys = Unit {0}
AreFresh (key ∷ named) keys = (has_number keys key ≡ false) × AreFresh named keys

all_fresh : (named : List ℕ) → AreFresh named []
all_fresh [] = tt
all_fresh (key ∷ named) = (refl, all_fresh named)

fresh_placed : (key : ℕ) (named keys : List ℕ) → IsNew key named → AreFresh named keys → AreFresh named (placed_key key keys)
fresh_placed key [] keys new fresh = tt
fresh_placed key (other ∷ named) keys new fresh =
    (placed_has key other keys ∙ rw (eq_false key other new.0) fresh.0, fresh_placed key named keys new.1 fresh.1)

record Apart (key : ℕ) (named keys : List ℕ) : Type 0 where
  new : IsNew key named
  fresh : AreFresh named keys

fresh_apart : (key : ℕ) (named keys : List ℕ) → AreFresh named (placed_key key keys) → Apart key named keys
fresh_apart key [] keys h = record { new = tt; fresh = tt }
fresh_apart key (other ∷ named) keys h =
    let s = or_parts (nat_eq key other) (has_number keys other) (sym (placed_has key other keys) ∙ h.0) in
    let rest = fresh_apart key named keys h.1 in
    record { new = (false_eq key other s.0, rest.new); fresh = (s.1, rest.fresh) }

-- names of keys are read as the keys, placed in turn
one_read : (key : ℕ) (keys : List ℕ) → 1 ≤ key → key < 65536 → has_number keys key ≡ false → with_key keys (key_named (key_name key)) ≡ Some (placed_key key keys)
one_read key keys some small fresh =
    let other : nat_eq key 0 ≡ false = eq_false key 0 (λ e. omega (arith, some, e)) in
    ap (with_key keys) (key_is_named key small) ∙ rw (other, fresh) refl

pub keys_read : (named keys : List ℕ) → AreMandatory named → AreFresh named keys → keys_beside (map key_name named) keys ≡ Some (keys_placed keys named)
keys_read [] keys m fresh = refl
keys_read (key ∷ named) keys m fresh =
    ap (λ o. then_keys o (keys_beside (map key_name named))) (one_read key keys m.0 m.1 fresh.0)
    ∙ keys_read named (placed_key key keys) m.3 (fresh_placed key named keys m.2 fresh.1)

-- what texts are that were read as keys beside some
record NamedKeys (texts : List (List ℕ)) (keys all : List ℕ) : Type 0 where
  named : List ℕ
  texts_are : texts ≡ map key_name named
  are_mandatory : AreMandatory named
  fresh : AreFresh named keys
  placed : all ≡ keys_placed keys named

some_keys : (xs ys : List ℕ) → (let a : Option (List ℕ) = Some xs in a) ≡ Some ys → ys ≡ xs
some_keys xs ys e = cc

key_onto : (text : List ℕ) (texts : List (List ℕ)) (key : ℕ) (keys all : List ℕ) → key_named text ≡ Some key → nat_eq key 0 ≡ false → has_number keys key ≡ false → NamedKeys texts (placed_key key keys) all → NamedKeys (text ∷ texts) keys all
key_onto text texts key keys all is other fresh s =
    let n = named_key text key is in
    let apart = fresh_apart key s.named keys s.fresh in
    let above = false_eq key 0 other in
    record {
      named = key ∷ s.named;
      texts_are = ap (λ xs. text ∷ xs) s.texts_are ∙ ap (λ x. x ∷ map key_name s.named) n.0;
      are_mandatory = (omega arith, n.1, apart.new, s.are_mandatory);
      fresh = (fresh, apart.fresh);
      placed = s.placed;
    }

keys_says : (texts : List (List ℕ)) (keys all : List ℕ) → keys_beside texts keys ≡ Some all → NamedKeys texts keys all
keys_says [] keys all h = record { named = []; texts_are = refl; are_mandatory = tt; fresh = tt; placed = some_keys keys all h }
keys_says (text ∷ texts) keys all h = go (λ more. keys_says texts more all) (key_named text) refl h
  where
    go : ((more : List ℕ) → keys_beside texts more ≡ Some all → NamedKeys texts more all) → (o : Option ℕ) → key_named text ≡ o → then_keys (with_key keys o) (keys_beside texts) ≡ Some all → NamedKeys (text ∷ texts) keys all
    go later None is e = cc
    go later (Some key) is e = tested (nat_eq key 0) (has_number keys key) refl refl e
      where
        tested : (s t : Bool) → nat_eq key 0 ≡ s → has_number keys key ≡ t → then_keys (cond (s || t) None (Some (placed_key key keys))) (keys_beside texts) ≡ Some all → NamedKeys (text ∷ texts) keys all
        tested true t p q f = cc
        tested false true p q f = cc
        tested false false p q f = key_onto text texts key keys all is p q (later (placed_key key keys) f)

-- a name holds no comma
no_comma_byte : (b : ℕ) → is_key_byte b ≡ true → nat_eq b 44 ≡ false
no_comma_byte b h = go (nat_eq b 44) refl
  where
    comma : is_key_byte 44 ≡ true → ⊥
    comma e = cc

    go : (t : Bool) → nat_eq b 44 ≡ t → t ≡ false
    go false is = refl
    go true is = absurd (comma (subst (λ c. is_key_byte c ≡ true) (true_eq b 44 is) h))

bytes_no_comma : (name : List ℕ) → AllIn is_key_byte name → NoComma name
bytes_no_comma [] h = tt
bytes_no_comma (b ∷ bs) h = (no_comma_byte b h.0, bytes_no_comma bs h.1)

names_no_comma : (named : List ℕ) → AreMandatory named → NoCommas (map key_name named)
names_no_comma [] m = tt
names_no_comma (key ∷ named) m = (bytes_no_comma (key_name key) (name_bytes key m.1), names_no_comma named m.3)

names_some : (named : List ℕ) → named ≢ [] → map key_name named ≢ []
names_some [] some none = some refl
names_some (key ∷ named) some none = cc

-- the keys rise
placed_rising : (last key : ℕ) (keys : List ℕ) → last < key → key < 65536 → has_number keys key ≡ false → AreRising last keys → AreRising last (placed_key key keys)
placed_rising last key [] above small fresh rising = (above, small, tt)
placed_rising last key (first ∷ keys) above small fresh rising =
    let apart = or_parts (nat_eq first key) (has_number keys key) fresh in
    go (false_eq first key apart.0) (λ higher. placed_rising first key keys higher small apart.1 rising.2) (nat_lt key first) refl
  where
    go : first ≢ key → (first < key → AreRising first (placed_key key keys)) → (t : Bool) → nat_lt key first ≡ t → AreRising last (cond t (key ∷ first ∷ keys) (first ∷ placed_key key keys))
    go other rest true is = (above, small, (true_lt key first is, rising.1, rising.2))
    go other rest false is = (rising.0, rising.1, rest (omega (arith, false_lt key first is)))

all_rising : (named keys : List ℕ) → AreMandatory named → AreFresh named keys → AreRising 0 keys → AreRising 0 (keys_placed keys named)
all_rising [] keys m fresh rising = rising
all_rising (key ∷ named) keys m fresh rising =
    all_rising named (placed_key key keys) m.3 (fresh_placed key named keys m.2 fresh.1) (placed_rising 0 key keys m.0 m.1 fresh.0 rising)

mandatory_rise : (named : List ℕ) → AreMandatory named → AreRising 0 (keys_in_order named)
mandatory_rise named m = all_rising named [] m (all_fresh named) tt

mandatory_order : (named : List ℕ) → AreMandatory named → IsOrderOf (λ key. key) named (keys_in_order named)
mandatory_order named m = placed_order (λ key. key) named 1 (keys_rise 0 (keys_in_order named) (mandatory_rise named m))

-- keys that a text spells stand as the reading places them
keys_are : (text keys : List ℕ) → (s : SpellsKeys text keys) → keys ≡ keys_in_order s.named
keys_are text keys s = only_order (λ key. key) s.named keys (keys_in_order s.named) s.order (mandatory_order s.named s.are_mandatory)

pub list_read : (text keys : List ℕ) → SpellsKeys text keys → read_keys text ≡ Some keys
list_read text keys s =
    ap (λ xs. keys_beside (items_of xs) []) s.spelled
    ∙ ap (λ items. keys_beside items []) (items_joined (map key_name s.named) (names_some s.named s.some) (names_no_comma s.named s.are_mandatory))
    ∙ keys_read s.named [] s.are_mandatory (all_fresh s.named) ∙ ap Some (sym (keys_are text keys s))

pub list_spells : (text keys : List ℕ) → read_keys text ≡ Some keys → SpellsKeys text keys
list_spells text keys h =
    let s = keys_says (items_of text) [] keys h in
    record {
      named = s.named;
      some = λ none. items_some text (s.texts_are ∙ ap (map key_name) none);
      are_mandatory = s.are_mandatory;
      spelled = items_whole text ∙ ap (join_with_byte 44) s.texts_are;
      order = subst (IsOrderOf (λ key. key) s.named) (sym s.placed) (mandatory_order s.named s.are_mandatory);
    }

placed_length : (key : ℕ) (keys : List ℕ) → length (placed_key key keys) ≡ suc (length keys)
placed_length key [] = refl
placed_length key (first ∷ keys) = go (nat_lt key first) (placed_length key keys)
  where
    go : (t : Bool) → length (placed_key key keys) ≡ suc (length keys) → length (cond t (key ∷ first ∷ keys) (first ∷ placed_key key keys)) ≡ suc (suc (length keys))
    go true h = refl
    go false h = ap suc h

placed_more : (named keys : List ℕ) → length keys ≤ length (keys_placed keys named)
placed_more [] keys = omega arith
placed_more (key ∷ named) keys = omega (arith, placed_more named (placed_key key keys), placed_length key keys)

some_placed : (named : List ℕ) → named ≢ [] → 1 ≤ length (keys_in_order named)
some_placed [] some = absurd (some refl)
some_placed (key ∷ named) some = placed_more named (key ∷ [])

pub list_form : (text keys : List ℕ) → SpellsKeys text keys → (1 ≤ length keys) × AreRising 0 keys
list_form text keys s =
    subst (λ ks. (1 ≤ length ks) × AreRising 0 ks) (sym (keys_are text keys s))
    (some_placed s.named s.some, mandatory_rise s.named s.are_mandatory)
