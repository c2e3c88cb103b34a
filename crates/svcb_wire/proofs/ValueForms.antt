-- The reading of a value by its key against the key's form.
use Rattle.std.proofs.Common.{◌≡◌, ◌≢◌, ◌⊎◌, ℕ, ◌<◌, ◌≤◌, Bool, true, false, cond, nat_eq, List, [], ◌∷◌, length, Option, Some, None, refl, ap, sym, ◌∙◌, subst, arith, inl, inr}
use Rattle.std.specs.Option.{option_map}
use Rattle.byteorder.specs.Endian.{big_number, big_bytes}
use Rattle.dns_names.specs.Names.{AreBytes}
use Rattle.svcb_wire.specs.declared.param.Param.{Param}
use Rattle.svcb_wire.specs.declared.param.Param.TheVariants.{Mandatory, Alpn, NoDefaultAlpn, Port, V4Hint, Other, V6Hint}
use Rattle.svcb_wire.specs.Octets.{keys_octets, ids_octets, addresses_octets, key_of, value_of}
use Rattle.svcb_wire.specs.Forms.{AreRising, AreIds, AreAddresses, HasForm}
use Rattle.svcb_wire.specs.ValueReading.{First, first_id, first_address, where_some, read_keys, read_items, read_nothing, read_port, read_value}
use Rattle.alt_base.proofs.Numbers.{eq_false, true_eq, false_eq}
use Rattle.svcb_wire.proofs.Pairs.{pair_reads, pair_below, pair_whole}
use Rattle.svcb_wire.proofs.Keys.{keys_says, keys_reads}
use Rattle.svcb_wire.proofs.Items.{Items, IsReader, items_says, items_reads}
use Rattle.svcb_wire.proofs.Readers.{id_reader, address_reader}
use Rattle.alt_base.proofs.Variants.{same_some}

-- the parameter is the one of this key and this value
pub record IsOf (key : ℕ) (value : List ℕ) (param : Param) : Type 0 where
  pub form : HasForm param
  pub key_is : key_of param ≡ key
  pub value_is : value_of param ≡ value

some_octet : {A : Type 0} → (v : List ℕ) (r : Option A) → 1 ≤ length v → where_some v r ≡ r
some_octet [] r h = absurd (omega arith)
some_octet (b ∷ bs) r h = refl

keys_some : (keys : List ℕ) (b : ℕ) (bs : List ℕ) → keys_octets keys ≡ b ∷ bs → 1 ≤ length keys
keys_some [] b bs e = cc
keys_some (key ∷ keys) b bs e = omega arith

keys_form : (v keys : List ℕ) → AreBytes v → read_keys v ≡ Some keys → IsOf 0 v (Mandatory keys)
keys_form [] keys bytes e = cc
keys_form (b ∷ bs) keys bytes e =
    let s = keys_says (b ∷ bs) [] keys 0 bytes e in
    record {
      form = subst (λ ks. (1 ≤ length ks) × AreRising 0 ks) (sym s.all) (keys_some s.more b bs s.octets, s.rising);
      key_is = refl;
      value_is = ap keys_octets s.all ∙ s.octets;
    }

mandatory_says : (r : Option (List ℕ)) (v : List ℕ) (param : Param) → AreBytes v → read_keys v ≡ r → option_map Mandatory r ≡ Some param → IsOf 0 v param
mandatory_says None v param bytes is e = cc
mandatory_says (Some keys) v param bytes is e = subst (λ p. IsOf 0 v p) (same_some _ _ e) (keys_form v keys bytes is)

items_some : (octets : Items → List ℕ) (items : Items) (b : ℕ) (bs : List ℕ) → octets [] ≡ [] → octets items ≡ b ∷ bs → 1 ≤ length items
items_some octets [] b bs n e = cc
items_some octets (item ∷ items) b bs n e = omega arith

-- a list of items, at least one
pub record AreItems (octets : Items → List ℕ) (Are : Items → Type 0) (v : List ℕ) (items : Items) : Type 0 where
  pub some : 1 ≤ length items
  pub are : Are items
  pub whole : octets items ≡ v

items_form : (first : First) (octets : Items → List ℕ) (Are : Items → Type 0) (v : List ℕ) (items : Items) → IsReader first octets Are → AreBytes v → read_items first v ≡ Some items → AreItems octets Are v items
items_form first octets Are [] items reader bytes e = cc
items_form first octets Are (b ∷ bs) items reader bytes e =
    let s = items_says (length (b ∷ bs)) first octets Are [] items (b ∷ bs) reader bytes e in
    subst (λ is. AreItems octets Are (b ∷ bs) is) (sym s.all) (record { some = items_some octets s.more b bs reader.none_octets s.whole; are = s.are; whole = s.whole })

alpn_says : (r : Option Items) (v : List ℕ) (param : Param) → AreBytes v → read_items first_id v ≡ r → option_map Alpn r ≡ Some param → IsOf 1 v param
alpn_says None v param bytes is e = cc
alpn_says (Some ids) v param bytes is e =
    let s = items_form first_id ids_octets AreIds v ids id_reader bytes is in
    subst (λ p. IsOf 1 v p) (same_some _ _ e) (record { form = (s.some, s.are); key_is = refl; value_is = s.whole })

v4_says : (r : Option Items) (v : List ℕ) (param : Param) → AreBytes v → read_items (first_address 4) v ≡ r → option_map V4Hint r ≡ Some param → IsOf 4 v param
v4_says None v param bytes is e = cc
v4_says (Some addresses) v param bytes is e =
    let s = items_form (first_address 4) addresses_octets (AreAddresses 4) v addresses (address_reader 4 (omega arith)) bytes is in
    subst (λ p. IsOf 4 v p) (same_some _ _ e) (record { form = (s.some, s.are); key_is = refl; value_is = s.whole })

v6_says : (r : Option Items) (v : List ℕ) (param : Param) → AreBytes v → read_items (first_address 16) v ≡ r → option_map V6Hint r ≡ Some param → IsOf 6 v param
v6_says None v param bytes is e = cc
v6_says (Some addresses) v param bytes is e =
    let s = items_form (first_address 16) addresses_octets (AreAddresses 16) v addresses (address_reader 16 (omega arith)) bytes is in
    subst (λ p. IsOf 6 v p) (same_some _ _ e) (record { form = (s.some, s.are); key_is = refl; value_is = s.whole })

nothing_says : (v : List ℕ) (param : Param) → read_nothing v ≡ Some param → IsOf 2 v param
nothing_says [] param e = subst (λ p. IsOf 2 [] p) (same_some _ _ e) (record { form = tt; key_is = refl; value_is = refl })
nothing_says (b ∷ bs) param e = cc

port_says : (t : Bool) (v : List ℕ) (param : Param) → AreBytes v → nat_eq (length v) 2 ≡ t → cond t (Some (Port (big_number 2 v))) None ≡ Some param → IsOf 3 v param
port_says false v param bytes p e = cc
port_says true v param bytes p e =
    let two : length v ≡ 2 = true_eq _ _ p in
    subst (λ q. IsOf 3 v q) (same_some _ _ e) (record { form = pair_below v bytes (omega (arith, two)); key_is = refl; value_is = pair_whole v bytes two })

other_key : (key : ℕ) → key < 65536 → key ≢ 0 → key ≢ 1 → key ≢ 2 → key ≢ 3 → key ≢ 4 → key ≢ 6 → (t : Bool) → nat_eq key 5 ≡ t → (key ≡ 5) ⊎ ((6 < key) × (key < 65536))
other_key key h a b c d e f true p = inl (true_eq _ _ p)
other_key key h a b c d e f false p = let g : key ≢ 5 = false_eq _ _ p in inr (omega arith, h)

same_key : (key key' : ℕ) (v : List ℕ) (param : Param) → key ≡ key' → IsOf key' v param → IsOf key v param
same_key key key' v param e h = record { form = h.form; key_is = h.key_is ∙ sym e; value_is = h.value_is }

value_by : (a b c d e f : Bool) (key : ℕ) (v : List ℕ) (param : Param) → key < 65536 → AreBytes v → nat_eq key 0 ≡ a → nat_eq key 1 ≡ b → nat_eq key 2 ≡ c → nat_eq key 3 ≡ d → nat_eq key 4 ≡ e → nat_eq key 6 ≡ f
    → cond a (option_map Mandatory (read_keys v)) (cond b (option_map Alpn (read_items first_id v)) (cond c (read_nothing v) (cond d (read_port v) (cond e (option_map V4Hint (read_items (first_address 4) v)) (cond f (option_map V6Hint (read_items (first_address 16) v)) (Some (Other key v))))))) ≡ Some param
    → IsOf key v param
value_by true b c d e f key v param h bytes p q r s t u is = same_key key 0 v param (true_eq _ _ p) (mandatory_says (read_keys v) v param bytes refl is)
value_by false true c d e f key v param h bytes p q r s t u is = same_key key 1 v param (true_eq _ _ q) (alpn_says (read_items first_id v) v param bytes refl is)
value_by false false true d e f key v param h bytes p q r s t u is = same_key key 2 v param (true_eq _ _ r) (nothing_says v param is)
value_by false false false true e f key v param h bytes p q r s t u is = same_key key 3 v param (true_eq _ _ s) (port_says (nat_eq (length v) 2) v param bytes refl is)
value_by false false false false true f key v param h bytes p q r s t u is = same_key key 4 v param (true_eq _ _ t) (v4_says (read_items (first_address 4) v) v param bytes refl is)
value_by false false false false false true key v param h bytes p q r s t u is = same_key key 6 v param (true_eq _ _ u) (v6_says (read_items (first_address 16) v) v param bytes refl is)
value_by false false false false false false key v param h bytes p q r s t u is =
    subst (λ k. IsOf key v k) (same_some _ _ is) (record {
      form = (other_key key h (false_eq _ _ p) (false_eq _ _ q) (false_eq _ _ r) (false_eq _ _ s) (false_eq _ _ t) (false_eq _ _ u) (nat_eq key 5) refl, bytes);
      key_is = refl;
      value_is = refl;
    })

-- what is read has the key's form, the key and the value
pub value_says : (key : ℕ) (v : List ℕ) (param : Param) → key < 65536 → AreBytes v → read_value key v ≡ Some param → IsOf key v param
value_says key v param h bytes e = value_by _ _ _ _ _ _ key v param h bytes refl refl refl refl refl refl e

keys_read : (keys : List ℕ) → 1 ≤ length keys → AreRising 0 keys → read_keys (keys_octets keys) ≡ Some keys
keys_read [] some rising = absurd (omega arith)
keys_read (key ∷ keys) some rising = keys_reads (key ∷ keys) [] 0 rising

items_read : (first : First) (octets : Items → List ℕ) (Are : Items → Type 0) (items : Items) → IsReader first octets Are → 1 ≤ length items → Are items → read_items first (octets items) ≡ Some items
items_read first octets Are [] reader some are = absurd (omega arith)
items_read first octets Are (item ∷ items) reader some are =
    some_octet (octets (item ∷ items)) _ (reader.complete item items are).4 ∙ items_reads (item ∷ items) first octets Are [] reader are

other_reads : (key : ℕ) (v : List ℕ) → key ≢ 0 → key ≢ 1 → key ≢ 2 → key ≢ 3 → key ≢ 4 → key ≢ 6 → read_value key v ≡ Some (Other key v)
other_reads key v a b c d e f =
    let p : nat_eq key 0 ≡ false = eq_false _ _ a in
    let q : nat_eq key 1 ≡ false = eq_false _ _ b in
    let r : nat_eq key 2 ≡ false = eq_false _ _ c in
    let s : nat_eq key 3 ≡ false = eq_false _ _ d in
    let t : nat_eq key 4 ≡ false = eq_false _ _ e in
    let u : nat_eq key 6 ≡ false = eq_false _ _ f in
    rw (p, q, r, s, t, u) refl

other_read : (key : ℕ) (v : List ℕ) → (key ≡ 5) ⊎ ((6 < key) × (key < 65536)) → read_value key v ≡ Some (Other key v)
other_read key v (inl five) = rw five refl
other_read key v (inr above) =
    let h = above.0 in
    other_reads key v (λ e. absurd (omega (arith, h, e))) (λ e. absurd (omega (arith, h, e))) (λ e. absurd (omega (arith, h, e))) (λ e. absurd (omega (arith, h, e))) (λ e. absurd (omega (arith, h, e))) (λ e. absurd (omega (arith, h, e)))

port_read : (port : ℕ) → port < 65536 → read_port (big_bytes 2 port) ≡ Some (Port port)
port_read port h = ap (λ n. Some (Port n)) (pair_reads port [] h)

-- a value of its key's form is read
pub value_reads : (param : Param) → HasForm param → read_value (key_of param) (value_of param) ≡ Some param
value_reads (Mandatory keys) h = ap (option_map Mandatory) (keys_read keys h.0 h.1)
value_reads (Alpn ids) h = ap (option_map Alpn) (items_read first_id ids_octets AreIds ids id_reader h.0 h.1)
value_reads NoDefaultAlpn h = refl
value_reads (Port port) h = port_read port h
value_reads (V4Hint addresses) h = ap (option_map V4Hint) (items_read (first_address 4) addresses_octets (AreAddresses 4) addresses (address_reader 4 (omega arith)) h.0 h.1)
value_reads (Other key value) h = other_read key value h.0
value_reads (V6Hint addresses) h = ap (option_map V6Hint) (items_read (first_address 16) addresses_octets (AreAddresses 16) addresses (address_reader 16 (omega arith)) h.0 h.1)

-- no parameter has a key and a value that aren't read
pub value_none : (key : ℕ) (v : List ℕ) → read_value key v ≡ None → (param : Param) → HasForm param → key_of param ≡ key → value_of param ≡ v → ⊥
value_none key v e param form key_is value_is =
    let r : read_value (key_of param) (value_of param) ≡ Some param = value_reads param form in
    let s : read_value key v ≡ Some param = subst (λ k. read_value k v ≡ Some param) key_is (subst (λ w. read_value (key_of param) w ≡ Some param) value_is r) in
    no_both (read_value key v) param e s
  where
    no_both : (r : Option Param) (param : Param) → r ≡ None → r ≡ Some param → ⊥
    no_both r param a b = cc

none_by : (r : Option Param) (key : ℕ) (v : List ℕ) → key < 65536 → AreBytes v → read_value key v ≡ r → ((param : Param) → HasForm param → key_of param ≡ key → value_of param ≡ v → ⊥) → r ≡ None
none_by None key v h bytes is none = refl
none_by (Some param) key v h bytes is none = let o = value_says key v param h bytes is in absurd (none param o.form o.key_is o.value_is)

-- and what no parameter has isn't read
pub none_reads : (key : ℕ) (v : List ℕ) → key < 65536 → AreBytes v → ((param : Param) → HasForm param → key_of param ≡ key → value_of param ≡ v → ⊥) → read_value key v ≡ None
none_reads key v h bytes none = none_by (read_value key v) key v h bytes refl none
