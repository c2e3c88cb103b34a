-- What a string stands for by its key, against the grammar of values.
use Rattle.std.proofs.Common.{◌≡◌, ◌≢◌, ℕ, ◌<◌, Bool, true, false, cond, nat_eq, List, [], ◌∷◌, Option, Some, None, refl, ap, sym, ◌∙◌, subst, arith, inl, inr}
use Rattle.std.specs.Option.{option_map}
use Rattle.dns_names.specs.Names.{AreBytes}
use Rattle.origin_values.specs.HostGrammar.{SpellsV4, SpellsV6}
use Rattle.svcb_wire.specs.declared.param.Param.{Param}
use Rattle.svcb_wire.specs.declared.param.Param.TheVariants.{Mandatory, Alpn, NoDefaultAlpn, Port, V4Hint, Other, V6Hint}
use Rattle.svcb_wire.specs.Forms.{IsOtherKey, HasForm}
use Rattle.svcb_wire.specs.Octets.{key_of}
use Rattle.alt_base.proofs.Numbers.{true_eq, false_eq, eq_false}
use Rattle.svcb_values.specs.declared.unescaped.Unescaped.{Unescaped}
use Rattle.svcb_values.specs.ValueGrammar.{SpellsValue}
use Rattle.svcb_values.specs.ValueReading.{items_of, read_keys, read_ids, read_v4, read_v6, read_each, read_port, read_nothing, where_plain, read_value}
use Rattle.svcb_values.proofs.AddressLists.{addresses_read, addresses_spell, addresses_form, v4_reader, v6_reader}
use Rattle.svcb_values.proofs.DigitTexts.{port_read, port_spells}
use Rattle.svcb_values.proofs.IdTexts.{ids_read, ids_spell, ids_form}
use Rattle.svcb_values.proofs.KeyLists.{list_read, list_spells, list_form}
use Rattle.alt_base.proofs.Variants.{same_some}

-- a value that is read where no backslash stands
record Plainly (plain : Bool) (o : Option Param) (param : Param) : Type 0 where
  is_plain : plain ≡ true
  some : o ≡ Some param

plainly : (plain : Bool) (o : Option Param) (param : Param) → where_plain plain o ≡ Some param → Plainly plain o param
plainly true o param h = record { is_plain = refl; some = h }
plainly false o param h = cc

mandatory_spells : (key : ℕ) (value : Unescaped) (param : Param) → key ≡ 0 → where_plain value.plain (option_map Mandatory (read_keys value.bytes)) ≡ Some param → SpellsValue key value param
mandatory_spells key value param is h = let p = plainly _ _ _ h in go (read_keys value.bytes) refl p.is_plain p.some
  where
    go : (o : Option (List ℕ)) → read_keys value.bytes ≡ o → value.plain ≡ true → option_map Mandatory o ≡ Some param → SpellsValue key value param
    go None from plain e = cc
    go (Some keys) from plain e = subst (SpellsValue key value) (same_some _ _ e) (is, plain, list_spells value.bytes keys from)

alpn_spells : (key : ℕ) (value : Unescaped) (param : Param) → key ≡ 1 → option_map Alpn (read_ids value.bytes) ≡ Some param → SpellsValue key value param
alpn_spells key value param is h = go (read_ids value.bytes) refl h
  where
    go : (o : Option (List (List ℕ))) → read_ids value.bytes ≡ o → option_map Alpn o ≡ Some param → SpellsValue key value param
    go None from e = cc
    go (Some ids) from e = subst (SpellsValue key value) (same_some _ _ e) (is, ids_spell value.bytes ids from)

nothing_spells : (key : ℕ) (value : Unescaped) (param : Param) → key ≡ 2 → read_nothing value.bytes ≡ Some param → SpellsValue key value param
nothing_spells key value param is h = go value.bytes refl h
  where
    go : (bytes : List ℕ) → value.bytes ≡ bytes → read_nothing bytes ≡ Some param → SpellsValue key value param
    go [] from e = subst (SpellsValue key value) (same_some _ _ e) (is, from)
    go (b ∷ bs) from e = cc

port_value_spells : (key : ℕ) (value : Unescaped) (param : Param) → key ≡ 3 → where_plain value.plain (option_map Port (read_port value.bytes)) ≡ Some param → SpellsValue key value param
port_value_spells key value param is h = let p = plainly _ _ _ h in go (read_port value.bytes) refl p.is_plain p.some
  where
    go : (o : Option ℕ) → read_port value.bytes ≡ o → value.plain ≡ true → option_map Port o ≡ Some param → SpellsValue key value param
    go None from plain e = cc
    go (Some port) from plain e = subst (SpellsValue key value) (same_some _ _ e) (is, plain, port_spells value.bytes port from)

v4_spells : (key : ℕ) (value : Unescaped) (param : Param) → key ≡ 4 → where_plain value.plain (option_map V4Hint (read_each read_v4 (items_of value.bytes))) ≡ Some param → SpellsValue key value param
v4_spells key value param is h = let p = plainly _ _ _ h in go (read_each read_v4 (items_of value.bytes)) refl p.is_plain p.some
  where
    go : (o : Option (List (List ℕ))) → read_each read_v4 (items_of value.bytes) ≡ o → value.plain ≡ true → option_map V4Hint o ≡ Some param → SpellsValue key value param
    go None from plain e = cc
    go (Some addresses) from plain e = subst (SpellsValue key value) (same_some _ _ e) (is, plain, addresses_spell 4 read_v4 SpellsV4 value.bytes addresses v4_reader from)

v6_spells : (key : ℕ) (value : Unescaped) (param : Param) → key ≡ 6 → where_plain value.plain (option_map V6Hint (read_each read_v6 (items_of value.bytes))) ≡ Some param → SpellsValue key value param
v6_spells key value param is h = let p = plainly _ _ _ h in go (read_each read_v6 (items_of value.bytes)) refl p.is_plain p.some
  where
    go : (o : Option (List (List ℕ))) → read_each read_v6 (items_of value.bytes) ≡ o → value.plain ≡ true → option_map V6Hint o ≡ Some param → SpellsValue key value param
    go None from plain e = cc
    go (Some addresses) from plain e = subst (SpellsValue key value) (same_some _ _ e) (is, plain, addresses_spell 16 read_v6 SpellsV6 value.bytes addresses v6_reader from)

other_key : (key : ℕ) → key < 65536 → key ≢ 0 → key ≢ 1 → key ≢ 2 → key ≢ 3 → key ≢ 4 → key ≢ 6 → (t : Bool) → nat_eq key 5 ≡ t → IsOtherKey key
other_key key h a b c d e f true p = inl (true_eq key 5 p)
other_key key h a b c d e f false p = let g : key ≢ 5 = false_eq key 5 p in inr (omega arith, h)

spells_by : (a b c d e f : Bool) (key : ℕ) (value : Unescaped) (param : Param) → key < 65536 → nat_eq key 0 ≡ a → nat_eq key 1 ≡ b → nat_eq key 2 ≡ c → nat_eq key 3 ≡ d → nat_eq key 4 ≡ e → nat_eq key 6 ≡ f
    → cond a (where_plain value.plain (option_map Mandatory (read_keys value.bytes))) (cond b (option_map Alpn (read_ids value.bytes)) (cond c (read_nothing value.bytes)
    (cond d (where_plain value.plain (option_map Port (read_port value.bytes))) (cond e (where_plain value.plain (option_map V4Hint (read_each read_v4 (items_of value.bytes))))
    (cond f (where_plain value.plain (option_map V6Hint (read_each read_v6 (items_of value.bytes)))) (Some (Other key value.bytes))))))) ≡ Some param
    → SpellsValue key value param
spells_by true b c d e f key value param h p q r s t u is = mandatory_spells key value param (true_eq key 0 p) is
spells_by false true c d e f key value param h p q r s t u is = alpn_spells key value param (true_eq key 1 q) is
spells_by false false true d e f key value param h p q r s t u is = nothing_spells key value param (true_eq key 2 r) is
spells_by false false false true e f key value param h p q r s t u is = port_value_spells key value param (true_eq key 3 s) is
spells_by false false false false true f key value param h p q r s t u is = v4_spells key value param (true_eq key 4 t) is
spells_by false false false false false true key value param h p q r s t u is = v6_spells key value param (true_eq key 6 u) is
spells_by false false false false false false key value param h p q r s t u is =
    subst (SpellsValue key value) (same_some _ _ is)
    (refl, other_key key h (false_eq key 0 p) (false_eq key 1 q) (false_eq key 2 r) (false_eq key 3 s) (false_eq key 4 t) (false_eq key 6 u) (nat_eq key 5) refl, refl)

-- what is read is spelled
pub value_spells : (key : ℕ) (value : Unescaped) (param : Param) → key < 65536 → AreBytes value.bytes → read_value key value ≡ Some param → SpellsValue key value param
value_spells key value param h bytes e = spells_by _ _ _ _ _ _ key value param h refl refl refl refl refl refl e

-- what is spelled is read, at the key itself
nothing_read : (bytes : List ℕ) → bytes ≡ [] → read_nothing bytes ≡ Some NoDefaultAlpn
nothing_read [] h = refl
nothing_read (b ∷ bs) h = cc

others_read : (key : ℕ) (value : Unescaped) → key ≢ 0 → key ≢ 1 → key ≢ 2 → key ≢ 3 → key ≢ 4 → key ≢ 6 → read_value key value ≡ Some (Other key value.bytes)
others_read key value a b c d e f = rw (eq_false key 0 a, eq_false key 1 b, eq_false key 2 c, eq_false key 3 d, eq_false key 4 e, eq_false key 6 f) refl

other_read : (key : ℕ) (value : Unescaped) → IsOtherKey key → read_value key value ≡ Some (Other key value.bytes)
other_read key value (inl five) = ap (λ k. read_value k value) five ∙ ap (λ k. Some (Other k value.bytes)) (sym five)
other_read key value (inr above) =
    let h = above.0 in
    others_read key value (λ e. absurd (omega (arith, h, e))) (λ e. absurd (omega (arith, h, e))) (λ e. absurd (omega (arith, h, e))) (λ e. absurd (omega (arith, h, e))) (λ e. absurd (omega (arith, h, e))) (λ e. absurd (omega (arith, h, e)))

plain_read : (plain : Bool) (o : Option Param) (param : Param) → plain ≡ true → o ≡ Some param → where_plain plain o ≡ Some param
plain_read true o param h is = is
plain_read false o param h is = cc

pub value_read : (key : ℕ) (value : Unescaped) (param : Param) → SpellsValue key value param → read_value key value ≡ Some param
value_read key value (Mandatory keys) h =
    ap (λ k. read_value k value) h.0 ∙ plain_read value.plain _ _ h.1 (ap (option_map Mandatory) (list_read value.bytes keys h.2))
value_read key value (Alpn ids) h = ap (λ k. read_value k value) h.0 ∙ ap (option_map Alpn) (ids_read value.bytes ids h.1)
value_read key value NoDefaultAlpn h = ap (λ k. read_value k value) h.0 ∙ nothing_read value.bytes h.1
value_read key value (Port port) h =
    ap (λ k. read_value k value) h.0 ∙ plain_read value.plain _ _ h.1 (ap (option_map Port) (port_read value.bytes port h.2))
value_read key value (V4Hint addresses) h =
    ap (λ k. read_value k value) h.0 ∙ plain_read value.plain _ _ h.1 (ap (option_map V4Hint) (addresses_read 4 read_v4 SpellsV4 value.bytes addresses v4_reader h.2))
value_read key value (Other other bytes) h =
    ap (λ k. read_value k value) h.0 ∙ other_read other value h.1 ∙ ap (λ bs. Some (Other other bs)) (sym h.2)
value_read key value (V6Hint addresses) h =
    ap (λ k. read_value k value) h.0 ∙ plain_read value.plain _ _ h.1 (ap (option_map V6Hint) (addresses_read 16 read_v6 SpellsV6 value.bytes addresses v6_reader h.2))

pub value_of_key : (key : ℕ) (value : Unescaped) (param : Param) → SpellsValue key value param → key_of param ≡ key
value_of_key key value (Mandatory keys) h = sym h.0
value_of_key key value (Alpn ids) h = sym h.0
value_of_key key value NoDefaultAlpn h = sym h.0
value_of_key key value (Port port) h = sym h.0
value_of_key key value (V4Hint addresses) h = sym h.0
value_of_key key value (Other other bytes) h = sym h.0
value_of_key key value (V6Hint addresses) h = sym h.0

-- what is spelled has its key's form
pub value_has_form : (key : ℕ) (value : Unescaped) (param : Param) → key < 65536 → AreBytes value.bytes → SpellsValue key value param → HasForm param
value_has_form key value (Mandatory keys) small bytes h = list_form value.bytes keys h.2
value_has_form key value (Alpn ids) small bytes h = ids_form value.bytes ids bytes h.1
value_has_form key value NoDefaultAlpn small bytes h = tt
value_has_form key value (Port port) small bytes h = omega (arith, h.2.most)
value_has_form key value (V4Hint addresses) small bytes h = addresses_form 4 read_v4 SpellsV4 value.bytes addresses v4_reader h.2
value_has_form key value (Other other own) small bytes h = (h.1, subst AreBytes (sym h.2) bytes)
value_has_form key value (V6Hint addresses) small bytes h = addresses_form 16 read_v6 SpellsV6 value.bytes addresses v6_reader h.2
