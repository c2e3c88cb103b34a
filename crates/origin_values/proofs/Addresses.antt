-- The reading of addresses against their grammar.
use Rattle.std.proofs.Common.{◌≡◌, ℕ, List, [], ◌∷◌, Option, None, Some, option_map, refl, ap, sym, ◌∙◌, subst, append-nil, lit≤, arith, length, ne_eqb, cond, IfSome, IfNone}
use Rattle.std.specs.Net.Addr.{octets_of}
use Rattle.std.specs.Net.Grammar.{IsColonHex, IsIpv4Text, IsIpv6Text}
use Rattle.std.specs.Net.Reader.{Read, read_ipv4, read_ipv6, whole_value}
use Rattle.std.specs.declared.net.ipv4_addr.Ipv4Addr.{Ipv4Addr}
use Rattle.std.specs.declared.net.ipv6_addr.Ipv6Addr.{Ipv6Addr}
use Rattle.std.proofs.NetLemmas.Ipv4.{read_ipv4_complete, read_ipv4_sound}
use Rattle.std.proofs.NetLemmas.Ipv6.{read_ipv6_complete, read_ipv6_sound, EndsGroups-nil, IsDotted-not_colon_hex}
use Rattle.origin_values.specs.HostGrammar.{SpellsV4, SpellsV6, SpellsAddr}
use Rattle.origin_values.specs.HostReading.{read_v4, read_v6, read_addr, first_of_two}
use Rattle.origin_values.specs.declared.address.Addr.{Addr}
use Rattle.origin_values.specs.declared.address.Addr.TheVariants as address

-- what was read is the whole text
whole_some : {A : Type 0} (r : Read A) (v : A) → whole_value r ≡ Some v → r ≡ Some (v, [])
whole_some None v h = cc
whole_some (Some (w, [])) v h = let e : w ≡ v = cc in ap (λ x. Some (x, [])) e
whole_some (Some (w, c ∷ rest)) v h = absurd (none_some (sym (ap (λ t. cond t (Some w) None) (ne_eqb (length (c ∷ rest)) 0 (omega arith))) ∙ h))
  where
    none_some : None ≡ Some v → ⊥
    none_some e = cc

pub read_v4_complete : (text bytes : List ℕ) → SpellsV4 text bytes → read_v4 text ≡ Some bytes
unfolding read_v4
read_v4_complete text bytes h = ap whole_value (ap read_ipv4 (sym (append-nil text)) ∙ read_ipv4_complete text bytes [] h (lit≤ tt))

pub read_v4_sound : (text bytes : List ℕ) → read_v4 text ≡ Some bytes → SpellsV4 text bytes
unfolding read_v4
read_v4_sound text bytes h =
    let (front, split, spells) = read_ipv4_sound text bytes [] (whole_some (read_ipv4 text) bytes h) in
    subst (λ t. SpellsV4 t bytes) (sym (split ∙ append-nil front)) spells

pub read_v6_complete : (text bytes : List ℕ) → SpellsV6 text bytes → read_v6 text ≡ Some bytes
unfolding read_v6
read_v6_complete text bytes h =
    ap (λ r. option_map octets_of (whole_value r)) (ap read_ipv6 (sym (append-nil text)) ∙ read_ipv6_complete text h.groups [] h.spelled EndsGroups-nil) ∙ ap Some (sym h.value)

v6_from : (text bytes : List ℕ) (o : Option (List ℕ)) → whole_value (read_ipv6 text) ≡ o → option_map octets_of o ≡ Some bytes → SpellsV6 text bytes
v6_from text bytes None is h = cc
v6_from text bytes (Some groups) is h =
    let (front, split, spells) = read_ipv6_sound text groups [] (whole_some (read_ipv6 text) groups is) in
    record {
      groups = groups;
      spelled = subst (λ t. IsColonHex t groups) (sym (split ∙ append-nil front)) spells;
      value = some_is (octets_of groups) bytes h;
    }
  where
    some_is : (xs ys : List ℕ) → Some xs ≡ Some ys → ys ≡ xs
    some_is xs ys e = cc

pub read_v6_sound : (text bytes : List ℕ) → read_v6 text ≡ Some bytes → SpellsV6 text bytes
unfolding read_v6
read_v6_sound text bytes h = v6_from text bytes (whole_value (read_ipv6 text)) refl h

-- where std's parser finds no address, the reading gives none
pub read_v4_none : (text : List ℕ) → ((a : Ipv4Addr) → ¬ (IsIpv4Text text a)) → read_v4 text ≡ None
read_v4_none text h = go (read_v4 text) refl
  where
    go : (o : Option (List ℕ)) → read_v4 text ≡ o → o ≡ None
    go None is = refl
    go (Some bytes) is = absurd (h (record { octets = bytes }) (read_v4_sound text bytes is))

pub read_v6_none : (text : List ℕ) → ((a : Ipv6Addr) → ¬ (IsIpv6Text text a)) → read_v6 text ≡ None
read_v6_none text h = go (read_v6 text) refl
  where
    go : (o : Option (List ℕ)) → read_v6 text ≡ o → o ≡ None
    go None is = refl
    go (Some bytes) is = let s = read_v6_sound text bytes is in absurd (h (record { segments = s.groups }) s.spelled)

-- a text has no address of both families
pub v4_not_v6 : (text bytes other : List ℕ) → SpellsV4 text bytes → SpellsV6 text other → ⊥
v4_not_v6 text bytes other four six = IsDotted-not_colon_hex text bytes six.groups four six.spelled

pub read_addr_complete : (text : List ℕ) (addr : Addr) → SpellsAddr text addr → read_addr text ≡ Some addr
unfolding read_addr
read_addr_complete text (address.V4 bytes) h = rw (read_v4_complete text bytes h) refl
read_addr_complete text (address.V6 bytes) h = go (read_v4 text) refl
  where
    go : (o : Option (List ℕ)) → read_v4 text ≡ o → first_of_two (option_map address.V4 o) (option_map address.V6 (read_v6 text)) ≡ Some (address.V6 bytes)
    go None is = ap (option_map address.V6) (read_v6_complete text bytes h)
    go (Some other) is = absurd (v4_not_v6 text other bytes (read_v4_sound text other is) h)

pub read_addr_sound : (text : List ℕ) (addr : Addr) → read_addr text ≡ Some addr → SpellsAddr text addr
unfolding read_addr
read_addr_sound text addr h = go (read_v4 text) (read_v6 text) refl refl h
  where
    go : (four six : Option (List ℕ)) → read_v4 text ≡ four → read_v6 text ≡ six → first_of_two (option_map address.V4 four) (option_map address.V6 six) ≡ Some addr → SpellsAddr text addr
    go (Some bytes) six is_four is_six e = let s : address.V4 bytes ≡ addr = cc in subst (SpellsAddr text) s (read_v4_sound text bytes is_four)
    go None (Some bytes) is_four is_six e = let s : address.V6 bytes ≡ addr = cc in subst (SpellsAddr text) s (read_v6_sound text bytes is_six)
    go None None is_four is_six e = cc

-- what the reading gives is spelled, and where it gives nothing no address is
pub read_addr_says : (text : List ℕ) (r : Option Addr) → r ≡ read_addr text → IfSome r (λ addr. SpellsAddr text addr) × IfNone r ((addr : Addr) → ¬ (SpellsAddr text addr))
read_addr_says text (Some addr) h = (read_addr_sound text addr (sym h), tt)
read_addr_says text None h = (tt, λ addr spells. clash addr (h ∙ read_addr_complete text addr spells))
  where
    clash : (addr : Addr) → None ≡ Some addr → ⊥
    clash addr e = cc
