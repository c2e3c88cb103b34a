-- The reading of one item against the grammar.
use Rattle.std.proofs.Common.{◌≡◌, ℕ, Bool, true, false, cond, not, ◌&&◌, ◌||◌, nat_eq, List, [], ◌∷◌, Option, None, Some, option_map, refl, ap, sym, ◌∙◌, subst}
use Rattle.std.specs.List.{list_all}
use Rattle.origin_values.specs.HostGrammar.{SpellsName}
use Rattle.origin_values.specs.HostReading.{read_addr, read_host, first_of_two}
use Rattle.origin_values.specs.declared.address.Addr.{Addr}
use Rattle.origin_values.specs.declared.host.Host.{Host}
use Rattle.origin_values.specs.declared.host.Host.TheVariants.{Name, V4, V6}
use Rattle.origin_values.proofs.Addresses.{read_addr_complete, read_addr_sound}
use Rattle.origin_values.proofs.Hosts.{read_host_complete, read_host_sound}
use Rattle.coalescing.specs.declared.cert_name.CertName.{CertName}
use Rattle.coalescing.specs.declared.cert_name.CertName.TheVariants.{Exact, Wild, Ip}
use Rattle.coalescing.specs.NamesGrammar.{SpellsItem}
use Rattle.coalescing.specs.NamesReading.{name_of, host_name, behind_wildcard, read_plain, wild_or_plain, read_item}
use Rattle.coalescing.proofs.Apart.{Without, false_true, without_cons}
use Rattle.coalescing.proofs.ItemBytes.{is_plain, IsPlain, plain_apart, name_plain, addr_plain}
use Rattle.coalescing.proofs.Colons.{no_addr_and_name}
use Rattle.alt_base.proofs.Conjunctions.{both}
use Rattle.alt_base.proofs.Numbers.{true_eq}

name_read : (text name : List ℕ) → SpellsName text name → host_name text ≡ Some name
name_read text name h = ap name_of (read_host_complete text (Name name) h)

name_spelled : (text name : List ℕ) → host_name text ≡ Some name → SpellsName text name
name_spelled text name h = go (read_host text) refl h
  where
    go : (o : Option Host) → read_host text ≡ o → name_of o ≡ Some name → SpellsName text name
    go None is e = cc
    go (Some (Name other)) is e = let same : other ≡ name = cc in subst (SpellsName text) same (read_host_sound text (Name other) is)
    go (Some (V4 bytes)) is e = cc
    go (Some (V6 bytes)) is e = cc

no_asterisk : (b : ℕ) (rest : Bool) → (is_plain b && rest) ≡ true → nat_eq b 42 ≡ false
no_asterisk b rest h = go (nat_eq b 42) (nat_eq b 44) h
  where
    go : (s t : Bool) → (not (s || t) && rest) ≡ true → s ≡ false
    go false t e = refl
    go true t e = absurd (false_true e)

plain_no_wildcard : (text : List ℕ) → IsPlain text → behind_wildcard text ≡ None
plain_no_wildcard [] h = refl
plain_no_wildcard (a ∷ []) h = refl
plain_no_wildcard (a ∷ b ∷ bs) h = ap (λ t. cond (t && nat_eq b 46) (Some bs) None) (no_asterisk a (list_all is_plain (b ∷ bs)) h)

wildcard_spelled : (text behind : List ℕ) → behind_wildcard text ≡ Some behind → text ≡ 42 ∷ 46 ∷ behind
wildcard_spelled [] behind h = cc
wildcard_spelled (a ∷ []) behind h = cc
wildcard_spelled (a ∷ b ∷ bs) behind h = go (nat_eq a 42 && nat_eq b 46) refl h
  where
    go : (t : Bool) → (nat_eq a 42 && nat_eq b 46) ≡ t → cond t (Some bs) None ≡ Some behind → a ∷ b ∷ bs ≡ 42 ∷ 46 ∷ behind
    go true is e =
        let t = both (nat_eq a 42) (nat_eq b 46) is in
        let first = true_eq a 42 t.0 in
        let second = true_eq b 46 t.1 in
        cc
    go false is e = cc

no_addr : (text name : List ℕ) → SpellsName text name → read_addr text ≡ None
no_addr text name named = go (read_addr text) refl
  where
    go : (o : Option Addr) → read_addr text ≡ o → o ≡ None
    go None is = refl
    go (Some addr) is = absurd (no_addr_and_name text name addr (read_addr_sound text addr is) named)

pub item_read : (text : List ℕ) (name : CertName) → SpellsItem text name → read_item text ≡ Some name
item_read text (Exact name) h =
    ap (wild_or_plain text) (plain_no_wildcard text (name_plain text name h))
    ∙ ap (λ o. first_of_two (option_map Ip o) (option_map Exact (host_name text))) (no_addr text name h)
    ∙ ap (option_map Exact) (name_read text name h)
item_read text (Wild base) h = ap read_item h.spelled ∙ ap (option_map Wild) (name_read h.behind base h.name)
item_read text (Ip addr) h =
    ap (wild_or_plain text) (plain_no_wildcard text (addr_plain text addr h))
    ∙ ap (λ o. first_of_two (option_map Ip o) (option_map Exact (host_name text))) (read_addr_complete text addr h)

wild_spelled : (text behind : List ℕ) (name : CertName) → text ≡ 42 ∷ 46 ∷ behind → option_map Wild (host_name behind) ≡ Some name → SpellsItem text name
wild_spelled text behind name spelled h = go (host_name behind) refl h
  where
    go : (o : Option (List ℕ)) → host_name behind ≡ o → option_map Wild o ≡ Some name → SpellsItem text name
    go None is e = cc
    go (Some base) is e =
        let same : Wild base ≡ name = cc in
        subst (SpellsItem text) same (record { behind = behind; spelled = spelled; name = name_spelled behind base is })

plain_spelled : (text : List ℕ) (name : CertName) → read_plain text ≡ Some name → SpellsItem text name
plain_spelled text name h = go (read_addr text) (host_name text) refl refl h
  where
    go : (a : Option Addr) (n : Option (List ℕ)) → read_addr text ≡ a → host_name text ≡ n → first_of_two (option_map Ip a) (option_map Exact n) ≡ Some name → SpellsItem text name
    go (Some addr) n is_addr is_name e = let same : Ip addr ≡ name = cc in subst (SpellsItem text) same (read_addr_sound text addr is_addr)
    go None (Some exact) is_addr is_name e = let same : Exact exact ≡ name = cc in subst (SpellsItem text) same (name_spelled text exact is_name)
    go None None is_addr is_name e = cc

pub item_spelled : (text : List ℕ) (name : CertName) → read_item text ≡ Some name → SpellsItem text name
item_spelled text name h = go (behind_wildcard text) refl h
  where
    go : (o : Option (List ℕ)) → behind_wildcard text ≡ o → wild_or_plain text o ≡ Some name → SpellsItem text name
    go (Some behind) is e = wild_spelled text behind name (wildcard_spelled text behind is) e
    go None is e = plain_spelled text name e

pub item_none : (text : List ℕ) → ((name : CertName) → ¬ (SpellsItem text name)) → read_item text ≡ None
item_none text none = go (read_item text) refl
  where
    go : (o : Option CertName) → read_item text ≡ o → o ≡ None
    go None is = refl
    go (Some name) is = absurd (none name (item_spelled text name is))

pub item_bad : (text : List ℕ) → read_item text ≡ None → (name : CertName) → ¬ (SpellsItem text name)
item_bad text none name h = clash (sym none ∙ item_read text name h)
  where
    clash : None ≡ Some name → ⊥
    clash e = cc

wildcard_apart : (behind : List ℕ) → Without 44 behind → Without 44 (42 ∷ 46 ∷ behind)
wildcard_apart behind h = without_cons 44 42 (46 ∷ behind) refl (without_cons 44 46 behind refl h)

-- what spells a name holds no comma
pub item_apart : (text : List ℕ) (name : CertName) → SpellsItem text name → Without 44 text
item_apart text (Exact name) h = plain_apart text (name_plain text name h)
item_apart text (Wild base) h = subst (Without 44) (sym h.spelled) (wildcard_apart h.behind (plain_apart h.behind (name_plain h.behind base h.name)))
item_apart text (Ip addr) h = plain_apart text (addr_plain text addr h)
