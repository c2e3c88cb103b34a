-- The reading of hosts against their grammar.
use Rattle.std.proofs.Common.{◌≡◌, ◌⊎◌, ℕ, Bool, true, false, cond, nat_eq, List, [], ◌∷◌, ◌++◌, Option, None, Some, option_map, option_and_then, Ok, Err, refl, ap, sym, ◌∙◌, subst, inl, inr}
use Rattle.std.specs.Net.Reader.{read_ipv4, read_octet, read_number}
use Rattle.origin_values.specs.declared.refusal.HostRefusal.{HostRefusal}
use Rattle.origin_values.specs.declared.refusal.HostRefusal.TheVariants.{BadHost}
use Rattle.origin_values.specs.declared.host.Host.{Host}
use Rattle.origin_values.specs.declared.host.Host.TheVariants.{Name, V4, V6}
use Rattle.origin_values.specs.HostGrammar.{SpellsV4, SpellsV6, SpellsName, SpellsHost, HostRefusedAt, OneHost}
use Rattle.origin_values.specs.HostReading.{read_v4, read_v6, read_name, before_bracket, read_closed, read_host, first_of_two, host_or_refusal}
use Rattle.origin_values.proofs.Addresses.{read_v4_complete, read_v4_sound, read_v6_complete, read_v6_sound}
use Rattle.origin_values.proofs.Names.{read_name_complete, read_name_sound, name_labels, no_v4_and_name}
use Rattle.alt_base.proofs.Numbers.{true_eq}

-- the last byte decides
pub before_bracket_push : (inner : List ℕ) (last : ℕ) → before_bracket (inner ++ last ∷ []) ≡ cond (nat_eq last 93) (Some inner) None
before_bracket_push [] last = refl
before_bracket_push (b ∷ []) last = go (nat_eq last 93)
  where
    go : (t : Bool) → option_map (λ front. b ∷ front) (cond t (Some []) None) ≡ cond t (Some (b ∷ [])) None
    go true = refl
    go false = refl
before_bracket_push (b ∷ c ∷ bs) last = ap (option_map (λ front. b ∷ front)) (before_bracket_push (c ∷ bs) last) ∙ go (nat_eq last 93)
  where
    go : (t : Bool) → option_map (λ front. b ∷ front) (cond t (Some (c ∷ bs)) None) ≡ cond t (Some (b ∷ c ∷ bs)) None
    go true = refl
    go false = refl

before_bracket_sound : (text inner : List ℕ) → before_bracket text ≡ Some inner → text ≡ inner ++ 93 ∷ []
before_bracket_sound [] inner h = cc
before_bracket_sound (b ∷ []) inner h = go (nat_eq b 93) refl h
  where
    go : (t : Bool) → nat_eq b 93 ≡ t → cond t (Some []) None ≡ Some inner → b ∷ [] ≡ inner ++ 93 ∷ []
    go true is e = let none : [] ≡ inner = cc in subst (λ xs. b ∷ [] ≡ xs ++ 93 ∷ []) none (ap (λ c. c ∷ []) (true_eq b 93 is))
    go false is e = cc
before_bracket_sound (b ∷ c ∷ bs) inner h = go (λ front. before_bracket_sound (c ∷ bs) front) (before_bracket (c ∷ bs)) refl h
  where
    go : ((front : List ℕ) → before_bracket (c ∷ bs) ≡ Some front → c ∷ bs ≡ front ++ 93 ∷ []) → (o : Option (List ℕ)) → before_bracket (c ∷ bs) ≡ o → option_map (λ front. b ∷ front) o ≡ Some inner → b ∷ c ∷ bs ≡ inner ++ 93 ∷ []
    go later None is e = cc
    go later (Some front) is e = let same : b ∷ front ≡ inner = cc in subst (λ xs. b ∷ c ∷ bs ≡ xs ++ 93 ∷ []) same (ap (λ xs. b ∷ xs) (later front is))

read_closed_sound : (text bytes : List ℕ) → read_closed text ≡ Some bytes → (inner : List ℕ) × (text ≡ inner ++ 93 ∷ []) × SpellsV6 inner bytes
read_closed_sound text bytes h = go (before_bracket text) refl h
  where
    go : (o : Option (List ℕ)) → before_bracket text ≡ o → option_and_then read_v6 o ≡ Some bytes → (inner : List ℕ) × (text ≡ inner ++ 93 ∷ []) × SpellsV6 inner bytes
    go None is e = cc
    go (Some inner) is e = (inner, before_bracket_sound text inner is, read_v6_sound inner bytes e)

read_closed_complete : (inner bytes : List ℕ) → SpellsV6 inner bytes → read_closed (inner ++ 93 ∷ []) ≡ Some bytes
read_closed_complete inner bytes h = ap (option_and_then read_v6) (before_bracket_push inner 93) ∙ read_v6_complete inner bytes h

-- neither an IPv4 address nor a name begins with a bracket, and neither is empty
no_v4_at_bracket : (bs bytes : List ℕ) → SpellsV4 (91 ∷ bs) bytes → ⊥
unfolding read_v4 read_ipv4 read_octet read_number
no_v4_at_bracket bs bytes h = clash (read_v4_complete (91 ∷ bs) bytes h)
  where
    clash : None ≡ Some bytes → ⊥
    clash e = cc

no_v4_empty : (bytes : List ℕ) → SpellsV4 [] bytes → ⊥
unfolding read_v4 read_ipv4 read_octet read_number
no_v4_empty bytes h = clash (read_v4_complete [] bytes h)
  where
    clash : None ≡ Some bytes → ⊥
    clash e = cc

false_true : false ≡ true → ⊥
false_true e = cc

no_name_at_bracket : (bs name : List ℕ) → SpellsName (91 ∷ bs) name → ⊥
no_name_at_bracket bs name h = false_true (name_labels (91 ∷ bs) name h)

no_name_empty : (name : List ℕ) → SpellsName [] name → ⊥
no_name_empty name h = false_true (name_labels [] name h)

pub read_host_complete : (text : List ℕ) (host : Host) → SpellsHost text host → read_host text ≡ Some host
unfolding read_host
read_host_complete [] (Name name) h = absurd (no_name_empty name h)
read_host_complete (b ∷ bs) (Name name) h = go (nat_eq b 91) (read_v4 (b ∷ bs)) refl refl
  where
    go : (t : Bool) (four : Option (List ℕ)) → nat_eq b 91 ≡ t → read_v4 (b ∷ bs) ≡ four
        → cond t (option_map V6 (read_closed bs)) (first_of_two (option_map V4 four) (option_map Name (read_name (b ∷ bs)))) ≡ Some (Name name)
    go true four is found = absurd (no_name_at_bracket bs name (subst (λ c. SpellsName (c ∷ bs) name) (true_eq b 91 is) h))
    go false None is found = ap (option_map Name) (read_name_complete (b ∷ bs) name h)
    go false (Some bytes) is found = absurd (no_v4_and_name (b ∷ bs) bytes name (read_v4_sound (b ∷ bs) bytes found) h)
read_host_complete [] (V4 bytes) h = absurd (no_v4_empty bytes h)
read_host_complete (b ∷ bs) (V4 bytes) h = go (nat_eq b 91) refl
  where
    go : (t : Bool) → nat_eq b 91 ≡ t
        → cond t (option_map V6 (read_closed bs)) (first_of_two (option_map V4 (read_v4 (b ∷ bs))) (option_map Name (read_name (b ∷ bs)))) ≡ Some (V4 bytes)
    go true is = absurd (no_v4_at_bracket bs bytes (subst (λ c. SpellsV4 (c ∷ bs) bytes) (true_eq b 91 is) h))
    go false is = rw (read_v4_complete (b ∷ bs) bytes h) refl
read_host_complete text (V6 bytes) h = ap read_host h.spelled ∙ ap (option_map V6) (read_closed_complete h.inner bytes h.address)

pub read_host_sound : (text : List ℕ) (host : Host) → read_host text ≡ Some host → SpellsHost text host
unfolding read_host
read_host_sound [] host h = cc
read_host_sound (b ∷ bs) host h = go (nat_eq b 91) (read_v4 (b ∷ bs)) (read_name (b ∷ bs)) (read_closed bs) refl refl refl refl h
  where
    go : (t : Bool) (four name six : Option (List ℕ)) → nat_eq b 91 ≡ t → read_v4 (b ∷ bs) ≡ four → read_name (b ∷ bs) ≡ name → read_closed bs ≡ six
        → cond t (option_map V6 six) (first_of_two (option_map V4 four) (option_map Name name)) ≡ Some host → SpellsHost (b ∷ bs) host
    go true four name (Some bytes) is is_four is_name is_six e =
        let same : V6 bytes ≡ host = cc in
        let (inner, spelled, address) = read_closed_sound bs bytes is_six in
        subst (SpellsHost (b ∷ bs)) same (record { inner = inner; spelled = ap (λ c. c ∷ bs) (true_eq b 91 is) ∙ ap (λ xs. 91 ∷ xs) spelled; address = address })
    go true four name None is is_four is_name is_six e = cc
    go false (Some bytes) name six is is_four is_name is_six e = let same : V4 bytes ≡ host = cc in subst (SpellsHost (b ∷ bs)) same (read_v4_sound (b ∷ bs) bytes is_four)
    go false None (Some name) six is is_four is_name is_six e = let same : Name name ≡ host = cc in subst (SpellsHost (b ∷ bs)) same (read_name_sound (b ∷ bs) name is_name)
    go false None None six is is_four is_name is_six e = cc

pub no_host : (text : List ℕ) → read_host text ≡ None → (host : Host) → ¬ (SpellsHost text host)
no_host text none host spells = clash (sym none ∙ read_host_complete text host spells)
  where
    clash : None ≡ Some host → ⊥
    clash e = cc

-- what a closing bracket ends
pub closed_yes : (text inner : List ℕ) (last : ℕ) → text ≡ inner ++ last ∷ [] → last ≡ 93 → read_closed text ≡ read_v6 inner
closed_yes text inner last spelled is = ap read_closed (spelled ∙ ap (λ b. inner ++ b ∷ []) is) ∙ ap (option_and_then read_v6) (before_bracket_push inner 93)

pub closed_no : (text inner : List ℕ) (last : ℕ) → text ≡ inner ++ last ∷ [] → (last ≡ 93 → ⊥) → read_closed text ≡ None
closed_no text inner last spelled other = ap read_closed spelled ∙ ap (option_and_then read_v6) (before_bracket_push inner last) ∙ go (nat_eq last 93) refl
  where
    go : (t : Bool) → nat_eq last 93 ≡ t → option_and_then read_v6 (cond t (Some inner) None) ≡ None
    go true is = absurd (other (true_eq last 93 is))
    go false is = refl

same_host_value : (a b : Host) → Some a ≡ Some b → a ≡ b
same_host_value a b e = cc

pub one_host_of : (text : List ℕ) → OneHost text
one_host_of text = record {
  some = some_of (read_host text) refl;
  one_host = λ a b h k. same_host_value a b (sym (read_host_complete text a h) ∙ read_host_complete text b k);
  one_refusal = λ p q r s h k. same_refusal p q r s h k;
  not_both = λ host place reason h k. both_of host place reason h k;
}
  where
    some_of : (o : Option Host) → read_host text ≡ o → ((host : Host) × SpellsHost text host) ⊎ ((place : ℕ) × (reason : HostRefusal) × HostRefusedAt text place reason)
    some_of (Some host) is = inl (host, read_host_sound text host is)
    some_of None is = inr (0, BadHost, (refl, no_host text is))

    same_refusal : (p q : ℕ) (r s : HostRefusal) → HostRefusedAt text p r → HostRefusedAt text q s → (p ≡ q) × (r ≡ s)
    same_refusal p q BadHost BadHost h k = (h.0 ∙ sym k.0, refl)

    both_of : (host : Host) (place : ℕ) (reason : HostRefusal) → SpellsHost text host → HostRefusedAt text place reason → ⊥
    both_of host place BadHost h k = k.1 host h

pub host_read_complete : (text : List ℕ) (host : Host) → SpellsHost text host → host_or_refusal (read_host text) ≡ Ok host
host_read_complete text host h = ap host_or_refusal (read_host_complete text host h)

pub host_reads : (text : List ℕ) (host : Host) → host_or_refusal (read_host text) ≡ Ok host → SpellsHost text host
host_reads text host h = go (read_host text) refl h
  where
    go : (o : Option Host) → read_host text ≡ o → host_or_refusal o ≡ Ok host → SpellsHost text host
    go None is e = cc
    go (Some other) is e = let same : other ≡ host = cc in subst (SpellsHost text) same (read_host_sound text other is)

pub host_refused : (text : List ℕ) (place : ℕ) (reason : HostRefusal) → HostRefusedAt text place reason → host_or_refusal (read_host text) ≡ Err (record { place = place; reason = reason })
host_refused text place BadHost h = go (read_host text) refl
  where
    go : (o : Option Host) → read_host text ≡ o → host_or_refusal o ≡ Err (record { place = place; reason = BadHost })
    go None is = ap (λ p. Err (record { place = p; reason = BadHost })) (sym h.0)
    go (Some host) is = absurd (h.1 host (read_host_sound text host is))
