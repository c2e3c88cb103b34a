-- The reading of an authority against its grammar.
use Rattle.std.proofs.Common.{◌≡◌, ◌⊎◌, ℕ, ◌+◌, ◌<◌, Bool, true, false, cond, nat_eq, nat_lt, List, [], ◌∷◌, ◌++◌, length, Option, Some, None, option_map, refl, ap, sym, ◌∙◌, subst, arith, inl, inr}
use Rattle.std.proofs.Math.Seq.{take-append_seam, drop-append-add}
use Rattle.std.proofs.lemmas.Bool.Decides.{nat_tests}
use Rattle.std.proofs.lemmas.Str.Parse.{digit_from_value}
use Rattle.std.specs.Int.{IsInRange}
use Rattle.std.specs.Char.{digit_value}
use Rattle.std.specs.Str.Parse.{AllDigits}
use Rattle.alt_base.proofs.Numbers.{lt_true, true_lt}
use Rattle.origin_values.specs.HostReading.{read_host}
use Rattle.std.specs.Option.{option_and_then}
use Rattle.origin_values.specs.PortGrammar.{SpellsPortDigits}
use Rattle.origin_values.specs.PortReading.{read_port_digits}
use Rattle.origin_values.proofs.PortDigits.{port_digits_spelled, port_digits_read}
use Rattle.origin_values.specs.declared.host.Host.{Host}
use Rattle.origin_values.proofs.Hosts.{read_host_complete, read_host_sound}
use Rattle.altsvc_grammar.specs.AuthorityReading.{last_colon, unless_zero, read_port, read_optional_host, with_port, host_beside, split_at_colon, read_authority}
use Rattle.altsvc_grammar.specs.AuthorityGrammar.{SpellsPort, SpellsOptionalHost, SpellsAuthority}

-- ports
pub port_read : (digits : List ℕ) (port : ℕ) → SpellsPort digits port → read_port digits ≡ Some port
port_read digits port s = ap (option_and_then unless_zero) (port_digits_read digits port s.spelled) ∙ ap (λ t. cond t (Some port) None) (lt_true 0 port (omega (arith, s.some)))

pub port_spelled : (digits : List ℕ) (port : ℕ) → read_port digits ≡ Some port → SpellsPort digits port
port_spelled digits port h = go (read_port_digits digits) refl h
  where
    positive : (n : ℕ) → unless_zero n ≡ Some port → (n ≡ port) × (0 < n)
    positive n e = by_test (nat_lt 0 n) refl e
      where
        by_test : (t : Bool) → nat_lt 0 n ≡ t → cond t (Some n) None ≡ Some port → (n ≡ port) × (0 < n)
        by_test true is f = (cc, true_lt 0 n is)
        by_test false is f = cc

    go : (o : Option ℕ) → read_port_digits digits ≡ o → option_and_then unless_zero o ≡ Some port → SpellsPort digits port
    go None is e = cc
    go (Some n) is e =
        let p = positive n e in
        record { spelled = subst (SpellsPortDigits digits) p.0 (port_digits_spelled digits n is); some = omega (arith, p.0, p.1) }

-- hosts
no_empty_host : read_host [] ≡ None
unfolding read_host
no_empty_host = refl

pub optional_host_read : (text : List ℕ) (host : Option Host) → SpellsOptionalHost text host → read_optional_host text ≡ Some host
optional_host_read text None s = ap read_optional_host s
optional_host_read text (Some host) s = go text (read_host_complete text host s)
  where
    go : (xs : List ℕ) → read_host xs ≡ Some host → read_optional_host xs ≡ Some (Some host)
    go [] h = let e : None ≡ Some host = sym no_empty_host ∙ h in cc
    go (b ∷ bs) h = ap (option_map Some) h

pub optional_host_spelled : (text : List ℕ) (host : Option Host) → read_optional_host text ≡ Some host → SpellsOptionalHost text host
optional_host_spelled [] None h = refl
optional_host_spelled [] (Some host) h = cc
optional_host_spelled (b ∷ bs) host h = go (read_host (b ∷ bs)) refl host h
  where
    go : (r : Option Host) → read_host (b ∷ bs) ≡ r → (host : Option Host) → option_map Some r ≡ Some host → SpellsOptionalHost (b ∷ bs) host
    go None is host h = cc
    go (Some found) is None h = cc
    go (Some found) is (Some host) h = let e : found ≡ host = cc in read_host_sound (b ∷ bs) host (is ∙ ap Some e)

-- the last colon
digit_no_colon : (b : ℕ) → digit_value b < 10 → nat_eq b 58 ≡ false
digit_no_colon b h = let range = digit_from_value b h in no b range
  where
    no : (b : ℕ) → IsInRange 48 57 b → nat_eq b 58 ≡ false
    no b h = grind (arith, nat_tests)

no_colon : (digits : List ℕ) (p : ℕ) (found : Option ℕ) → AllDigits 10 digits → last_colon p found digits ≡ found
no_colon [] p found valid = refl
no_colon (b ∷ bs) p found valid = rw (digit_no_colon b valid.0) (no_colon bs (p + 1) found valid.1)

pub colon_found : (front : List ℕ) (p : ℕ) (found : Option ℕ) (digits : List ℕ) → AllDigits 10 digits → last_colon p found (front ++ 58 ∷ digits) ≡ Some (p + length front)
colon_found [] p found digits valid = no_colon digits (p + 1) (Some p) valid ∙ ap Some (omega arith)
colon_found (b ∷ bs) p found digits valid = colon_found bs (p + 1) (cond (nat_eq b 58) (Some p) found) digits valid ∙ ap Some (omega arith)

at_colon : (front digits : List ℕ) → split_at_colon (front ++ 58 ∷ digits) (Some (length front)) ≡ host_beside front (read_port digits)
at_colon front digits = rw (take-append_seam front (58 ∷ digits), drop-append-add front (58 ∷ digits) 1) refl

pub authority_read : (text : List ℕ) (host : Option Host) (port : ℕ) → SpellsAuthority text host port → read_authority text ≡ Some (host, port)
authority_read text host port s =
    let found : last_colon 0 None (s.front ++ 58 ∷ s.digits) ≡ Some (length s.front) = colon_found s.front 0 None s.digits s.of_port.spelled.numeral.1 ∙ ap Some (omega arith) in
    ap read_authority s.spelled ∙ ap (split_at_colon (s.front ++ 58 ∷ s.digits)) found ∙ at_colon s.front s.digits
    ∙ rw (port_read s.digits port s.of_port, optional_host_read s.front host s.of_host) refl

-- where the last colon of a text stands, if there is one
record AtColon (p : ℕ) (found : Option ℕ) (x : List ℕ) : Type 0 where
  front : List ℕ
  digits : List ℕ
  text : x ≡ front ++ 58 ∷ digits
  place : last_colon p found x ≡ Some (p + length front)

colon_view : (x : List ℕ) (p : ℕ) (found : Option ℕ) → (last_colon p found x ≡ found) ⊎ AtColon p found x
colon_view [] p found = inl refl
colon_view (b ∷ bs) p found = go (nat_eq b 58) refl (colon_view bs (p + 1) (Some p)) (colon_view bs (p + 1) found)
  where
    eq_fact : (a : ℕ) → nat_eq a 58 ≡ true → a ≡ 58
    eq_fact a h = grind arith

    later : (other : Option ℕ) → AtColon (p + 1) other bs → cond (nat_eq b 58) (Some p) found ≡ other → AtColon p found (b ∷ bs)
    later other a is = record { front = b ∷ a.front; digits = a.digits; text = ap (λ xs. b ∷ xs) a.text; place = rw is (a.place ∙ ap Some (omega arith)) }

    go : (t : Bool) → nat_eq b 58 ≡ t → (last_colon (p + 1) (Some p) bs ≡ Some p) ⊎ AtColon (p + 1) (Some p) bs → (last_colon (p + 1) found bs ≡ found) ⊎ AtColon (p + 1) found bs → (last_colon p found (b ∷ bs) ≡ found) ⊎ AtColon p found (b ∷ bs)
    go true is (inl e) other = inr (record { front = []; digits = bs; text = ap (λ c. c ∷ bs) (eq_fact b is); place = rw is (e ∙ ap Some (omega arith)) })
    go true is (inr a) other = inr (later (Some p) a (rw is refl))
    go false is one (inl e) = inl (rw is e)
    go false is one (inr a) = inr (later found a (rw is refl))

beside_spelled : (text front digits : List ℕ) (r : Option ℕ) (host : Option Host) (port : ℕ) → text ≡ front ++ 58 ∷ digits → read_port digits ≡ r → host_beside front r ≡ Some (host, port) → SpellsAuthority text host port
beside_spelled text front digits None host port e is h = cc
beside_spelled text front digits (Some found) host port e is h = go (read_optional_host front) refl h
  where
    go : (o : Option (Option Host)) → read_optional_host front ≡ o → with_port found o ≡ Some (host, port) → SpellsAuthority text host port
    go None is_o h = cc
    go (Some other) is_o h =
        let read : Option Host × ℕ = (other, found) in
        let meant : Option Host × ℕ = (host, port) in
        let same : read ≡ meant = cc in
        let same_host : other ≡ host = ap (λ (q : Option Host × ℕ). q.0) same in
        let same_port : found ≡ port = ap (λ (q : Option Host × ℕ). q.1) same in
        record { front = front; digits = digits; spelled = e; of_host = optional_host_spelled front host (is_o ∙ ap Some same_host); of_port = port_spelled digits port (is ∙ ap Some same_port) }

pub authority_spelled : (text : List ℕ) (host : Option Host) (port : ℕ) → read_authority text ≡ Some (host, port) → SpellsAuthority text host port
authority_spelled text host port h = go (colon_view text 0 None)
  where
    go : (last_colon 0 None text ≡ None) ⊎ AtColon 0 None text → SpellsAuthority text host port
    go (inl none) = let e : split_at_colon text None ≡ Some (host, port) = sym (ap (split_at_colon text) none) ∙ h in cc
    go (inr a) =
        let place : last_colon 0 None text ≡ Some (length a.front) = a.place ∙ ap Some (omega arith) in
        let said : read_authority text ≡ host_beside a.front (read_port a.digits) = ap (split_at_colon text) place ∙ ap (λ xs. split_at_colon xs (Some (length a.front))) a.text ∙ at_colon a.front a.digits in
        beside_spelled text a.front a.digits (read_port a.digits) host port a.text refl (sym said ∙ h)

pub no_authority : (text : List ℕ) → ((host : Option Host) (port : ℕ) → SpellsAuthority text host port → ⊥) → read_authority text ≡ None
no_authority text none = go (read_authority text) refl
  where
    go : (r : Option (Option Host × ℕ)) → read_authority text ≡ r → r ≡ None
    go None is = refl
    go (Some found) is = absurd (none found.0 found.1 (authority_spelled text found.0 found.1 is))
