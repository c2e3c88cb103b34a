-- Each IPv6 address is written with a colon, so no text is an address and a host's name.
use Rattle.std.proofs.Common.{◌≡◌, ℕ, ◌+◌, ◌<◌, Bool, true, false, cond, ◌&&◌, nat_eq, nat_lt, List, [], ◌∷◌, ◌++◌, length, append_assoc, refl, ap, sym, ◌∙◌, arith, inl, inr}
use Rattle.std.specs.Char.{is_ascii_digit}
use Rattle.std.specs.Net.Addr.{segments_of}
use Rattle.std.specs.Net.Grammar.{IsColonHex, IsGroups, IsGroupsAfter}
use Rattle.alt_base.specs.Classes.{in_ranges, host_name_class}
use Rattle.origin_values.specs.HostGrammar.{SpellsName, SpellsAddr}
use Rattle.origin_values.specs.HostReading.{are_labels}
use Rattle.origin_values.specs.declared.address.Addr.{Addr}
use Rattle.origin_values.specs.declared.address.Addr.TheVariants as address
use Rattle.origin_values.proofs.Names.{name_labels, no_v4_and_name}
use Rattle.coalescing.proofs.Apart.{false_true}
use Rattle.std.proofs.lemmas.Bool.{and_right}

abbrev HasColon : List ℕ → Type 0
HasColon text = (front : List ℕ) × (back : List ℕ) × (text ≡ front ++ 58 ∷ back)

behind_colon : (segments text : List ℕ) → 0 < length segments → IsGroupsAfter true (58 ∷ []) text segments → HasColon text
behind_colon [] text some h = absurd (omega arith)
behind_colon (s ∷ segments) text some (inl h) = ([], h.0 ++ h.1, h.2)
behind_colon (s ∷ segments) text some (inr h) = ([], h.0, h.3)

eight_have_colon : (segments text : List ℕ) → length segments ≡ 8 → IsGroups true text segments → HasColon text
eight_have_colon [] text eight h = absurd (omega arith)
eight_have_colon (s ∷ segments) text eight (inl h) =
    let rest = behind_colon segments h.1 (omega arith) h.4 in
    (h.0 ++ rest.0, rest.1, h.2 ∙ ap (λ xs. h.0 ++ xs) rest.2 ∙ sym (append_assoc h.0 rest.0 (58 ∷ rest.1)))
eight_have_colon (s ∷ segments) text eight (inr h) =
    let two : length (s ∷ segments) ≡ length (segments_of (h.4.a ∷ h.4.b ∷ h.4.c ∷ h.4.d ∷ [])) = ap length (h.5 ∙ ap segments_of h.4.value) in
    absurd (omega arith)

hex_has_colon : (text segments : List ℕ) → IsColonHex text segments → HasColon text
hex_has_colon text segments (inl h) = eight_have_colon segments text h.1 h.0
hex_has_colon text segments (inr h) = (h.head_text, 58 ∷ h.tail_text, h.spelled ∙ append_assoc h.head_text (58 ∷ 58 ∷ []) h.tail_text)

no_labels_at_colon : (front back : List ℕ) (count : ℕ) (digits : Bool) → are_labels count digits (front ++ 58 ∷ back) ≡ false
no_labels_at_colon [] back count digits = and_right (nat_lt count 63) _ refl
no_labels_at_colon (b ∷ front) back count digits = go (λ n d. no_labels_at_colon front back n d) (nat_eq b 46)
  where
    go : ((n : ℕ) (d : Bool) → are_labels n d (front ++ 58 ∷ back) ≡ false) → (dot : Bool)
        → cond dot (nat_lt 0 count && are_labels 0 true (front ++ 58 ∷ back)) (nat_lt count 63 && (in_ranges host_name_class b && are_labels (count + 1) (digits && is_ascii_digit b) (front ++ 58 ∷ back))) ≡ false
    go later true = and_right _ _ (later 0 true)
    go later false = and_right _ _ (and_right _ _ (later (count + 1) (digits && is_ascii_digit b)))

pub no_addr_and_name : (text name : List ℕ) (addr : Addr) → SpellsAddr text addr → SpellsName text name → ⊥
no_addr_and_name text name (address.V4 bytes) h named = no_v4_and_name text bytes name h named
no_addr_and_name text name (address.V6 bytes) h named =
    let colon = hex_has_colon text h.groups h.spelled in
    false_true (sym (ap (are_labels 0 true) colon.2 ∙ no_labels_at_colon colon.0 colon.1 0 true) ∙ name_labels text name named)
