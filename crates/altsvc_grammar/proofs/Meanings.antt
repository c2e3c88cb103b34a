-- What was seen of the elements is what they mean, and the reading of a whole value.
use Rattle.std.proofs.Common.{◌≡◌, ◌≢◌, ℕ, ◌+◌, ◌≤◌, ◌<◌, Bool, true, false, cond, ◌||◌, List, [], ◌∷◌, ◌++◌, length, map, Ok, refl, ap, ap₂, sym, ◌∙◌, subst, append_assoc}
use Rattle.std.specs.List.{list_any}
use Rattle.std.proofs.lemmas.List.{map-append, append-nil}
use Rattle.alt_base.proofs.Numbers.{lt_true, lt_false}
use Rattle.altsvc_grammar.specs.declared.refusal.AltRefusal.TheVariants.{Empty, TooLong}
use Rattle.altsvc_grammar.specs.declared.alt_key.AltKey.{AltKey}
use Rattle.altsvc_grammar.specs.declared.alt.Alt.{Alt}
use Rattle.altsvc_grammar.specs.declared.alt_svc.AltSvc.{AltSvc}
use Rattle.altsvc_grammar.specs.declared.alt_svc.AltSvc.TheVariants as value
use Rattle.altsvc_grammar.specs.declared.terms.Terms.{Terms}
use Rattle.altsvc_grammar.specs.Keys.{key_eq}
use Rattle.altsvc_grammar.specs.Steps.{refused}
use Rattle.altsvc_grammar.specs.ValueReading.{Seen, nothing_seen, see, keep, alt_of, listed, value_of, value_of_seen, read_elements, read_value, most_bytes}
use Rattle.altsvc_grammar.specs.ValueGrammar.{Alternative, alt_meant, Element, Clear, Offered, Slot, slot_then, IsSlot, slots_before, AreSlots, elements_of, is_clear, alternatives_of, key_in, firsts, meaning, SpellsValue}
use Rattle.altsvc_grammar.specs.ValueRefusals.{IsEmpty}
use Rattle.altsvc_grammar.proofs.SpelledElements.{element_meant}
use Rattle.altsvc_grammar.proofs.SpelledValues.{see_all, elements_read}

abbrev keys_kept : List (AltKey × Terms) → List AltKey
keys_kept [] = []
keys_kept (e ∷ es) = e.0 ∷ keys_kept es

abbrev alts_kept : List (AltKey × Terms) → List Alt
alts_kept es = map alt_of es

clear_seen : (es : List Element) (seen : Seen) → (see_all seen es).clear ≡ (seen.clear || list_any is_clear es)
clear_seen [] seen = none seen.clear
  where
    none : (c : Bool) → c ≡ (c || false)
    none true = refl
    none false = refl
clear_seen (Clear ∷ es) seen = clear_seen es (see seen (element_meant Clear)) ∙ some seen.clear
  where
    some : (c : Bool) → true ≡ (c || true)
    some true = refl
    some false = refl
clear_seen (Offered a ∷ es) seen = clear_seen es (see seen (element_meant (Offered a)))

there_is : (key : AltKey) (kept : List (AltKey × Terms)) → list_any (λ (e : AltKey × Terms). key_eq key e.0) kept ≡ key_in key (keys_kept kept)
there_is key [] = refl
there_is key (e ∷ es) = ap (λ t. key_eq key e.0 || t) (there_is key es)

keys_append : (xs ys : List (AltKey × Terms)) → keys_kept (xs ++ ys) ≡ keys_kept xs ++ keys_kept ys
keys_append [] ys = refl
keys_append (x ∷ xs) ys = ap (λ ks. x.0 ∷ ks) (keys_append xs ys)

abbrev key_of : Alternative → AltKey
key_of a = record { proto = a.proto; host = a.host; port = a.port }

kept_seen : (es : List Element) (seen : Seen) → alts_kept (see_all seen es).kept ≡ alts_kept seen.kept ++ firsts (keys_kept seen.kept) (alternatives_of es)
kept_seen [] seen = sym (append-nil (alts_kept seen.kept))
kept_seen (Clear ∷ es) seen = kept_seen es (see seen (element_meant Clear))
kept_seen (Offered a ∷ es) seen = go (key_in (key_of a) (keys_kept seen.kept)) refl (λ next. kept_seen es next)
  where
    terms : Terms
    terms = record { ma = (alt_meant a).ma; persist = (alt_meant a).persist }

    go : (t : Bool) → key_in (key_of a) (keys_kept seen.kept) ≡ t → ((next : Seen) → alts_kept (see_all next es).kept ≡ alts_kept next.kept ++ firsts (keys_kept next.kept) (alternatives_of es))
        → alts_kept (see_all (see seen (element_meant (Offered a))) es).kept ≡ alts_kept seen.kept ++ cond t (firsts (keys_kept seen.kept) (alternatives_of es)) (alt_meant a ∷ firsts (keys_kept seen.kept ++ key_of a ∷ []) (alternatives_of es))
    go true is rest =
        let same : keep seen.kept (key_of a) terms ≡ seen.kept = rw (there_is (key_of a) seen.kept, is) refl in
        let after : List (AltKey × Terms) → Seen = λ kept. record { clear = seen.clear; kept = kept } in
        ap (λ kept. alts_kept (see_all (after kept) es).kept) same ∙ rest seen
    go false is rest =
        let more : keep seen.kept (key_of a) terms ≡ seen.kept ++ (key_of a, terms) ∷ [] = rw (there_is (key_of a) seen.kept, is) refl in
        let after : List (AltKey × Terms) → Seen = λ kept. record { clear = seen.clear; kept = kept } in
        ap (λ kept. alts_kept (see_all (after kept) es).kept) more
        ∙ rest (after (seen.kept ++ (key_of a, terms) ∷ []))
        ∙ ap₂ (λ xs ks. xs ++ firsts ks (alternatives_of es)) (map-append alt_of seen.kept ((key_of a, terms) ∷ [])) (keys_append seen.kept ((key_of a, terms) ∷ []))
        ∙ append_assoc (alts_kept seen.kept) (alt_meant a ∷ []) (firsts (keys_kept seen.kept ++ key_of a ∷ []) (alternatives_of es))

-- a value of what was seen
some_listed : (n : ℕ) (kept : List (AltKey × Terms)) → alts_kept kept ≢ [] → listed n kept ≡ Ok (value.List (alts_kept kept))
some_listed n [] some = absurd (some refl)
some_listed n (e ∷ kept) some = refl

pub no_clear_some : (es : List Element) → es ≢ [] → list_any is_clear es ≡ false → firsts [] (alternatives_of es) ≢ []
no_clear_some [] some none = absurd (some refl)
no_clear_some (Clear ∷ es) some none = cc
no_clear_some (Offered a ∷ es) some none = λ e. cc

pub value_meant : (n : ℕ) (es : List Element) → es ≢ [] → value_of n (see_all nothing_seen es) ≡ Ok (meaning es)
value_meant n es some = rw (clear_seen es nothing_seen) (go (list_any is_clear es) refl)
  where
    go : (t : Bool) → list_any is_clear es ≡ t → cond t (Ok value.Clear) (listed n (see_all nothing_seen es).kept) ≡ Ok (cond t value.Clear (value.List (firsts [] (alternatives_of es))))
    go true is = refl
    go false is =
        let kept : alts_kept (see_all nothing_seen es).kept ≡ firsts [] (alternatives_of es) = kept_seen es nothing_seen in
        some_listed n (see_all nothing_seen es).kept (λ e. no_clear_some es some is (sym kept ∙ e)) ∙ ap (λ xs. Ok (value.List xs)) kept

pub short_read : (x : List ℕ) → length x ≤ most_bytes → read_value x ≡ value_of_seen (length x) (read_elements (length x + 1) (length x + 1) nothing_seen 0 x)
short_read x short = rw (lt_false most_bytes (length x) short) refl

pub long_read : (x : List ℕ) → most_bytes < length x → read_value x ≡ refused most_bytes TooLong
long_read x long = rw (lt_true most_bytes (length x) long) refl

spelled_at : (ss : List Slot) (last : Slot) → AreSlots ss → IsSlot last → length (slots_before ss (slot_then last [])) ≤ most_bytes → elements_of (ss ++ last ∷ []) ≢ []
    → read_value (slots_before ss (slot_then last [])) ≡ Ok (meaning (elements_of (ss ++ last ∷ [])))
spelled_at ss last are is short some =
    let x = slots_before ss (slot_then last []) in
    short_read x short ∙ ap (value_of_seen (length x)) (elements_read ss last are is) ∙ value_meant (length x) (elements_of (ss ++ last ∷ [])) some

-- what is spelled is read
pub value_spelled : (x : List ℕ) (v : AltSvc) → SpellsValue x v → read_value x ≡ Ok v
value_spelled x v s =
    let short : length (slots_before s.before (slot_then s.last [])) ≤ most_bytes = subst (λ xs. length xs ≤ most_bytes) s.text s.short in
    ap read_value s.text ∙ spelled_at s.before s.last s.are_slots s.is_slot short s.some ∙ ap Ok (sym s.means)

empty_at : (ss : List Slot) (last : Slot) → AreSlots ss → IsSlot last → length (slots_before ss (slot_then last [])) ≤ most_bytes → elements_of (ss ++ last ∷ []) ≡ []
    → read_value (slots_before ss (slot_then last [])) ≡ refused (length (slots_before ss (slot_then last []))) Empty
empty_at ss last are is short none =
    let x = slots_before ss (slot_then last []) in
    short_read x short ∙ ap (value_of_seen (length x)) (elements_read ss last are is) ∙ ap (λ es. value_of (length x) (see_all nothing_seen es)) none

-- a text without an element
pub empty_read : (x : List ℕ) (q : ℕ) → IsEmpty x q → length x ≤ most_bytes → read_value x ≡ refused q Empty
empty_read x q s short =
    let short' : length (slots_before s.before (slot_then s.last [])) ≤ most_bytes = subst (λ xs. length xs ≤ most_bytes) s.text short in
    ap read_value s.text ∙ empty_at s.before s.last s.are_slots s.is_slot short' s.none ∙ ap (λ k. refused k Empty) (sym (s.place ∙ ap length s.text))
