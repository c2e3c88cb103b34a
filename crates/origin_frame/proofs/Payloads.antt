-- The reading of payloads against their grammar.
use Rattle.std.proofs.Common.{◌≡◌, ◌⊎◌, ℕ, zero, suc, ◌+◌, ◌*◌, bit_and, ◌≤◌, Bool, true, false, cond, nat_eq, nat_lt, List, [], ◌∷◌, ◌++◌, length, take, drop, Option, None, Some, Result, Ok, Err, IfOk, refl, ap, ap₂, sym, ◌∙◌, subst, arith, inl, inr}
use Rattle.std.proofs.lemmas.List.{append_assoc, length-append, length-take-le, length-drop, take-append-drop, take_at, drop_at}
use Rattle.alt_base.specs.declared.refusal.At.{At}
use Rattle.alt_base.specs.declared.refusal.Refused.{Refused}
use Rattle.alt_base.specs.declared.refusal.Refused.TheVariants as Refusal
use Rattle.alt_base.specs.Answers.{Answers, IfRefused}
use Rattle.origin_values.specs.declared.origin.Origin.{Origin}
use Rattle.origin_frame.specs.declared.listed.Listed.{Listed}
use Rattle.origin_frame.specs.declared.refusal.OriginFrameRefusal.{OriginFrameRefusal}
use Rattle.origin_frame.specs.declared.refusal.OriginFrameRefusal.TheVariants.{NotStreamZero, Flags, EntryPast}
use Rattle.origin_frame.specs.PayloadGrammar.{BeginsWithEntry, AreEntries, AreListed, NoFlags, SpellsListed, IsPast, ListedRefusedAt, OneListed}
use Rattle.origin_frame.specs.PayloadReading.{Answer, refused, entry_onto, read_entry, read_within, read_entries, read_listed}
use Rattle.origin_frame.specs.PayloadWritten.{AreOrigins}
use Rattle.origin_values.specs.AsciiReading.{ascii_origin}
use Rattle.origin_values.proofs.AsciiOrigins.{ascii_spelled, ascii_read, ascii_none, none_ascii}
use Rattle.alt_base.proofs.Numbers.{lt_true, lt_false, true_lt, false_lt}
use Rattle.alt_base.proofs.Numbers.{eq_true, eq_false, true_eq, false_eq}

-- what the reading of entries at a place says
record EntriesAre (octets : List ℕ) (listed : Listed) : Type 0 where
  entries : List (List ℕ)
  spelled : AreEntries octets entries
  listing : AreListed entries listed.origins listed.skipped

record EndsPast (octets : List ℕ) (place : ℕ) (at : At OriginFrameRefusal) : Type 0 where
  entries : List (List ℕ)
  front : List ℕ
  rest : List ℕ
  spelled : octets ≡ front ++ rest
  whole : AreEntries front entries
  past : IsPast rest
  is : at.place ≡ place + length front
  reason : at.reason ≡ EntryPast

abbrev Says : ℕ → List ℕ → Answer → Type 0
Says place octets (Ok listed) = EntriesAre octets listed
Says place octets (Err at) = EndsPast octets place at

past_here : (place : ℕ) (octets : List ℕ) → IsPast octets → Says place octets (refused place EntryPast)
past_here place octets past = record { entries = []; front = []; rest = octets; spelled = refl; whole = refl; past = past; is = omega arith; reason = refl }

entry_in_front : (high low : ℕ) (entry rest : List ℕ) → length entry ≡ high * 256 + low → BeginsWithEntry (high ∷ low ∷ (entry ++ rest)) entry rest
entry_in_front high low entry rest long = record { high = high; low = low; spelled = refl; long = long }

says_onto : (place high low : ℕ) (entry rest : List ℕ) (origin : Option Origin) (answer : Answer) → length entry ≡ high * 256 + low → ascii_origin entry ≡ origin
    → Says (place + (2 + (high * 256 + low))) rest answer → Says place (high ∷ low ∷ (entry ++ rest)) (entry_onto origin answer)
says_onto place high low entry rest (Some origin) (Ok listed) long is s = record {
  entries = entry ∷ s.entries;
  spelled = (rest, entry_in_front high low entry rest long, s.spelled);
  listing = inl (origin, listed.origins, refl, ascii_spelled entry origin is, s.listing);
}
says_onto place high low entry rest None (Ok listed) long is s = record {
  entries = entry ∷ s.entries;
  spelled = (rest, entry_in_front high low entry rest long, s.spelled);
  listing = inr (listed.skipped, refl, ascii_none entry is, s.listing);
}
says_onto place high low entry rest origin (Err at) long is s = record {
  entries = entry ∷ s.entries;
  front = high ∷ low ∷ (entry ++ s.front);
  rest = s.rest;
  spelled = ap (λ xs. high ∷ low ∷ xs) (ap (λ xs. entry ++ xs) s.spelled ∙ sym (append_assoc entry s.front s.rest));
  whole = (s.front, entry_in_front high low entry s.front long, s.whole);
  past = s.past;
  is = s.is ∙ omega (arith, length-append entry s.front, long);
  reason = s.reason;
}

within_says : (most place : ℕ) (octets : List ℕ) → length octets ≤ most → Says place octets (read_within most place octets)
within_says most place [] h = record { entries = []; spelled = refl; listing = (refl, refl) }
within_says most place (high ∷ []) h = past_here place (high ∷ []) tt
within_says zero place (high ∷ low ∷ octets) h = absurd (omega arith)
within_says (suc most) place (high ∷ low ∷ octets) h =
    go (λ p xs. within_says most p xs) (nat_lt (length octets) count) refl
  where
    count : ℕ
    count = high * 256 + low

    go : ((p : ℕ) (xs : List ℕ) → length xs ≤ most → Says p xs (read_within most p xs)) → (t : Bool) → nat_lt (length octets) (high * 256 + low) ≡ t
        → Says place (high ∷ low ∷ octets) (cond t (refused place EntryPast) (entry_onto (ascii_origin (take (high * 256 + low) octets)) (read_within most (place + (2 + (high * 256 + low))) (drop (high * 256 + low) octets))))
    go later true is = past_here place (high ∷ low ∷ octets) (true_lt _ _ is)
    go later false is =
        let n = high * 256 + low in
        let long = false_lt (length octets) n is in
        subst (λ xs. Says place (high ∷ low ∷ xs) (entry_onto (ascii_origin (take n octets)) (read_within most (place + (2 + n)) (drop n octets)))) (take-append-drop n octets)
        (says_onto place high low (take n octets) (drop n octets) (ascii_origin (take n octets)) (read_within most (place + (2 + n)) (drop n octets)) (length-take-le n octets long) refl
        (later (place + (2 + n)) (drop n octets) (omega (arith, length-drop n octets))))

-- an entry in front is read
front_read : (place count : ℕ) (entry rest : List ℕ) (next : ℕ → List ℕ → Answer) → length entry ≡ count
    → read_entry place count (entry ++ rest) next ≡ entry_onto (ascii_origin entry) (next (place + (2 + count)) rest)
front_read place count entry rest next long =
    let room : nat_lt (length (entry ++ rest)) count ≡ false = lt_false _ _ (omega (arith, length-append entry rest)) in
    ap (λ t. cond t (refused place EntryPast) (entry_onto (ascii_origin (take count (entry ++ rest))) (next (place + (2 + count)) (drop count (entry ++ rest))))) room
    ∙ ap₂ (λ xs ys. entry_onto (ascii_origin xs) (next (place + (2 + count)) ys)) (take_at entry rest count long) (drop_at entry rest count long)

abbrev listed_of : List Origin → ℕ → Listed
listed_of origins skipped = record { origins = origins; skipped = skipped }

entries_read : (entries : List (List ℕ)) (octets : List ℕ) (origins : List Origin) (skipped most place : ℕ) → length octets ≤ most → AreEntries octets entries → AreListed entries origins skipped
    → read_within most place octets ≡ Ok (listed_of origins skipped)
entries_read [] octets origins skipped most place room h listing =
    ap (read_within most place) h ∙ ap₂ (λ o s. Ok (listed_of o s)) (sym listing.0) (sym listing.1)
entries_read (entry ∷ entries) octets origins skipped zero place room h listing = absurd (omega (arith, ap length h.1.spelled))
entries_read (entry ∷ entries) octets origins skipped (suc most) place room h listing =
    let front = h.1 in
    ap (read_within (suc most) place) front.spelled
    ∙ front_read place (front.high * 256 + front.low) entry h.0 (read_within most) front.long
    ∙ go (place + (2 + (front.high * 256 + front.low))) (λ os n l. entries_read entries h.0 os n most (place + (2 + (front.high * 256 + front.low))) (omega (arith, ap length front.spelled, length-append entry h.0)) h.2 l) listing
  where
    go : (p : ℕ) → ((os : List Origin) (n : ℕ) → AreListed entries os n → read_within most p h.0 ≡ Ok (listed_of os n)) → AreListed (entry ∷ entries) origins skipped
        → entry_onto (ascii_origin entry) (read_within most p h.0) ≡ Ok (listed_of origins skipped)
    go p later (inl l) =
        ap₂ (λ o a. entry_onto o a) (ascii_read entry l.0 l.3) (later l.1 skipped l.4) ∙ ap (λ os. Ok (listed_of os skipped)) (sym l.2)
    go p later (inr l) =
        ap₂ (λ o a. entry_onto o a) (none_ascii entry l.2) (later origins l.0 l.3) ∙ ap (λ n. Ok (listed_of origins n)) (sym l.1)

rest_past : (rest : List ℕ) (most place : ℕ) → IsPast rest → read_within most place rest ≡ refused place EntryPast
rest_past [] most place past = absurd past
rest_past (high ∷ []) most place past = refl
rest_past (high ∷ low ∷ octets) zero place past = refl
rest_past (high ∷ low ∷ octets) (suc most) place past = rw (lt_true (length octets) (high * 256 + low) past) refl

past_read : (entries : List (List ℕ)) (front rest : List ℕ) (most place : ℕ) → length (front ++ rest) ≤ most → AreEntries front entries → IsPast rest
    → read_within most place (front ++ rest) ≡ refused (place + length front) EntryPast
past_read [] front rest most place room h past =
    ap (λ xs. read_within most place (xs ++ rest)) h ∙ rest_past rest most place past ∙ ap (λ p. refused p EntryPast) (omega (arith, ap length h))
past_read (entry ∷ entries) front rest zero place room h past = absurd (omega (arith, ap length h.1.spelled, length-append front rest))
past_read (entry ∷ entries) front rest (suc most) place room h past =
    let first = h.1 in
    let more = h.0 in
    let long = ap length first.spelled in
    let joined = length-append entry more in
    let whole = length-append front rest in
    ap (λ xs. read_within (suc most) place (xs ++ rest)) first.spelled
    ∙ ap (λ xs. read_within (suc most) place (first.high ∷ first.low ∷ xs)) (append_assoc entry more rest)
    ∙ front_read place (first.high * 256 + first.low) entry (more ++ rest) (read_within most) first.long
    ∙ ap (entry_onto (ascii_origin entry)) (past_read entries more rest most (place + (2 + (first.high * 256 + first.low))) (omega (arith, length-append more rest)) h.2 past)
    ∙ ap (λ p. refused p EntryPast) (omega (arith, first.long))

-- the grammar's words for an answer
abbrev pub ListedSays : ℕ → ℕ → List ℕ → Answer → Type 0
ListedSays stream flags payload (Ok listed) = SpellsListed stream flags payload listed
ListedSays stream flags payload (Err at) = ListedRefusedAt stream flags payload at.place at.reason

past_reason : (stream flags : ℕ) (payload : List ℕ) (place : ℕ) (reason : OriginFrameRefusal) → reason ≡ EntryPast → ListedRefusedAt stream flags payload place EntryPast → ListedRefusedAt stream flags payload place reason
past_reason stream flags payload place reason is h = subst (ListedRefusedAt stream flags payload place) (sym is) h

entries_say : (stream flags : ℕ) (payload : List ℕ) (answer : Answer) → stream ≡ 0 → NoFlags flags → Says 0 payload answer → ListedSays stream flags payload answer
entries_say stream flags payload (Ok listed) on_zero no_flags s = record { on_zero = on_zero; no_flags = no_flags; entries = s.entries; spelled = s.spelled; listing = s.listing }
entries_say stream flags payload (Err at) on_zero no_flags s =
    past_reason stream flags payload at.place at.reason s.reason
    (on_zero, no_flags, record { entries = s.entries; front = s.front; rest = s.rest; spelled = s.spelled; whole = s.whole; past = s.past; at = s.is ∙ omega arith })

pub listed_says : (stream flags : ℕ) (payload : List ℕ) → ListedSays stream flags payload (read_listed stream flags payload)
listed_says stream flags payload = go (nat_eq stream 0) (nat_eq (bit_and flags 15) 0) refl refl
  where
    go : (s t : Bool) → nat_eq stream 0 ≡ s → nat_eq (bit_and flags 15) 0 ≡ t
        → ListedSays stream flags payload (cond s (cond t (read_entries payload) (refused 0 Flags)) (refused 0 NotStreamZero))
    go true true on none = entries_say stream flags payload (read_entries payload) (true_eq _ 0 on) (true_eq _ 0 none) (within_says (length payload) 0 payload (omega arith))
    go true false on none = (true_eq _ 0 on, false_eq _ 0 none, refl)
    go false t on none = (false_eq _ 0 on, refl)

both_tests : (stream flags : ℕ) (payload : List ℕ) → stream ≡ 0 → NoFlags flags → read_listed stream flags payload ≡ read_entries payload
both_tests stream flags payload on none =
    ap₂ (λ s t. cond s (cond t (read_entries payload) (refused 0 Flags)) (refused 0 NotStreamZero)) (eq_true stream 0 on) (eq_true (bit_and flags 15) 0 none)

pub listed_read : (stream flags : ℕ) (payload : List ℕ) (listed : Listed) → SpellsListed stream flags payload listed → read_listed stream flags payload ≡ Ok listed
listed_read stream flags payload listed h =
    both_tests stream flags payload h.on_zero h.no_flags
    ∙ entries_read h.entries payload listed.origins listed.skipped (length payload) 0 (omega arith) h.spelled h.listing

pub listed_refused : (stream flags : ℕ) (payload : List ℕ) (place : ℕ) (reason : OriginFrameRefusal) → ListedRefusedAt stream flags payload place reason → read_listed stream flags payload ≡ refused place reason
listed_refused stream flags payload place NotStreamZero h =
    ap (λ s. cond s (cond (nat_eq (bit_and flags 15) 0) (read_entries payload) (refused 0 Flags)) (refused 0 NotStreamZero)) (eq_false stream 0 h.0)
    ∙ ap (λ p. refused p NotStreamZero) (sym h.1)
listed_refused stream flags payload place Flags h =
    ap₂ (λ s t. cond s (cond t (read_entries payload) (refused 0 Flags)) (refused 0 NotStreamZero)) (eq_true stream 0 h.0) (eq_false (bit_and flags 15) 0 h.1)
    ∙ ap (λ p. refused p Flags) (sym h.2)
listed_refused stream flags payload place EntryPast h =
    let s = h.2 in
    both_tests stream flags payload h.0 h.1
    ∙ ap read_entries s.spelled
    ∙ past_read s.entries s.front s.rest (length (s.front ++ s.rest)) 0 (omega arith) s.whole s.past
    ∙ ap (λ p. refused p EntryPast) (omega (arith, s.at))

pub listed_spelled : (stream flags : ℕ) (payload : List ℕ) (listed : Listed) → read_listed stream flags payload ≡ Ok listed → SpellsListed stream flags payload listed
listed_spelled stream flags payload listed h = subst (ListedSays stream flags payload) h (listed_says stream flags payload)

pub listed_refusal : (stream flags : ℕ) (payload : List ℕ) (at : At OriginFrameRefusal) → read_listed stream flags payload ≡ Err at → ListedRefusedAt stream flags payload at.place at.reason
listed_refusal stream flags payload at h = subst (ListedSays stream flags payload) h (listed_says stream flags payload)

listing_valid : (entries : List (List ℕ)) (origins : List Origin) (skipped : ℕ) → AreListed entries origins skipped → AreOrigins origins
listing_valid [] origins skipped h = subst AreOrigins (sym h.0) tt
listing_valid (entry ∷ entries) origins skipped (inl h) = subst AreOrigins (sym h.2) (h.3.valid, listing_valid entries h.1 skipped h.4)
listing_valid (entry ∷ entries) origins skipped (inr h) = listing_valid entries origins h.0 h.3

pub listed_valid : (stream flags : ℕ) (payload : List ℕ) (listed : Listed) → SpellsListed stream flags payload listed → AreOrigins listed.origins
listed_valid stream flags payload listed h = listing_valid h.entries listed.origins listed.skipped h.listing

abbrev ok_of : Listed → Answer
ok_of listed = Ok listed

same_listed : (a b : Listed) → ok_of a ≡ ok_of b → a ≡ b
same_listed a b e = cc

abbrev err_of : At OriginFrameRefusal → Answer
err_of at = Err at

same_at : (a b : At OriginFrameRefusal) → err_of a ≡ err_of b → (a.place ≡ b.place) × (a.reason ≡ b.reason)
same_at a b e = let h : a ≡ b = cc in (ap (λ (x : At OriginFrameRefusal). x.place) h, ap (λ (x : At OriginFrameRefusal). x.reason) h)

pub one_listed_of : (stream flags : ℕ) (payload : List ℕ) → OneListed stream flags payload
one_listed_of stream flags payload = record {
  some = some_of (read_listed stream flags payload) (listed_says stream flags payload);
  one_list = λ a b h k. same_listed a b (sym (listed_read stream flags payload a h) ∙ listed_read stream flags payload b k);
  one_refusal = λ p q r s h k. same_at (record { place = p; reason = r }) (record { place = q; reason = s }) (sym (listed_refused stream flags payload p r h) ∙ listed_refused stream flags payload q s k);
  not_both = λ listed place reason h k. clash listed (record { place = place; reason = reason }) (sym (listed_read stream flags payload listed h) ∙ listed_refused stream flags payload place reason k);
}
  where
    some_of : (answer : Answer) → ListedSays stream flags payload answer
        → ((listed : Listed) × SpellsListed stream flags payload listed) ⊎ ((place : ℕ) × (reason : OriginFrameRefusal) × ListedRefusedAt stream flags payload place reason)
    some_of (Ok listed) says = inl (listed, says)
    some_of (Err at) says = inr (at.place, at.reason, says)

    clash : (listed : Listed) (at : At OriginFrameRefusal) → ok_of listed ≡ err_of at → ⊥
    clash listed at e = cc

-- what a call answers, in the grammar's words
pub answer_says : (stream flags : ℕ) (payload : List ℕ) (r : Result Listed (Refused OriginFrameRefusal)) → Answers r (read_listed stream flags payload)
    → IfOk r (λ listed. SpellsListed stream flags payload listed) × IfOk r (λ listed. AreOrigins listed.origins) × IfRefused r (λ place reason. ListedRefusedAt stream flags payload place reason)
answer_says stream flags payload (Ok listed) h =
    let spelled = listed_spelled stream flags payload listed h in
    (spelled, listed_valid stream flags payload listed spelled, tt)
answer_says stream flags payload (Err Refusal.NoMemory) h = (tt, tt, tt)
answer_says stream flags payload (Err (Refusal.At place reason)) h = (tt, tt, listed_refusal stream flags payload (record { place = place; reason = reason }) h)
