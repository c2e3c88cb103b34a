-- Reading entries one by one.
use Rattle.std.proofs.Common.{◌≡◌, ℕ, zero, suc, ◌+◌, ◌-◌, ◌*◌, ◌<◌, ◌≤◌, Bool, true, false, cond, nat_lt, List, [], ◌∷◌, ◌++◌, length, take, drop, Option, None, Some, Ok, Err, refl, ap, ap₂, sym, ◌∙◌, arith}
use Rattle.std.proofs.lemmas.List.{append_assoc, append-nil, length-take-le, length-drop, drop-drop, drop_all, take_all}
use Rattle.origin_values.specs.declared.origin.Origin.{Origin}
use Rattle.origin_frame.specs.declared.listed.Listed.{Listed}
use Rattle.origin_frame.specs.declared.refusal.OriginFrameRefusal.TheVariants.{EntryPast}
use Rattle.origin_frame.specs.Entries.{entry_of, with_last}
use Rattle.origin_values.specs.AsciiReading.{ascii_origin}
use Rattle.origin_frame.specs.PayloadReading.{Answer, refused, nothing_listed, entry_onto, read_within, read_entries}
use Rattle.alt_base.proofs.Numbers.{false_lt}

-- what was listed before the entries that gave an answer
abbrev pub listed_before : Listed → Answer → Answer
listed_before listed (Ok more) = Ok (record { origins = listed.origins ++ more.origins; skipped = listed.skipped + more.skipped })
listed_before listed (Err at) = Err at

-- the entries before a place are read
pub record IsSoFar (payload : List ℕ) (listed : Listed) (place : ℕ) : Type 0 where
  pub most : ℕ
  pub room : length (drop place payload) ≤ most
  pub rest : read_entries payload ≡ listed_before listed (read_within most place (drop place payload))
  pub within : place ≤ length payload
  pub counted : listed.skipped + listed.skipped ≤ place

same_answer : (origins others : List Origin) (skipped n : ℕ) → origins ≡ others → skipped ≡ n
    → (let a : Answer = Ok (record { origins = origins; skipped = skipped }) in a) ≡ (let b : Answer = Ok (record { origins = others; skipped = n }) in b)
same_answer origins others skipped n e f = ap₂ (λ o s. Ok (record { origins = o; skipped = s })) e f

before_nothing : (answer : Answer) → answer ≡ listed_before nothing_listed answer
before_nothing (Ok listed) = same_answer listed.origins listed.origins listed.skipped (0 + listed.skipped) refl (omega arith)
before_nothing (Err at) = refl

pub at_start : (payload : List ℕ) → IsSoFar payload nothing_listed 0
at_start payload = record { most = length payload; room = omega arith; rest = before_nothing (read_entries payload); within = omega arith; counted = omega arith }

before_entry : (listed : Listed) (origin : Option Origin) (answer : Answer) → listed_before listed (entry_onto origin answer) ≡ listed_before (with_last origin listed) answer
before_entry listed (Some origin) (Ok more) = same_answer _ _ _ _ (sym (append_assoc listed.origins (origin ∷ []) more.origins)) refl
before_entry listed None (Ok more) = same_answer _ _ _ _ refl (omega arith)
before_entry listed origin (Err at) = refl

-- what the entry in front says of reading
record IsStep (octets entry : List ℕ) (most place : ℕ) : Type 0 where
  fewer : ℕ
  room : length (drop (2 + length entry) octets) ≤ fewer
  read : read_within most place octets ≡ entry_onto (ascii_origin entry) (read_within fewer (place + (2 + length entry)) (drop (2 + length entry) octets))
  inside : 2 + length entry ≤ length octets

drop_two : (count : ℕ) (high low : ℕ) (octets : List ℕ) → drop (2 + count) (high ∷ low ∷ octets) ≡ drop count octets
drop_two count high low octets = ap (λ n. drop n (high ∷ low ∷ octets)) (two count)
  where
    two : (n : ℕ) → 2 + n ≡ suc (suc n)
    two n = omega arith

step : (octets entry : List ℕ) (most place : ℕ) → length octets ≤ most → entry_of octets ≡ Some entry → IsStep octets entry most place
step [] entry most place room h = cc
step (high ∷ []) entry most place room h = cc
step (high ∷ low ∷ octets) entry zero place room h = absurd (omega arith)
step (high ∷ low ∷ octets) entry (suc most) place room h = go (nat_lt (length octets) (high * 256 + low)) refl h
  where
    go : (t : Bool) → nat_lt (length octets) (high * 256 + low) ≡ t → cond t None (Some (take (high * 256 + low) octets)) ≡ Some entry → IsStep (high ∷ low ∷ octets) entry (suc most) place
    go true is e = cc
    go false is e =
        let n = high * 256 + low in
        let same : take n octets ≡ entry = cc in
        let long = length-take-le n octets (false_lt _ _ is) in
        let count : n ≡ length entry = sym long ∙ ap length same in
        let back = drop_two (length entry) high low octets ∙ ap (λ m. drop m octets) (sym count) in
        record {
          fewer = most;
          room = omega (arith, ap length back, length-drop n octets);
          read = ap (λ t. cond t (refused place EntryPast) (entry_onto (ascii_origin (take n octets)) (read_within most (place + (2 + n)) (drop n octets)))) is
              ∙ ap₂ (λ xs m. entry_onto (ascii_origin xs) (read_within most (place + (2 + m)) (drop n octets))) same count
              ∙ ap (λ xs. entry_onto (ascii_origin entry) (read_within most (place + (2 + length entry)) xs)) (sym back);
          inside = omega (arith, false_lt _ _ is, count);
        }

with_last_counted : (listed : Listed) (origin : Option Origin) (place n : ℕ) → listed.skipped + listed.skipped ≤ place → (with_last origin listed).skipped + (with_last origin listed).skipped ≤ place + (2 + n)
with_last_counted listed (Some origin) place n h = omega arith
with_last_counted listed None place n h = omega arith

pub one_more : (payload entry : List ℕ) (listed : Listed) (place : ℕ) → IsSoFar payload listed place → entry_of (drop place payload) ≡ Some entry
    → IsSoFar payload (with_last (ascii_origin entry) listed) (place + (2 + length entry))
one_more payload entry listed place h is =
    let s = step (drop place payload) entry h.most place h.room is in
    let back : drop (2 + length entry) (drop place payload) ≡ drop (place + (2 + length entry)) payload = drop-drop (2 + length entry) place payload in
    record {
      most = s.fewer;
      room = omega (arith, s.room, ap length back);
      rest = h.rest ∙ ap (listed_before listed) s.read
          ∙ before_entry listed (ascii_origin entry) (read_within s.fewer (place + (2 + length entry)) (drop (2 + length entry) (drop place payload)))
          ∙ ap (λ xs. listed_before (with_last (ascii_origin entry) listed) (read_within s.fewer (place + (2 + length entry)) xs)) back;
      within = omega (arith, s.inside, length-drop place payload, h.within);
      counted = with_last_counted listed (ascii_origin entry) place (length entry) h.counted;
    }

no_entry : (octets : List ℕ) (most place : ℕ) → 0 < length octets → entry_of octets ≡ None → read_within most place octets ≡ refused place EntryPast
no_entry [] most place some h = absurd (omega arith)
no_entry (high ∷ []) most place some h = refl
no_entry (high ∷ low ∷ octets) zero place some h = refl
no_entry (high ∷ low ∷ octets) (suc most) place some h = go (nat_lt (length octets) (high * 256 + low)) h
  where
    go : (t : Bool) → cond t None (Some (take (high * 256 + low) octets)) ≡ None
        → cond t (refused place EntryPast) (entry_onto (ascii_origin (take (high * 256 + low) octets)) (read_within most (place + (2 + (high * 256 + low))) (drop (high * 256 + low) octets))) ≡ refused place EntryPast
    go true e = refl
    go false e = cc

pub past_end : (payload : List ℕ) (listed : Listed) (place : ℕ) → IsSoFar payload listed place → place < length payload → entry_of (drop place payload) ≡ None → read_entries payload ≡ refused place EntryPast
past_end payload listed place h inside none =
    h.rest ∙ ap (listed_before listed) (no_entry (drop place payload) h.most place (omega (arith, length-drop place payload)) none)

pub at_end : (payload : List ℕ) (listed : Listed) (place : ℕ) → IsSoFar payload listed place → length payload ≤ place → read_entries payload ≡ Ok listed
at_end payload listed place h end =
    h.rest ∙ ap (λ xs. listed_before listed (read_within h.most place xs)) (drop_all place payload end)
    ∙ same_answer (listed.origins ++ []) listed.origins (listed.skipped + 0) listed.skipped (append-nil listed.origins) (omega arith)

-- a slice from a place on is all that stands there
pub rest_whole : (payload : List ℕ) (place : ℕ) → take (length payload - place) (drop place payload) ≡ drop place payload
rest_whole payload place = take_all (length payload - place) (drop place payload) (omega (arith, length-drop place payload))
