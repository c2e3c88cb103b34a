-- What the outcome for the octets taken is, from how far the run has come.
use Rattle.std.proofs.Common.{◌≡◌, ℕ, ◌<◌, ◌≤◌, Bool, true, false, cond, nat_lt, List, [], ◌∷◌, ◌++◌, length, Option, Some, None, refl, ap, sym, ◌∙◌, arith, append_assoc}
use Rattle.std.proofs.lemmas.List.{length-append, take_all, take_at}
use Rattle.h2_framing.specs.Streams.{rest_of, too_large_of}
use Rattle.altroute_show.specs.Given.{refused_at}
use Rattle.altroute_show.specs.FrameOutcome.{AtTooLarge, AtUnfinished, AtLongInput, FrameOutcome, frames_text, place_behind, is_some_octet, goes_on, stops, end_outcome, limited_outcome, frame_outcome}
use Rattle.alt_base.proofs.Numbers.{lt_true, lt_false}
use Rattle.altroute_show.proofs.FrameSplits.{text_more}

-- within the limit of an input
pub within : (octets : List ℕ) (ended : Bool) → length octets ≤ 67108864 → frame_outcome octets ended ≡ limited_outcome octets (too_large_of octets) false ended
within octets ended fits =
    ap (λ xs. limited_outcome xs (too_large_of xs) (nat_lt 67108864 (length octets)) ended) (take_all 67108864 octets fits)
    ∙ ap (λ b. limited_outcome octets (too_large_of octets) b ended) (lt_false 67108864 (length octets) fits)

pub going : (octets : List ℕ) → length octets ≤ 67108864 → too_large_of octets ≡ None → frame_outcome octets false ≡ goes_on (frames_text octets)
going octets fits none = within octets false fits ∙ ap (λ o. limited_outcome octets o false false) none

pub too_large : (octets : List ℕ) (n : ℕ) → length octets ≤ 67108864 → too_large_of octets ≡ Some n → frame_outcome octets false ≡ stops (frames_text octets ++ refused_at 1 (place_behind octets)) AtTooLarge
too_large octets n fits some = within octets false fits ∙ ap (λ o. limited_outcome octets o false false) some

-- the end of the input
at_end : (octets : List ℕ) → length octets ≤ 67108864 → too_large_of octets ≡ None → frame_outcome octets true ≡ end_outcome octets true
at_end octets fits none = within octets true fits ∙ ap (λ o. limited_outcome octets o false true) none

no_octet : (xs : List ℕ) → length xs ≡ 0 → is_some_octet xs ≡ false
no_octet [] h = refl
no_octet (x ∷ xs) h = absurd (omega (arith, h))

some_octet : (xs : List ℕ) → 0 < length xs → is_some_octet xs ≡ true
some_octet [] h = absurd (omega (arith, h))
some_octet (x ∷ xs) h = refl

abbrev end_by : List ℕ → Bool → FrameOutcome
end_by octets b = cond b (stops (frames_text octets ++ refused_at 2 (length octets)) AtUnfinished) (goes_on (frames_text octets))

pub ended_whole : (octets : List ℕ) → length octets ≤ 67108864 → too_large_of octets ≡ None → length (rest_of octets) ≡ 0 → frame_outcome octets true ≡ goes_on (frames_text octets)
ended_whole octets fits none whole = at_end octets fits none ∙ ap (end_by octets) (no_octet (rest_of octets) whole)

pub ended_within : (octets : List ℕ) → length octets ≤ 67108864 → too_large_of octets ≡ None → 0 < length (rest_of octets) → frame_outcome octets true ≡ stops (frames_text octets ++ refused_at 2 (length octets)) AtUnfinished
ended_within octets fits none rest = at_end octets fits none ∙ ap (end_by octets) (some_octet (rest_of octets) rest)

-- past the limit of an input
pub past : (first more : List ℕ) (ended : Bool) → length first ≡ 67108864 → 0 < length more → frame_outcome (first ++ more) ended ≡ limited_outcome first (too_large_of first) true ended
past first more ended full some =
    let long : 67108864 < length (first ++ more) = omega (arith, length-append first more, full, some) in
    ap (λ xs. limited_outcome xs (too_large_of xs) (nat_lt 67108864 (length (first ++ more))) ended) (take_at first more 67108864 full)
    ∙ ap (λ b. limited_outcome first (too_large_of first) b ended) (lt_true 67108864 (length (first ++ more)) long)

-- the octets within the limit have the same text
text_same : (first : List ℕ) (o : Option ℕ) → (limited_outcome first o true false).text ≡ (limited_outcome first o false false).text
text_same first None = refl
text_same first (Some n) = refl

pub past_text : (first more : List ℕ) → length first ≡ 67108864 → 0 < length more → (frame_outcome (first ++ more) false).text ≡ (frame_outcome first false).text
past_text first more full some =
    ap (λ (o : FrameOutcome). o.text) (past first more false full some) ∙ text_same first (too_large_of first)
    ∙ sym (ap (λ (o : FrameOutcome). o.text) (within first false (omega (arith, full))))

stop_same : (first : List ℕ) (o : Option ℕ) → (limited_outcome first o false false).stop ≡ Some AtTooLarge → (limited_outcome first o true false).stop ≡ Some AtTooLarge
stop_same first None e = cc
stop_same first (Some n) e = refl

pub past_stop : (first more : List ℕ) → length first ≡ 67108864 → 0 < length more → (frame_outcome first false).stop ≡ Some AtTooLarge → (frame_outcome (first ++ more) false).stop ≡ Some AtTooLarge
past_stop first more full some stop =
    ap (λ (o : FrameOutcome). o.stop) (past first more false full some)
    ∙ stop_same first (too_large_of first) (sym (ap (λ (o : FrameOutcome). o.stop) (within first false (omega (arith, full)))) ∙ stop)

pub past_going : (first more : List ℕ) → length first ≡ 67108864 → 0 < length more → too_large_of first ≡ None → frame_outcome (first ++ more) false ≡ stops (frames_text first) AtLongInput
past_going first more full some none = past first more false full some ∙ ap (λ o. limited_outcome first o true false) none

-- the text of more octets begins with the lines of the whole frames
pub outcome_more : (x p : List ℕ) → length (x ++ p) ≤ 67108864 → (more : List ℕ) × ((frame_outcome (x ++ p) false).text ≡ frames_text x ++ more)
outcome_more x p fits = by_length (too_large_of (x ++ p)) refl
  where
    by_length : (o : Option ℕ) → too_large_of (x ++ p) ≡ o → (more : List ℕ) × ((frame_outcome (x ++ p) false).text ≡ frames_text x ++ more)
    by_length None is = let t = text_more x p in (t.0, ap (λ (o : FrameOutcome). o.text) (going (x ++ p) fits is) ∙ t.1)
    by_length (Some n) is =
        let t = text_more x p in (
          t.0 ++ refused_at 1 (place_behind (x ++ p)),
          ap (λ (o : FrameOutcome). o.text) (too_large (x ++ p) n fits is) ∙ ap (λ t. t ++ refused_at 1 (place_behind (x ++ p))) t.1 ∙ append_assoc (frames_text x) t.0 (refused_at 1 (place_behind (x ++ p))),
        )
