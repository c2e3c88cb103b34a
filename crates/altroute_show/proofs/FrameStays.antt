-- More octets only add to the text, a stop stays, and the outcome by how the octets split.
use Rattle.std.proofs.Common.{◌≡◌, ℕ, ◌-◌, ◌<◌, ◌≤◌, Bool, true, false, cond, ◌&&◌, nat_lt, List, [], ◌++◌, length, take, Option, Some, None, refl, ap, sym, ◌∙◌, arith, append_assoc, append-nil, inl}
use Rattle.std.proofs.lemmas.List.{length-append, take-append-le}
use Rattle.h2_framing.specs.declared.frame.Frame.{Frame}
use Rattle.h2_framing.specs.Frames.{AreFrames, IsTooLarge, IsUnfinished, Split}
use Rattle.h2_framing.specs.Streams.{split_of, rest_of, too_large_of}
use Rattle.h2_framing.proofs.Splitting.{split_only}
use Rattle.h2_framing.proofs.Pieces.{brings_nothing}
use Rattle.altroute_show.specs.Given.{refused_at}
use Rattle.altroute_show.specs.FrameLines.{frame_lines}
use Rattle.altroute_show.specs.FrameOutcome.{FrameStop, AtTooLarge, AtUnfinished, FrameOutcome, frames_text, place_behind, is_some_octet, goes_on, stops, limited_outcome, frame_outcome}
use Rattle.altroute_show.proofs.FrameSplits.{brought_place, brought_text, text_more}
use Rattle.altroute_show.proofs.FrameOutcomes.{too_large, ended_whole, ended_within}
use Rattle.alt_base.proofs.Numbers.{lt_true, true_lt}
use Rattle.altroute_show.proofs.FrameComplete.{take_front}

-- by how the octets split
the_split : (octets rest : List ℕ) (frames : List Frame) (o : Option ℕ) → (let s : Split = record { frames = frames; rest = rest; too_large = o } in s) ≡ split_of octets → (frames_text octets ≡ frame_lines frames) × (rest_of octets ≡ rest) × (too_large_of octets ≡ o)
the_split octets rest frames o e = (ap (λ (s : Split). frame_lines s.frames) (sym e), ap (λ (s : Split). s.rest) (sym e), ap (λ (s : Split). s.too_large) (sym e))

pub shown_whole : (octets : List ℕ) (frames : List Frame) → AreFrames octets frames [] → length octets ≤ 67108864 → frame_outcome octets true ≡ goes_on (frame_lines frames)
shown_whole octets frames are fits =
    let s = the_split octets [] frames None (split_only octets (record { frames = frames; rest = []; too_large = None }) (record { frames = are; end = inl (omega arith) })) in
    ended_whole octets fits s.2 (ap length s.1) ∙ ap goes_on s.0

pub shown_too_large : (octets rest : List ℕ) (frames : List Frame) (n : ℕ) → AreFrames octets frames rest → IsTooLarge rest n → length octets ≤ 67108864 → frame_outcome octets false ≡ stops (frame_lines frames ++ refused_at 1 (length octets - length rest)) AtTooLarge
shown_too_large octets rest frames n are above fits =
    let s = the_split octets rest frames (Some n) (split_only octets (record { frames = frames; rest = rest; too_large = Some n }) (record { frames = are; end = above })) in
    too_large octets n fits s.2 ∙ ap (λ t. stops (t ++ refused_at 1 (place_behind octets)) AtTooLarge) s.0
    ∙ ap (λ r. stops (frame_lines frames ++ refused_at 1 (length octets - length r)) AtTooLarge) s.1

pub shown_unfinished : (octets rest : List ℕ) (frames : List Frame) → AreFrames octets frames rest → IsUnfinished rest → 0 < length rest → length octets ≤ 67108864 → frame_outcome octets true ≡ stops (frame_lines frames ++ refused_at 2 (length octets)) AtUnfinished
shown_unfinished octets rest frames are unfinished some fits =
    let s = the_split octets rest frames None (split_only octets (record { frames = frames; rest = rest; too_large = None }) (record { frames = are; end = unfinished })) in
    let left : 0 < length (rest_of octets) = omega (arith, ap length s.1, some) in
    ended_within octets fits s.2 left ∙ ap (λ t. stops (t ++ refused_at 2 (length octets)) AtUnfinished) s.0

-- a length above 16,384 stays, with the frames before it
stays_at : (first t : List ℕ) (n : ℕ) (more ended : Bool) → too_large_of first ≡ Some n → limited_outcome (first ++ t) (too_large_of (first ++ t)) more ended ≡ stops (frames_text first ++ refused_at 1 (place_behind first)) AtTooLarge
stays_at first t n more ended some =
    let b = brings_nothing first t n some in
    let text : frames_text (first ++ t) ≡ frames_text first = brought_text first t [] (Some n) b ∙ append-nil (frames_text first) in
    let place : place_behind (first ++ t) ≡ place_behind first = omega (arith, brought_place first t [] (Some n) b) in
    ap (λ o. limited_outcome (first ++ t) o more ended) b.too_large_is
    ∙ ap (λ x. stops (x ++ refused_at 1 (place_behind (first ++ t))) AtTooLarge) text
    ∙ ap (λ k. stops (frames_text first ++ refused_at 1 k) AtTooLarge) place

too_large_same : (octets more : List ℕ) (ended : Bool) (n : ℕ) → too_large_of (take 67108864 octets) ≡ Some n → frame_outcome (octets ++ more) ended ≡ frame_outcome octets false
too_large_same octets more ended n some =
    let first : List ℕ = take 67108864 octets in
    let t = take_front 67108864 octets more in
    ap (λ xs. limited_outcome xs (too_large_of xs) (nat_lt 67108864 (length (octets ++ more))) ended) t.1
    ∙ stays_at first t.0 n (nat_lt 67108864 (length (octets ++ more))) ended some
    ∙ sym (ap (λ o. limited_outcome first o (nat_lt 67108864 (length octets)) false) some)

-- past the limit of an input the octets say nothing more
far_same : (first : List ℕ) (o : Option ℕ) (ended : Bool) → limited_outcome first o true ended ≡ limited_outcome first o true false
far_same first None ended = refl
far_same first (Some n) ended = refl

long_same : (octets more : List ℕ) (ended : Bool) → 67108864 < length octets → frame_outcome (octets ++ more) ended ≡ frame_outcome octets false
long_same octets more ended long =
    let first : List ℕ = take 67108864 octets in
    let longer : 67108864 < length (octets ++ more) = omega (arith, length-append octets more, long) in
    ap (λ xs. limited_outcome xs (too_large_of xs) (nat_lt 67108864 (length (octets ++ more))) ended) (take-append-le 67108864 octets more (omega arith))
    ∙ ap (λ b. limited_outcome first (too_large_of first) b ended) (lt_true 67108864 (length (octets ++ more)) longer)
    ∙ far_same first (too_large_of first) ended
    ∙ sym (ap (λ b. limited_outcome first (too_large_of first) b false) (lt_true 67108864 (length octets) long))

pub stop_stays : (octets more : List ℕ) (ended : Bool) (why : FrameStop) → (frame_outcome octets false).stop ≡ Some why → frame_outcome (octets ++ more) ended ≡ frame_outcome octets false
stop_stays octets more ended why stop = by_length (too_large_of (take 67108864 octets)) refl (nat_lt 67108864 (length octets)) refl
  where
    first : List ℕ
    first = take 67108864 octets

    by_length : (o : Option ℕ) → too_large_of first ≡ o → (b : Bool) → nat_lt 67108864 (length octets) ≡ b → frame_outcome (octets ++ more) ended ≡ frame_outcome octets false
    by_length (Some n) some b is = too_large_same octets more ended n some
    by_length None none true is = long_same octets more ended (true_lt 67108864 (length octets) is)
    by_length None none false is =
        let e : frame_outcome octets false ≡ goes_on (frames_text first) = ap (λ o. limited_outcome first o (nat_lt 67108864 (length octets)) false) none ∙ ap (λ b. limited_outcome first None b false) is in
        let bad : None ≡ Some why = sym (ap (λ (o : FrameOutcome). o.stop) e) ∙ stop in
        absurd (clash bad)
      where
        clash : None ≡ Some why → ⊥
        clash e = cc

-- the text of any octets begins with the lines of their whole frames
ended_text : (first : List ℕ) (b : Bool) → (x : List ℕ) × ((cond b (stops (frames_text first ++ refused_at 2 (length first)) AtUnfinished) (goes_on (frames_text first))).text ≡ frames_text first ++ x)
ended_text first true = (refused_at 2 (length first), refl)
ended_text first false = ([], sym (append-nil (frames_text first)))

limited_text : (first : List ℕ) (o : Option ℕ) (more ended : Bool) → (x : List ℕ) × ((limited_outcome first o more ended).text ≡ frames_text first ++ x)
limited_text first (Some n) more ended = (refused_at 1 (place_behind first), refl)
limited_text first None true ended = ([], sym (append-nil (frames_text first)))
limited_text first None false ended = ended_text first (ended && is_some_octet (rest_of first))

same_grows : (a b : FrameOutcome) → a ≡ b → (extra : List ℕ) × (a.text ≡ b.text ++ extra)
same_grows a b e = ([], ap (λ (o : FrameOutcome). o.text) e ∙ sym (append-nil b.text))

pub text_grows : (octets more : List ℕ) (ended : Bool) → (extra : List ℕ) × ((frame_outcome (octets ++ more) ended).text ≡ (frame_outcome octets false).text ++ extra)
text_grows octets more ended = by_length (too_large_of (take 67108864 octets)) refl (nat_lt 67108864 (length octets)) refl
  where
    first : List ℕ
    first = take 67108864 octets

    by_length : (o : Option ℕ) → too_large_of first ≡ o → (b : Bool) → nat_lt 67108864 (length octets) ≡ b → (extra : List ℕ) × ((frame_outcome (octets ++ more) ended).text ≡ (frame_outcome octets false).text ++ extra)
    by_length (Some n) some b is = same_grows (frame_outcome (octets ++ more) ended) (frame_outcome octets false) (too_large_same octets more ended n some)
    by_length None none true is = same_grows (frame_outcome (octets ++ more) ended) (frame_outcome octets false) (long_same octets more ended (true_lt 67108864 (length octets) is))
    by_length None none false is =
        let t = take_front 67108864 octets more in
        let all : List ℕ = take 67108864 (octets ++ more) in
        let l = limited_text all (too_large_of all) (nat_lt 67108864 (length (octets ++ more))) ended in
        let m = text_more first t.0 in
        let here : (frame_outcome octets false).text ≡ frames_text first = ap (λ (o : Option ℕ). (limited_outcome first o (nat_lt 67108864 (length octets)) false).text) none ∙ ap (λ b. (limited_outcome first None b false).text) is in (
          m.0 ++ l.0,
          l.1 ∙ ap (λ x. x ++ l.0) (ap frames_text t.1 ∙ m.1) ∙ append_assoc (frames_text first) m.0 l.0 ∙ ap (λ x. x ++ (m.0 ++ l.0)) (sym here),
        )
