-- Told input that is whole frames is done where neither device fails, or memory isn't found.
use Rattle.std.proofs.Common.{◌≡◌, ℕ, ◌+◌, ◌<◌, zero, suc, Bool, true, false, nat_lt, List, [], ◌∷◌, ◌++◌, length, take, Option, Some, None, refl, ap, sym, ◌∙◌, subst, arith, append-nil, inl, inr}
use Rattle.std.proofs.lemmas.List.{length-append}
use Rattle.alt_base.specs.Devices.{IsAtEnd, with_front}
use Rattle.h2_framing.specs.Streams.{too_large_of}
use Rattle.h2_framing.proofs.Pieces.{brings_nothing}
use Rattle.altroute_show.specs.declared.status.Status.{Status}
use Rattle.altroute_show.specs.declared.status.Status.TheVariants.{Done, Refused, Usage, ReadFault, WriteFault, NoMemory, TooLong}
use Rattle.altroute_show.specs.Seen.{Seen}
use Rattle.altroute_show.specs.FrameOutcome.{AtTooLarge, AtUnfinished, AtLongInput, limited_outcome, frame_outcome}
use Rattle.altroute_show.specs.FrameEnds.{FrameEnds, AreComplete}
use Rattle.altroute_show.proofs.FrameAnswers.{never_long}
use Rattle.alt_base.proofs.Numbers.{lt_true, true_lt}
use Rattle.alt_base.proofs.Variants.{some_none}

pub take_front : (n : ℕ) (xs ys : List ℕ) → (t : List ℕ) × (take n (xs ++ ys) ≡ take n xs ++ t)
take_front zero xs ys = ([], refl)
take_front (suc n) [] ys = (take (suc n) ys, refl)
take_front (suc n) (x ∷ xs) ys = let r = take_front n xs ys in (r.0, ap (λ zs. x ∷ zs) r.1)

-- a length above 16,384 stops it, whatever octets follow
some_stop : (first : List ℕ) (o : Option ℕ) (more : Bool) → (limited_outcome first o more false).stop ≡ Some AtTooLarge → (n : ℕ) × (o ≡ Some n)
some_stop first None true e = let none : ⊥ = cc in absurd none
some_stop first None false e = let none : ⊥ = cc in absurd none
some_stop first (Some n) more e = (n, refl)

too_large_stays : (octets rest : List ℕ) → (frame_outcome octets false).stop ≡ Some AtTooLarge → (frame_outcome (octets ++ rest) true).stop ≡ Some AtTooLarge
too_large_stays octets rest stop =
    let s = some_stop (take 67108864 octets) (too_large_of (take 67108864 octets)) (nat_lt 67108864 (length octets)) stop in
    let t = take_front 67108864 octets rest in
    let b = brings_nothing (take 67108864 octets) t.0 s.0 s.1 in
    ap (λ (o : Option ℕ). (limited_outcome (take 67108864 (octets ++ rest)) o (nat_lt 67108864 (length (octets ++ rest))) true).stop) (ap too_large_of t.1 ∙ b.too_large_is)

-- an input that is too long has a stop
is_long : (octets : List ℕ) → (frame_outcome octets false).stop ≡ Some AtLongInput → 67108864 < length octets
is_long octets stop = by_test (nat_lt 67108864 (length octets)) refl
  where
    first : List ℕ
    first = take 67108864 octets

    by_test : (b : Bool) → nat_lt 67108864 (length octets) ≡ b → 67108864 < length octets
    by_test true is = true_lt 67108864 (length octets) is
    by_test false is = absurd (never_long first (too_large_of first) (sym (ap (λ b. (limited_outcome first (too_large_of first) b false).stop) is) ∙ stop))

never_none : (first : List ℕ) (o : Option ℕ) (ended : Bool) → (limited_outcome first o true ended).stop ≡ None → ⊥
never_none first None ended e = cc
never_none first (Some n) ended e = cc

long_stops : (octets : List ℕ) → 67108864 < length octets → (frame_outcome octets true).stop ≡ None → ⊥
long_stops octets long none =
    let first : List ℕ = take 67108864 octets in
    never_none first (too_large_of first) true (sym (ap (λ b. (limited_outcome first (too_large_of first) b true).stop) (lt_true 67108864 (length octets) long)) ∙ none)

-- what was taken is a front of the input
not_too_large : (input octets : List ℕ) (left : Option (List ℕ)) → Some input ≡ with_front octets left → (frame_outcome octets false).stop ≡ Some AtTooLarge → (frame_outcome input true).stop ≡ None → ⊥
not_too_large input octets None took stop valid = cc
not_too_large input octets (Some rest) took stop valid =
    let e : input ≡ octets ++ rest = cc in
    some_none AtTooLarge ((frame_outcome (octets ++ rest) true).stop) (too_large_stays octets rest stop) (subst (λ xs. (frame_outcome xs true).stop ≡ None) e valid)

not_unfinished : (input octets : List ℕ) (left : Option (List ℕ)) → Some input ≡ with_front octets left → IsAtEnd left → (frame_outcome octets true).stop ≡ Some AtUnfinished → (frame_outcome input true).stop ≡ None → ⊥
not_unfinished input octets None took at_end stop valid = cc
not_unfinished input octets (Some rest) took at_end stop valid =
    let e : input ≡ octets ++ rest = cc in
    let same : input ≡ octets = e ∙ ap (λ r. octets ++ r) at_end ∙ append-nil octets in
    some_none AtUnfinished ((frame_outcome octets true).stop) stop (subst (λ xs. (frame_outcome xs true).stop ≡ None) same valid)

not_long : (input octets : List ℕ) (left : Option (List ℕ)) → Some input ≡ with_front octets left → (frame_outcome octets false).stop ≡ Some AtLongInput → (frame_outcome input true).stop ≡ None → ⊥
not_long input octets None took stop valid = cc
not_long input octets (Some rest) took stop valid =
    let e : input ≡ octets ++ rest = cc in
    let sizes : length input ≡ length octets + length rest = ap length e ∙ length-append octets rest in
    let far : 67108864 < length octets = is_long octets stop in
    long_stops input (omega (arith, sizes, far)) valid

pub frames_complete : (status : Status) (old new : Seen) → FrameEnds status old new → AreComplete status old new
frames_complete Done old new ends = λ input told valid read write. inl refl
frames_complete Refused old new ends = λ input told valid read write. elim ends.1 [
  | inl s ↦ absurd (not_too_large input ends.0 new.left (sym told ∙ s.moves.took) s.stop valid)
  | inr s ↦ absurd (not_unfinished input ends.0 new.left (sym told ∙ s.moves.took) s.at_end.at_end s.stop valid)
]
frames_complete Usage old new ends = λ input told valid read write. absurd ends
frames_complete ReadFault old new ends = λ input told valid read write. absurd (read ends.1.rose)
frames_complete WriteFault old new ends = λ input told valid read write. absurd (write ends.rose)
frames_complete NoMemory old new ends = λ input told valid read write. inr refl
frames_complete TooLong old new ends = λ input told valid read write. absurd (not_long input ends.0 new.left (sym told ∙ ends.1.moves.took) ends.1.stop valid)
