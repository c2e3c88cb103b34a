-- How many frames a piece brings behind a stream, and how large they are.
use Rattle.std.proofs.Common.{◌≡◌, ℕ, ◌+◌, ◌*◌, ◌≤◌, Bool, true, false, cond, List, [], ◌∷◌, ◌++◌, length, Option, None, ap, sym, ◌∙◌, subst, arith, inl, inr}
use Rattle.std.specs.List.{All, AllByRecursion}
use Rattle.std.proofs.lemmas.List.{length-append, append_cancel_left}
use Rattle.std.proofs.lemmas.List.Elements.{All-from_recursion}
use Rattle.h2_framing.specs.declared.frame.Frame.{Frame}
use Rattle.h2_framing.specs.declared.frame.Frame.TheVariants.{Kept, Passed}
use Rattle.h2_framing.specs.Frames.{head_of, is_kept, IsFrame, AreFrames, IsUnfinished}
use Rattle.h2_framing.specs.Streams.{frames_of, rest_of, too_large_of}
use Rattle.h2_framing.specs.Reading.{Brings}
use Rattle.h2_framing.proofs.Splitting.{split_some, goes_on, rest_unfinished}
use Rattle.frame_readers.specs.Readers.{Fits}

-- each frame has nine octets or more
frames_few : (frames : List Frame) (stream rest : List ℕ) → AreFrames stream frames rest → 9 * length frames ≤ length stream
frames_few [] stream rest are = omega arith
frames_few (frame ∷ frames) stream rest are =
    let later = frames_few frames are.1 rest are.4 in
    omega (arith, later, ap length are.2, length-append are.0 are.1, ap length are.3.whole, length-append are.3.front are.3.payload, are.3.nine)

frame_fits : (octets : List ℕ) (frame : Frame) → IsFrame octets frame → Fits frame
frame_fits octets frame f = subst Fits (sym f.read) (by_kind (is_kept (head_of f.front).kind))
  where
    by_kind : (b : Bool) → Fits (cond b (Kept (head_of f.front) f.payload) (Passed (head_of f.front)))
    by_kind true = f.within
    by_kind false = tt

frames_fit : (frames : List Frame) (stream rest : List ℕ) → AreFrames stream frames rest → AllByRecursion Fits frames
frames_fit [] stream rest are = tt
frames_fit (frame ∷ frames) stream rest are = (frame_fits are.0 frame are.3, frames_fit frames are.1 rest are.4)

-- what a piece brings are the whole frames of the unfinished one with the piece behind it
brought_are : (x p : List ℕ) (frames : List Frame) (too_large : Option ℕ) → Brings x p frames too_large → AreFrames (rest_of x ++ p) frames (rest_of (rest_of x ++ p))
brought_are x p frames too_large b =
    let s = split_some (rest_of x ++ p) in
    let g = goes_on x p (frames_of (rest_of x ++ p)) (rest_of (rest_of x ++ p)) (too_large_of (rest_of x ++ p)) s.frames s.end in
    let same : frames ≡ frames_of (rest_of x ++ p) = append_cancel_left (frames_of x) frames (frames_of (rest_of x ++ p)) (sym b.frames_are ∙ g.frames_are) in
    subst (λ (fs : List Frame). AreFrames (rest_of x ++ p) fs (rest_of (rest_of x ++ p))) (sym same) s.frames

-- an unfinished frame lacks an octet of the largest at least
rest_few : (rest : List ℕ) → IsUnfinished rest → length rest ≤ 16392
rest_few rest (inl short) = omega arith
rest_few rest (inr lacks) = omega (arith, lacks.lacking, lacks.within)

pub brings_few : (x p : List ℕ) (frames : List Frame) (too_large : Option ℕ) → too_large_of x ≡ None → Brings x p frames too_large → 9 * length frames ≤ length p + 16392
brings_few x p frames too_large going b =
    omega (arith, frames_few frames (rest_of x ++ p) (rest_of (rest_of x ++ p)) (brought_are x p frames too_large b), length-append (rest_of x) p, rest_few (rest_of x) (rest_unfinished x going))

pub brings_fit : (x p : List ℕ) (frames : List Frame) (too_large : Option ℕ) → Brings x p frames too_large → All Fits frames
brings_fit x p frames too_large b = All-from_recursion Fits frames (frames_fit frames (rest_of x ++ p) (rest_of (rest_of x ++ p)) (brought_are x p frames too_large b))
