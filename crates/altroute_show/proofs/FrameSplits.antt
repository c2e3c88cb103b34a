-- The whole frames of a stream: their sizes, their lines, and what further octets add.
use Rattle.std.proofs.Common.{◌≡◌, ℕ, ◌+◌, ◌≤◌, Bool, true, false, cond, List, [], ◌∷◌, ◌++◌, length, Option, refl, ap, sym, ◌∙◌, subst, arith, append_assoc}
use Rattle.std.proofs.lemmas.List.{length-append}
use Rattle.h2_framing.specs.declared.head.Head.{Head}
use Rattle.h2_framing.specs.declared.frame.Frame.{Frame}
use Rattle.h2_framing.specs.declared.frame.Frame.TheVariants.{Kept, Passed}
use Rattle.h2_framing.specs.Frames.{head_of, is_kept, IsFrame, AreFrames}
use Rattle.h2_framing.specs.Streams.{frames_of, rest_of, too_large_of}
use Rattle.h2_framing.specs.Reading.{Brings}
use Rattle.h2_framing.proofs.Splitting.{split_some, goes_on}
use Rattle.altroute_show.specs.FrameLines.{frame_line, frame_lines}
use Rattle.altroute_show.specs.FrameOutcome.{frames_text, place_behind}
use Rattle.altroute_show.specs.FrameSteps.{frame_size, frames_size, IsShort, AreShort}

short_by : (kept : Bool) (head : Head) (payload : List ℕ) → length payload ≤ 16384 → IsShort (cond kept (Kept head payload) (Passed head))
short_by true head payload within = within
short_by false head payload within = tt

is_short : (octets : List ℕ) (frame : Frame) → IsFrame octets frame → IsShort frame
is_short octets frame f = subst IsShort (sym f.read) (short_by (is_kept (head_of f.front).kind) (head_of f.front) f.payload f.within)

size_by : (kept : Bool) (head : Head) (payload : List ℕ) → frame_size (cond kept (Kept head payload) (Passed head)) ≡ 9 + head.length
size_by true head payload = refl
size_by false head payload = refl

is_size : (octets : List ℕ) (frame : Frame) → IsFrame octets frame → frame_size frame ≡ length octets
is_size octets frame f =
    let read : frame_size frame ≡ 9 + (head_of f.front).length = ap frame_size f.read ∙ size_by (is_kept (head_of f.front).kind) (head_of f.front) f.payload in
    let whole : length octets ≡ length f.front + length f.payload = ap length f.whole ∙ length-append f.front f.payload in
    omega (arith, read, whole, f.nine, f.fits)

-- each frame of a stream is within the limit, and the frames with the rest are the stream
are_short : (frames : List Frame) (x rest : List ℕ) → AreFrames x frames rest → AreShort frames
are_short [] x rest are = tt
are_short (frame ∷ frames) x rest are = (is_short are.0 frame are.3, are_short frames are.1 rest are.4)

are_sized : (frames : List Frame) (x rest : List ℕ) → AreFrames x frames rest → length x ≡ frames_size frames + length rest
are_sized [] x rest are = let e : length x ≡ length rest = ap length are in omega (arith, e)
are_sized (frame ∷ frames) x rest are =
    let whole : length x ≡ length are.0 + length are.1 = ap length are.2 ∙ length-append are.0 are.1 in
    let size : frame_size frame ≡ length are.0 = is_size are.0 frame are.3 in
    let rec : length are.1 ≡ frames_size frames + length rest = are_sized frames are.1 rest are.4 in
    omega (arith, whole, size, rec)

pub sized : (x : List ℕ) → length x ≡ frames_size (frames_of x) + length (rest_of x)
sized x = are_sized (frames_of x) x (rest_of x) (split_some x).frames

pub rest_within : (x : List ℕ) → length (rest_of x) ≤ length x
rest_within x = let e : length x ≡ frames_size (frames_of x) + length (rest_of x) = sized x in omega (arith, e)

-- frames behind frames
size_append : (a b : List Frame) → frames_size (a ++ b) ≡ frames_size a + frames_size b
size_append [] b = omega arith
size_append (frame ∷ a) b = let rec : frames_size (a ++ b) ≡ frames_size a + frames_size b = size_append a b in omega (arith, rec)

short_behind : (a b : List Frame) → AreShort (a ++ b) → AreShort b
short_behind [] b short = short
short_behind (frame ∷ a) b short = short_behind a b short.1

lines_append : (a b : List Frame) → frame_lines (a ++ b) ≡ frame_lines a ++ frame_lines b
lines_append [] b = refl
lines_append (frame ∷ a) b = ap (λ t. frame_line frame ++ t) (lines_append a b) ∙ sym (append_assoc (frame_line frame) (frame_lines a) (frame_lines b))

-- the frames that a piece brings
pub brought_short : (x p : List ℕ) (frames : List Frame) (o : Option ℕ) → Brings x p frames o → AreShort frames
brought_short x p frames o b = short_behind (frames_of x) frames (subst AreShort b.frames_are (are_short (frames_of (x ++ p)) (x ++ p) (rest_of (x ++ p)) (split_some (x ++ p)).frames))

pub brought_sizes : (x p : List ℕ) (frames : List Frame) (o : Option ℕ) → Brings x p frames o → frames_size (frames_of (x ++ p)) ≡ frames_size (frames_of x) + frames_size frames
brought_sizes x p frames o b = ap frames_size b.frames_are ∙ size_append (frames_of x) frames

pub brought_place : (x p : List ℕ) (frames : List Frame) (o : Option ℕ) → Brings x p frames o → place_behind (x ++ p) ≡ place_behind x + frames_size frames
brought_place x p frames o b =
    let here : length x ≡ frames_size (frames_of x) + length (rest_of x) = sized x in
    let there : length (x ++ p) ≡ frames_size (frames_of (x ++ p)) + length (rest_of (x ++ p)) = sized (x ++ p) in
    let sizes : frames_size (frames_of (x ++ p)) ≡ frames_size (frames_of x) + frames_size frames = brought_sizes x p frames o b in
    omega (arith, here, there, sizes)

pub brought_within : (x p : List ℕ) (frames : List Frame) (o : Option ℕ) → Brings x p frames o → place_behind x + frames_size frames ≤ length x + length p
brought_within x p frames o b =
    let here : length x ≡ frames_size (frames_of x) + length (rest_of x) = sized x in
    let there : length (x ++ p) ≡ frames_size (frames_of (x ++ p)) + length (rest_of (x ++ p)) = sized (x ++ p) in
    let sizes : frames_size (frames_of (x ++ p)) ≡ frames_size (frames_of x) + frames_size frames = brought_sizes x p frames o b in
    let both : length (x ++ p) ≡ length x + length p = length-append x p in
    omega (arith, here, there, sizes, both)

pub brought_text : (x p : List ℕ) (frames : List Frame) (o : Option ℕ) → Brings x p frames o → frames_text (x ++ p) ≡ frames_text x ++ frame_lines frames
brought_text x p frames o b = ap frame_lines b.frames_are ∙ lines_append (frames_of x) frames

-- further octets only add lines
pub text_more : (x p : List ℕ) → (more : List ℕ) × (frames_text (x ++ p) ≡ frames_text x ++ more)
text_more x p =
    let s = split_some (rest_of x ++ p) in
    let g = goes_on x p (frames_of (rest_of x ++ p)) (rest_of (rest_of x ++ p)) (too_large_of (rest_of x ++ p)) s.frames s.end in
    (frame_lines (frames_of (rest_of x ++ p)), ap frame_lines g.frames_are ∙ lines_append (frames_of x) (frames_of (rest_of x ++ p)))
