-- What further octets, or the end, make of the text.
use Rattle.std.proofs.Common.{◌≡◌, ℕ, ◌+◌, ◌<◌, ◌≤◌, true, false, List, ◌++◌, length, take, drop, Option, Some, None, Result, Ok, Err, refl, ap, sym, ◌∙◌, subst, arith, append_assoc}
use Rattle.std.proofs.lemmas.List.{length-append, length-take-le, length-drop, take-append-drop}
use Rattle.alt_base.specs.Devices.{Grew}
use Rattle.alt_base.specs.declared.refusal.NoMemory.{NoMemory as OutOfMemory}
use Rattle.h2_framing.specs.declared.frame.Frame.{Frame}
use Rattle.h2_framing.specs.declared.fed.Fed.{Fed}
use Rattle.h2_framing.specs.declared.fed.Fed.TheVariants as fed
use Rattle.h2_framing.specs.declared.reader.FrameReader.{FrameReader}
use Rattle.h2_framing.specs.Streams.{rest_of, too_large_of}
use Rattle.h2_framing.specs.Reading.{StandsFor, Brings, AnswersPiece}
use Rattle.altroute_show.specs.declared.frames_so_far.FramesSoFar.{FramesSoFar}
use Rattle.altroute_show.specs.declared.status.Status.{Status}
use Rattle.altroute_show.specs.declared.status.Status.TheVariants.{Done, Refused, Usage, ReadFault, WriteFault, NoMemory, TooLong}
use Rattle.altroute_show.specs.Given.{refused_at}
use Rattle.altroute_show.specs.FrameLines.{frame_lines}
use Rattle.altroute_show.specs.FrameOutcome.{FrameStop, AtLongInput, FrameOutcome, frames_text, place_behind, limited_outcome, frame_outcome}
use Rattle.altroute_show.specs.FrameSteps.{Stands, frames_size, TextEnds, OctetsEnd, EndEnds}
use Rattle.altroute_show.proofs.FrameSplits.{brought_text, brought_place}
use Rattle.altroute_show.proofs.FrameOutcomes.{within, going, too_large, ended_whole, ended_within, past_text, past_stop, past_going, outcome_more}

abbrev text_of : FrameOutcome → List ℕ
text_of o = o.text

abbrev stop_of : FrameOutcome → Option FrameStop
stop_of o = o.stop

pub fits_of : (state : FramesSoFar) (x p : List ℕ) → Stands state x → state.taken + length p ≤ 67108864 → length (x ++ p) ≤ 67108864
fits_of state x p stands room = omega (arith, length-append x p, stands.taken, room)

-- what the reader answers, by what it is
answer_of : (answer : Result Fed OutOfMemory) (f : Fed) (reader : FrameReader) (state : FramesSoFar) (x p : List ℕ) → ((y : List ℕ) → StandsFor reader y → AnswersPiece answer y p) → reader ≡ state.reader → answer ≡ Ok f → Stands state x → AnswersPiece (Ok f) x p
answer_of answer f reader state x p feeds same is stands =
    subst (λ (a : Result Fed OutOfMemory). AnswersPiece a x p) is (feeds x (subst (λ (r : FrameReader). StandsFor r x) (sym same) stands.reader))

pub going_answer : (answer : Result Fed OutOfMemory) (f : Fed) (reader next : FrameReader) (frames : List Frame) (state : FramesSoFar) (x p : List ℕ) → ((y : List ℕ) → StandsFor reader y → AnswersPiece answer y p) → reader ≡ state.reader → answer ≡ Ok f → f ≡ fed.Going next frames → Stands state x → StandsFor next (x ++ p) × Brings x p frames None
going_answer answer f reader next frames state x p feeds same is so stands =
    subst (λ (a : Fed). AnswersPiece (Ok a) x p) so (answer_of answer f reader state x p feeds same is stands)

pub too_large_answer : (answer : Result Fed OutOfMemory) (f : Fed) (reader : FrameReader) (frames : List Frame) (n : ℕ) (state : FramesSoFar) (x p : List ℕ) → ((y : List ℕ) → StandsFor reader y → AnswersPiece answer y p) → reader ≡ state.reader → answer ≡ Ok f → f ≡ fed.TooLarge frames n → Stands state x → Brings x p frames (Some n)
too_large_answer answer f reader frames n state x p feeds same is so stands =
    subst (λ (a : Fed). AnswersPiece (Ok a) x p) so (answer_of answer f reader state x p feeds same is stands)

-- the reader went on
pub going_ends : (result : Result (Unit {0}) Status) (state : FramesSoFar) (x p : List ℕ) (frames : List Frame) (old new : Option (List ℕ)) → StandsFor state.reader (x ++ p) → state.taken ≡ length (x ++ p) → Brings x p frames None → length (x ++ p) ≤ 67108864 → TextEnds result old new (frame_lines frames) → OctetsEnd result state old new x (x ++ p)
going_ends result state x p frames old new reader taken b fits ends = by_result result ends
  where
    text : (frame_outcome (x ++ p) false).text ≡ frames_text x ++ frame_lines frames
    text = ap text_of (going (x ++ p) fits b.too_large_is) ∙ brought_text x p frames None b

    by_result : (r : Result (Unit {0}) Status) → TextEnds r old new (frame_lines frames) → OctetsEnd r state old new x (x ++ p)
    by_result (Ok done) ends = (record { reader = reader; taken = taken }, frame_lines frames, brought_text x p frames None b, ends)
    by_result (Err Done) ends = absurd ends
    by_result (Err Refused) ends = absurd ends
    by_result (Err Usage) ends = absurd ends
    by_result (Err ReadFault) ends = absurd ends
    by_result (Err WriteFault) ends = (frame_lines frames, ends.0, text, ends.1)
    by_result (Err NoMemory) ends = (frame_lines frames, text, ends)
    by_result (Err TooLong) ends = absurd ends

-- the reader stopped at a length above the limit
too_large_text : (x p : List ℕ) (frames : List Frame) (n place : ℕ) → Brings x p frames (Some n) → length (x ++ p) ≤ 67108864 → place ≡ place_behind x + frames_size frames → (frame_outcome (x ++ p) false).text ≡ frames_text x ++ (frame_lines frames ++ refused_at 1 place)
too_large_text x p frames n place b fits is =
    ap text_of (too_large (x ++ p) n fits b.too_large_is)
    ∙ ap (λ t. t ++ refused_at 1 (place_behind (x ++ p))) (brought_text x p frames (Some n) b)
    ∙ ap (λ k. (frames_text x ++ frame_lines frames) ++ refused_at 1 k) (brought_place x p frames (Some n) b ∙ sym is)
    ∙ append_assoc (frames_text x) (frame_lines frames) (refused_at 1 place)

pub refused_ends : (state : FramesSoFar) (x p : List ℕ) (frames : List Frame) (n place : ℕ) (old new : Option (List ℕ)) → Brings x p frames (Some n) → length (x ++ p) ≤ 67108864 → place ≡ place_behind x + frames_size frames → Grew old new (frame_lines frames ++ refused_at 1 place) → OctetsEnd (Err Refused) state old new x (x ++ p)
refused_ends state x p frames n place old new b fits is grew =
    (ap stop_of (too_large (x ++ p) n fits b.too_large_is), frame_lines frames ++ refused_at 1 place, too_large_text x p frames n place b fits is, grew)

pub unrefused_ends : (status : Status) (state : FramesSoFar) (x p : List ℕ) (frames : List Frame) (n place : ℕ) (old new : Option (List ℕ)) → Brings x p frames (Some n) → length (x ++ p) ≤ 67108864 → place ≡ place_behind x + frames_size frames → TextEnds (Err status) old new (frame_lines frames ++ refused_at 1 place) → OctetsEnd (Err status) state old new x (x ++ p)
unrefused_ends status state x p frames n place old new b fits is ends = by_status status ends
  where
    by_status : (s : Status) → TextEnds (Err s) old new (frame_lines frames ++ refused_at 1 place) → OctetsEnd (Err s) state old new x (x ++ p)
    by_status Done ends = absurd ends
    by_status Refused ends = absurd ends
    by_status Usage ends = absurd ends
    by_status ReadFault ends = absurd ends
    by_status WriteFault ends = (frame_lines frames ++ refused_at 1 place, ends.0, too_large_text x p frames n place b fits is, ends.1)
    by_status NoMemory ends = (frame_lines frames ++ refused_at 1 place, too_large_text x p frames n place b fits is, ends)
    by_status TooLong ends = absurd ends

-- the reader was lost
pub lost_ends : (state : FramesSoFar) (x p : List ℕ) (told : Option (List ℕ)) → length (x ++ p) ≤ 67108864 → OctetsEnd (Err NoMemory) state told told x (x ++ p)
lost_ends state x p told fits = let m = outcome_more x p fits in (m.0, m.1, refl)

-- a piece that passes the limit of an input
pub record Passes (x piece : List ℕ) (room : ℕ) : Type 0 where
  pub whole : (x ++ take room piece) ++ drop room piece ≡ x ++ piece
  pub full : length (x ++ take room piece) ≡ 67108864
  pub some : 0 < length (drop room piece)

pub passes : (x piece : List ℕ) (room : ℕ) → length x + room ≡ 67108864 → room < length piece → Passes x piece room
passes x piece room fills far = record {
  whole = append_assoc x (take room piece) (drop room piece) ∙ ap (λ xs. x ++ xs) (take-append-drop room piece);
  full = omega (arith, length-append x (take room piece), length-take-le room piece (omega arith), fills);
  some = omega (arith, length-drop room piece, far);
}

pub long_ends : (state : FramesSoFar) (x piece : List ℕ) (room : ℕ) (old new : Option (List ℕ)) → Passes x piece room → OctetsEnd (Ok tt) state old new x (x ++ take room piece) → OctetsEnd (Err TooLong) state old new x (x ++ piece)
long_ends state x piece room old new p ends =
    let e = past_going (x ++ take room piece) (drop room piece) p.full p.some ends.0.reader.going in
    subst (λ xs. OctetsEnd (Err TooLong) state old new x xs) p.whole (ap stop_of e, ends.1, ap text_of e ∙ ends.2, ends.3)

pub never_long : (xs : List ℕ) (o : Option ℕ) → (limited_outcome xs o false false).stop ≡ Some AtLongInput → ⊥
never_long xs None e = cc
never_long xs (Some n) e = cc

pub stopped_ends : (status : Status) (state : FramesSoFar) (x piece : List ℕ) (room : ℕ) (old new : Option (List ℕ)) → Passes x piece room → OctetsEnd (Err status) state old new x (x ++ take room piece) → OctetsEnd (Err status) state old new x (x ++ piece)
stopped_ends status state x piece room old new p ends = subst (λ xs. OctetsEnd (Err status) state old new x xs) p.whole (by_status status ends)
  where
    front : List ℕ
    front = x ++ take room piece

    all : List ℕ
    all = front ++ drop room piece

    same : (frame_outcome all false).text ≡ (frame_outcome front false).text
    same = past_text front (drop room piece) p.full p.some

    by_status : (s : Status) → OctetsEnd (Err s) state old new x front → OctetsEnd (Err s) state old new x all
    by_status Done ends = absurd ends
    by_status Refused ends = (past_stop front (drop room piece) p.full p.some ends.0, ends.1, same ∙ ends.2, ends.3)
    by_status Usage ends = absurd ends
    by_status ReadFault ends = absurd ends
    by_status WriteFault ends = (ends.0, ends.1, same ∙ ends.2, ends.3)
    by_status NoMemory ends = (ends.0, same ∙ ends.1, ends.2)
    by_status TooLong ends =
        let full : length front ≡ 67108864 = p.full in
        absurd (never_long front (too_large_of front) (sym (ap stop_of (within front false (omega (arith, full)))) ∙ ends.0))

-- the end of the input behind whole frames
pub whole_ends : (state : FramesSoFar) (octets : List ℕ) (told : Option (List ℕ)) → Stands state octets → state.taken ≤ 67108864 → length (rest_of octets) ≡ 0 → EndEnds Done told told octets
whole_ends state octets told stands bounded whole =
    let e = ended_whole octets (omega (arith, stands.taken, bounded)) stands.reader.going whole in (ap stop_of e, ap text_of e, refl)

-- the end of the input within a frame
unfinished_text : (octets : List ℕ) → length octets ≤ 67108864 → too_large_of octets ≡ None → 0 < length (rest_of octets) → (place : ℕ) → place ≡ length octets → (frame_outcome octets true).text ≡ frames_text octets ++ refused_at 2 place
unfinished_text octets fits none rest place is = ap text_of (ended_within octets fits none rest) ∙ ap (λ k. frames_text octets ++ refused_at 2 k) (sym is)

pub unfinished_ends : (state : FramesSoFar) (octets : List ℕ) (old new : Option (List ℕ)) → Stands state octets → state.taken ≤ 67108864 → 0 < length (rest_of octets) → Grew old new (refused_at 2 state.taken) → EndEnds Refused old new octets
unfinished_ends state octets old new stands bounded rest grew =
    let fits : length octets ≤ 67108864 = omega (arith, stands.taken, bounded) in
    (ap stop_of (ended_within octets fits stands.reader.going rest), refused_at 2 state.taken, unfinished_text octets fits stands.reader.going rest state.taken stands.taken, grew)

pub unfinished_fails : (status : Status) (state : FramesSoFar) (octets : List ℕ) (old new : Option (List ℕ)) → Stands state octets → state.taken ≤ 67108864 → 0 < length (rest_of octets) → TextEnds (Err status) old new (refused_at 2 state.taken) → EndEnds status old new octets
unfinished_fails status state octets old new stands bounded rest ends = by_status status ends
  where
    fits : length octets ≤ 67108864
    fits = omega (arith, stands.taken, bounded)

    text : (frame_outcome octets true).text ≡ frames_text octets ++ refused_at 2 state.taken
    text = unfinished_text octets fits stands.reader.going rest state.taken stands.taken

    by_status : (s : Status) → TextEnds (Err s) old new (refused_at 2 state.taken) → EndEnds s old new octets
    by_status Done ends = absurd ends
    by_status Refused ends = absurd ends
    by_status Usage ends = ends
    by_status ReadFault ends = ends
    by_status WriteFault ends = (refused_at 2 state.taken, ends.0, text, ends.1)
    by_status NoMemory ends = (refused_at 2 state.taken, text, ends)
    by_status TooLong ends = ends
