-- What each step of a reader does to the octets that it keeps.
use Rattle.std.specs.Prelude.{◌≡◌, ◌≤◌, ◌<◌, ◌+◌, ◌-◌, ℕ, min, if◌then◌else◌, List, [], ◌∷◌, ◌++◌, length, take, drop, Option, Some, None}
use Rattle.h2_framing.specs.declared.head.Head.{Head}
use Rattle.h2_framing.specs.declared.frame.Frame.{Frame}
use Rattle.h2_framing.specs.declared.reader.FrameReader.{FrameReader}
use Rattle.h2_framing.specs.declared.fed.Fed.{Fed}
use Rattle.h2_framing.specs.declared.fed.Fed.TheVariants.{Going, TooLarge}
use Rattle.h2_framing.specs.declared.continued.Continued.{Continued}
use Rattle.h2_framing.specs.declared.continued.Continued.TheVariants.{Unfinished, Whole, TooLarge as ContinuedTooLarge}
use Rattle.h2_framing.specs.declared.whole_frames.FramesEnd.{FramesEnd}
use Rattle.h2_framing.specs.declared.whole_frames.FramesEnd.TheVariants.{Rest, TooLarge as EndTooLarge}
use Rattle.h2_framing.specs.Frames.{is_kept, IsFrame, AreFrames, IsUnfinished, IsTooLarge}
use Rattle.h2_framing.specs.Reading.{Keeps}

-- the whole frames at the front of some octets were appended
abbrev pub AppendsFrames : FramesEnd → List ℕ → List Frame → List Frame → Type 0
AppendsFrames (Rest place) octets old new = (place ≤ length octets) × (frames : List Frame) × (new ≡ old ++ frames) × AreFrames octets frames (drop place octets) × IsUnfinished (drop place octets)
AppendsFrames (EndTooLarge n) octets old new = (frames : List Frame) × (new ≡ old ++ frames) × (rest : List ℕ) × AreFrames octets frames rest × IsTooLarge rest n

-- so many octets were taken until the head is whole
pub record FillsHead (count : ℕ) (old new : FrameReader) (piece : List ℕ) : Type 0 where
  pub count_is : count ≡ min (9 - length old.buffer.items) (length piece)
  pub held : new.buffer.items ≡ old.buffer.items ++ take count piece
  pub skipped : new.skipped ≡ old.skipped

-- more octets of a payload of this kind were held, or only counted
pub record TakesMore (kind : ℕ) (old new : FrameReader) (octets : List ℕ) : Type 0 where
  pub held : new.buffer.items ≡ (if is_kept kind then old.buffer.items ++ octets else old.buffer.items)
  pub skipped : new.skipped ≡ (if is_kept kind then old.skipped else old.skipped + length octets)

-- what a piece gives that begins with a frame's head
abbrev pub FedFromHead : Fed → List Frame → List ℕ → Type 0
FedFromHead (Going reader new) old piece = (frames : List Frame) × (new ≡ old ++ frames) × (rest : List ℕ) × AreFrames piece frames rest × IsUnfinished rest × Keeps reader.buffer.items reader.skipped rest
FedFromHead (TooLarge new n) old piece = (frames : List Frame) × (new ≡ old ++ frames) × (rest : List ℕ) × AreFrames piece frames rest × IsTooLarge rest n

-- what a piece gives to the payload of an unfinished frame: all of it goes into the payload, or its first n octets end the frame
abbrev pub ContinuesPayload : Option ℕ → Head → FrameReader → FrameReader → List Frame → List Frame → List ℕ → Type 0
ContinuesPayload None head old new before after piece = (after ≡ before)
    × ((rest : List ℕ) → Keeps old.buffer.items old.skipped rest → 9 ≤ length rest → length rest ≤ 9 + head.length → Keeps new.buffer.items new.skipped (rest ++ piece) × (length (rest ++ piece) < 9 + head.length))
ContinuesPayload (Some n) head old new before after piece = (n ≤ length piece) × (new.buffer.items ≡ [])
    × ((rest : List ℕ) → Keeps old.buffer.items old.skipped rest → 9 ≤ length rest → length rest ≤ 9 + head.length → (frame : Frame) × (after ≡ before ++ frame ∷ []) × IsFrame (rest ++ take n piece) frame)

-- what a piece gives to an unfinished frame
abbrev pub ContinuesFrame : Continued → FrameReader → FrameReader → List Frame → List Frame → List ℕ → Type 0
ContinuesFrame Unfinished old new before after piece = (rest : List ℕ) → Keeps old.buffer.items old.skipped rest → IsUnfinished rest → (after ≡ before) × Keeps new.buffer.items new.skipped (rest ++ piece) × IsUnfinished (rest ++ piece)
ContinuesFrame (Whole n) old new before after piece = (n ≤ length piece) × (new.buffer.items ≡ [])
    × ((rest : List ℕ) → Keeps old.buffer.items old.skipped rest → IsUnfinished rest → (frame : Frame) × (after ≡ before ++ frame ∷ []) × IsFrame (rest ++ take n piece) frame)
ContinuesFrame (ContinuedTooLarge n) old new before after piece = (rest : List ℕ) → Keeps old.buffer.items old.skipped rest → IsUnfinished rest → (after ≡ before) × IsTooLarge (rest ++ piece) n
