-- How far a run of `show frames` has come, and what octets or the end make of it. Private contracts cite this.
use Rattle.std.specs.Prelude.{◌≡◌, ℕ, ◌+◌, ◌≤◌, true, false, List, [], ◌∷◌, ◌++◌, length, take, Option, Some, None, Result, Ok, Err}
use Rattle.alt_base.specs.Devices.{Grew}
use Rattle.h2_framing.specs.declared.frame.Frame.{Frame}
use Rattle.h2_framing.specs.declared.frame.Frame.TheVariants.{Kept, Passed}
use Rattle.h2_framing.specs.Reading.{StandsFor}
use Rattle.altroute_show.specs.declared.frames_so_far.FramesSoFar.{FramesSoFar}
use Rattle.altroute_show.specs.declared.status.Status.{Status}
use Rattle.altroute_show.specs.declared.status.Status.TheVariants.{Done, Refused, Usage, ReadFault, WriteFault, NoMemory, TooLong}
use Rattle.altroute_show.specs.FrameOutcome.{AtTooLarge, AtUnfinished, AtLongInput, frames_text, frame_outcome}
use Rattle.altroute_show.specs.Seen.{Seen, Moves, NoFault}
use Rattle.altroute_show.specs.FrameEnds.{FrameEnds}

-- the state stands for the octets taken so far
pub record Stands (state : FramesSoFar) (octets : List ℕ) : Type 0 where
  pub reader : StandsFor state.reader octets
  pub taken : state.taken ≡ length octets

-- the state stands for some octets
abbrev pub StandsForSome : FramesSoFar → Type 0
StandsForSome state = (octets : List ℕ) × Stands state octets

-- how many octets a frame has
abbrev pub frame_size : Frame → ℕ
frame_size (Kept head payload) = 9 + head.length
frame_size (Passed head) = 9 + head.length

abbrev pub frames_size : List Frame → ℕ
frames_size [] = 0
frames_size (frame ∷ frames) = frame_size frame + frames_size frames

-- the payload of each frame is within the limit of a frame
abbrev pub IsShort : Frame → Type 0
IsShort (Kept head payload) = length payload ≤ 16384
IsShort (Passed head) = Unit {0}

abbrev pub AreShort : List Frame → Type 0
AreShort [] = Unit {0}
AreShort (frame ∷ frames) = IsShort frame × AreShort frames

-- what writing a text says: all of it, a front of it, or nothing for want of memory
abbrev pub TextEnds : Result (Unit {0}) Status → Option (List ℕ) → Option (List ℕ) → List ℕ → Type 0
TextEnds (Ok done) old new text = Grew old new text
TextEnds (Err WriteFault) old new text = (n : ℕ) × Grew old new (take n text)
TextEnds (Err NoMemory) old new text = new ≡ old
TextEnds (Err Done) old new text = ⊥
TextEnds (Err Refused) old new text = ⊥
TextEnds (Err Usage) old new text = ⊥
TextEnds (Err ReadFault) old new text = ⊥
TextEnds (Err TooLong) old new text = ⊥

-- what further octets make of the text behind those of before; octets are all with them
abbrev pub OctetsEnd : Result (Unit {0}) Status → FramesSoFar → Option (List ℕ) → Option (List ℕ) → List ℕ → List ℕ → Type 0
OctetsEnd (Ok done) state old new before octets = Stands state octets × (more : List ℕ) × (frames_text octets ≡ frames_text before ++ more) × Grew old new more
OctetsEnd (Err Refused) state old new before octets = ((frame_outcome octets false).stop ≡ Some AtTooLarge) × (more : List ℕ) × ((frame_outcome octets false).text ≡ frames_text before ++ more) × Grew old new more
OctetsEnd (Err TooLong) state old new before octets = ((frame_outcome octets false).stop ≡ Some AtLongInput) × (more : List ℕ) × ((frame_outcome octets false).text ≡ frames_text before ++ more) × Grew old new more
OctetsEnd (Err WriteFault) state old new before octets = (more : List ℕ) × (n : ℕ) × ((frame_outcome octets false).text ≡ frames_text before ++ more) × Grew old new (take n more)
OctetsEnd (Err NoMemory) state old new before octets = (more : List ℕ) × ((frame_outcome octets false).text ≡ frames_text before ++ more) × (new ≡ old)
OctetsEnd (Err Done) state old new before octets = ⊥
OctetsEnd (Err Usage) state old new before octets = ⊥
OctetsEnd (Err ReadFault) state old new before octets = ⊥

-- what the end of the input makes of the text
abbrev pub EndEnds : Status → Option (List ℕ) → Option (List ℕ) → List ℕ → Type 0
EndEnds Done old new octets = ((frame_outcome octets true).stop ≡ None) × ((frame_outcome octets true).text ≡ frames_text octets) × (new ≡ old)
EndEnds Refused old new octets = ((frame_outcome octets true).stop ≡ Some AtUnfinished) × (more : List ℕ) × ((frame_outcome octets true).text ≡ frames_text octets ++ more) × Grew old new more
EndEnds WriteFault old new octets = (more : List ℕ) × (n : ℕ) × ((frame_outcome octets true).text ≡ frames_text octets ++ more) × Grew old new (take n more)
EndEnds NoMemory old new octets = (more : List ℕ) × ((frame_outcome octets true).text ≡ frames_text octets ++ more) × (new ≡ old)
EndEnds Usage old new octets = ⊥
EndEnds ReadFault old new octets = ⊥
EndEnds TooLong old new octets = ⊥

-- from a start, these octets were taken and the lines of their whole frames written, without a fault
pub record FramesRun (state : FramesSoFar) (first now : Seen) (octets : List ℕ) : Type 0 where
  pub stands : Stands state octets
  pub moves : Moves first now octets (frames_text octets)
  pub no_fault : NoFault first now

abbrev pub HaveRun : FramesSoFar → Seen → Seen → Type 0
HaveRun state first now = (octets : List ℕ) × FramesRun state first now octets

-- a turn that goes on, or the end
abbrev pub FrameTurn : Option Status → FramesSoFar → Seen → Seen → Type 0
FrameTurn None state first now = HaveRun state first now
FrameTurn (Some status) state first now = FrameEnds status first now
