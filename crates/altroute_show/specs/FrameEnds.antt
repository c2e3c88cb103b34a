-- What each status of `show frames` says.
use Rattle.std.specs.Prelude.{◌⊎◌, true, false, List, ℕ}
use Rattle.altroute_show.specs.declared.status.Status.{Status}
use Rattle.altroute_show.specs.declared.status.Status.TheVariants.{Done, Refused, Usage, ReadFault, WriteFault, NoMemory, TooLong}
use Rattle.altroute_show.specs.Seen.{Seen}
use Rattle.altroute_show.specs.Ends.{IsDone, IsStopped, IsReadFault, IsWriteFault, IsNoMemory, IsCompleteFor}
use Rattle.altroute_show.specs.FrameOutcome.{AtTooLarge, AtUnfinished, AtLongInput, frame_outcome}

-- the statuses of `show frames`: the end of the input within a frame refuses it only where the source answered its end
abbrev pub FrameEnds : Status → Seen → Seen → Type 0
FrameEnds Done old new = (octets : List ℕ) × IsDone frame_outcome old new octets
FrameEnds Refused old new = (octets : List ℕ) × (IsStopped frame_outcome old new octets false AtTooLarge ⊎ IsStopped frame_outcome old new octets true AtUnfinished)
FrameEnds Usage old new = ⊥
FrameEnds ReadFault old new = (octets : List ℕ) × IsReadFault frame_outcome old new octets
FrameEnds WriteFault old new = IsWriteFault frame_outcome old new
FrameEnds NoMemory old new = IsNoMemory frame_outcome old new
FrameEnds TooLong old new = (octets : List ℕ) × IsStopped frame_outcome old new octets false AtLongInput

-- told input that is whole frames is done where neither device fails, or memory isn't found
abbrev pub AreComplete : Status → Seen → Seen → Type 0
AreComplete status old new = IsCompleteFor frame_outcome status old new
