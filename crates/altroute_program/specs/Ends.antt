-- What each status of `replay` says.
use Rattle.std.specs.Prelude.{◌⊎◌, ℕ, Bool, false, List}
use Rattle.altroute_show.specs.declared.status.Status.{Status}
use Rattle.altroute_show.specs.declared.status.Status.TheVariants.{Done, Refused, Usage, ReadFault, WriteFault, NoMemory, TooLong}
use Rattle.altroute_show.specs.Seen.{Seen}
use Rattle.altroute_show.specs.Ends.{Outcome, IsDone, IsStopped, IsReadFault, IsWriteFault, IsNoMemory}
use Rattle.altroute_program.specs.Outcome.{Stop, AtRefused, AtLongLine, AtLongInput, outcome, text_of, stop_of}

-- what a replay owes for the bytes that it took, and whether the input ended behind them
abbrev pub owed : List ℕ → Bool → Outcome Stop
owed bytes ended = record { text = text_of (outcome bytes ended); stop = stop_of (outcome bytes ended) }

-- the statuses of `replay`
abbrev pub ReplayEnds : Status → Seen → Seen → Type 0
ReplayEnds Done old new = (bytes : List ℕ) × IsDone owed old new bytes
ReplayEnds Refused old new = (bytes : List ℕ) × (ended : Bool) × IsStopped owed old new bytes ended AtRefused
ReplayEnds Usage old new = ⊥
ReplayEnds ReadFault old new = (bytes : List ℕ) × IsReadFault owed old new bytes
ReplayEnds WriteFault old new = IsWriteFault owed old new
ReplayEnds NoMemory old new = IsNoMemory owed old new
ReplayEnds TooLong old new = (bytes : List ℕ) × (IsStopped owed old new bytes false AtLongLine ⊎ IsStopped owed old new bytes false AtLongInput)
