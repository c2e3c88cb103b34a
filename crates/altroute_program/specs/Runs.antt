-- What each status of a run says, by the command.
use Rattle.std.specs.Prelude.{◌≡◌, Option, Some, None}
use Rattle.altroute_show.specs.declared.status.Status.{Status}
use Rattle.altroute_show.specs.declared.status.Status.TheVariants.{Usage}
use Rattle.altroute_show.specs.Seen.{Seen}
use Rattle.altroute_show.specs.Ends.{IsCompleteFor}
use Rattle.altroute_show.specs.FrameEnds.{FrameEnds, AreComplete}
use Rattle.altroute_show.specs.Given.{given_for}
use Rattle.altroute_show.specs.WholeInput.{WholeEnds, IsWholeComplete}
use Rattle.altroute_program.specs.declared.command.Command.{Command}
use Rattle.altroute_program.specs.declared.command.Command.TheVariants.{Replay, ShowFrames, Whole}
use Rattle.altroute_program.specs.Ends.{owed, ReplayEnds}

-- the statuses of a run: where the words are no command, nothing is read or written
abbrev pub RunEnds : Option Command → Status → Seen → Seen → Type 0
RunEnds (Some Replay) status old new = ReplayEnds status old new
RunEnds (Some ShowFrames) status old new = FrameEnds status old new
RunEnds (Some (Whole command)) status old new = WholeEnds (given_for command) status old new
RunEnds None status old new = (status ≡ Usage) × (new ≡ old)

-- a run is done, where its input is valid and neither device fails, or memory isn't found
abbrev pub IsComplete : Option Command → Status → Seen → Seen → Type 0
IsComplete (Some Replay) status old new = IsCompleteFor owed status old new
IsComplete (Some ShowFrames) status old new = AreComplete status old new
IsComplete (Some (Whole command)) status old new = IsWholeComplete (given_for command) status old new
IsComplete None status old new = Unit {0}
