-- How far a run has come, and what a line, a byte, a piece or the end makes of it. Private contracts cite this.
use Rattle.std.specs.Prelude.{◌≡◌, ◌⊎◌, ℕ, ◌≤◌, true, false, List, ◌++◌, length, take, Option, Some, None, Result, Ok, Err}
use Rattle.alt_base.specs.Devices.{Grew}
use Rattle.event_lines.specs.declared.event.Event.{Event}
use Rattle.both_ends.specs.Histories.{History, event_refusal}
use Rattle.both_ends.specs.StandsFor.{StandsFor, Takes}
use Rattle.both_ends.specs.declared.fault.EndFault.{EndFault}
use Rattle.both_ends.specs.declared.fault.EndFault.TheVariants as fault
use Rattle.both_ends.specs.declared.output.Output.{Output}
use Rattle.both_ends.specs.declared.both_ends.BothEnds.{BothEnds}
use Rattle.altroute_program.specs.declared.state.Replay.{Replay}
use Rattle.altroute_show.specs.declared.status.Status.{Status}
use Rattle.altroute_show.specs.declared.status.Status.TheVariants.{Done, Refused, Usage, ReadFault, WriteFault, NoMemory, TooLong}
use Rattle.altroute_program.specs.declared.answers.Answer.{Answer}
use Rattle.altroute_program.specs.declared.answers.Answer.TheVariants as answer
use Rattle.altroute_program.specs.Lines.{cut_lines}
use Rattle.altroute_program.specs.Outcome.{Progress, Going, Stopped, AtRefused, AtLongLine, AtLongInput, act_all, start, outcome, text_of, stop_of}
use Rattle.altroute_show.specs.Seen.{Seen, Moves, NoFault}
use Rattle.altroute_program.specs.Ends.{ReplayEnds}

-- both ends took an event, or refused it, as the history says
abbrev pub IsTakenSo : Result (BothEnds × Output) EndFault → History → ℕ → Event → Type 0
IsTakenSo (Ok taken) h now event = Takes taken.0 taken.1 h now event
IsTakenSo (Err fault.NoMemory) h now event = Unit {0}
IsTakenSo (Err (fault.Refused reason)) h now event = event_refusal h now event ≡ Some reason

-- what an answer to a line says of the progress that the line makes
abbrev pub AnswersSo : Answer → List ℕ → ℕ → Progress → Type 0
AnswersSo (answer.Goes ends more) text number p = (h : History) × (p ≡ Going (text ++ more.items) h number) × StandsFor ends h
AnswersSo (answer.Refused more) text number p = p ≡ Stopped (text ++ more.items) AtRefused

-- what a line makes of the text and the progress
abbrev pub LineEnds : Result BothEnds Status → Option (List ℕ) → Option (List ℕ) → List ℕ → ℕ → Progress → Type 0
LineEnds (Ok ends) old new text number p = (more : List ℕ) × (h : History) × (p ≡ Going (text ++ more) h number) × StandsFor ends h × Grew old new more
LineEnds (Err Refused) old new text number p = (more : List ℕ) × (p ≡ Stopped (text ++ more) AtRefused) × Grew old new more
LineEnds (Err WriteFault) old new text number p = (more : List ℕ) × (n : ℕ) × (text_of p ≡ text ++ more) × Grew old new (take n more)
LineEnds (Err NoMemory) old new text number p = new ≡ old
LineEnds (Err Done) old new text number p = ⊥
LineEnds (Err Usage) old new text number p = ⊥
LineEnds (Err ReadFault) old new text number p = ⊥
LineEnds (Err TooLong) old new text number p = ⊥

-- the state stands for the bytes taken so far
pub record Reached (replay : Replay) (bytes text : List ℕ) (h : History) : Type 0 where
  pub progress : act_all start (cut_lines bytes).whole ≡ Going text h replay.lines
  pub stands : StandsFor replay.ends h
  pub line : replay.line ≡ (cut_lines bytes).rest
  pub taken : replay.taken ≡ length bytes
  pub short : length replay.line ≤ 65536

-- a stop that is no refusal
abbrev pub IsTooLong : Progress → List ℕ → Type 0
IsTooLong p text = (p ≡ Stopped text AtLongLine) ⊎ (p ≡ Stopped text AtLongInput)

-- what one more byte, or one more piece, makes of the text; bytes are those with it
abbrev pub BytesEnd : Result (Unit {0}) Status → Replay → Option (List ℕ) → Option (List ℕ) → List ℕ → List ℕ → Type 0
BytesEnd (Ok done) replay old new bytes text = (more : List ℕ) × (k : History) × Reached replay bytes (text ++ more) k × Grew old new more
BytesEnd (Err Refused) replay old new bytes text = (more : List ℕ) × (outcome bytes false ≡ Stopped (text ++ more) AtRefused) × Grew old new more
BytesEnd (Err TooLong) replay old new bytes text = (more : List ℕ) × IsTooLong (outcome bytes false) (text ++ more) × Grew old new more
BytesEnd (Err WriteFault) replay old new bytes text = (more : List ℕ) × (n : ℕ) × (text_of (outcome bytes false) ≡ text ++ more) × Grew old new (take n more)
BytesEnd (Err NoMemory) replay old new bytes text = (more : List ℕ) × (n : ℕ) × (text_of (outcome bytes false) ≡ text ++ more) × Grew old new (take n more)
BytesEnd (Err Done) replay old new bytes text = ⊥
BytesEnd (Err Usage) replay old new bytes text = ⊥
BytesEnd (Err ReadFault) replay old new bytes text = ⊥

-- what the end of the input makes of the text
abbrev pub FinishEnds : Status → Option (List ℕ) → Option (List ℕ) → List ℕ → List ℕ → Type 0
FinishEnds Done old new bytes text = (more : List ℕ) × (stop_of (outcome bytes true) ≡ None) × (text_of (outcome bytes true) ≡ text ++ more) × Grew old new more
FinishEnds Refused old new bytes text = (more : List ℕ) × (stop_of (outcome bytes true) ≡ Some AtRefused) × (text_of (outcome bytes true) ≡ text ++ more) × Grew old new more
FinishEnds Usage old new bytes text = ⊥
FinishEnds ReadFault old new bytes text = ⊥
FinishEnds WriteFault old new bytes text = (more : List ℕ) × (n : ℕ) × (text_of (outcome bytes true) ≡ text ++ more) × Grew old new (take n more)
FinishEnds NoMemory old new bytes text = (more : List ℕ) × (text_of (outcome bytes true) ≡ text ++ more) × (new ≡ old)
FinishEnds TooLong old new bytes text = ⊥

-- the status after the last line
abbrev pub status_after : Result BothEnds Status → Status
status_after (Ok ends) = Done
status_after (Err status) = status

-- from a start, these bytes were taken and this text was written, without a fault
pub record Runs (replay : Replay) (first now : Seen) (bytes text : List ℕ) (h : History) : Type 0 where
  pub reached : Reached replay bytes text h
  pub moves : Moves first now bytes text
  pub no_fault : NoFault first now

abbrev pub HasRun : Replay → Seen → Seen → Type 0
HasRun replay first now = (bytes : List ℕ) × (text : List ℕ) × (h : History) × Runs replay first now bytes text h

-- a turn that goes on, or the end
abbrev pub TurnEnds : Option Status → Replay → Seen → Seen → Type 0
TurnEnds None replay first now = HasRun replay first now
TurnEnds (Some status) replay first now = ReplayEnds status first now
