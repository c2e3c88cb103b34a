-- What `replay` writes for the bytes that it took, and where it stops.
use Rattle.std.specs.Prelude.{ℕ, ◌+◌, Bool, ◌&&◌, nat_lt, nat_le, List, [], ◌∷◌, ◌++◌, length, take, Option, Some, None, Result, Ok, Err, if◌then◌else◌}
use Rattle.alt_base.specs.declared.refusal.At.{At}
use Rattle.both_ends.specs.Histories.{History, event_refusal, server_output, client_actions}
use Rattle.both_ends.specs.declared.fault.EndRefusal.{EndRefusal}
use Rattle.event_lines.specs.declared.event.Event.{Event}
use Rattle.event_lines.specs.declared.event.Event.TheVariants.{Client, Server, Skip}
use Rattle.event_lines.specs.declared.refusal.LineRefusal.{LineRefusal}
use Rattle.event_lines.specs.LineReading.{line_reading}
use Rattle.altroute_program.specs.Lines.{cut_lines, lines_of}
use Rattle.altroute_program.specs.Texts.{output_text, refused_line, end_refusal_text, line_refusal_text}

-- why a run stops before its end: a refused line, a line's byte 65,537, the input's byte 67,108,865
pub data Stop : Type 0 where
  AtRefused : Stop
  AtLongLine : Stop
  AtLongInput : Stop

-- how far the lines so far have come: the text, the history of both ends and the number of lines, or the text and the stop
pub data Progress : Type 0 where
  Going : (text : List ℕ) (history : History) (lines : ℕ) → Progress
  Stopped : (text : List ℕ) (why : Stop) → Progress

-- an event goes into the history, with what both ends give for it, or is refused
abbrev pub after_taking : List ℕ → History → ℕ → ℕ → Event → Option EndRefusal → Progress
after_taking text history number now event None =
    Going (text ++ output_text (server_output history event) (client_actions history now event)) ((now, event) ∷ history) number
after_taking text history number now event (Some reason) = Stopped (text ++ refused_line number (end_refusal_text reason)) AtRefused

abbrev pub after_event : List ℕ → History → ℕ → ℕ → Event → Progress
after_event text history number now Skip = Going text history number
after_event text history number now (Client fact) = after_taking text history number now (Client fact) (event_refusal history now (Client fact))
after_event text history number now (Server act) = after_taking text history number now (Server act) (event_refusal history now (Server act))

abbrev pub after_reading : List ℕ → History → ℕ → Result (ℕ × Event) (At LineRefusal) → Progress
after_reading text history number (Ok read) = after_event text history number read.0 read.1
after_reading text history number (Err at) = Stopped (text ++ refused_line number (line_refusal_text at)) AtRefused

-- a line is acted on, where it isn't too long
abbrev pub act : Progress → List ℕ → Progress
act (Stopped text why) line = Stopped text why
act (Going text history lines) line = if nat_lt 65536 (length line) then Stopped text AtLongLine else after_reading text history (lines + 1) (line_reading line)

abbrev pub act_all : Progress → List (List ℕ) → Progress
act_all p [] = p
act_all p (line ∷ lines) = act_all (act p line) lines

abbrev pub start : Progress
start = Going [] [] 0

-- a rest or an input that is too long stops what no line stopped
abbrev pub limited : Progress → List ℕ → ℕ → Progress
limited (Stopped text why) rest taken = Stopped text why
limited (Going text history lines) rest taken =
    if nat_lt 65536 (length rest) then Stopped text AtLongLine else (if nat_lt 67108864 taken then Stopped text AtLongInput else Going text history lines)

-- the outcome for the bytes taken, and whether the input ended behind them
abbrev pub outcome : List ℕ → Bool → Progress
outcome bytes ended =
    let c = cut_lines (take 67108864 bytes) in
    limited (act_all start (lines_of c (ended && nat_le (length bytes) 67108864))) c.rest (length bytes)

abbrev pub text_of : Progress → List ℕ
text_of (Going text history lines) = text
text_of (Stopped text why) = text

abbrev pub stop_of : Progress → Option Stop
stop_of (Going text history lines) = None
stop_of (Stopped text why) = Some why
