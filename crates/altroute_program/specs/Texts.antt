-- The texts that a replay writes.
use Rattle.std.specs.Prelude.{ℕ, List, [], ◌∷◌, ◌++◌, codes}
use Rattle.std.specs.Fmt.{decimal}
use Rattle.alt_base.specs.declared.refusal.At.{At}
use Rattle.route_events.specs.declared.action.Action.{Action}
use Rattle.route_events.specs.declared.refusal.StepRefusal.{StepRefusal}
use Rattle.route_events.specs.declared.refusal.StepRefusal.TheVariants.{Spent, TimeBack, NumberNotAbove, NoSuchAttempt, NoSuchConn, NotFramed, NoSuchRequest}
use Rattle.event_lines.specs.declared.refusal.LineRefusal.{LineRefusal}
use Rattle.event_lines.specs.declared.refusal.LineRefusal.TheVariants.{BadMoment, UnknownKind, BadField, ExtraField}
use Rattle.event_lines.specs.ActionTexts.{action_text}
use Rattle.advertiser_core.specs.declared.answer.Answer.{Answer}
use Rattle.advertiser_core.specs.declared.answer.Answer.TheVariants.{Serve, Misdirected}
use Rattle.both_ends.specs.declared.fault.EndRefusal.{EndRefusal}
use Rattle.both_ends.specs.declared.fault.EndRefusal.TheVariants as refused
use Rattle.both_ends.specs.declared.output.ServerOutput.{ServerOutput}
use Rattle.both_ends.specs.declared.output.ServerOutput.TheVariants.{Nothing, Made, Answered}
use Rattle.both_ends.specs.Refusals.{refusal_number}

-- the lines of some actions
abbrev pub actions_text : List Action → List ℕ
actions_text [] = []
actions_text (a ∷ as') = (action_text a ++ codes "\n") ++ actions_text as'

-- the line that says why a line is refused
abbrev pub refused_line : ℕ → List ℕ → List ℕ
refused_line number why = codes "refused " ++ decimal number ++ why ++ codes "\n"

-- the refusals of a step, by their numbers; those of time and of a request's number with the value that stands
abbrev pub step_refusal_text : StepRefusal → List ℕ
step_refusal_text (TimeBack last) = codes " step 1 last " ++ decimal last.0
step_refusal_text (NumberNotAbove last) = codes " step 2 last " ++ decimal last
step_refusal_text NoSuchAttempt = codes " step 3"
step_refusal_text NoSuchConn = codes " step 4"
step_refusal_text NoSuchRequest = codes " step 5"
step_refusal_text NotFramed = codes " step 6"
step_refusal_text (Spent facts) = codes " step 7"

-- the refusals of a line, by their numbers, with the place
abbrev pub line_refusal_number : LineRefusal → ℕ
line_refusal_number BadMoment = 1
line_refusal_number UnknownKind = 2
line_refusal_number BadField = 3
line_refusal_number ExtraField = 4

abbrev pub line_refusal_text : At LineRefusal → List ℕ
line_refusal_text at = codes " line " ++ decimal (line_refusal_number at.reason) ++ codes " at " ++ decimal at.place

-- the refusals of both ends
abbrev pub end_refusal_text : EndRefusal → List ℕ
end_refusal_text (refused.Server reason) = codes " server " ++ decimal (refusal_number reason)
end_refusal_text (refused.Step reason) = step_refusal_text reason

-- the line of a message that was made, and of a request that the server answered
abbrev pub message_line : ℕ → List ℕ
message_line number = codes "message " ++ decimal number ++ codes "\n"

abbrev pub answer_word : Answer → List ℕ
answer_word Serve = codes "serve"
answer_word Misdirected = codes "misdirect"

abbrev pub answered_line : ℕ → Answer → List ℕ
answered_line request answer = codes "answered " ++ decimal request ++ codes " " ++ answer_word answer ++ codes "\n"

-- an answer stands in front of the client's actions, a message behind them
abbrev pub output_text : ServerOutput → List Action → List ℕ
output_text Nothing actions = actions_text actions
output_text (Made number) actions = actions_text actions ++ message_line number
output_text (Answered request answer) actions = answered_line request answer ++ actions_text actions
