-- What both ends took, or refused, is what the history says.
use Rattle.std.proofs.Common.{◌≡◌, ℕ, List, Result, Ok, Err, IfOk, IfErr}
use Rattle.alt_base.specs.declared.refusal.NoMemory.{NoMemory}
use Rattle.event_lines.specs.declared.event.Event.{Event}
use Rattle.both_ends.specs.Histories.{History, event_refusal}
use Rattle.both_ends.specs.StandsFor.{StandsFor, Takes, Refuses}
use Rattle.both_ends.specs.declared.both_ends.BothEnds.{BothEnds}
use Rattle.both_ends.specs.declared.fault.EndFault.{EndFault}
use Rattle.both_ends.specs.declared.fault.EndFault.TheVariants as fault
use Rattle.both_ends.specs.declared.output.Output.{Output}
use Rattle.altroute_program.specs.declared.answers.Answer.{Answer}
use Rattle.altroute_program.specs.Outcome.{after_taking}
use Rattle.altroute_program.specs.Reached.{AnswersSo, IsTakenSo}

taken_so : (taken : Result (BothEnds × Output) EndFault) (ends : BothEnds) (h : History) (now : ℕ) (event : Event) → IfOk taken (λ (r : BothEnds × Output). (g : History) → StandsFor ends g → Takes r.0 r.1 g now event)
    → IfErr taken (λ f. Refuses ends now event f) → StandsFor ends h → IsTakenSo taken h now event
taken_so (Ok r) ends h now event takes refuses stands = takes h stands
taken_so (Err fault.NoMemory) ends h now event takes refuses stands = tt
taken_so (Err (fault.Refused reason)) ends h now event takes refuses stands = refuses h stands

-- so the answer to the event is the line's
pub answers_so : (answered : Result Answer NoMemory) (taken : Result (BothEnds × Output) EndFault) (ends : BothEnds) (number now : ℕ) (event : Event)
    → IfOk answered (λ a. (text : List ℕ) (h : History) (at : ℕ) (e : Event) → IsTakenSo taken h at e → AnswersSo a text number (after_taking text h number at e (event_refusal h at e)))
    → IfOk taken (λ (r : BothEnds × Output). (g : History) → StandsFor ends g → Takes r.0 r.1 g now event) → IfErr taken (λ f. Refuses ends now event f)
    → IfOk answered (λ a. (text : List ℕ) (h : History) → StandsFor ends h → AnswersSo a text number (after_taking text h number now event (event_refusal h now event)))
answers_so (Ok a) taken ends number now event answers takes refuses = λ text h stands. answers text h now event (taken_so taken ends h now event takes refuses stands)
answers_so (Err memory) taken ends number now event answers takes refuses = tt
