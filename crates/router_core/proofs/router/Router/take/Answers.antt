use Rattle.std.proofs.Common.{◌≡◌, Option, Result, Ok, Err, IfErr, IsErrAnd, subst}
use Rattle.router_core.specs.declared.fault.StepFault.{StepFault}
use Rattle.router_core.specs.declared.fault.StepFault.TheVariants.{NoMemory}
use Rattle.router_core.specs.declared.question.Question.{Question}
use Rattle.router_core.specs.Asking.{IsAnswered}
use Rattle.router_core.proofs.router.Router.take.Goals as goal

pub returns-clause-ok : goal.returns-clause-ok
returns-clause-ok c = record {
  done = c.in_ok-router.actions;
  parts = c.in_ok-router.ensures;
  answer = c.in_ok-answer.answer;
  answered = subst (λ (asked : Option Question). IsAnswered c.in_ok-router.router asked c.in_ok-answer.answer) c.in_ok-asked.ensures c.in_ok-answer.ensures;
  written = c.in_ok-append_actions.ensures;
}

-- a fault that comes of want of memory
of_memory : {T : Type 0} (r : Result T StepFault) → IsErrAnd r (λ fault. fault ≡ NoMemory) → IfErr r (λ fault. fault ≡ NoMemory)
of_memory (Ok taken) is = tt
of_memory (Err fault) is = is

pub returns-in_err-asked-clause-err : goal.returns-in_err-asked-clause-err
returns-in_err-asked-clause-err c = of_memory c.from_residual.result c.from_residual.ensures.1

pub returns-in_err-answer-clause-err : goal.returns-in_err-answer-clause-err
returns-in_err-answer-clause-err c = of_memory c.from_residual-in_err-answer.result c.from_residual-in_err-answer.ensures.1

pub returns-in_err-append_actions-clause-err : goal.returns-in_err-append_actions-clause-err
returns-in_err-append_actions-clause-err c = of_memory c.from_residual-in_err-append_actions.result c.from_residual-in_err-append_actions.ensures.1
