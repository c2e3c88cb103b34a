use Rattle.std.proofs.Common.{◌≡◌, ◌∙◌, ap, subst}
use Rattle.std.specs.Prelude.{OnOk}
use Rattle.request_dispatch.specs.declared.choice.Choice.{Choice}
use Rattle.request_dispatch.specs.Looks.{look_by}
use Rattle.request_dispatch.specs.Asked.{Asked, asked_by}
use Rattle.request_dispatch.specs.Choices.{choice}
use Rattle.request_dispatch.specs.StepStates.{by_choice}
use Rattle.request_dispatch.proofs.settling.settle_one.Goals as goal

pub choose-requires-clause-asked : goal.choose-requires-clause-asked
choose-requires-clause-asked c = ap (λ (k : Asked). k.origin) c.in_ok-addresses.ensures ∙ c.in_ok-origin.ensures

pub apply-requires-clause-asked : goal.apply-requires-clause-asked
apply-requires-clause-asked c = ap (λ (k : Asked). k.origin) c.in_ok-addresses.ensures ∙ c.in_ok-origin.ensures

pub returns : goal.returns
returns c =
    let state = c.args.state.now in
    let waiting = c.args.waiting in
    let chosen = subst (λ (ch : Choice). OnOk c.apply.result (c.apply.new.state ≡ by_choice (asked_by c.in_ok-addresses.addresses).is_address state waiting ch)) c.in_ok-choice.ensures c.apply.ensures in
    subst
    (λ (k : Asked). OnOk c.apply.result (c.apply.new.state ≡ by_choice k.is_address state waiting (choice (look_by c.args.cache.now c.args.broken.now c.args.answers.now c.args.now.0 k.is_address) state.tables waiting)))
    c.in_ok-addresses.ensures chosen
