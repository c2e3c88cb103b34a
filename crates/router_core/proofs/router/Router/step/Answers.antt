use Rattle.std.proofs.Common.{refl, sym, ◌∙◌}
use Rattle.route_events.proofs.Runs.{all_wait}
use Rattle.router_core.proofs.Steps.{reason_is, step_runs, sends_only, refuses_only, ok_map, ok_always}
use Rattle.router_core.proofs.WholeSteps.{step_stands}
use Rattle.router_core.proofs.router.Router.step.Goals as goal

pub returns-in-Some-clause-refused : goal.returns-in-Some-clause-refused
returns-in-Some-clause-refused c = (refl, λ journal stands. sym (reason_is c.args.self journal c.args.now.0 c.args.fact stands) ∙ sym c.reason_of-reason.ensures ∙ c.in-Some.is)

pub returns-clause-taken : goal.returns-clause-taken
returns-clause-taken c =
    ok_map _ _ c.take.result
    (λ r becomes. λ journal stands. step_stands c.args.self r.0 r.1 journal c.args.now.0 c.args.fact stands (sym (reason_is c.args.self journal c.args.now.0 c.args.fact stands) ∙ sym c.reason_of-reason.ensures ∙ c.in_default.is) becomes)
    c.take.ensures.ok

pub returns-clause-sent_only_on : goal.returns-clause-sent_only_on
returns-clause-sent_only_on c =
    ok_always _ c.take.result (λ journal stands. sends_only _ (step_runs c.args.self journal c.args.now.0 c.args.fact (sym c.reason_of-reason.ensures ∙ c.in_default.is) stands))

pub returns-clause-refused_only_where : goal.returns-clause-refused_only_where
returns-clause-refused_only_where c =
    ok_always _ c.take.result (λ journal stands. refuses_only _ (step_runs c.args.self journal c.args.now.0 c.args.fact (sym c.reason_of-reason.ensures ∙ c.in_default.is) stands))

pub returns-clause-waits_only_for : goal.returns-clause-waits_only_for
returns-clause-waits_only_for c =
    ok_always _ c.take.result (λ journal stands. all_wait _ (step_runs c.args.self journal c.args.now.0 c.args.fact (sym c.reason_of-reason.ensures ∙ c.in_default.is) stands))
