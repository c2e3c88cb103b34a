use Rattle.std.proofs.Common.{refl, ap, ◌∙◌}
use Rattle.route_choice.specs.Contents.{kept_failures, newest_moment}
use Rattle.route_choice.specs.Pairs.{are_distinct}
use Rattle.route_choice.specs.FailedRoutes.{failures_in, pairs_of}
use Rattle.route_choice.proofs.Distinct.{distinct_after_failure}
use Rattle.route_choice.proofs.Lookups.{after_failure_in}
use Rattle.route_choice.proofs.broken.Broken.failed.Goals as goal
use Rattle.alt_base.proofs.Variants.{on_err}

pub returns-in_err-note_failure-clause-as_before : goal.returns-in_err-note_failure-clause-as_before
unfolding kept_failures newest_moment
returns-in_err-note_failure-clause-as_before c =
    on_err c.from_residual.result _ (record { failures = λ o r. ap (λ fs. failures_in fs o r) c.in_err-note_failure.ensures.err; moment = refl })

pub invariant_of-self-2 : goal.invariant_of-self-2
invariant_of-self-2 c =
    record { distinct = ap (λ fs. are_distinct (pairs_of fs)) c.in_ok-note_failure.ensures.ok ∙ distinct_after_failure c.args.now.0 c.args.origin.now c.args.route.now c.args.self.now.failed.items c.args.self.now.distinct }

pub returns-clause-counted : goal.returns-clause-counted
unfolding kept_failures
returns-clause-counted c =
    λ o r. ap (λ fs. failures_in fs o r) c.in_ok-note_failure.ensures.ok ∙ after_failure_in c.args.now.0 c.args.origin.now o c.args.route.now r c.args.self.now.failed.items

pub returns-clause-moment : goal.returns-clause-moment
unfolding newest_moment
returns-clause-moment c = refl
