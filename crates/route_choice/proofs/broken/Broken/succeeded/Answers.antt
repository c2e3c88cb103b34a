use Rattle.std.proofs.Common.{refl, ap, ◌∙◌}
use Rattle.route_choice.specs.Contents.{kept_failures, newest_moment}
use Rattle.route_choice.specs.Pairs.{are_distinct}
use Rattle.route_choice.specs.FailedRoutes.{failures_in, pairs_of}
use Rattle.route_choice.proofs.Distinct.{distinct_after_success}
use Rattle.route_choice.proofs.Lookups.{after_success_in}
use Rattle.route_choice.proofs.broken.Broken.succeeded.Goals as goal

pub invariant_of-self : goal.invariant_of-self
invariant_of-self c =
    record { distinct = ap (λ fs. are_distinct (pairs_of fs)) c.note_success.ensures ∙ distinct_after_success c.args.origin.now c.args.route.now c.args.self.now.failed.items c.args.self.now.distinct }

pub returns-clause-ended : goal.returns-clause-ended
unfolding kept_failures
returns-clause-ended c = λ o r. ap (λ fs. failures_in fs o r) c.note_success.ensures ∙ after_success_in c.args.origin.now o c.args.route.now r c.args.self.now.failed.items

pub returns-clause-moment : goal.returns-clause-moment
unfolding newest_moment
returns-clause-moment c = refl
