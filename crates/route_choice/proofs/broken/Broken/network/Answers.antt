use Rattle.std.proofs.Common.{refl, ap}
use Rattle.route_choice.specs.Contents.{kept_failures, newest_moment}
use Rattle.route_choice.specs.FailedRoutes.{failures_in}
use Rattle.route_choice.proofs.broken.Broken.network.Goals as goal

pub returns-clause-ended : goal.returns-clause-ended
unfolding kept_failures
returns-clause-ended c = λ o r. ap (λ fs. failures_in fs o r) c.clear.ensures.items

pub returns-clause-moment : goal.returns-clause-moment
unfolding newest_moment
returns-clause-moment c = refl
