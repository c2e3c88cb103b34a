use Rattle.std.proofs.Common.{◌≤◌, ℕ, subst}
use Rattle.route_choice.specs.Contents.{newest_moment as newest_failure}
use Rattle.router_core.proofs.PartsDone.{barred_as}
use Rattle.router_core.proofs.router.Router.broken.Goals as goal

pub returns : goal.returns
returns c = record {
  broken = λ journal stands o r at. barred_as c.args.self.now.broken journal o r at (stands.failures o r);
  moment = λ journal stands. subst (λ n. newest_failure c.args.self.now.broken ≤ n) stands.last c.args.self.now.failures_known;
}
