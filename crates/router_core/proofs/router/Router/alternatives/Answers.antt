use Rattle.std.proofs.Common.{◌≡◌, filter, subst}
use Rattle.network_cache.specs.Contents.{kept}
use Rattle.network_cache.specs.Freshness.{is_fresh}
use Rattle.router_core.proofs.router.Router.alternatives.Goals as goal

pub returns-clause-none_ended : goal.returns-clause-none_ended
returns-clause-none_ended c = λ journal stands o.
    subst (λ n. filter (is_fresh n) (kept c.args.self.now.alternatives o) ≡ kept c.args.self.now.alternatives o) stands.last (stands.none_ended o)
