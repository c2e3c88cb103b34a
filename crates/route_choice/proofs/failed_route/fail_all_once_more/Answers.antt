use Rattle.route_choice.specs.FailedRoutes.{once_more}
use Rattle.route_choice.proofs.failed_route.fail_all_once_more.Goals as goal
use Rattle.alt_base.proofs.Lists.{set_mapped}

pub loop-f-preserved : goal.loop-f-preserved
loop-f-preserved c =
    set_mapped (once_more c.args.now.0 c.args.origin.now c.args.route.now) c.args.failed.now c.loop-f.failed c.loop-f.f-index c.fail_once_more.new.failed c.f-item.result
    c.loop-f-test.true c.loop-f.invariant c.fail_once_more.ensures
