use Rattle.request_dispatch.specs.RequestTable.{tried_after}
use Rattle.request_dispatch.proofs.requests.note_waiting.Goals as goal
use Rattle.alt_base.proofs.Lists.{set_mapped}

pub loop-request-preserved : goal.loop-request-preserved
loop-request-preserved c =
    set_mapped (tried_after c.args.origin.now c.args.route.now) c.args.waiting.now c.loop-request.waiting c.loop-request.request-index c.note_tried.new.waiting c.request-item.result
    c.loop-request-test.true c.loop-request.invariant c.in_ok-note_tried.ensures
