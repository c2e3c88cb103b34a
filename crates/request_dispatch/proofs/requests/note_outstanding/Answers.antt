use Rattle.request_dispatch.specs.RequestTable.{out_tried_after}
use Rattle.request_dispatch.proofs.requests.note_outstanding.Goals as goal
use Rattle.alt_base.proofs.Lists.{set_mapped}

pub loop-request-preserved : goal.loop-request-preserved
loop-request-preserved c =
    set_mapped (out_tried_after c.args.origin.now c.args.route.now) c.args.outstanding.now c.loop-request.outstanding c.loop-request.request-index c.note_out_tried.new.outstanding c.request-item.result
    c.loop-request-test.true c.loop-request.invariant c.in_ok-note_out_tried.ensures
