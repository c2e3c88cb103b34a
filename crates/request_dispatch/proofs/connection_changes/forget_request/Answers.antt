use Rattle.conn_states.specs.Changes.{with_answered}
use Rattle.request_dispatch.proofs.connection_changes.forget_request.Goals as goal
use Rattle.alt_base.proofs.Lists.{set_mapped}

pub loop-connection-preserved : goal.loop-connection-preserved
loop-connection-preserved c =
    set_mapped (with_answered c.args.request) c.args.connections.now c.loop-connection.connections c.loop-connection.connection-index c.answered.new.self c.connection-item.result
    c.loop-connection-test.true c.loop-connection.invariant c.answered.ensures
