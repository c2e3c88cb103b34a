use Rattle.request_dispatch.specs.ConnectionTable.{rebound}
use Rattle.request_dispatch.proofs.connection_changes.rebind_all.Goals as goal
use Rattle.alt_base.proofs.Lists.{set_mapped}

pub loop-connection-preserved : goal.loop-connection-preserved
loop-connection-preserved c =
    set_mapped (rebound c.args.origin.now c.args.alts.now) c.args.connections.now c.loop-connection.connections c.loop-connection.connection-index c.rebind_one.new.connection c.connection-item.result
    c.loop-connection-test.true c.loop-connection.invariant c.rebind_one.ensures
