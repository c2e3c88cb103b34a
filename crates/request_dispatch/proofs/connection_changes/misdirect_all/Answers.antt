use Rattle.request_dispatch.specs.ConnectionTable.{misdirected_by}
use Rattle.request_dispatch.proofs.connection_changes.misdirect_all.Goals as goal
use Rattle.alt_base.proofs.Lists.{set_mapped}

pub loop-connection-preserved : goal.loop-connection-preserved
loop-connection-preserved c =
    set_mapped (misdirected_by c.args.request c.args.origin.now) c.args.connections.now c.loop-connection.connections c.loop-connection.connection-index c.misdirect_one.new.connection c.connection-item.result
    c.loop-connection-test.true c.loop-connection.invariant c.in_ok-misdirect_one.ensures
