use Rattle.std.proofs.Common.{◌≤◌, ◌≡◌, ap, ◌∙◌, arith, get_or, List}
use Rattle.conn_states.specs.Record.{Record}
use Rattle.request_dispatch.specs.Asked.{asked_by}
use Rattle.request_dispatch.specs.ConnectionTable.{sent_on, most_sends}
use Rattle.request_dispatch.proofs.Loops.{sends_at}
use Rattle.request_dispatch.proofs.connection_changes.send_on.Goals as goal
use Rattle.alt_base.proofs.Lists.{at_place, set_mapped}

pub send_one-requires : goal.send_one-requires
send_one-requires c =
    let d = c.connection-item.result in
    let i = c.loop-connection.connection-index in
    let same : get_or c.loop-connection.connections i d ≡ get_or c.args.connections.now i d =
    ap (λ (xs : List Record). get_or xs i d) c.loop-connection.invariant ∙ at_place (sent_on (asked_by c.args.addresses.now).is_address (asked_by c.args.addresses.now).origin c.args.conn c.args.request) c.args.connections.now i d c.loop-connection-test.true in
    let small : (get_or c.args.connections.now i d).sends ≤ most_sends c.args.connections.now = sends_at c.args.connections.now i d c.loop-connection-test.true in
    rw same (omega (arith, small, c.requires))

pub loop-connection-preserved : goal.loop-connection-preserved
loop-connection-preserved c =
    set_mapped (sent_on (asked_by c.args.addresses.now).is_address (asked_by c.args.addresses.now).origin c.args.conn c.args.request) c.args.connections.now c.loop-connection.connections c.loop-connection.connection-index c.send_one.new.connection c.connection-item.result
    c.loop-connection-test.true c.loop-connection.invariant c.in_ok-send_one.ensures
