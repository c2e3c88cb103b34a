use Rattle.std.proofs.Common.{◌≡◌, take}
use Rattle.request_dispatch.specs.Asked.{asked_by}
use Rattle.request_dispatch.specs.ConnectionTable.{carrier_numbers}
use Rattle.request_dispatch.proofs.carriers.carrier_numbers.Given as goal

abbrev pub invariant-loop-connection : goal.invariant-loop-connection
invariant-loop-connection l = l.numbers ≡ carrier_numbers (asked_by l.addresses).is_address (asked_by l.addresses).origin (take l.connection-index l.connections)
