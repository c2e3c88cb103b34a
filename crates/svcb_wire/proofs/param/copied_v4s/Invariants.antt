use Rattle.std.proofs.Common.{◌≡◌, take}
use Rattle.svcb_wire.proofs.param.copied_v4s.Given as goal

abbrev pub invariant-loop-address : goal.invariant-loop-address
invariant-loop-address l = l.twins ≡ take l.address-index l.addresses
