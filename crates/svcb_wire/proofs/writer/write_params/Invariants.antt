use Rattle.std.proofs.Common.{◌≡◌, take}
use Rattle.svcb_wire.specs.Octets.{params_octets}
use Rattle.svcb_wire.proofs.writer.write_params.Given as goal

abbrev pub invariant-loop-param : goal.invariant-loop-param
invariant-loop-param l = l.octets.items ≡ params_octets (take l.param-index l.params)
