use Rattle.std.proofs.Common.{◌≡◌, drop}
use Rattle.alias_chain.specs.Endpoints.{port_of}
use Rattle.alias_chain.proofs.ranked.port_of.Given as goal

abbrev pub invariant-loop-param : goal.invariant-loop-param
invariant-loop-param l = port_of l.port (drop l.param-index l.params) ≡ port_of l.port l.params
