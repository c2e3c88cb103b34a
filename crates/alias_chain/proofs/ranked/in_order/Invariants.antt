use Rattle.std.proofs.Common.{◌≡◌, map}
use Rattle.alias_chain.specs.declared.ranked.Ranked.{Ranked}
use Rattle.alias_chain.proofs.ranked.in_order.Given as goal

abbrev pub invariant-loop-ranked : goal.invariant-loop-ranked
invariant-loop-ranked l = l.endpoints ≡ map (λ (r : Ranked). r.endpoint) l.yielded
