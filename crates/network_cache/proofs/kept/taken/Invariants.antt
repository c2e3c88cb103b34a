use Rattle.std.proofs.Common.{◌≡◌, ◌++◌, map}
use Rattle.network_cache.specs.Freshness.{taken_at}
use Rattle.network_cache.proofs.kept.taken.Given as goal

-- those so far, and those that are left
abbrev pub invariant-loop-alt : goal.invariant-loop-alt
invariant-loop-alt l = l.all.items ++ map (taken_at l.fn.now.0 l.fn.age) l.alt-iterator.rest.items ≡ map (taken_at l.fn.now.0 l.fn.age) l.fn.alts
