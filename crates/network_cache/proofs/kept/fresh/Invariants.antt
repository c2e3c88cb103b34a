use Rattle.std.proofs.Common.{◌≡◌, map, filter, take}
use Rattle.network_cache.specs.declared.kept.Kept.{Kept}
use Rattle.network_cache.specs.Freshness.{is_fresh}
use Rattle.network_cache.proofs.kept.fresh.Given as goal

abbrev pub invariant-loop-kept : goal.invariant-loop-kept
invariant-loop-kept l = l.alts ≡ map (λ (k : Kept). k.alt) (filter (is_fresh l.now.0) (take l.kept-index l.fn.all))
