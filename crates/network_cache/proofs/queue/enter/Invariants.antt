use Rattle.std.proofs.Common.{◌≡◌, ℕ, ◌&&◌, ◌||◌, take}
use Rattle.std.specs.List.{list_any}
use Rattle.origin_values.specs.Equality.{origin_eq}
use Rattle.origin_values.specs.declared.origin.Origin.{Origin}
use Rattle.network_cache.specs.Ends.{ends_at}
use Rattle.network_cache.specs.Queue.{is_queued}
use Rattle.network_cache.proofs.queue.enter.Given as goal

-- the places of those so far
abbrev pub invariant-loop-kept : goal.invariant-loop-kept
invariant-loop-kept l = (e : ℕ) (o : Origin) → is_queued l.queue e o ≡ ((origin_eq l.fn.origin o && list_any (ends_at e) (take l.kept-index l.fn.alternatives)) || is_queued l.fn.queue e o)
