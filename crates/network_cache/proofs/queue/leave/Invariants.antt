use Rattle.std.proofs.Common.{◌≡◌, ℕ, ◌&&◌, not, take}
use Rattle.std.specs.List.{list_any}
use Rattle.origin_values.specs.Equality.{origin_eq}
use Rattle.origin_values.specs.declared.origin.Origin.{Origin}
use Rattle.network_cache.specs.Ends.{ends_at}
use Rattle.network_cache.specs.Queue.{is_queued}
use Rattle.network_cache.proofs.queue.leave.Given as goal

-- without the places of those so far
abbrev pub invariant-loop-kept : goal.invariant-loop-kept
invariant-loop-kept l = record {
  origin : l.place.1 ≡ l.fn.origin;
  queue : (e : ℕ) (o : Origin) → is_queued l.queue e o ≡ (not (origin_eq l.fn.origin o && (list_any (ends_at e) (take l.kept-index l.fn.before) && not (list_any (ends_at e) l.fn.left))) && is_queued l.fn.queue e o);
}
