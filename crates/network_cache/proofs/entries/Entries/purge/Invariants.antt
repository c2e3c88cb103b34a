use Rattle.std.proofs.Common.{◌≡◌, filter}
use Rattle.std.specs.BTreeSet.{btree_set_len}
use Rattle.origin_values.specs.declared.origin.Origin.{Origin}
use Rattle.network_cache.specs.Freshness.{is_fresh}
use Rattle.network_cache.specs.Entries.{kept_in}
use Rattle.network_cache.proofs.entries.Entries.purge.Given as goal

abbrev pub invariant-loop-place : goal.invariant-loop-place
invariant-loop-place l = (o : Origin) → filter (is_fresh l.now.0) (kept_in l.self.items o) ≡ filter (is_fresh l.now.0) (kept_in l.fn.self.items o)

abbrev pub decreases-loop-place : goal.decreases-loop-place
decreases-loop-place l = btree_set_len l.self.queue
