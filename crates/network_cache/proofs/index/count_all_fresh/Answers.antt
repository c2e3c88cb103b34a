use Rattle.std.proofs.Common.{ap}
use Rattle.std.specs.Map.{keys_of}
use Rattle.network_cache.specs.Entries.{fresh_among}
use Rattle.network_cache.proofs.Lookups.{distinct_keys}
use Rattle.network_cache.proofs.Totals.{all_counted}
use Rattle.network_cache.proofs.index.count_all_fresh.Goals as goal

pub returns-clause-count : goal.returns-clause-count
returns-clause-count c =
    let now = c.args.now.0 in
    all_counted c.loop-all.total (fresh_among now c.loop-all.all-iterator) (fresh_among now c.args.index.now.entries) 18446744073709551615
    c.loop-all.invariant.fits (ap (fresh_among now) c.in-None.ensures.steps.0) c.loop-all.invariant.sum

pub returns-clause-distinct : goal.returns-clause-distinct
returns-clause-distinct c = distinct_keys (keys_of c.args.index.now.entries) c.iter-all-items.ensures.unique
