use Rattle.std.specs.Map.{keys_of}
use Rattle.network_cache.specs.Contents.{kept}
use Rattle.network_cache.specs.Entries.{fresh_among}
use Rattle.network_cache.proofs.Lookups.{kept_of_none}
use Rattle.network_cache.proofs.Totals.{fresh_sum}
use Rattle.network_cache.proofs.cache.Cache.count.Goals as goal

pub returns : goal.returns
unfolding kept
returns c =
    let es = c.args.self.now.entries.items.entries in
    let now = c.args.now.0 in (
      fresh_among now es,
      (
        record {
          origins = keys_of es;
          distinct = c.count.ensures.distinct;
          elsewhere = kept_of_none es;
          sum = fresh_sum now es c.count.ensures.distinct;
        },
        c.count.ensures.count,
      ),
    )
