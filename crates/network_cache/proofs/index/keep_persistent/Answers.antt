use Rattle.std.proofs.Common.{rules, ap, ◌∙◌}
use Rattle.std.specs.Map.{keys_of}
use Rattle.network_cache.specs.Freshness.{persists}
use Rattle.network_cache.specs.Entries.{kept_among}
use Rattle.network_cache.proofs.Lookups.{retained, kept_where_some, distinct_keys}
use Rattle.network_cache.proofs.index.keep_persistent.Goals as goal

pub returns : goal.returns
returns c = λ o.
    let es = c.args.index.now.entries in
    let left = retained _ persists _ (λ k v b w g call. search rules) es c.retain.new.self.entries c.retain.ensures.filtered in
    ap (λ entries. kept_among entries o) left ∙ kept_where_some persists es o (distinct_keys (keys_of es) c.len-count.ensures.unique)
