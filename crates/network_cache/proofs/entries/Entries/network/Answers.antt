use Rattle.std.proofs.Common.{true, ◌&&◌, ap, sym, ◌∙◌}
use Rattle.std.specs.List.{list_any}
use Rattle.network_cache.specs.Freshness.{persists}
use Rattle.network_cache.specs.Ends.{ends_at}
use Rattle.network_cache.specs.Entries.{kept_in}
use Rattle.network_cache.proofs.Ends.{swept_within}
use Rattle.network_cache.proofs.entries.Entries.network.Goals as goal

pub invariant_of-self : goal.invariant_of-self
invariant_of-self c = record {
  queued = λ e o.
      let before = kept_in c.args.self.now.items o in
      let after = kept_in c.keep_persistent.new.index o in
      c.sweep.ensures e o
      ∙ ap (λ w. list_any (ends_at e) after && w) (c.args.self.now.queued e o)
      ∙ ap (λ ks. list_any (ends_at e) ks && list_any (ends_at e) before) (c.keep_persistent.ensures o)
      ∙ swept_within true persists e before
      ∙ ap (list_any (ends_at e)) (sym (c.keep_persistent.ensures o));
}
