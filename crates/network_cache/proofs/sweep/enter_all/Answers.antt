use Rattle.std.proofs.Common.{sym, ◌∙◌}
use Rattle.std.specs.List.{list_any}
use Rattle.network_cache.specs.Ends.{ends_at}
use Rattle.network_cache.specs.Queue.{is_queued}
use Rattle.network_cache.specs.Entries.{kept_in}
use Rattle.network_cache.proofs.Order.{swept}
use Rattle.network_cache.proofs.sweep.enter_all.Goals as goal

pub returns-in-Err-clause-err : goal.returns-in-Err-clause-err
returns-in-Err-clause-err c = λ e o.
    c.sweep.ensures e o
    ∙ swept (list_any (ends_at e) (kept_in c.args.index.now o)) (is_queued c.enter.new.queue e o) (λ stands. c.in-Err.ensures.err e o (c.requires e o ∙ stands))
    ∙ sym (c.requires e o)
