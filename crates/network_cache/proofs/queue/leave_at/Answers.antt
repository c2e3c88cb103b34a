use Rattle.std.proofs.Common.{false, sym, ◌∙◌}
use Rattle.std.specs.Prelude.{◌==◌}
use Rattle.std.specs.List.{list_any}
use Rattle.origin_values.specs.Equality.{origin_eq}
use Rattle.network_cache.specs.Ends.{ends_at}
use Rattle.network_cache.specs.Queue.{is_queued}
use Rattle.network_cache.proofs.Order.{updated, taken_out}
use Rattle.network_cache.proofs.queue.leave_at.Goals as goal

pub returns-clause-queue : goal.returns-clause-queue
returns-clause-queue c = λ e o.
    let end = c.args.end in
    let origin = c.args.place.now.1 in
    updated c.args.queue.now c.remove.new.self (end, origin) false c.remove.ensures.updates e o
    ∙ taken_out (end == e) (origin_eq origin o) (list_any (ends_at end) c.args.left.now) (is_queued c.args.queue.now e o) (sym c.some_ends_at.ensures ∙ c.if-some_ends_at.false)
