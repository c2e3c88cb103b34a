use Rattle.std.proofs.Common.{◌&&◌, ◌||◌, cond, true, nat_eq, take, ap, sym, ◌∙◌}
use Rattle.std.specs.Prelude.{◌==◌}
use Rattle.std.specs.List.{list_any}
use Rattle.origin_values.specs.Equality.{origin_eq}
use Rattle.network_cache.specs.Ends.{ends_at}
use Rattle.network_cache.specs.Queue.{is_place, is_queued}
use Rattle.network_cache.proofs.Order.{updated, entered_more}
use Rattle.network_cache.proofs.Ends.{any_more}
use Rattle.network_cache.proofs.queue.enter.Goals as goal

pub loop-kept-preserved : goal.loop-kept-preserved
loop-kept-preserved c = λ e o.
    let queue = c.loop-kept.queue in
    let origin = c.args.origin.now in
    let end = c.end_of.result in
    let all = c.args.alternatives.now in
    let i = c.loop-kept.kept-index in
    let old = is_queued c.args.queue.now e o in
    let so_far = list_any (ends_at e) (take i all) in
    let here = ap (λ n. nat_eq n e) c.end_of.ensures ∙ ap (ends_at e) c.kept-item.is in
    let more = ap (λ w. so_far || w) here ∙ sym (any_more (ends_at e) all i c.kept-item.result c.loop-kept-test.true) in
    updated queue c.insert.new.self (end, c.new-twin.result) true c.in_ok-insert.ensures.updates e o
    ∙ ap (λ x. cond (is_place (end, x) (e, o)) true (is_queued queue e o)) (c.new-twin.ensures ∙ c.in_ok-copy.ensures)
    ∙ ap (cond (is_place (end, origin) (e, o)) true) (c.loop-kept.invariant e o)
    ∙ entered_more (end == e) (origin_eq origin o) so_far old
    ∙ ap (λ w. (origin_eq origin o && w) || old) more
