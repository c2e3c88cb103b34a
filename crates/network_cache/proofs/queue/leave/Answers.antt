use Rattle.std.proofs.Common.{◌&&◌, ◌||◌, not, nat_eq, take, ap, sym, ◌∙◌}
use Rattle.std.specs.Prelude.{◌==◌}
use Rattle.std.specs.List.{list_any}
use Rattle.alt_base.proofs.Numbers.{true_eq}
use Rattle.origin_values.specs.Equality.{origin_eq}
use Rattle.network_cache.specs.Ends.{ends_at}
use Rattle.network_cache.specs.Queue.{is_place, is_queued}
use Rattle.network_cache.proofs.Order.{left_more}
use Rattle.network_cache.proofs.Ends.{any_more}
use Rattle.network_cache.proofs.queue.leave.Goals as goal

pub loop-kept-preserved : goal.loop-kept-preserved
loop-kept-preserved c = record {
  origin = c.leave_at.ensures.origin ∙ c.loop-kept.invariant.origin;
  queue = λ e o.
      let queue = c.loop-kept.queue in
      let origin = c.args.origin in
      let end = c.end_of.result in
      let all = c.args.before.now in
      let left = c.args.left.now in
      let i = c.loop-kept.kept-index in
      let old = is_queued c.args.queue.now e o in
      let so_far = list_any (ends_at e) (take i all) in
      let here = ap (λ n. nat_eq n e) c.end_of.ensures ∙ ap (ends_at e) c.kept-item.is in
      let more = ap (λ w. so_far || w) here ∙ sym (any_more (ends_at e) all i c.kept-item.result c.loop-kept-test.true) in
      c.leave_at.ensures.queue e o
      ∙ ap (λ x. not (is_place (end, x) (e, o) && not (list_any (ends_at end) left)) && is_queued queue e o) c.loop-kept.invariant.origin
      ∙ ap (λ w. not (is_place (end, origin) (e, o) && not (list_any (ends_at end) left)) && w) (c.loop-kept.invariant.queue e o)
      ∙ left_more (end == e) (origin_eq origin o) so_far (list_any (ends_at end) left) (list_any (ends_at e) left) old (λ at. ap (λ n. list_any (ends_at n) left) (true_eq end e at))
      ∙ ap (λ w. not (origin_eq origin o && (w && not (list_any (ends_at e) left))) && old) more;
}
