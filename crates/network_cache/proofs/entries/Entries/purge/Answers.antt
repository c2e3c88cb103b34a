use Rattle.std.proofs.Common.{◌&&◌, ap, cond, false, filter, sym, ◌∙◌}
use Rattle.std.specs.Prelude.{◌==◌}
use Rattle.std.specs.List.{list_any}
use Rattle.origin_values.specs.Equality.{origin_eq}
use Rattle.origin_values.specs.declared.origin.Origin.{Origin}
use Rattle.origin_values.proofs.Equal.{turned_origin}
use Rattle.network_cache.specs.Freshness.{is_fresh}
use Rattle.network_cache.specs.Ends.{ends_at, ends_elsewhere}
use Rattle.network_cache.specs.Queue.{is_place}
use Rattle.network_cache.specs.Entries.{kept_in}
use Rattle.network_cache.proofs.Ends.{dropped_at, ended_dropped, all_fresh}
use Rattle.network_cache.proofs.entries.Entries.purge.Goals as goal

pub invariant_of-self : goal.invariant_of-self
invariant_of-self c = record {
  queued = λ e o.
      let p = c.in-Some.place in
      let table = c.loop-place.self in
      let before = kept_in table.items o in
      let after = c.drop_ended_of.ensures o ∙ ap (λ (x : Origin). cond (origin_eq o x) (filter (ends_elsewhere p.0) before) before) c.origin.ensures in
      c.in-Some.ensures.others e o
      ∙ ap (cond (is_place p (e, o)) false) (table.queued e o)
      ∙ ap (λ w. cond ((p.0 == e) && w) false (list_any (ends_at e) before)) (turned_origin p.1 o)
      ∙ dropped_at p.0 e (origin_eq o p.1) before
      ∙ ap (list_any (ends_at e)) (sym after);
}

pub loop-place-preserved : goal.loop-place-preserved
loop-place-preserved c = λ o.
    let p = c.in-Some.place in
    let before = kept_in c.loop-place.self.items o in
    let after = c.drop_ended_of.ensures o ∙ ap (λ (x : Origin). cond (origin_eq o x) (filter (ends_elsewhere p.0) before) before) c.origin.ensures in
    ap (filter (is_fresh c.args.now.0)) after
    ∙ ended_dropped c.args.now.0 p.0 (origin_eq o p.1) before c.in-Some.ensures.ended
    ∙ c.loop-place.invariant o

pub loop-place-preserved-in-Some : goal.loop-place-preserved-in-Some
loop-place-preserved-in-Some c = λ o.
    let p = c.in-Some.place in
    let before = kept_in c.loop-place.self.items o in
    let after = c.drop_ended_of.ensures o ∙ ap (λ (x : Origin). cond (origin_eq o x) (filter (ends_elsewhere p.0) before) before) c.origin.ensures in
    ap (filter (is_fresh c.args.now.0)) after
    ∙ ended_dropped c.args.now.0 p.0 (origin_eq o p.1) before c.in-Some.ensures.ended
    ∙ c.loop-place.invariant o

pub returns : goal.returns
returns c = λ o.
    let table = c.loop-place.self in
    sym (all_fresh c.args.now.0 (kept_in table.items o) (λ e ends. c.in_default.ensures.later e o (table.queued e o ∙ ends))) ∙ c.loop-place.invariant o
