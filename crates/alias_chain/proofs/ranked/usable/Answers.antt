use Rattle.std.proofs.Common.{◌∙◌, ◌++◌, ◌∷◌, [], cond, ap, sym}
use Rattle.alias_chain.specs.Endpoints.{can_use}
use Rattle.alias_chain.specs.Ranks.{ranked_of}
use Rattle.alias_chain.proofs.Order.{mapped_more}
use Rattle.alias_chain.proofs.ranked.usable.Goals as goal

pub loop-record_-preserved : goal.loop-record_-preserved
loop-record_-preserved c =
    let f = ranked_of c.args.supported.now c.args.port c.args.name.now in
    let r = c.record_-item.result in
    c.in_ok-push_usable.ensures
    ∙ ap (λ w. w ++ cond (can_use c.args.supported.now r) (f r ∷ []) []) c.loop-record_.invariant
    ∙ sym (mapped_more f (can_use c.args.supported.now) c.args.records.now c.loop-record_.record_-index r c.loop-record_-test.true c.record_-item.is)
