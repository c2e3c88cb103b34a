use Rattle.std.proofs.Common.{◌++◌, append-nil, ap, sym, ◌∙◌}
use Rattle.answer_store.specs.Contents.{kept}
use Rattle.route_events.specs.declared.answer.AnswerBody.{AnswerBody}
use Rattle.route_events.specs.declared.fact.Fact.TheVariants.{Answer}
use Rattle.route_events.specs.Answers.{answer_after, malformed_effects}
use Rattle.router_core.specs.StoredAnswers.{brought}
use Rattle.router_core.proofs.Putting.{v4_put, v6_put}
use Rattle.router_core.proofs.dns_answer.take_answer.Goals as goal

pub returns-in_ok-put_v4-in-V4-clause-told : goal.returns-in_ok-put_v4-in-V4-clause-told
returns-in_ok-put_v4-in-V4-clause-told c = λ q k.
    c.in_ok-put_v4-in-V4.ensures.placed q k
    ∙ v4_put c.args.now.0 c.args.ttl c.args.name q c.in-V4.addresses k (kept c.args.answers.now q k)
    ∙ ap (λ (body : AnswerBody). answer_after (brought k) q c.args.now.0 (Answer c.args.name c.args.ttl body) (kept c.args.answers.now q k)) (sym c.in-V4.is)

pub returns-in_ok-put_v4-in-V4-clause-named : goal.returns-in_ok-put_v4-in-V4-clause-named
returns-in_ok-put_v4-in-V4-clause-named c =
    sym (append-nil c.args.actions.now) ∙ ap (λ (body : AnswerBody). c.args.actions.now ++ malformed_effects c.args.name body) (sym c.in-V4.is)

pub returns-in_ok-put_v6-in-V6-clause-told : goal.returns-in_ok-put_v6-in-V6-clause-told
returns-in_ok-put_v6-in-V6-clause-told c = λ q k.
    c.in_ok-put_v6-in-V6.ensures.placed q k
    ∙ v6_put c.args.now.0 c.args.ttl c.args.name q c.in-V6.addresses k (kept c.args.answers.now q k)
    ∙ ap (λ (body : AnswerBody). answer_after (brought k) q c.args.now.0 (Answer c.args.name c.args.ttl body) (kept c.args.answers.now q k)) (sym c.in-V6.is)

pub returns-in_ok-put_v6-in-V6-clause-named : goal.returns-in_ok-put_v6-in-V6-clause-named
returns-in_ok-put_v6-in-V6-clause-named c =
    sym (append-nil c.args.actions.now) ∙ ap (λ (body : AnswerBody). c.args.actions.now ++ malformed_effects c.args.name body) (sym c.in-V6.is)
