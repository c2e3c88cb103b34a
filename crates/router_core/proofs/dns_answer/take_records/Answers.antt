use Rattle.std.proofs.Common.{Some, [], ap, ◌∙◌}
use Rattle.std.specs.Prelude.{unwrap_or}
use Rattle.std.specs.Result.{result_ok}
use Rattle.answer_store.specs.Contents.{kept}
use Rattle.route_events.specs.Answers.{Records}
use Rattle.router_core.proofs.Putting.{https_put}
use Rattle.router_core.proofs.dns_answer.take_records.Goals as goal

pub returns-clause-told : goal.returns-clause-told
returns-clause-told c = λ q k.
    c.in_ok-put_https.ensures.placed q k
    ∙ https_put c.args.now.0 c.args.ttl c.args.name q c.args.rdatas.now c.in_ok-records.records k (kept c.args.answers.now q k)
    (ap Some (c.in_ok-records.ensures.records ∙ ap (λ (read : Records). unwrap_or (result_ok read) []) c.in_ok-read.ensures))
