use Rattle.std.proofs.Common.{sym, ◌∙◌, ap, subst}
use Rattle.std.proofs.lemmas.Result.{err_from_is_err_and}
use Rattle.alt_base.specs.Answers.{Answers}
use Rattle.svcb_text.specs.TextReading.{with_params}
use Rattle.svcb_text.proofs.ReaderSteps.{target_read, target_stops, params_stop}
use Rattle.svcb_text.proofs.reader.behind_priority.Goals as goal

pub returns-in_err-params-in-Ok : goal.returns-in_err-params-in-Ok
returns-in_err-params-in-Ok c =
    let p = err_from_is_err_and c.from_residual.result c.from_residual.ensures.1 in
    rw (p.1, p.2, target_read c.args.size c.args.priority c.args.place c.item_len-count.result c.args.rest.now _ c.item_len-count.ensures.run c.in-Ok.ensures.reading) (params_stop c.args.size c.args.priority _ _ c.in_err-params-in-Ok.field-0.0 c.in_err-params-in-Ok.ensures)

pub returns-in_ok-params-in-Ok : goal.returns-in_ok-params-in-Ok
returns-in_ok-params-in-Ok c =
    let e = target_read c.args.size c.args.priority c.args.place c.item_len-count.result c.args.rest.now _ c.item_len-count.ensures.run c.in-Ok.ensures.reading in
    subst (Answers c.finish.result) (sym (e ∙ ap (with_params c.args.size c.args.priority c.in-Ok.target) c.in_ok-params-in-Ok.ensures)) c.finish.ensures

pub returns-in-Err-At : goal.returns-in-Err-At
returns-in-Err-At c =
    let a = rw c.in-Err-At.field-0-is at c.in-Err-At.ensures.reading in
    rw c.in-Err-At.field-0-is (target_stops c.args.size c.args.priority c.args.place c.item_len-count.result c.args.rest.now _ c.item_len-count.ensures.run a)
