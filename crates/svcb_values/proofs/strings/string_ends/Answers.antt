use Rattle.std.proofs.Common.{◌≡◌, ◌+◌, ◌-◌, length, take, drop, sym, ◌∙◌, subst}
use Rattle.std.proofs.lemmas.List.{take_rest, drop-drop}
use Rattle.svcb_values.specs.StringAnswers.{AnswersString}
use Rattle.svcb_values.specs.StringReading.{with_end, string_ends}
use Rattle.svcb_values.proofs.strings.string_ends.Goals as goal

pub returns-in-InQuotes-clause-reading : goal.returns-in-InQuotes-clause-reading
returns-in-InQuotes-clause-reading c =
    let text = c.args.text.now in
    let place = c.args.place in
    let behind : take (length text - (place + 1)) (drop (place + 1) text) ≡ drop 1 (drop place text) = take_rest text (place + 1) ∙ sym (drop-drop 1 place text) in
    subst (λ s. AnswersString c.with_end.result (string_ends s c.args.value place (drop place text))) (sym c.in-InQuotes.is)
    (subst (λ xs. AnswersString c.with_end.result (with_end c.args.value (place + 1) xs)) behind c.with_end.ensures.reading)
