use Rattle.std.proofs.Common.{◌≡◌, ◌-◌, ◌<◌, ◌∙◌, true, take, drop, length, refl, arith}
use Rattle.std.proofs.lemmas.Result.{err_from_is_err_and}
use Rattle.altsvc_grammar.specs.Steps.{begins_with}
use Rattle.altsvc_grammar.specs.ParameterReading.{noted_value}
use Rattle.altsvc_grammar.proofs.Slices.{passed_on}
use Rattle.altsvc_grammar.proofs.ParameterLemmas.{named_value}
use Rattle.altsvc_grammar.proofs.parameters.read_parameter.Goals as goal

pub returns-in_err-value-clause-reading : goal.returns-in_err-value-clause-reading
returns-in_err-value-clause-reading c =
    let p = err_from_is_err_and c.from_residual.result c.from_residual.ensures.1 in
    let equals : begins_with 61 (drop c.in-Ok.end c.args.input.now) ≡ true = cc in
    let inside : c.in-Ok.end < length c.args.input.now = grind arith in
    let said = named_value c.args.given c.args.place c.in-Ok.end c.args.input.now c.in-Ok.ensures.ok inside equals in
    rw (p.1, p.2, said) (passed_on c.args.input.now (noted_value c.args.given (take (c.in-Ok.end - c.args.place) (drop c.args.place c.args.input.now))) (λ at. refl) _ _ c.in_err-value.ensures.reading)

pub returns-clause-reading : goal.returns-clause-reading
returns-clause-reading c =
    let equals : begins_with 61 (drop c.in-Ok.end c.args.input.now) ≡ true = cc in
    let inside : c.in-Ok.end < length c.args.input.now = grind arith in
    let said = named_value c.args.given c.args.place c.in-Ok.end c.args.input.now c.in-Ok.ensures.ok inside equals in
    said ∙ rw (c.in_ok-value.ensures.reading, c.note.ensures, c.as_slice.ensures) refl
