use Rattle.std.proofs.Common.{◌≡◌, ◌+◌, ◌<◌, false, drop, length, arith}
use Rattle.std.proofs.lemmas.Result.{err_from_is_err_and}
use Rattle.altsvc_grammar.specs.Steps.{begins_with}
use Rattle.altsvc_grammar.specs.SeenElements.{seen_of}
use Rattle.altsvc_grammar.proofs.ElementLemmas.{element_at, element_refused}
use Rattle.altsvc_grammar.proofs.elements.see_element.Goals as goal

pub returns-in_err-element-clause-reading : goal.returns-in_err-element-clause-reading
returns-in_err-element-clause-reading c =
    let p = err_from_is_err_and c.from_residual.result c.from_residual.ensures.1 in
    let none : begins_with 44 (drop c.args.place c.args.input.now) ≡ false = cc in
    let inside : c.args.place < length c.args.input.now = omega arith in
    let said = element_at (length c.args.input.now + 1) (seen_of c.args.seen.now) c.args.place c.args.input.now inside none in
    rw (p.1, p.2, said) (element_refused c.args.input.now c.args.seen.now (seen_of c.args.seen.now) _ _ c.in_err-element.ensures.reading)
