use Rattle.std.proofs.Common.{◌≡◌, ◌+◌, ◌<◌, true, false, drop, length, refl, arith}
use Rattle.std.proofs.lemmas.Result.{err_from_is_err_and}
use Rattle.altsvc_grammar.specs.Steps.{begins_with}
use Rattle.altsvc_grammar.specs.ValueReading.{with_protocol}
use Rattle.altsvc_grammar.proofs.ElementLemmas.{alone, of_protocol, refused_on}
use Rattle.altsvc_grammar.proofs.elements.read_element.Goals as goal

pub returns-then-not-stands_at-clause-reading : goal.returns-then-not-stands_at-clause-reading
returns-then-not-stands_at-clause-reading c =
    let none : begins_with 61 (drop c.in-Ok.end c.args.input.now) ≡ false = cc in
    rw (alone (length c.args.input.now + 1) c.args.place c.in-Ok.end c.args.input.now c.in-Ok.ensures.ok none) c.read_lone_token.ensures.reading

pub returns-in_err-proto-clause-reading : goal.returns-in_err-proto-clause-reading
returns-in_err-proto-clause-reading c =
    let p = err_from_is_err_and c.from_residual.result c.from_residual.ensures.1 in
    let equals : begins_with 61 (drop c.in-Ok.end c.args.input.now) ≡ true = cc in
    let inside : c.in-Ok.end < length c.args.input.now = grind arith in
    let said = of_protocol (length c.args.input.now + 1) c.args.place c.in-Ok.end c.args.input.now c.in-Ok.ensures.ok inside equals in
    rw (p.1, p.2, said) (refused_on c.args.input.now (with_protocol (length c.args.input.now + 1) (c.in-Ok.end + 1) (drop (c.in-Ok.end + 1) c.args.input.now)) (λ at. refl) _ _ c.in_err-proto.ensures)

pub returns-clause-reading : goal.returns-clause-reading
returns-clause-reading c =
    let equals : begins_with 61 (drop c.in-Ok.end c.args.input.now) ≡ true = cc in
    let inside : c.in-Ok.end < length c.args.input.now = grind arith in
    let said = of_protocol (length c.args.input.now + 1) c.args.place c.in-Ok.end c.args.input.now c.in-Ok.ensures.ok inside equals in
    rw (said, c.in_ok-proto.ensures) c.read_alternative.ensures.reading
