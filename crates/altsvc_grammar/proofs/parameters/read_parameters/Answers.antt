use Rattle.std.proofs.Common.{◌≡◌, ◌-◌, ◌+◌, ◌<◌, ◌∙◌, true, false, drop, length, refl, sym, arith}
use Rattle.std.proofs.lemmas.Result.{err_from_is_err_and}
use Rattle.altsvc_grammar.specs.Steps.{begins_with}
use Rattle.altsvc_grammar.specs.ParameterReading.{then_parameters, read_parameters}
use Rattle.altsvc_grammar.proofs.Slices.{passed_on}
use Rattle.altsvc_grammar.proofs.ParameterLemmas.{parameters_end, parameters_go_on}
use Rattle.altsvc_grammar.proofs.parameters.read_parameters.Goals as goal

pub returns-then-not-stands_at-clause-reading : goal.returns-then-not-stands_at-clause-reading
returns-then-not-stands_at-clause-reading c =
    let none : begins_with 59 (drop c.ows-here.result c.args.input.now) ≡ false = cc in
    sym c.loop-turn.invariant.reading
    ∙ parameters_end (length c.args.input.now + 1) c.loop-turn.turn c.loop-turn.given c.loop-turn.place c.ows-here.result c.args.input.now c.loop-turn-test.true c.ows-here.ensures.reading c.ows-here.ensures.rest none

pub returns-in_err-given-clause-reading : goal.returns-in_err-given-clause-reading
returns-in_err-given-clause-reading c =
    let p = err_from_is_err_and c.from_residual.result c.from_residual.ensures.1 in
    let some : begins_with 59 (drop c.ows-here.result c.args.input.now) ≡ true = cc in
    let inside : c.ows-here.result < length c.args.input.now = grind arith in
    let said = parameters_go_on (length c.args.input.now + 1) c.loop-turn.turn c.loop-turn.given c.loop-turn.place c.ows-here.result c.ows.result c.args.input.now c.loop-turn-test.true c.ows-here.ensures.reading c.ows-here.ensures.rest inside some c.ows.ensures.reading c.ows.ensures.rest in
    rw (p.1, p.2, ← c.loop-turn.invariant.reading, said) (passed_on c.args.input.now (then_parameters (read_parameters (length c.args.input.now + 1 - (c.loop-turn.turn + 1)))) (λ at. refl) _ _ c.in_err-given.ensures.reading)

pub loop-turn-preserved : goal.loop-turn-preserved
loop-turn-preserved c =
    let some : begins_with 59 (drop c.ows-here.result c.args.input.now) ≡ true = cc in
    let inside : c.ows-here.result < length c.args.input.now = grind arith in
    let said = parameters_go_on (length c.args.input.now + 1) c.loop-turn.turn c.loop-turn.given c.loop-turn.place c.ows-here.result c.ows.result c.args.input.now c.loop-turn-test.true c.ows-here.ensures.reading c.ows-here.ensures.rest inside some c.ows.ensures.reading c.ows.ensures.rest in
    record {
      reading = sym (rw c.in_ok-given.ensures.reading at said) ∙ c.loop-turn.invariant.reading;
      within = c.in_ok-given.ensures.within;
    }
