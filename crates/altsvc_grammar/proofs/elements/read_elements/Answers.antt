use Rattle.std.proofs.Common.{◌≡◌, ◌-◌, ◌+◌, ◌<◌, ◌∙◌, true, false, drop, length, sym, ap, arith}
use Rattle.std.proofs.lemmas.Result.{err_from_is_err_and}
use Rattle.altsvc_grammar.specs.Steps.{begins_with}
use Rattle.altsvc_grammar.specs.SeenElements.{seen_of}
use Rattle.altsvc_grammar.specs.ValueReading.{read_elements, then_elements}
use Rattle.altsvc_grammar.proofs.ElementLemmas.{one_turn, elements_refused, end_behind, comma_behind, trailing_behind}
use Rattle.altsvc_grammar.proofs.elements.read_elements.Goals as goal

pub returns-in_err-end : goal.returns-in_err-end
returns-in_err-end c =
    let n = length c.args.input.now + 1 in
    let p = err_from_is_err_and c.from_residual.result c.from_residual.ensures.1 in
    let said = one_turn n n c.loop-turn.turn (seen_of c.loop-turn.seen) c.loop-turn.place c.ows.result c.args.input.now c.loop-turn-test.true c.ows.ensures.reading c.ows.ensures.rest in
    rw (p.1, p.2, ← c.loop-turn.invariant.reading, said) (elements_refused c.args.input.now c.see_element.new.seen (read_elements n (n - (c.loop-turn.turn + 1))) _ _ c.in_err-end.ensures.reading)

pub returns-then-end-input : goal.returns-then-end-input
returns-then-end-input c =
    let n = length c.args.input.now + 1 in
    let said = one_turn n n c.loop-turn.turn (seen_of c.loop-turn.seen) c.loop-turn.place c.ows.result c.args.input.now c.loop-turn-test.true c.ows.ensures.reading c.ows.ensures.rest in
    sym c.loop-turn.invariant.reading ∙ said ∙ ap (then_elements (read_elements n (n - (c.loop-turn.turn + 1)))) c.in_ok-end.ensures.reading
    ∙ end_behind (read_elements n (n - (c.loop-turn.turn + 1))) (seen_of c.see_element.new.seen) c.in_ok-end.end c.args.input.now c.if-end-input.true

pub returns-then-not-stands_at : goal.returns-then-not-stands_at
returns-then-not-stands_at c =
    let n = length c.args.input.now + 1 in
    let said = one_turn n n c.loop-turn.turn (seen_of c.loop-turn.seen) c.loop-turn.place c.ows.result c.args.input.now c.loop-turn-test.true c.ows.ensures.reading c.ows.ensures.rest in
    let none : begins_with 44 (drop c.in_ok-end.end c.args.input.now) ≡ false = cc in
    let inside : c.in_ok-end.end < length c.args.input.now = omega (arith, c.in_ok-end.ensures.within) in
    rw c.refused.ensures
    (sym c.loop-turn.invariant.reading ∙ said ∙ ap (then_elements (read_elements n (n - (c.loop-turn.turn + 1)))) c.in_ok-end.ensures.reading
    ∙ trailing_behind (read_elements n (n - (c.loop-turn.turn + 1))) (seen_of c.see_element.new.seen) c.in_ok-end.end c.args.input.now inside none)

pub loop-turn-preserved : goal.loop-turn-preserved
loop-turn-preserved c =
    let n = length c.args.input.now + 1 in
    let said = one_turn n n c.loop-turn.turn (seen_of c.loop-turn.seen) c.loop-turn.place c.ows.result c.args.input.now c.loop-turn-test.true c.ows.ensures.reading c.ows.ensures.rest in
    let comma : begins_with 44 (drop c.in_ok-end.end c.args.input.now) ≡ true = cc in
    let inside : c.in_ok-end.end < length c.args.input.now = omega (arith, c.in_ok-end.ensures.within) in
    record {
      reading = sym (sym c.loop-turn.invariant.reading ∙ said ∙ ap (then_elements (read_elements n (n - (c.loop-turn.turn + 1)))) c.in_ok-end.ensures.reading
          ∙ comma_behind (read_elements n (n - (c.loop-turn.turn + 1))) (seen_of c.see_element.new.seen) c.in_ok-end.end c.args.input.now inside comma);
      within = omega (arith, c.in_ok-end.ensures.within);
    }
