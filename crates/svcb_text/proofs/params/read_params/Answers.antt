use Rattle.std.proofs.Common.{◌≡◌, ℕ, ◌-◌, ◌≤◌, List, Ok, length, take, drop, true, false, nat_eq, sym, ◌∙◌, ap, arith}
use Rattle.std.specs.Map.{values_of}
use Rattle.std.proofs.lemmas.Bool.Decides.{nat_tests}
use Rattle.std.proofs.lemmas.List.{take_rest, length-drop}
use Rattle.std.proofs.lemmas.Result.{err_from_is_err_and}
use Rattle.svcb_text.proofs.KeyedMap.{IsPlaced, placed_found}
use Rattle.svcb_text.proofs.ReaderSteps.{no_more, stopped, passed, place_on, shorter_on}
use Rattle.svcb_text.proofs.params.read_params.Goals as goal

-- what stands behind the blanks
abbrev behind : List ℕ → ℕ → List ℕ
behind x blanks = take (length x - blanks) (drop blanks x)

none_left : (x : List ℕ) (t : _) → t ≡ nat_eq (length x) 0 → t ≡ true → length x ≡ 0
none_left x t e is = let h : nat_eq (length x) 0 ≡ true = sym e ∙ is in grind (arith, nat_tests)

some_left : (x : List ℕ) (t : _) → t ≡ nat_eq (length x) 0 → t ≡ false → 1 ≤ length x
some_left x t e is = let h : nat_eq (length x) 0 ≡ false = sym e ∙ is in grind (arith, nat_tests)

pub returns-then-is_empty : goal.returns-then-is_empty
returns-then-is_empty c =
    let x = c.loop-rest.rest.now in
    let blanks = c.ows-blanks.result in
    no_more _ c.loop-rest.at blanks x (behind x blanks) _ (omega (arith, c.ows-blanks.ensures.reading)) (take_rest x blanks ∙ c.ows-blanks.ensures.rest) (none_left (behind x blanks) c.is_empty.result c.is_empty.ensures c.if-is_empty.true) c.loop-rest.invariant.reads
    ∙ ap Ok (sym c.in_ok-in_order.ensures)

pub returns-in_err-param : goal.returns-in_err-param
returns-in_err-param c =
    let x = c.loop-rest.rest.now in
    let blanks = c.ows-blanks.result in
    let p = err_from_is_err_and c.from_residual-in_err-param.result c.from_residual-in_err-param.ensures.1 in
    rw (p.1, p.2)
    (stopped _ c.loop-rest.at blanks x (behind x blanks) _ c.in_err-param.field-0.0 (omega (arith, c.ows-blanks.ensures.reading)) (take_rest x blanks ∙ c.ows-blanks.ensures.rest) (some_left (behind x blanks) c.is_empty.result c.is_empty.ensures c.if-is_empty.false)
    c.loop-rest.invariant.reads c.in_err-param.ensures.reading)

pub loop-rest-preserved : goal.loop-rest-preserved
loop-rest-preserved c =
    let x = c.loop-rest.rest.now in
    let blanks = c.ows-blanks.result in
    let y = behind x blanks in
    let size = c.in_ok-param.size in
    let placed : IsPlaced c.in_ok-param.param c.loop-rest.found.entries _ = placed_found c.param_key.result c.in_ok-param.param c.loop-rest.found.entries c.param_key.ensures c.loop-rest.invariant.keyed c.in_ok-param.ensures.is_new in
    let y_is : y ≡ drop blanks x = take_rest x blanks in
    let rest_is : behind y size ≡ drop size y = take_rest y size in
    let some : 1 ≤ length y = some_left y c.is_empty.result c.is_empty.ensures c.if-is_empty.false in
    record {
      place = place_on c.loop-rest.at blanks size _ x y (behind y size) y_is c.ows-blanks.ensures.within rest_is c.in_ok-param.ensures.within c.loop-rest.invariant.place;
      within = shorter_on blanks size _ x y (behind y size) y_is rest_is c.loop-rest.invariant.within;
      keyed = rw c.in_ok-insert.ensures.entries placed.keyed;
      reads =
          passed _ _ c.in_ok-param.param c.loop-rest.at blanks size x y (behind y size) _ (omega (arith, c.ows-blanks.ensures.reading)) (y_is ∙ c.ows-blanks.ensures.rest) some c.in_ok-param.ensures.some c.in_ok-param.ensures.within (omega (arith, ap length y_is, length-drop blanks x))
          c.in_ok-param.ensures.reading (ap values_of c.in_ok-insert.ensures.entries ∙ placed.values) rest_is c.loop-rest.invariant.reads;
    }
