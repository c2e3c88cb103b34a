use Rattle.std.proofs.Common.{◌≡◌, ◌<◌, Some, length, sym, arith}
use Rattle.field_text.specs.DeltaReading.{read_delta_seconds}
use Rattle.field_text.proofs.DeltaLemmas.{end_read, other_at, says_some}
use Rattle.field_text.proofs.seconds.delta_seconds.Goals as goal

pub returns-then-not-is_ascii_digit-clause-none : goal.returns-then-not-is_ascii_digit-clause-none
returns-then-not-is_ascii_digit-clause-none c =
    other_at c.args.input.now c.loop-digit.digit-index c.loop-digit-test.true (sym c.if-not-is_ascii_digit.ensures.value)

pub returns-clause-reading : goal.returns-clause-reading
returns-clause-reading c =
    let some : 0 < length c.args.input.now = grind arith in
    end_read c.loop-digit.seconds c.loop-digit.digit-index c.args.input.now some c.loop-digit-test.false c.loop-digit.invariant.reads

pub returns-clause-some : goal.returns-clause-some
returns-clause-some c =
    let some : 0 < length c.args.input.now = grind arith in
    let reading : Some c.loop-digit.seconds ≡ read_delta_seconds c.args.input.now = end_read c.loop-digit.seconds c.loop-digit.digit-index c.args.input.now some c.loop-digit-test.false c.loop-digit.invariant.reads in
    says_some c.loop-digit.seconds c.args.input.now reading
