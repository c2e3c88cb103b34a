use Rattle.std.proofs.Common.{arith}
use Rattle.svcb_values.proofs.DigitTexts.{room}
use Rattle.svcb_values.proofs.port.value_of.Goals as goal

pub overflow_mul-value : goal.overflow_mul-value
overflow_mul-value c =
    omega (arith, room c.loop-b.value c.loop-b.b-index c.args.digits.now c.loop-b-test.true c.requires.short c.requires.digits c.loop-b.invariant.digits c.loop-b.invariant.same)

pub overflow_add-value : goal.overflow_add-value
overflow_add-value c =
    omega (arith, c.from.ensures, room c.loop-b.value c.loop-b.b-index c.args.digits.now c.loop-b-test.true c.requires.short c.requires.digits c.loop-b.invariant.digits c.loop-b.invariant.same)
