use Rattle.std.proofs.Common.{arith, sym, ◌∙◌}
use Rattle.svcb_values.proofs.DigitTexts.{zero_first, number_plain}
use Rattle.svcb_values.proofs.key_names.number_of.Goals as goal
use Rattle.svcb_values.proofs.key_names.number_of.Goals.{else-text-gt1-via-then-text-gt1+else-text-eq48, else-text-gt1-via-else-text-gt1}

pub returns-then-text-eq48 : goal.returns-then-text-eq48
returns-then-text-eq48 c = zero_first c.args.text.now (omega arith) c.if-text-eq48.true

pub returns-else-text-gt1 : goal.returns-else-text-gt1
returns-else-text-gt1 c = c.read_port.ensures ∙ sym (number_plain c.args.text.now (λ long first.
    elim c.else-text-gt1.branch [ else-text-gt1-via-then-text-gt1+else-text-eq48 w ↦ w.if-text-eq48.false first | else-text-gt1-via-else-text-gt1 w ↦ omega arith ]))
