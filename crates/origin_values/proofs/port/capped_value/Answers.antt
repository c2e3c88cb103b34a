use Rattle.std.proofs.Common.{ap, ◌∙◌, ◌+◌, ◌*◌, min}
use Rattle.std.specs.Str.Parse.{digits_value}
use Rattle.origin_values.proofs.Ports.{next_digit}
use Rattle.origin_values.proofs.port.capped_value.Goals as goal

pub loop-b-preserved : goal.loop-b-preserved
loop-b-preserved c =
    let value = c.min-value.ensures ∙ ap (λ x. min (c.loop-b.value * 10 + x) 65536) c.from.ensures in
    let next = next_digit c.loop-b.value c.min-value.result c.loop-b.b-index (digits_value 10 c.args.digits.now) c.args.digits.now
    c.loop-b-test.true c.loop-b.invariant.digits value c.loop-b.invariant.capped in
    record { within = next.within; digits = next.digits; capped = next.capped }
