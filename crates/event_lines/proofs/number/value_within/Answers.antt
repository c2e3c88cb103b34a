use Rattle.std.proofs.Common.{◌-◌, ◌/◌, ◌<◌, get_or}
use Rattle.std.specs.Str.Parse.{digits_value}
use Rattle.event_lines.proofs.Numbers.{too_large}
use Rattle.event_lines.proofs.number.value_within.Goals as goal

pub returns-then-most-digit : goal.returns-then-most-digit
returns-then-most-digit c =
    let ds = c.args.digits.now in
    let large : (c.args.most - (get_or ds c.loop-b.b-index 0 - 48)) / 10 < c.loop-b.value = rw c.from-digit.ensures at c.if-most-digit.true in
    too_large c.args.most c.loop-b.value c.loop-b.b-index (digits_value 10 ds) ds c.requires.some_digit c.loop-b-test.true c.loop-b.invariant.digits large c.loop-b.invariant.same
