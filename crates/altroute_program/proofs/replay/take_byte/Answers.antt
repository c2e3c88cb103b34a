use Rattle.std.proofs.Common.{◌≡◌, ◌<◌, ◌≤◌, nat_eq, false, length, arith, refl}
use Rattle.altroute_program.proofs.Lines.{full_ends, long_ends, other_ok, out_of_memory}
use Rattle.altroute_program.proofs.replay.take_byte.Goals as goal

pub returns-then-replay-eq-INPUT_LIMIT-clause-ends : goal.returns-then-replay-eq-INPUT_LIMIT-clause-ends
returns-then-replay-eq-INPUT_LIMIT-clause-ends g c = λ bytes text j reached.
    full_ends c.args.replay.now c.args.replay.now bytes text c.args.byte j _ reached c.if-replay-eq-INPUT_LIMIT.true

pub returns-then-len-ge-LINE_LIMIT-clause-ends : goal.returns-then-len-ge-LINE_LIMIT-clause-ends
returns-then-len-ge-LINE_LIMIT-clause-ends g c = λ bytes text j reached.
    let other : nat_eq c.args.byte 10 ≡ false = grind arith in
    let room : c.args.replay.now.taken < 67108864 = omega (arith, c.args.replay.now.bounded, c.if-replay-eq-INPUT_LIMIT.false) in
    let full : 65536 ≤ length c.args.replay.now.line = omega (arith, c.len.ensures, c.if-len-ge-LINE_LIMIT.true) in
    long_ends c.args.replay.now c.args.replay.now bytes text c.args.byte j _ reached other room full

pub returns-in-Ok-clause-ends : goal.returns-in-Ok-clause-ends
returns-in-Ok-clause-ends g c = λ bytes text j reached.
    let other : nat_eq c.args.byte 10 ≡ false = grind arith in
    let short : length c.args.replay.now.line < 65536 = omega (arith, c.len.ensures, c.if-len-ge-LINE_LIMIT.false) in
    other_ok c.args.replay.now _ bytes text c.args.byte j _ reached other short refl c.in-Ok.ensures.ok refl refl

pub returns-in-Err-clause-ends : goal.returns-in-Err-clause-ends
returns-in-Err-clause-ends g c = λ bytes text j reached.
    let room : c.args.replay.now.taken < 67108864 = omega (arith, c.args.replay.now.bounded, c.if-replay-eq-INPUT_LIMIT.false) in
    out_of_memory c.args.replay.now c.args.replay.now bytes text c.args.byte j _ reached room
