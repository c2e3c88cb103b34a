use Rattle.std.proofs.lemmas.List.{take_rest}
use Rattle.svcb_wire.proofs.Keys.{key_on}
use Rattle.svcb_wire.proofs.values.read_keys.Goals as goal

pub loop-rest-preserved : goal.loop-rest-preserved
loop-rest-preserved c =
    key_on c.loop-rest.rest.now _ c.loop-rest.keys c.push.new.self c.args.value.now c.loop-rest.last c.read_u16-key.result c.if-rest-lt2.false c.if-key-last.false c.read_u16-key.ensures c.in_ok-push.ensures.ok (take_rest c.loop-rest.rest.now 2) c.loop-rest.invariant
