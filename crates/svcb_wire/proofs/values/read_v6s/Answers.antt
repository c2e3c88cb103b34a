use Rattle.std.proofs.Common.{◌∙◌, ap, ◌∷◌, [], ◌++◌, rules, arith}
use Rattle.std.proofs.lemmas.List.{take_rest}
use Rattle.svcb_wire.specs.ValueReading.{first_address}
use Rattle.svcb_wire.proofs.Items.{item_on, item_none}
use Rattle.svcb_wire.proofs.Readers.{address_takes, address_whole, address_cut}
use Rattle.svcb_wire.proofs.values.read_v6s.Goals as goal

pub loop-rest-preserved : goal.loop-rest-preserved
loop-rest-preserved c =
    item_on (first_address 16) c.loop-rest.addresses c.push.new.self c.loop-rest.rest.now _ c.args.value.now _ 16 (address_takes 16 (omega arith)) (omega (arith, c.if-rest-lt16.false)) (address_whole 16 c.loop-rest.rest.now c.if-rest-lt16.false)
    (c.in_ok-push.ensures.ok ∙ ap (λ a. c.loop-rest.addresses ++ a ∷ []) c.first_v6.ensures) (take_rest c.loop-rest.rest.now 16) c.loop-rest.invariant

pub returns-then-rest-lt16 : goal.returns-then-rest-lt16
returns-then-rest-lt16 c =
    item_none (first_address 16) c.loop-rest.addresses c.loop-rest.rest.now c.args.value.now (search rules) (address_cut 16 c.loop-rest.rest.now c.if-rest-lt16.true) c.loop-rest.invariant
