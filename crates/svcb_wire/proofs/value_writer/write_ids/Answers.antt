use Rattle.std.proofs.Common.{ap, ◌∙◌, ◌++◌, ◌∷◌, [], arith}
use Rattle.svcb_wire.proofs.Writing.{id_most, ids_more}
use Rattle.svcb_wire.proofs.value_writer.write_ids.Goals as goal

pub overflow_cast-len : goal.overflow_cast-len
overflow_cast-len c = omega (arith, id_most c.args.ids.now c.loop-id.id-index c.id-item.result c.loop-id-test.true c.id-item.is c.requires, c.len.ensures)

pub loop-id-preserved : goal.loop-id-preserved
loop-id-preserved c =
    ids_more c.args.ids.now c.loop-id.id-index c.id-item.result c.loop-id.octets.items c.push.new.self.items c.extend_from_slice.new.self.items c.loop-id-test.true c.id-item.is c.loop-id.invariant
    (c.in_ok-push.ensures.items ∙ ap (λ n. c.loop-id.octets.items ++ n ∷ []) c.len.ensures)
    (c.in_ok-extend_from_slice.ensures.items ∙ ap (λ xs. c.push.new.self.items ++ xs) c.as_slice.ensures)
