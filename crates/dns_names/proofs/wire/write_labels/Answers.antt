use Rattle.std.proofs.Common.{ap, ◌∙◌, ◌++◌, ◌∷◌, [], arith}
use Rattle.dns_names.proofs.WireWriting.{label_length, octets_more}
use Rattle.dns_names.proofs.wire.write_labels.Goals as goal

pub overflow_cast-len : goal.overflow_cast-len
overflow_cast-len c = omega (arith, label_length c.args.labels.now c.loop-label.label-index c.label-item.result c.loop-label-test.true c.label-item.is c.requires, c.len.ensures)

pub loop-label-preserved : goal.loop-label-preserved
loop-label-preserved c =
    octets_more c.args.labels.now c.loop-label.label-index c.label-item.result c.loop-label.octets.items c.push.new.self.items c.extend_from_slice.new.self.items c.loop-label-test.true c.label-item.is c.loop-label.invariant
    (c.in_ok-push.ensures.items ∙ ap (λ n. c.loop-label.octets.items ++ n ∷ []) c.len.ensures)
    (c.in_ok-extend_from_slice.ensures.items ∙ ap (λ xs. c.push.new.self.items ++ xs) c.as_slice.ensures)
