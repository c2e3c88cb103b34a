use Rattle.std.proofs.lemmas.List.{take_rest}
use Rattle.std.proofs.Common.{sym, ◌∙◌}
use Rattle.dns_names.proofs.WireLoop.{label_read}
use Rattle.dns_names.proofs.wire.read_labels.Goals as goal

pub loop-labels-preserved : goal.loop-labels-preserved
loop-labels-preserved c =
    label_read c.args.place c.loop-labels.used c.in-Label.count c.args.octets.now _ _ c.loop-labels.labels c.push.new.self (take_rest c.args.octets.now c.loop-labels.used) (sym c.begins_with.ensures ∙ c.in-Label.is) c.in_ok-label_of-in-Label.ensures c.in_ok-push-in-Label.ensures.ok c.loop-labels.invariant
