use Rattle.std.proofs.Common.{◌-◌, length, take, drop, sym, ◌∙◌}
use Rattle.std.proofs.lemmas.List.{take_rest}
use Rattle.svcb_values.proofs.IdTexts.{comma_step, byte_step, escape_step}
use Rattle.svcb_values.proofs.ids.read_ids.Goals as goal

pub loop-rest-preserved-then-byte-eq44 : goal.loop-rest-preserved-then-byte-eq44
loop-rest-preserved-then-byte-eq44 c =
    comma_step c.loop-rest.ids c.push.new.self c.loop-rest.id _ c.loop-rest.rest.now _ c.args.text.now c.in-len1-up.len_at_least c.if-byte-eq44.true (sym c.is_id.ensures ∙ c.if-not-is_id.false) c.in_ok-push.ensures.ok
    c.new-id-then-byte-eq44.ensures (take_rest c.loop-rest.rest.now 1) c.loop-rest.invariant

pub loop-rest-preserved : goal.loop-rest-preserved
loop-rest-preserved c =
    byte_step c.loop-rest.ids c.loop-rest.id _ c.loop-rest.rest.now _ c.args.text.now c.in-len1-up.len_at_least c.if-byte-eq44.false c.if-byte-eq92.false c.in_ok-push-3.ensures.ok (take_rest c.loop-rest.rest.now 1) c.loop-rest.invariant

pub loop-rest-preserved-then-byte-eq92 : goal.loop-rest-preserved-then-byte-eq92
loop-rest-preserved-then-byte-eq92 c =
    escape_step c.loop-rest.ids c.loop-rest.id _ c.loop-rest.rest.now (take (length c.loop-rest.rest.now - 1) (drop 1 c.loop-rest.rest.now)) _ c.args.text.now c.in-len1-up.len_at_least
    c.if-byte-eq92.true (take_rest c.loop-rest.rest.now 1) c.in-len1-up-behind.len_at_least
    (sym c.is_escaped.ensures ∙ c.if-not-is_escaped.false) c.in_ok-push-2.ensures.ok (take_rest (take (length c.loop-rest.rest.now - 1) (drop 1 c.loop-rest.rest.now)) 1) c.loop-rest.invariant
