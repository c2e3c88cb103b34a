use Rattle.std.proofs.Common.{sym, ◌∙◌, arith}
use Rattle.std.proofs.lemmas.List.{take_rest}
use Rattle.svcb_values.proofs.StringLoop.{raw_read, escaped_read, escaped_size}
use Rattle.svcb_values.proofs.strings.read_styled.Goals as goal

pub loop-bytes-preserved-in-Raw : goal.loop-bytes-preserved-in-Raw
loop-bytes-preserved-in-Raw g c =
    raw_read c.args.text.now _ c.args.style c.loop-bytes.bytes c.push.new.self c.loop-bytes.plain c.loop-bytes.place c.in-Raw.byte (take_rest c.args.text.now c.loop-bytes.place) (sym c.token_at.ensures ∙ c.in-Raw.is) c.in_ok-push-in-Raw.ensures.ok c.loop-bytes.invariant

pub overflow_add-place-in-Escaped : goal.overflow_add-place-in-Escaped
overflow_add-place-in-Escaped g c =
    let size = escaped_size c.args.text.now _ c.args.style c.loop-bytes.place c.in-Escaped.byte c.in-Escaped.count c.loop-bytes.invariant.within (take_rest c.args.text.now c.loop-bytes.place) (sym c.token_at.ensures ∙ c.in-Escaped.is) in
    omega (arith, size.1)

pub loop-bytes-smaller : goal.loop-bytes-smaller
loop-bytes-smaller g c =
    let size = escaped_size c.args.text.now _ c.args.style c.loop-bytes.place c.in-Escaped.byte c.in-Escaped.count c.loop-bytes.invariant.within (take_rest c.args.text.now c.loop-bytes.place) (sym c.token_at.ensures ∙ c.in-Escaped.is) in
    omega (arith, size.0, size.1)

pub loop-bytes-preserved : goal.loop-bytes-preserved
loop-bytes-preserved g c =
    escaped_read c.args.text.now _ c.args.style c.loop-bytes.bytes c.push-in-Escaped.new.self c.loop-bytes.plain c.loop-bytes.place c.in-Escaped.byte c.in-Escaped.count (take_rest c.args.text.now c.loop-bytes.place) (sym c.token_at.ensures ∙ c.in-Escaped.is) c.in_ok-push-in-Escaped.ensures.ok c.loop-bytes.invariant
