use Rattle.std.proofs.Common.{◌≡◌, None, sym, ◌∙◌, subst, ap, arith, ◌++◌, ◌∷◌, []}
use Rattle.std.proofs.lemmas.List.{take_rest}
use Rattle.alt_base.specs.Answers.{Answers}
use Rattle.dns_names.specs.TextReading.{label_fault}
use Rattle.dns_names.proofs.TextLoop.{byte_read, byte_size, label_read, end_read, stop_read, fault_read}
use Rattle.dns_names.proofs.text.joined_labels.Goals as goal

pub returns-in-End : goal.returns-in-End
returns-in-End c =
    let i = c.loop-labels.invariant in
    subst (Answers c.text_ends.result) (end_read c.args.text.now _ c.loop-labels.labels c.loop-labels.label c.loop-labels.used c.loop-labels.start c.loop-labels.place (take_rest c.args.text.now c.loop-labels.place) (sym c.token_at.ensures ∙ c.in-End.is) i) c.text_ends.ensures

pub returns-in-Stop : goal.returns-in-Stop
returns-in-Stop c =
    stop_read c.args.text.now _ c.loop-labels.labels c.loop-labels.label c.loop-labels.used c.loop-labels.start c.loop-labels.place c.in-Stop.reason (take_rest c.args.text.now c.loop-labels.place) (sym c.token_at.ensures ∙ c.in-Stop.is) c.loop-labels.invariant

pub loop-labels-smaller-in-Byte : goal.loop-labels-smaller-in-Byte
loop-labels-smaller-in-Byte c =
    let size = byte_size c.args.text.now _ c.loop-labels.place c.in-Byte.byte c.in-Byte.count c.loop-labels.invariant.within (take_rest c.args.text.now c.loop-labels.place) (sym c.token_at.ensures ∙ c.in-Byte.is) in
    omega (arith, size.0, size.1)

pub loop-labels-preserved-in-Byte : goal.loop-labels-preserved-in-Byte
loop-labels-preserved-in-Byte c =
    byte_read c.args.text.now _ c.loop-labels.labels c.loop-labels.label c.push.new.self c.loop-labels.used c.loop-labels.start c.loop-labels.place c.in-Byte.byte c.in-Byte.count (take_rest c.args.text.now c.loop-labels.place) (sym c.token_at.ensures ∙ c.in-Byte.is)
    (c.in_ok-push-in-Byte.ensures.ok ∙ ap (λ b. c.loop-labels.label ++ b ∷ []) c.to_ascii_lowercase.ensures.value) c.loop-labels.invariant

pub returns-in-Some : goal.returns-in-Some
returns-in-Some c =
    fault_read c.args.text.now _ c.loop-labels.labels c.loop-labels.label c.loop-labels.used c.loop-labels.start c.loop-labels.place c.len.result c.in-Some.reason (take_rest c.args.text.now c.loop-labels.place) (sym c.token_at.ensures ∙ c.in-Dot.is) c.len.ensures (sym c.label_fault.ensures ∙ c.in-Some.is) c.loop-labels.invariant

pub loop-labels-preserved : goal.loop-labels-preserved
loop-labels-preserved c =
    rw c.clear.ensures (label_read c.args.text.now _ c.loop-labels.labels c.push-in-Dot.new.self c.loop-labels.label c.in_ok-copy-in-Dot.field-0 c.loop-labels.used c.loop-labels.start c.loop-labels.place c.len-in-Dot.result (take_rest c.args.text.now c.loop-labels.place) (sym c.token_at.ensures ∙ c.in-Dot.is) c.len-in-Dot.ensures
    (subst (λ n. label_fault c.loop-labels.used n ≡ None) (c.len.ensures ∙ sym c.len-in-Dot.ensures) (sym c.label_fault.ensures ∙ c.in_default.is)) c.in_ok-copy-in-Dot.ensures c.in_ok-push-in-Dot.ensures.ok c.loop-labels.invariant)
