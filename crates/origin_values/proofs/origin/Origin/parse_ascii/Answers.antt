use Rattle.std.proofs.Common.{◌≡◌, sym, ◌∙◌}
use Rattle.origin_values.specs.Written.{origin_text}
use Rattle.origin_values.proofs.AsciiTexts.{not_all_ascii, not_read, not_written, ascii_ok, gives_ok, gives_at, written_is, written_other}
use Rattle.origin_values.proofs.origin.Origin.parse_ascii.Goals as goal

pub returns-then-not-is_all_ascii-clause-not_ascii : goal.returns-then-not-is_all_ascii-clause-not_ascii
returns-then-not-is_all_ascii-clause-not_ascii c = λ h. not_all_ascii c.args.text.now (sym c.is_all_ascii.ensures ∙ c.if-not-is_all_ascii.true)

pub returns-in-Err-At-clause-not_ascii : goal.returns-in-Err-At-clause-not_ascii
returns-in-Err-At-clause-not_ascii c = λ h. not_read c.args.text.now _ (gives_at c.args.text.now c.read_origin.result c.in-Err-At.field-0 c.in-Err-At.field-0-0 c.in-Err-At.field-0-1 c.read_origin.ensures c.in-Err-At.is c.in-Err-At.field-0-is)

pub returns-then-eq-clause-ok : goal.returns-then-eq-clause-ok
returns-then-eq-clause-ok c =
    let reads = gives_ok c.args.text.now c.read_origin.result c.in-Ok.origin c.read_origin.ensures c.in-Ok.is in
    let written : c.as_slice-2.result.now ≡ origin_text c.in-Ok.origin = c.as_slice-2.ensures ∙ c.in_ok-write.ensures in
    ascii_ok c.args.text.now c.in-Ok.origin reads (written_is c.as_slice-2.result.now c.args.text.now c.in-Ok.origin (sym c.eq.ensures ∙ c.if-eq.true) written)

pub returns-else-eq-clause-not_ascii : goal.returns-else-eq-clause-not_ascii
returns-else-eq-clause-not_ascii c = λ h.
    let reads = gives_ok c.args.text.now c.read_origin.result c.in-Ok.origin c.read_origin.ensures c.in-Ok.is in
    let written : c.as_slice-2.result.now ≡ origin_text c.in-Ok.origin = c.as_slice-2.ensures ∙ c.in_ok-write.ensures in
    not_written c.args.text.now c.in-Ok.origin reads (written_other c.as_slice-2.result.now c.args.text.now c.in-Ok.origin (sym c.eq.ensures ∙ c.if-eq.false) written)
