use Rattle.std.proofs.Common.{◌≡◌, ◌∙◌, sym, subst}
use Rattle.std.specs.Str.{IsUtf8}
use Rattle.dns_names.specs.TextParts.{text_form}
use Rattle.altroute_show.proofs.RecordTexts.{name_text}
use Rattle.altroute_show.proofs.record_json.target_text.Goals as goal

pub returns : goal.returns
returns c =
    let is : c.as_slice.result.now ≡ text_form c.args.name.now = c.as_slice.ensures ∙ c.in_ok-text.ensures.written in
    c.in_ok-target.ensures.ok (subst IsUtf8 (sym is) (name_text c.args.name.now c.in_ok-text.ensures.name)) ∙ is
