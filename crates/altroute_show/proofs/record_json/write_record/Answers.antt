use Rattle.std.proofs.Common.{◌∙◌, ◌++◌, ◌∷◌, [], ap, string_bytes}
use Rattle.serde_json.specs.View.{view}
use Rattle.altroute_show.proofs.RecordTexts.{line_is}
use Rattle.altroute_show.proofs.record_json.write_record.Goals as goal

pub returns : goal.returns
returns c =
    line_is c.args.value.now (view c.in_ok-record_json.field-0) (string_bytes c.in_ok-text.text) c.from_vec.result c.in_ok-record_json.ensures c.in_ok-text.ensures.text
    (c.from_vec.ensures ∙ c.in_ok-push.ensures.items ∙ ap (λ xs. xs ++ 10 ∷ []) (c.in_ok-line.ensures.items ∙ c.as_bytes.ensures.value))
