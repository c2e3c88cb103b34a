use Rattle.std.proofs.Common.{◌≡◌, ◌++◌, drop}
use Rattle.event_lines.specs.EventTexts.{item_text, items_text}
use Rattle.event_lines.specs.declared.answer_kind.AnswerKind.TheVariants.{Https}
use Rattle.event_lines.proofs.answer_line.append_rdatas.Given as goal

abbrev pub invariant-loop-rdata : goal.invariant-loop-rdata
invariant-loop-rdata l = l.line.items ++ items_text (item_text Https) (drop l.rdata-index l.rdatas) ≡ l.fn.line.items ++ items_text (item_text Https) l.rdatas
