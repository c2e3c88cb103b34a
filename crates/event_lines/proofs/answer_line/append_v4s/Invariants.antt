use Rattle.std.proofs.Common.{◌≡◌, ◌++◌, drop}
use Rattle.event_lines.specs.EventTexts.{item_text, items_text}
use Rattle.event_lines.specs.declared.answer_kind.AnswerKind.TheVariants.{Ipv4}
use Rattle.event_lines.proofs.answer_line.append_v4s.Given as goal

abbrev pub invariant-loop-address : goal.invariant-loop-address
invariant-loop-address l = l.line.items ++ items_text (item_text Ipv4) (drop l.address-index l.addresses) ≡ l.fn.line.items ++ items_text (item_text Ipv4) l.addresses
