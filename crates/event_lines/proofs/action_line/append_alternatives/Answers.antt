use Rattle.std.proofs.Common.{codes, ◌∙◌}
use Rattle.origin_values.specs.Written.{origin_text}
use Rattle.altsvc_grammar.specs.Written.{value_text}
use Rattle.event_lines.proofs.Appended.{four_pieces}
use Rattle.event_lines.proofs.action_line.append_alternatives.Goals as goal

pub returns : goal.returns
returns c =
    four_pieces c.append-4.result c.args.line.now.items c.append.new.line.items c.append-2.new.line.items c.append-3.new.line.items c.append-4.new.line.items (codes "alternatives ")
    (origin_text c.args.origin.now) (codes " ") (value_text c.args.value.now) c.as_slice-2.result.now c.as_slice-4.result.now c.in_ok-append.ensures c.in_ok-append-2.ensures
    (c.as_slice-2.ensures ∙ c.in_ok-write.ensures) c.in_ok-append-3.ensures c.append-4.ensures (c.as_slice-4.ensures ∙ c.in_ok-write-2.ensures)
