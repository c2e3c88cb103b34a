use Rattle.std.proofs.Common.{◌≡◌, ◌++◌, drop}
use Rattle.altsvc_grammar.specs.Shown.{alt_lines}
use Rattle.altsvc_grammar.proofs.show.append_lines.Given as goal

-- the text so far, and the lines that are left
abbrev pub invariant-loop-alt : goal.invariant-loop-alt
invariant-loop-alt l = l.text.items ++ alt_lines (drop l.alt-index l.alts) ≡ l.initial.text.items ++ alt_lines l.alts
