use Rattle.std.proofs.Common.{◌≡◌, ◌++◌, drop}
use Rattle.altsvc_grammar.specs.Written.{more_alts_text}
use Rattle.altsvc_grammar.proofs.written.append_more_alts.Given as goal

-- the text so far, and that of the alternatives that are left
abbrev pub invariant-loop-alt : goal.invariant-loop-alt
invariant-loop-alt l = l.text.items ++ more_alts_text (drop l.alt-index l.alts) ≡ l.initial.text.items ++ more_alts_text l.alts
