use Rattle.std.proofs.Common.{◌≡◌, ◌++◌, false, drop}
use Rattle.field_text.specs.QuotedReading.{unquoted_body}
use Rattle.altsvc_grammar.proofs.unquoted.unquoted_body.Given as goal

-- the text so far and what the rest stands for
abbrev pub invariant-loop-byte : goal.invariant-loop-byte
invariant-loop-byte l = l.text.items ++ unquoted_body l.escaped (drop l.byte-index l.body) ≡ unquoted_body false l.body
