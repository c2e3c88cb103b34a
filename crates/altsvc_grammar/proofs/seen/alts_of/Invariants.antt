use Rattle.std.proofs.Common.{◌≡◌, ◌++◌, map}
use Rattle.altsvc_grammar.specs.ValueReading.{alt_of}
use Rattle.altsvc_grammar.proofs.seen.alts_of.Given as goal

-- the entries so far, and those that are left
abbrev pub invariant-loop-key : goal.invariant-loop-key
invariant-loop-key l = l.alts.items ++ map alt_of l.key-iterator ≡ map alt_of l.fn.kept.entries
