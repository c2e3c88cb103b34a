use Rattle.std.proofs.Common.{◌≡◌, ◌+◌, drop}
use Rattle.origin_values.specs.OriginGrammar.{ends_host}
use Rattle.origin_values.specs.OriginReading.{count_before}
use Rattle.origin_values.proofs.run.plain_end.Given as goal

abbrev pub invariant-loop-i : goal.invariant-loop-i
invariant-loop-i l = count_before ends_host l.text ≡ count_before ends_host (drop l.i l.text) + l.i
