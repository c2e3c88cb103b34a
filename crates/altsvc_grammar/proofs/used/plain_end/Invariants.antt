use Rattle.std.proofs.Common.{◌≡◌, ◌+◌, drop, nat_eq}
use Rattle.origin_values.specs.OriginReading.{count_before}
use Rattle.altsvc_grammar.proofs.used.plain_end.Given as goal

abbrev pub invariant-loop-i : goal.invariant-loop-i
invariant-loop-i l = count_before (λ c. nat_eq c 58) l.text ≡ count_before (λ c. nat_eq c 58) (drop l.i l.text) + l.i
