use Rattle.std.proofs.Common.{◌≡◌, ◌+◌, ◌≤◌}
use Rattle.std.specs.Prelude.{min}
use Rattle.network_cache.specs.Entries.{fresh_among}
use Rattle.network_cache.proofs.index.count_all_fresh.Given as goal

-- those so far, and those that are left
abbrev pub invariant-loop-all : goal.invariant-loop-all
invariant-loop-all l = record {
  fits : l.total ≤ 18446744073709551615;
  sum : min (l.total + fresh_among l.now.0 l.all-iterator) 18446744073709551615 ≡ min (fresh_among l.now.0 l.fn.index.entries) 18446744073709551615;
}
