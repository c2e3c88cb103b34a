use Rattle.std.proofs.Common.{◌≡◌, ◌≤◌, drop, length}
use Rattle.std.specs.List.{list_all}
use Rattle.svcb_wire.specs.Usable.{has_key}
use Rattle.svcb_wire.proofs.usable.all_present.Given as goal

-- the keys that are left decide
abbrev pub invariant-loop-key : goal.invariant-loop-key
invariant-loop-key l = record {
  within : l.at ≤ length l.params;
  rest : list_all (λ key. has_key key l.params) (drop l.key-index l.keys) ≡ list_all (λ key. has_key key l.params) l.keys;
}
