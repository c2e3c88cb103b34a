use Rattle.std.proofs.Common.{◌≡◌, ℕ, ◌≤◌, ◌<◌, ◌+◌, length}
use Rattle.std.specs.BTreeMap as tree
use Rattle.svcb_text.specs.ParamOrder.{AreKeyed}
use Rattle.svcb_text.specs.TextReading.{params_behind, read_params}
use Rattle.svcb_text.proofs.params.read_params.Given as goal

-- with some count of parameters more, which is enough for the rest, the rest is read as the whole is
abbrev pub invariant-loop-rest : goal.invariant-loop-rest
invariant-loop-rest l = record {
  place : l.at + length l.rest ≤ l.place + length l.text;
  within : length l.rest ≤ length l.text;
  keyed : AreKeyed l.found.entries;
  reads : (k : ℕ) × (length l.rest < k) × (params_behind k (tree.values l.found) l.at l.rest ≡ read_params l.place l.text);
}

abbrev pub decreases-loop-rest : goal.decreases-loop-rest
decreases-loop-rest l = length l.rest
