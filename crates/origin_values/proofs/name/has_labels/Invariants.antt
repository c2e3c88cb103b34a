use Rattle.std.proofs.Common.{◌≡◌, ◌≤◌, drop, true}
use Rattle.origin_values.specs.HostReading.{are_labels}
use Rattle.origin_values.proofs.name.has_labels.Given as goal

abbrev pub invariant-loop-b : goal.invariant-loop-b
invariant-loop-b l = (l.count ≤ 63) × (are_labels l.count l.digits (drop l.b-index l.text) ≡ are_labels 0 true l.text)
