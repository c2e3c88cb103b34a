use Rattle.std.proofs.Common.{◌≡◌, drop}
use Rattle.std.specs.List.{find}
use Rattle.alias_chain.specs.Walk.{is_alias}
use Rattle.alias_chain.proofs.walk.first_alias.Given as goal

abbrev pub invariant-loop-record_ : goal.invariant-loop-record_
invariant-loop-record_ l = find is_alias (drop l.record_-index l.records) ≡ find is_alias l.records
