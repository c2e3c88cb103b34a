use Rattle.std.proofs.Common.{◌≡◌, map, filter, take}
use Rattle.alias_chain.specs.Endpoints.{can_use}
use Rattle.alias_chain.specs.Ranks.{ranked_of}
use Rattle.alias_chain.proofs.ranked.usable.Given as goal

abbrev pub invariant-loop-record_ : goal.invariant-loop-record_
invariant-loop-record_ l = l.all.items ≡ map (ranked_of l.supported l.port l.name) (filter (can_use l.supported) (take l.record_-index l.records))
