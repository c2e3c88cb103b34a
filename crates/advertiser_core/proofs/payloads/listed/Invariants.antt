use Rattle.std.proofs.Common.{◌≡◌, take}
use Rattle.advertiser_core.proofs.payloads.listed.Given as goal

-- twins of the origins so far
abbrev pub invariant-loop-origin : goal.invariant-loop-origin
invariant-loop-origin l = l.twins.items ≡ take l.origin-index l.origins
