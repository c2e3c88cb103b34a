use Rattle.std.proofs.Common.{◌≤◌}
use Rattle.network_cache.specs.Contents.{newest_moment}
use Rattle.network_cache.proofs.tests.hold.Given as goal

-- no change was given a moment above the newest one
abbrev pub invariant-loop-now : goal.invariant-loop-now
invariant-loop-now g l = newest_moment l.cache ≤ l.newest
