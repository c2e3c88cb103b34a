use Rattle.std.proofs.Common.{refl}
use Rattle.network_cache.specs.Contents.{kept, newest_moment}
use Rattle.network_cache.proofs.cache.Cache.new.Goals as goal

pub returns-clause-nothing : goal.returns-clause-nothing
unfolding kept
returns-clause-nothing c = c.new.ensures

pub returns-clause-moment : goal.returns-clause-moment
unfolding newest_moment
returns-clause-moment c = refl
