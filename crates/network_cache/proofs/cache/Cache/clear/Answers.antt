use Rattle.std.proofs.Common.{refl}
use Rattle.network_cache.specs.Contents.{kept, newest_moment}
use Rattle.network_cache.proofs.cache.Cache.clear.Goals as goal

pub returns-clause-cleared : goal.returns-clause-cleared
unfolding kept
returns-clause-cleared c = c.clear.ensures

pub returns-clause-moment : goal.returns-clause-moment
unfolding newest_moment
returns-clause-moment c = refl
