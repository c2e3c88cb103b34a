use Rattle.std.proofs.Common.{refl}
use Rattle.network_cache.specs.Contents.{kept, newest_moment}
use Rattle.network_cache.proofs.cache.Cache.purge.Goals as goal

pub returns-clause-fresh : goal.returns-clause-fresh
unfolding kept
returns-clause-fresh c = c.purge.ensures

pub returns-clause-moment : goal.returns-clause-moment
unfolding newest_moment
returns-clause-moment c = refl
