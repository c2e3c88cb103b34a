use Rattle.std.proofs.Common.{refl}
use Rattle.network_cache.specs.Contents.{kept, newest_moment}
use Rattle.network_cache.proofs.cache.Cache.network.Goals as goal

pub returns-clause-persistent : goal.returns-clause-persistent
unfolding kept
returns-clause-persistent c = c.network.ensures

pub returns-clause-moment : goal.returns-clause-moment
unfolding newest_moment
returns-clause-moment c = refl
