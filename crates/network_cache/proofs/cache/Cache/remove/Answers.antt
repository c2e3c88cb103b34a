use Rattle.std.proofs.Common.{refl}
use Rattle.network_cache.specs.Contents.{kept, newest_moment}
use Rattle.network_cache.proofs.cache.Cache.remove.Goals as goal

pub returns-clause-removed : goal.returns-clause-removed
unfolding kept
returns-clause-removed c = c.remove.ensures

pub returns-clause-moment : goal.returns-clause-moment
unfolding newest_moment
returns-clause-moment c = refl
