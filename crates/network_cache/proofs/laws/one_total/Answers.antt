use Rattle.network_cache.proofs.Totals.{one_total_of}
use Rattle.network_cache.proofs.laws.one_total.Goals as goal

pub returns : goal.returns
returns c = one_total_of
