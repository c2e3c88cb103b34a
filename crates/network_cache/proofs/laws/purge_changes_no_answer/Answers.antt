use Rattle.network_cache.proofs.Lists.{fresh_later}
use Rattle.network_cache.proofs.Totals.{live_later, total_later}
use Rattle.network_cache.proofs.laws.purge_changes_no_answer.Goals as goal

pub returns : goal.returns
returns c = record { fresh = fresh_later; live = live_later; total = total_later }
