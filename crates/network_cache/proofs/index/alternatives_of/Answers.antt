use Rattle.std.proofs.Common.{ap, sym, ◌∙◌}
use Rattle.network_cache.specs.Entries.{all_of}
use Rattle.network_cache.proofs.Lookups.{looked_up}
use Rattle.network_cache.proofs.index.alternatives_of.Goals as goal

pub returns : goal.returns
returns c = ap all_of c.get.ensures.value ∙ sym (looked_up c.args.index.now.entries c.args.origin.now)
