use Rattle.std.proofs.Common.{Some, sym, ◌∙◌}
use Rattle.network_cache.proofs.Lookups.{updated, none_placed}
use Rattle.network_cache.proofs.index.place.Goals as goal

pub returns-then-len-eq0 : goal.returns-then-len-eq0
returns-then-len-eq0 c = λ o. none_placed c.args.index.now.entries c.args.origin o c.args.alternatives (sym c.len.ensures ∙ c.if-len-eq0.true) c.requires.vacant

pub returns : goal.returns
returns c = λ o. updated c.args.index.now.entries c.insert.new.self.entries c.args.origin o (Some c.args.alternatives) ((rw c.unwrap.ensures at c.insert.ensures.updates).0 o)
