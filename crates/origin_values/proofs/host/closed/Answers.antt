use Rattle.std.proofs.Common.{sym, ◌∙◌}
use Rattle.origin_values.proofs.Hosts.{closed_yes, closed_no}
use Rattle.origin_values.proofs.host.closed.Goals as goal

pub returns-then-last-eq93 : goal.returns-then-last-eq93
returns-then-last-eq93 c = c.v6.ensures ∙ sym (closed_yes c.args.text.now c.in_ok-last.inner.now c.in_ok-last.last.now c.in_ok-last.ensures.cases.0 c.if-last-eq93.true)

pub returns-else-last-eq93 : goal.returns-else-last-eq93
returns-else-last-eq93 c = sym (closed_no c.args.text.now c.in_ok-last.inner.now c.in_ok-last.last.now c.in_ok-last.ensures.cases.0 c.if-last-eq93.false)
