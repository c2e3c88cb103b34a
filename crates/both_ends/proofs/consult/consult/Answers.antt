use Rattle.std.proofs.Common.{sym, ap, ◌∙◌}
use Rattle.event_lines.specs.declared.server_act.ServerAct.TheVariants.{Serve}
use Rattle.both_ends.proofs.Taking.{told_so}
use Rattle.both_ends.proofs.consult.consult.Goals as goal

pub returns-in_ok-copy-in-Serve-clause-ok : goal.returns-in_ok-copy-in-Serve-clause-ok
returns-in_ok-copy-in-Serve-clause-ok c = told_so _ _ _ _ _ c.serve.result (ap Serve c.in_ok-copy-in-Serve.ensures ∙ sym c.in-Serve.is) c.serve.ensures.ok

pub returns-in-Unserve-clause-ok : goal.returns-in-Unserve-clause-ok
returns-in-Unserve-clause-ok c = told_so _ _ _ _ _ c.unserve.result (sym c.in-Unserve.is) c.unserve.ensures.ok

pub returns-in-Offer-clause-ok : goal.returns-in-Offer-clause-ok
returns-in-Offer-clause-ok c = told_so _ _ _ _ _ c.offer.result (sym c.in-Offer.is) c.offer.ensures.ok

pub returns-in-Withdraw-clause-ok : goal.returns-in-Withdraw-clause-ok
returns-in-Withdraw-clause-ok c = told_so _ _ _ _ _ c.withdraw.result (sym c.in-Withdraw.is) c.withdraw.ensures.ok

pub returns-in-Announce-clause-ok : goal.returns-in-Announce-clause-ok
returns-in-Announce-clause-ok c = told_so _ _ _ _ _ c.announce.result (sym c.in-Announce.is) c.announce.ensures.ok

pub returns-in-Deliver-clause-ok : goal.returns-in-Deliver-clause-ok
returns-in-Deliver-clause-ok c = told_so _ _ _ _ _ c.deliver.result (sym c.in-Deliver.is) c.deliver.ensures.ok
