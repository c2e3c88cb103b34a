use Rattle.both_ends.specs.Histories.{acts_of, journal_of}
use Rattle.both_ends.proofs.Taking.{took_act, refused_early, consent_for}
use Rattle.both_ends.proofs.both_ends.BothEnds.take_act.Goals as goal

pub returns-in-Err-clause-refused : goal.returns-in-Err-clause-refused
returns-in-Err-clause-refused c = refused_early c.args.self c.args.now.0 c.args.act c.in-Err.fault c.in-Err.ensures.err

pub returns-in-Ok-step-clause-taken : goal.returns-in-Ok-step-clause-taken
returns-in-Ok-step-clause-taken c = λ h stands.
    took_act c.args.self _ _ h c.args.now.0 c.args.act _ stands c.requires
    (consent_for _ _ _ (acts_of h) (journal_of h) _ c.args.act (c.asked_origin-asked.ensures (journal_of h) stands.client) (c.in-Ok.ensures.ok (acts_of h) stands.server))
    (c.in-Ok-step.ensures.taken _ stands.client)
