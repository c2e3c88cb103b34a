use Rattle.std.proofs.Common.{◌∙◌, sym, arith}
use Rattle.altroute_show.specs.Given.{refused_at}
use Rattle.altroute_show.proofs.FrameAnswers.{whole_ends, unfinished_ends, unfinished_fails}
use Rattle.altroute_show.proofs.frame_steps.end_octets.Goals as goal

pub returns-then-rest-eq0-clause-ends : goal.returns-then-rest-eq0-clause-ends
returns-then-rest-eq0-clause-ends g c = λ octets stands.
    whole_ends c.args.state.now octets _ stands c.args.state.now.bounded (sym (c.rest.ensures octets stands.reader) ∙ c.if-rest-eq0.true)

pub returns-in-Ok-clause-ends : goal.returns-in-Ok-clause-ends
returns-in-Ok-clause-ends g c = λ octets stands.
    unfinished_ends c.args.state.now octets _ _ stands c.args.state.now.bounded (omega (arith, c.rest.ensures octets stands.reader, c.if-rest-eq0.false))
    (c.in-Ok.ensures.ends (refused_at 2 c.args.state.now.taken) c.write_refused_at.ensures)

pub returns-in-Err-clause-ends : goal.returns-in-Err-clause-ends
returns-in-Err-clause-ends g c = λ octets stands.
    unfinished_fails c.in-Err.status c.args.state.now octets _ _ stands c.args.state.now.bounded (omega (arith, c.rest.ensures octets stands.reader, c.if-rest-eq0.false))
    (c.in-Err.ensures.ends (refused_at 2 c.args.state.now.taken) c.write_refused_at.ensures)
