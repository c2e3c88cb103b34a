use Rattle.std.proofs.Common.{◌∙◌, ap, sym, subst}
use Rattle.alias_chain.specs.Held.{body_at}
use Rattle.alias_chain.specs.Walk.{AnswerMap}
use Rattle.alias_chain.specs.Endpoints.{AreEndpoints}
use Rattle.alias_chain.specs.Following.{from_query, endpoints_by}
use Rattle.alias_chain.proofs.Listed.{endpoints_are}
use Rattle.alias_chain.proofs.found.endpoints.Goals as goal

pub returns-clause-by_walk : goal.returns-clause-by_walk
unfolding endpoints_by
returns-clause-by_walk g c =
    let m : AnswerMap = λ name. body_at c.args.now.0 (g.A.Answers.held c.args.answers.now name) in
    let origin = c.args.origin.now in
    let supported = c.args.supported.now in
    subst (AreEndpoints m supported origin) (sym (c.in_ok-all.ensures ∙ ap (from_query m supported origin.port) c.in_ok-query.ensures)) (endpoints_are m supported origin)

pub returns-clause-followed : goal.returns-clause-followed
unfolding endpoints_by
returns-clause-followed g c =
    let m : AnswerMap = λ name. body_at c.args.now.0 (g.A.Answers.held c.args.answers.now name) in
    c.in_ok-all.ensures ∙ ap (from_query m c.args.supported.now c.args.origin.now.port) c.in_ok-query.ensures
