use Rattle.std.proofs.Common.{◌≡◌, ◌-◌, []}
use Rattle.alias_chain.specs.Held.{body_at}
use Rattle.alias_chain.specs.Following.{follow}
use Rattle.alias_chain.proofs.walk.follow.Given as goal

abbrev pub invariant-loop : goal.invariant-loop
invariant-loop g l =
    follow (λ name. body_at l.now.0 (g.A.Answers.held l.answers name)) (9 - l.counter) l.before l.name
    ≡ follow (λ name. body_at l.now.0 (g.A.Answers.held l.answers name)) 9 [] l.fn.query
