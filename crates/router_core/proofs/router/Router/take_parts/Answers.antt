use Rattle.std.proofs.Common.{◌≡◌, refl, subst, arith}
use Rattle.router_core.specs.declared.course.Course.{Course}
use Rattle.router_core.specs.Becomes.{Follows}
use Rattle.router_core.specs.StepBecomes.{course_of}
use Rattle.router_core.proofs.Bounds.{leaves_room, not_spent, step_within}
use Rattle.router_core.proofs.router.Router.take_parts.Goals as goal

pub follow-requires-clause-sends : goal.follow-requires-clause-sends
follow-requires-clause-sends c =
    let room = not_spent c.args.self.facts c.args.self.last c.args.self.newest c.args.self.tables c.args.now.0 c.args.fact c.args.self.bounded c.requires.free in
    leaves_room c.begin-begun.result c.args.self.tables c.args.self.facts c.args.fact c.begin-begun.ensures.tables c.args.self.few_sends room

pub invariant_of-result-clause-bounded : goal.invariant_of-result-clause-bounded
invariant_of-result-clause-bounded c =
    let room = not_spent c.args.self.facts c.args.self.last c.args.self.newest c.args.self.tables c.args.now.0 c.args.fact c.args.self.bounded c.requires.free in
    omega (arith, room)

pub invariant_of-result-clause-few_sends : goal.invariant_of-result-clause-few_sends
invariant_of-result-clause-few_sends c =
    let room = not_spent c.args.self.facts c.args.self.last c.args.self.newest c.args.self.tables c.args.now.0 c.args.fact c.args.self.bounded c.requires.free in
    let within = step_within c.begin-begun.result c.in_ok-state.field-0 c.args.self.tables c.args.self.facts c.args.now.0 c.args.fact c.in_ok-octets.octets.conn c.in_ok-octets.octets.frames c.in_ok-octets.octets.too_large
    c.begin-begun.ensures.tables c.args.self.few_sends room c.in_ok-state.ensures.follows c.in_ok-octets.ensures.few in
    within.sends

pub invariant_of-result-clause-few_attempts : goal.invariant_of-result-clause-few_attempts
invariant_of-result-clause-few_attempts c =
    let room = not_spent c.args.self.facts c.args.self.last c.args.self.newest c.args.self.tables c.args.now.0 c.args.fact c.args.self.bounded c.requires.free in
    let within = step_within c.begin-begun.result c.in_ok-state.field-0 c.args.self.tables c.args.self.facts c.args.now.0 c.args.fact c.in_ok-octets.octets.conn c.in_ok-octets.octets.frames c.in_ok-octets.octets.too_large
    c.begin-begun.ensures.tables c.args.self.few_sends room c.in_ok-state.ensures.follows c.in_ok-octets.ensures.few in
    omega (arith, within.opened, c.args.self.few_attempts)

pub returns : goal.returns
returns c =
    let begun : c.begin-begun.result ≡ course_of c.args.self = λ i. record {
      state = record { tables = c.begin-begun.ensures.tables i; actions = c.begin-begun.ensures.actions i };
      alternatives = c.begin-begun.ensures.alternatives i;
      answers = c.begin-begun.ensures.answers i;
      broken = c.begin-begun.ensures.broken i;
    } in
    record {
      facts = refl;
      last = refl;
      newest = c.newest_after-newest.ensures;
      conn = c.in_ok-octets.octets.conn;
      frames = c.in_ok-octets.octets.frames;
      too_large = c.in_ok-octets.octets.too_large;
      brought = c.in_ok-octets.ensures.brought;
      ended = c.in_ok-state.field-0;
      follows = subst (λ (course : Course). Follows course c.in_ok-state.field-0 c.args.now.0 c.args.fact c.in_ok-octets.octets.conn c.in_ok-octets.octets.frames c.in_ok-octets.octets.too_large) begun c.in_ok-state.ensures.follows;
      purged = λ o. c.purge.ensures.fresh o;
      purged_answers = λ name kind. c.purge-2.ensures.in_force name kind;
      broken = refl;
      tables = refl;
      written = refl;
    }
