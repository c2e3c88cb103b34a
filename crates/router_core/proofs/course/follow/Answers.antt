use Rattle.std.proofs.Common.{arith}
use Rattle.router_core.specs.declared.course.Course.{Course}
use Rattle.router_core.specs.Becomes.{Cuts, Follows}
use Rattle.router_core.proofs.Bounds.{becomes_within, delivers_within}
use Rattle.router_core.proofs.Steps.{ok_map}
use Rattle.router_core.proofs.course.follow.Goals as goal

pub deliver_all-requires-clause-opened : goal.deliver_all-requires-clause-opened
deliver_all-requires-clause-opened c =
    let first = becomes_within c.args.course c.in_ok-course.course c.args.now.0 c.args.fact c.in_ok-course.ensures.becomes c.requires.sends in
    omega (arith, first.opened, c.requires.opened, c.requires.few)

pub deliver_all-requires-clause-sends : goal.deliver_all-requires-clause-sends
deliver_all-requires-clause-sends c =
    let first = becomes_within c.args.course c.in_ok-course.course c.args.now.0 c.args.fact c.in_ok-course.ensures.becomes c.requires.sends in
    omega (arith, first.sends, c.requires.sends)

pub cut_by-requires-clause-opened : goal.cut_by-requires-clause-opened
cut_by-requires-clause-opened c =
    let first = becomes_within c.args.course c.in_ok-course.course c.args.now.0 c.args.fact c.in_ok-course.ensures.becomes c.requires.sends in
    let then = delivers_within c.args.now.0 c.args.octets.conn c.in_ok-course.course c.args.octets.frames c.in_ok-course-2.course c.in_ok-course-2.ensures.becomes (omega (arith, first.sends, c.requires.sends)) in
    omega (arith, first.opened, then.opened, c.requires.opened, c.requires.few)

pub cut_by-requires-clause-sends : goal.cut_by-requires-clause-sends
cut_by-requires-clause-sends c =
    let first = becomes_within c.args.course c.in_ok-course.course c.args.now.0 c.args.fact c.in_ok-course.ensures.becomes c.requires.sends in
    let then = delivers_within c.args.now.0 c.args.octets.conn c.in_ok-course.course c.args.octets.frames c.in_ok-course-2.course c.in_ok-course-2.ensures.becomes (omega (arith, first.sends, c.requires.sends)) in
    omega (arith, first.sends, then.sends, c.requires.sends)

pub returns-clause-follows : goal.returns-clause-follows
returns-clause-follows c =
    ok_map (λ (new : Course). Cuts c.args.now.0 c.args.octets.conn c.in_ok-course-2.course c.args.octets.too_large new)
    (λ (new : Course). Follows c.args.course new c.args.now.0 c.args.fact c.args.octets.conn c.args.octets.frames c.args.octets.too_large) c.cut_by.result
    (λ new cuts. record {
      begun = c.in_ok-course.course;
      begins = c.in_ok-course.ensures.becomes;
      delivered = c.in_ok-course-2.course;
      delivers = c.in_ok-course-2.ensures.becomes;
      cuts = cuts;
    }) c.cut_by.ensures.cuts
