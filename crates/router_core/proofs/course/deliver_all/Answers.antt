use Rattle.std.proofs.Common.{List, subst}
use Rattle.h2_framing.specs.declared.frame.Frame.{Frame}
use Rattle.router_core.proofs.FramesInOrder.{ComesSoFar, comes_further}
use Rattle.router_core.proofs.course.deliver_all.Goals as goal

pub loop-frame-preserved : goal.loop-frame-preserved
loop-frame-preserved c =
    comes_further c.args.now.0 c.args.conn c.args.course c.loop-frame.course c.in_ok-course.course c.args.frames c.in-Some.frame c.next.new.self.rest.items
    (subst (λ (left : List Frame). ComesSoFar c.args.now.0 c.args.conn c.args.course c.loop-frame.course c.args.frames left) c.in-Some.ensures.steps.0 c.loop-frame.invariant)
    c.in_ok-course.ensures.becomes c.in_ok-course.ensures.alternatives c.in_ok-course.ensures.answers c.in_ok-course.ensures.failures
