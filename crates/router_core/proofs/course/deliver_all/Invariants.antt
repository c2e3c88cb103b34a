use Rattle.router_core.proofs.FramesInOrder.{ComesSoFar}
use Rattle.router_core.proofs.course.deliver_all.Given as goal

abbrev pub invariant-loop-frame : goal.invariant-loop-frame
invariant-loop-frame l = ComesSoFar l.now.0 l.conn l.fn.course l.course l.fn.frames l.frame-iterator.rest.items
