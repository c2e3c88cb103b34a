use Rattle.std.proofs.Common.{None, Some, ap, ◌∙◌}
use Rattle.coalescing.specs.Lists.{items_of}
use Rattle.coalescing.proofs.Listed.{looked_up}
use Rattle.coalescing.proofs.by_peer.numbers_at.Goals as goal

pub returns-in-Some : goal.returns-in-Some
returns-in-Some c = c.as_slice.ensures ∙ ap items_of (looked_up c.args.by_peer.now.entries c.args.peer.now (Some c.in-Some.numbers.now) c.in-Some.ensures.value)

pub returns-in-None : goal.returns-in-None
returns-in-None c = ap items_of (looked_up c.args.by_peer.now.entries c.args.peer.now None c.in-None.ensures.value)
