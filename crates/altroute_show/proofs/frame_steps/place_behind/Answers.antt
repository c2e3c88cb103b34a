use Rattle.std.proofs.Common.{arith}
use Rattle.altroute_show.proofs.FrameSplits.{rest_within}
use Rattle.altroute_show.proofs.frame_steps.place_behind.Goals as goal

pub overflow_sub-result : goal.overflow_sub-result
overflow_sub-result c = omega (arith, c.rest.ensures c.requires.0 c.requires.1.reader, rest_within c.requires.0, c.requires.1.taken)
