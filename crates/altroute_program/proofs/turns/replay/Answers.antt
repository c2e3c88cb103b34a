use Rattle.std.proofs.Common.{refl, arith}
use Rattle.altroute_program.proofs.OneTurn.{begins}
use Rattle.altroute_program.proofs.turns.replay.Goals as goal

pub loop-status-init : goal.loop-status-init
loop-status-init g c = (begins _ _ (record { progress = refl; stands = c.new.ensures; line = c.new-2.ensures; taken = refl; short = rw c.new-2.ensures (omega arith) }), rw c.new-2.ensures (omega arith))
