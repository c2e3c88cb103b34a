use Rattle.std.proofs.Common.{[], sym}
use Rattle.alt_base.specs.Devices.{with_end-nil}
use Rattle.example_client.proofs.running.run.Goals as goal

pub loop-turn-init : goal.loop-turn-init
loop-turn-init g c = ([], c.new-router.ensures, sym (with_end-nil (g.K.Sink.written c.args.sink.now)))

pub returns-then-not-branch-clause-printed : goal.returns-then-not-branch-clause-printed
returns-then-not-branch-clause-printed g c =
    let told = c.in_ok-take_turn.ensures.told (g.K.Sink.written c.args.sink.now) c.loop-turn.invariant in
    (told.0, told.1.run, told.2)
