use Rattle.example_client.specs.Transcript.{HasTold}
use Rattle.example_client.proofs.running.run.Given as goal

abbrev pub invariant-loop-turn : goal.invariant-loop-turn
invariant-loop-turn g l = HasTold l.router (g.K.Sink.written l.fn.sink) (g.K.Sink.written l.sink)
