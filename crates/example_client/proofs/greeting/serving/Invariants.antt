use Rattle.std.proofs.Common.{List}
use Rattle.advertiser_core.specs.Acts.{Act}
use Rattle.advertiser_core.specs.StandsFor.{StandsFor}
use Rattle.example_client.proofs.greeting.serving.Given as goal

abbrev pub invariant-loop-text : goal.invariant-loop-text
invariant-loop-text l = (acts : List Act) × StandsFor l.advertiser acts
