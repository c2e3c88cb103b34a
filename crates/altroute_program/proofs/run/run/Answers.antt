use Rattle.std.proofs.Common.{◌≡◌, ◌∙◌, ap, Some, Option, sym, subst}
use Rattle.altroute_program.specs.declared.command.Command.{Command}
use Rattle.altroute_program.specs.declared.command.Command.TheVariants.{Replay}
use Rattle.altroute_program.specs.Commands.{command_of}
use Rattle.altroute_show.specs.Seen.{Seen}
use Rattle.altroute_program.specs.Runs.{IsComplete}
use Rattle.altroute_program.proofs.Complete.{complete}
use Rattle.altroute_program.proofs.run.run.Goals as goal

pub returns-in-Some-Replay-clause-complete : goal.returns-in-Some-Replay-clause-complete
returns-in-Some-Replay-clause-complete g c =
    let old : Seen = record { left = g.S.Source.left c.args.source.now; source_ended = g.S.Source.ended c.args.source.now; read_faults = g.S.Source.faults c.args.source.now; written = g.K.Sink.written c.args.sink.now; write_faults = g.K.Sink.faults c.args.sink.now } in
    let new : Seen = record { left = g.S.Source.left c.replay.new.source; source_ended = g.S.Source.ended c.replay.new.source; read_faults = g.S.Source.faults c.replay.new.source; written = g.K.Sink.written c.replay.new.sink; write_faults = g.K.Sink.faults c.replay.new.sink } in
    let is : Some Replay ≡ command_of c.args.words.now = sym (sym c.command_of.ensures ∙ c.in-Some-Replay.is ∙ ap Some c.in-Some-Replay.field-0-is) in
    subst (λ (w : Option Command). IsComplete w c.replay.result old new) is (complete c.replay.result old new c.replay.ensures)
