use Rattle.std.proofs.Common.{◌∙◌}
use Rattle.example_client.proofs.Told.{told_more}
use Rattle.example_client.proofs.running.tell.Goals as goal

pub returns : goal.returns
returns g c = λ first told.
    told_more _ _ first (g.K.Sink.written c.args.sink.now) (g.K.Sink.written c.write_all.new.sink) c.args.now.0 c.args.fact _ _ _ _ c.in_ok-actions.ensures (c.as_slice.ensures ∙ c.in_ok-line.ensures) c.as_slice-2.ensures (c.deref.ensures.value ∙ c.in_ok-text.ensures) c.in_ok-write_all.ensures.ok told
