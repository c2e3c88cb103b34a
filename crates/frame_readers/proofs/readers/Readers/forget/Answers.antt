use Rattle.std.proofs.Common.{ap, ◌∙◌}
use Rattle.std.proofs.lemmas.List.Elements.{All-same}
use Rattle.frame_readers.specs.Readers.{other_readers, Stands}
use Rattle.frame_readers.proofs.Tables.{all_left}
use Rattle.frame_readers.proofs.readers.Readers.forget.Goals as goal

pub invariant_of-self : goal.invariant_of-self
invariant_of-self c = All-same Stands _ _ c.drop_reader.ensures (all_left c.self.inside.readers.items c.args.conn c.self.invariant)

pub returns : goal.returns
returns c = c.drop_reader.ensures ∙ ap (λ rs. other_readers rs c.args.conn) c.self.view_is
