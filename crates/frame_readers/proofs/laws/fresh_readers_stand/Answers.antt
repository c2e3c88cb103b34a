use Rattle.std.proofs.Common.{[], refl}
use Rattle.frame_readers.specs.Readers.{other_readers}
use Rattle.frame_readers.proofs.Tables.{reads_empty, none_left, others_left}
use Rattle.frame_readers.proofs.laws.fresh_readers_stand.Goals as goal

pub returns-clause-fresh : goal.returns-clause-fresh
returns-clause-fresh c = λ conn. reads_empty [] conn refl

pub returns-clause-forgotten : goal.returns-clause-forgotten
returns-clause-forgotten c = λ rs conn. reads_empty (other_readers rs conn) conn (none_left rs conn)

pub returns-clause-others : goal.returns-clause-others
returns-clause-others c = others_left
