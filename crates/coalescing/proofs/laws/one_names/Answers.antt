use Rattle.coalescing.proofs.NamesLemmas.{one_names_of}
use Rattle.coalescing.proofs.laws.one_names.Goals as goal

pub returns : goal.returns
returns c = λ text. one_names_of text
