use Rattle.coalescing.proofs.CoverageLemmas.{covering_of_one, covering_of_some}
use Rattle.coalescing.proofs.laws.covering_is_exact.Goals as goal

pub returns-clause-one : goal.returns-clause-one
returns-clause-one c = λ name host. covering_of_one name host

pub returns-clause-some : goal.returns-clause-some
returns-clause-some c = λ names host. covering_of_some names host
