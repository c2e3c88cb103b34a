use Rattle.std.specs.Fmt.{decimal}
use Rattle.field_text.proofs.DeltaLemmas.{decimal_spells, delta_spelled}
use Rattle.field_text.proofs.laws.written_delta_seconds_is_read.Goals as goal

pub returns : goal.returns
returns c = λ n small. delta_spelled n (decimal n) (decimal_spells n small)
