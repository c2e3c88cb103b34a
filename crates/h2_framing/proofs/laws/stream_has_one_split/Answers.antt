use Rattle.h2_framing.proofs.Splitting.{split_some, split_only}
use Rattle.h2_framing.proofs.laws.stream_has_one_split.Goals as goal

pub returns : goal.returns
returns c = λ x. record { some = split_some x; only = split_only x }
