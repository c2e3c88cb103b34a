use Rattle.std.proofs.Common.{[]}
use Rattle.altroute_program.proofs.Cutting.{from_joined}
use Rattle.altroute_program.proofs.laws.lines_are_bytes.Goals as goal

pub returns : goal.returns
returns c = λ bytes. from_joined (record { whole = []; rest = [] }) bytes
