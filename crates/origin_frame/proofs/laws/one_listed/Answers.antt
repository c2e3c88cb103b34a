use Rattle.origin_frame.proofs.Payloads.{one_listed_of}
use Rattle.origin_frame.proofs.laws.one_listed.Goals as goal

pub returns : goal.returns
returns c = λ stream flags payload. one_listed_of stream flags payload
