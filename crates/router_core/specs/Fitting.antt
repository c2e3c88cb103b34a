-- Which facts fit what a step can take.
use Rattle.std.specs.Prelude.{ℕ, ◌≤◌, length}
use Rattle.route_events.specs.declared.fact.Fact.{Fact}
use Rattle.route_events.specs.declared.fact.Fact.TheVariants.{Request, Response, Input, Delivered}

-- at most 65,536 octets come at once, and the payload of a frame has at most 16,384
abbrev pub IsFit : Fact → Type 0
IsFit (Input conn bytes) = length bytes ≤ 65536
IsFit (Delivered conn head payload) = length payload ≤ 16384
IsFit _ = Unit {0}

-- how many requests a fact brings among those that wait
abbrev pub brings : Fact → ℕ
brings (Request number origin) = 1
brings (Response request status age altsvc) = 1
brings _ = 0
