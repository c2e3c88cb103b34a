-- What a line says fits a step of the router: it brings few octets at once, and no frame that came whole.
use Rattle.std.proofs.Common.{ℕ}
use Rattle.route_events.specs.declared.fact.Fact.{Fact}
use Rattle.route_events.specs.declared.fact.Fact.TheVariants.{Request, Opened, Failed, Closed, Response, Input, Delivered, Answer, Network, Tick, Who, Stats}
use Rattle.router_core.specs.Fitting.{IsFit}
use Rattle.event_lines.specs.Valid.{IsEvent, IsShort}
use Rattle.event_lines.specs.declared.event.Event.TheVariants.{Client}

pub line_fits : (now : ℕ) (fact : Fact) → IsEvent now (Client fact) → IsShort (Client fact) → IsFit fact
line_fits now (Request number origin) valid short = tt
line_fits now (Opened attempt proto addr port names) valid short = tt
line_fits now (Failed attempt) valid short = tt
line_fits now (Closed conn) valid short = tt
line_fits now (Response request status age altsvc) valid short = tt
line_fits now (Input conn bytes) valid short = short
line_fits now (Delivered conn head payload) valid short = absurd valid.1
line_fits now (Answer name ttl body) valid short = tt
line_fits now Network valid short = tt
line_fits now Tick valid short = tt
line_fits now (Who origin) valid short = tt
line_fits now Stats valid short = tt
