-- What the client may tell the router, and can print.
use Rattle.route_events.specs.declared.fact.Fact.{Fact}
use Rattle.router_core.specs.Fitting.{IsFit}
use Rattle.event_lines.specs.declared.event.Event.TheVariants.{Client}
use Rattle.event_lines.specs.HaveLines.{HasText}

-- a fact that a step takes, and that has a line
abbrev pub CanBeTold : Fact → Type 0
CanBeTold fact = IsFit fact × HasText (Client fact)
