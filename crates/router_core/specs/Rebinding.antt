-- What a value of Alt-Svc that was taken makes of the connections.
use Rattle.std.specs.Prelude.{List, ◌∷◌, map}
use Rattle.conn_states.specs.Record.{Record}
use Rattle.route_events.specs.declared.action.Action.{Action}
use Rattle.route_events.specs.declared.action.Action.TheVariants.{Alternatives}
use Rattle.route_events.specs.Alternatives.{alternatives_of}
use Rattle.request_dispatch.specs.ConnectionTable.{rebound}

-- a value that was taken, for the connections
abbrev pub rebound_by : List Action → List Record → List Record
rebound_by (Alternatives origin value ∷ actions) connections = map (rebound origin (alternatives_of value)) connections
rebound_by _ connections = connections
