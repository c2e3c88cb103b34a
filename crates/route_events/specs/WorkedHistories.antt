-- Histories whose actions are computed.
use Rattle.std.specs.Prelude.{ℕ, List, [], ◌∷◌, ◌++◌, Some, None, codes}
use Rattle.coalescing.specs.declared.cert_name.CertName.TheVariants.{Exact}
use Rattle.origin_values.specs.declared.scheme.Scheme.TheVariants.{Http, Https}
use Rattle.origin_values.specs.declared.host.Host.TheVariants.{Name}
use Rattle.origin_values.specs.declared.origin.Origin.{Origin}
use Rattle.origin_values.specs.declared.address.Addr.{Addr}
use Rattle.origin_values.specs.declared.address.Addr.TheVariants.{V4}
use Rattle.origin_values.specs.declared.proto.Proto.{Proto}
use Rattle.origin_values.specs.declared.proto.Proto.TheVariants.{H2, Http11}
use Rattle.route_events.specs.declared.fact.Fact.{Fact}
use Rattle.route_events.specs.declared.fact.Fact.TheVariants.{Request, Opened, Failed, Closed, Response}
use Rattle.route_events.specs.declared.action.Action.{Action}
use Rattle.route_events.specs.declared.action.Action.TheVariants.{OpenTo, SendOn, Refuse, Lost, Retry}
use Rattle.route_events.specs.declared.route.Route.TheVariants.{Direct}

abbrev pub site : Origin
site = record { scheme = Https; host = Name (codes "a.example"); port = 443 }

abbrev pub plain_site : Origin
plain_site = record { scheme = Http; host = Name (codes "a.example"); port = 80 }

abbrev pub its_address : Addr
its_address = V4 (192 ∷ 0 ∷ 2 ∷ 1 ∷ [])

abbrev pub opened_with : ℕ → Proto → Fact
opened_with attempt proto = Opened attempt proto its_address 443 (Exact (codes "a.example") ∷ [])

-- a request opens a connection, and both it and a second one are sent on it
abbrev pub two_requests : List (ℕ × Fact)
two_requests = (0, Request 1 site) ∷ (1, opened_with 1 H2) ∷ (2, Request 2 site) ∷ []

abbrev pub two_sends : List Action
two_sends = OpenTo 1 site Direct ∷ SendOn 1 1 (Some 1) None ∷ SendOn 2 1 (Some 3) None ∷ []

-- both are lost with their connection, and a third request opens another one
abbrev pub closed_connection : List (ℕ × Fact)
closed_connection = two_requests ++ ((3, Closed 1) ∷ (4, Request 3 site) ∷ [])

abbrev pub both_lost : List Action
both_lost = two_sends ++ (Lost 1 ∷ Lost 2 ∷ OpenTo 2 site Direct ∷ [])

-- on a connection of HTTP/1.1 a second request waits, while a second attempt fails
abbrev pub busy_connection : List (ℕ × Fact)
busy_connection = (0, Request 1 site) ∷ (0, opened_with 1 Http11) ∷ (1, Request 2 site) ∷ (2, Failed 2) ∷ []

abbrev pub second_waits : List Action
second_waits = OpenTo 1 site Direct ∷ SendOn 1 1 None None ∷ OpenTo 2 site Direct ∷ []

-- nothing is left after a failure
abbrev pub failed_attempt : List (ℕ × Fact)
failed_attempt = (0, Request 1 site) ∷ (1, Failed 1) ∷ []

-- a connection whose certificate is for another host carries nothing
abbrev pub wrong_name : List (ℕ × Fact)
wrong_name = (0, Request 1 site) ∷ (1, Opened 1 H2 its_address 443 (Exact (codes "b.example") ∷ [])) ∷ (2, Request 2 site) ∷ []

abbrev pub refused_then_opened : List Action
refused_then_opened = OpenTo 1 site Direct ∷ Refuse 1 ∷ OpenTo 2 site Direct ∷ []

-- an origin of http has a connection of its own, without TLS
abbrev pub two_schemes : List (ℕ × Fact)
two_schemes = (0, Request 1 site) ∷ (1, opened_with 1 H2) ∷ (2, Request 2 plain_site) ∷ (3, Opened 2 Http11 its_address 80 []) ∷ []

abbrev pub one_each : List Action
one_each = OpenTo 1 site Direct ∷ SendOn 1 1 (Some 1) None ∷ OpenTo 2 plain_site Direct ∷ SendOn 2 2 None None ∷ []

-- after a response of status 421 its request waits again, and not for the connection that turned it away (RFC 9110
-- 15.5.20): it tried the direct route, and is refused; the next one opens a connection of its own
abbrev pub misdirected_request : List (ℕ × Fact)
misdirected_request = (0, Request 1 site) ∷ (1, opened_with 1 H2) ∷ (2, Response 1 421 0 None) ∷ (3, Request 2 site) ∷ []

abbrev pub turned_away : List Action
turned_away = OpenTo 1 site Direct ∷ SendOn 1 1 (Some 1) None ∷ Retry 1 ∷ Refuse 1 ∷ OpenTo 2 site Direct ∷ []
