-- The lines of actions, each without a newline.
use Rattle.std.specs.Prelude.{ℕ, Bool, true, false, List, [], ◌∷◌, ◌++◌, codes, decimal, Option, Some, None, if◌then◌else◌, ◌==◌}
use Rattle.std.specs.List.{join_with_byte}
use Rattle.dns_names.specs.TextParts.{text_form}
use Rattle.origin_values.specs.Written.{origin_text, host_text}
use Rattle.origin_values.specs.declared.host.Host.{Host}
use Rattle.origin_values.specs.declared.origin.Origin.{Origin}
use Rattle.origin_values.specs.declared.protos.Protos.{Protos}
use Rattle.altsvc_grammar.specs.Written.{value_text}
use Rattle.altsvc_grammar.specs.declared.alt_svc.AltSvc.{AltSvc}
use Rattle.route_events.specs.Authority.{protocols}
use Rattle.route_events.specs.Dispatch.{host_or}
use Rattle.route_events.specs.declared.action.Action.{Action}
use Rattle.route_events.specs.declared.action.Action.TheVariants.{OpenTo, SendOn, Refuse, Lost, Retry, Close, Alternatives, Field, Ignored, Origins, Malformed, Who, Stats}
use Rattle.route_events.specs.declared.route.Route.{Route}
use Rattle.route_events.specs.declared.route.Route.TheVariants.{Direct, Alt, Rec}

abbrev pub route_text : Route → List ℕ
route_text Direct = codes "direct"
route_text (Alt key) = codes "alt"
route_text (Rec endpoint) = codes "rec"

-- the text of the host, and the port, that a route goes to: the origin's own for the direct one, the alternative's
-- (RFC 7838 2), which may be at the origin's host, and the name and port of an endpoint (RFC 9460 3)
abbrev pub route_host : Route → Origin → List ℕ
route_host Direct origin = host_text origin.host
route_host (Alt key) origin = host_text (host_or key.host origin.host)
route_host (Rec endpoint) origin = text_form endpoint.target

abbrev pub route_port : Route → Origin → ℕ
route_port Direct origin = origin.port
route_port (Alt key) origin = key.port
route_port (Rec endpoint) origin = endpoint.port

-- a name before others, where it is to be there
abbrev pub if_in : Bool → List ℕ → List (List ℕ) → List (List ℕ)
if_in true name names = name ∷ names
if_in false name names = names

-- the names of the protocols in a set, by ALPN (RFC 7301 6), in the order h2, h3, http/1.1
abbrev pub proto_names : Protos → List (List ℕ)
proto_names protos = if_in protos.h2 (codes "h2") (if_in protos.h3 (codes "h3") (if_in protos.http11 (codes "http/1.1") []))

-- joined by commas
abbrev pub protos_text : Protos → List ℕ
protos_text protos = join_with_byte 44 (proto_names protos)

-- the attempt, its origin, the route and its protocols, and the host and port that it goes to
abbrev pub open_text : ℕ → Origin → Route → List ℕ
open_text attempt origin route =
    codes "open " ++ decimal attempt ++ codes " " ++ origin_text origin ++ codes " " ++ route_text route ++ codes " "
    ++ protos_text (protocols origin.scheme route) ++ codes " " ++ route_host route origin ++ codes " "
    ++ decimal (route_port route origin)

abbrev pub send_text : ℕ → ℕ → List ℕ
send_text request conn = codes "send " ++ decimal request ++ codes " on " ++ decimal conn

-- the stream of HTTP/2, where there is one
abbrev pub stream_text : Option ℕ → List ℕ
stream_text None = []
stream_text (Some stream) = codes " stream " ++ decimal stream

-- a host, and a colon and the port unless it is 443 (RFC 7838 5)
abbrev pub authority_text : Host → ℕ → List ℕ
authority_text host port = host_text host ++ (if port == 443 then [] else codes ":" ++ decimal port)

-- the alternative that is told to the server, where there is one
abbrev pub alt_used_text : Option (Host × ℕ) → List ℕ
alt_used_text None = []
alt_used_text (Some used) = codes " alt-used " ++ authority_text used.0 used.1

-- a value of Alt-Svc that was taken for an origin, in its canonical text
abbrev pub alternatives_text : Origin → AltSvc → List ℕ
alternatives_text origin value = codes "alternatives " ++ origin_text origin ++ codes " " ++ value_text value

-- the request whose response has an Alt-Svc that wasn't taken, the reason and the place
abbrev pub ignored_field_text : ℕ → ℕ → ℕ → List ℕ
ignored_field_text request reason place = codes "field " ++ decimal request ++ codes " " ++ decimal reason ++ codes " " ++ decimal place

-- a connection that is closed, and the length that the head of a frame gave
abbrev pub close_text : ℕ → ℕ → List ℕ
close_text conn length = codes "close " ++ decimal conn ++ codes " frame " ++ decimal length

-- a frame of kind 10 (ALTSVC, RFC 7838 4) or 12 (ORIGIN, RFC 8336 2)
abbrev pub frame_text : ℕ → List ℕ
frame_text kind = if kind == 10 then codes "altsvc" else codes "origin"

-- the connection on which a frame was ignored, its kind, the reason and the place
abbrev pub ignored_text : ℕ → ℕ → ℕ → ℕ → List ℕ
ignored_text conn kind reason place =
    codes "ignored " ++ decimal conn ++ codes " " ++ frame_text kind ++ codes " " ++ decimal reason ++ codes " " ++ decimal place

-- the connection whose origins a frame listed, how many it listed, and how many entries were skipped
abbrev pub origins_text : ℕ → ℕ → ℕ → List ℕ
origins_text conn taken skipped = codes "origins " ++ decimal conn ++ codes " " ++ decimal taken ++ codes " " ++ decimal skipped

-- the name whose answer holds a malformed record, the number of the first, from 1, the reason and the place in it
abbrev pub malformed_text : List (List ℕ) → ℕ → ℕ → ℕ → List ℕ
malformed_text name item reason place =
    codes "malformed " ++ text_form name ++ codes " " ++ decimal item ++ codes " " ++ decimal reason ++ codes " " ++ decimal place

-- numbers, each behind a space
abbrev pub numbers_text : List ℕ → List ℕ
numbers_text [] = []
numbers_text (number ∷ numbers) = codes " " ++ decimal number ++ numbers_text numbers

abbrev pub conns_text : List ℕ → List ℕ
conns_text [] = codes " none"
conns_text (conn ∷ conns) = numbers_text (conn ∷ conns)

-- the connections that are authoritative for an origin
abbrev pub who_text : Origin → List ℕ → List ℕ
who_text origin conns = codes "who " ++ origin_text origin ++ conns_text conns

-- how much of each there is
abbrev pub stats_text : ℕ → ℕ → ℕ → ℕ → ℕ → List ℕ
stats_text alternatives answers broken connections waiting =
    codes "stats alternatives " ++ decimal alternatives ++ codes " answers " ++ decimal answers ++ codes " broken " ++ decimal broken
    ++ codes " connections " ++ decimal connections ++ codes " waiting " ++ decimal waiting

abbrev pub action_text : Action → List ℕ
action_text (OpenTo attempt origin route) = open_text attempt origin route
action_text (SendOn request conn stream alt_used) = send_text request conn ++ stream_text stream ++ alt_used_text alt_used
action_text (Refuse request) = codes "refuse " ++ decimal request
action_text (Lost request) = codes "lost " ++ decimal request
action_text (Retry request) = codes "retry " ++ decimal request
action_text (Close conn length) = close_text conn length
action_text (Alternatives origin value) = alternatives_text origin value
action_text (Field request reason place) = ignored_field_text request reason place
action_text (Ignored conn kind reason place) = ignored_text conn kind reason place
action_text (Origins conn taken skipped) = origins_text conn taken skipped
action_text (Malformed name item reason place) = malformed_text name item reason place
action_text (Who origin conns) = who_text origin conns
action_text (Stats alternatives answers broken connections waiting) = stats_text alternatives answers broken connections waiting
