-- What the client does for a frame that the server sent on a connection: an ALTSVC frame (RFC 7838 4) or an ORIGIN frame
-- (RFC 8336 2).
use Rattle.std.specs.Prelude.{ℕ, Bool, false, not, nat_eq, List, [], ◌∷◌, length, Option, Some, None, Result, Ok, Err, if◌then◌else◌, find}
use Rattle.std.specs.Option.{option_map, option_and_then, option_map_or}
use Rattle.alt_base.specs.declared.refusal.At.{At}
use Rattle.h2_framing.specs.declared.head.Head.{Head}
use Rattle.origin_values.specs.declared.origin.Origin.{Origin}
use Rattle.altsvc_grammar.specs.declared.alt_svc.AltSvc.{AltSvc}
use Rattle.altsvc_frame.specs.declared.frame.AltFrame.{AltFrame}
use Rattle.altsvc_frame.specs.declared.refusal.AltFrameRefusal.{AltFrameRefusal}
use Rattle.altsvc_frame.specs.RefusalNumbers.{refusal_number as altsvc_number}
use Rattle.altsvc_frame.specs.FrameReading.{read_frame}
use Rattle.origin_frame.specs.declared.listed.Listed.{Listed}
use Rattle.origin_frame.specs.declared.refusal.OriginFrameRefusal.{OriginFrameRefusal}
use Rattle.origin_frame.specs.RefusalNumbers.{refusal_number as origin_number}
use Rattle.origin_frame.specs.PayloadReading.{read_listed}
use Rattle.route_events.specs.declared.action.Action.{Action}
use Rattle.route_events.specs.declared.action.Action.TheVariants.{Alternatives, Ignored, Origins}
use Rattle.route_events.specs.declared.request.Request.{Request}
use Rattle.route_events.specs.declared.connection.Connection.{Connection}
use Rattle.route_events.specs.Journal.{Journal}
use Rattle.route_events.specs.Requests.{SentTo, request_of, sent_to}
use Rattle.route_events.specs.Connections.{is_https, is_tls, open_connection, outstanding}
use Rattle.route_events.specs.Authority.{is_authoritative}

-- the newest send of a request is on a stream
abbrev pub is_sent_on : Journal → ℕ → ℕ → Bool
is_sent_on journal stream number = option_map_or (λ (s : SentTo). option_map_or (nat_eq stream) s.stream false) (sent_to journal number) false

-- the request that is outstanding on a stream of a connection
abbrev pub request_on : Journal → ℕ → ℕ → Option Request
request_on journal conn stream = option_and_then (request_of journal) (find (is_sent_on journal stream) (outstanding journal conn))

-- the origin whose alternatives an ALTSVC frame brings: on stream 0 its own, on another stream that of the request there
abbrev pub spoken_for : Journal → ℕ → ℕ → AltFrame → Option Origin
spoken_for older conn stream frame = if nat_eq stream 0 then frame.origin else option_map (λ (q : Request). q.origin) (request_on older conn stream)

-- a value is taken, or is not for the first of these reasons: no request is outstanding on the stream, the origin is of http,
-- the connection isn't authoritative for the origin just before the frame (RFC 7838 2.1)
abbrev pub value_action : Journal → ℕ → Connection → AltSvc → Option Origin → Action
value_action older now c value None = Ignored c.number 10 8 0
value_action older now c value (Some o) =
    if not (is_https o.scheme) then Ignored c.number 10 9 0
    else (if not (is_authoritative older c o now) then Ignored c.number 10 7 0
    else Alternatives o value)

-- before these: the payload is none of an ALTSVC frame
abbrev pub reading_action : Journal → ℕ → Connection → ℕ → Result AltFrame (At AltFrameRefusal) → Action
reading_action older now c stream (Ok frame) = value_action older now c frame.value (spoken_for older c.number stream frame)
reading_action older now c stream (Err at) = Ignored c.number 10 (altsvc_number at.reason) at.place

-- and before all: the connection is without TLS
abbrev pub altsvc_action : Journal → ℕ → Connection → Head → List ℕ → Action
altsvc_action older now c head payload =
    if not (is_tls c) then Ignored c.number 10 10 0 else reading_action older now c head.stream (read_frame head.stream payload)

-- an ORIGIN frame is accepted, or is ignored: the connection is without TLS, or the payload is none of an ORIGIN frame
abbrev pub listing_action : Connection → Result Listed (At OriginFrameRefusal) → Action
listing_action c (Ok listed) = Origins c.number (length listed.origins) listed.skipped
listing_action c (Err at) = Ignored c.number 12 (origin_number at.reason) at.place

abbrev pub origin_action : Connection → Head → List ℕ → Action
origin_action c head payload = if not (is_tls c) then Ignored c.number 12 10 0 else listing_action c (read_listed head.stream head.flags payload)

-- by its kind: ALTSVC is 10, ORIGIN is 12
abbrev pub frame_action : Journal → ℕ → Head → List ℕ → Connection → List Action
frame_action older now head payload c =
    if nat_eq head.kind 10 then altsvc_action older now c head payload ∷ []
    else (if nat_eq head.kind 12 then origin_action c head payload ∷ [] else [])

-- what is done for a frame, in the journal below it
abbrev pub frame_effects : Journal → ℕ → ℕ → Head → List ℕ → List Action
frame_effects older now conn head payload = option_map_or (frame_action older now head payload) (open_connection older conn) []
