-- What the effect of a frame makes of the state of a step (RFC 7838 4, RFC 8336 2).
use Rattle.std.specs.Prelude.{ℕ, Bool, not, ◌&&◌, nat_eq, List, [], ◌∷◌, ◌++◌, Option, Some, None, Result, Ok, Err, if◌then◌else◌, map}
use Rattle.std.specs.Option.{option_map, option_map_or, option_and_then}
use Rattle.alt_base.specs.declared.refusal.At.{At}
use Rattle.altsvc_frame.specs.FrameReading.{read_frame}
use Rattle.altsvc_frame.specs.RefusalNumbers.{refusal_number as altsvc_number}
use Rattle.altsvc_frame.specs.declared.frame.AltFrame.{AltFrame}
use Rattle.altsvc_frame.specs.declared.refusal.AltFrameRefusal.{AltFrameRefusal}
use Rattle.altsvc_grammar.specs.declared.alt_svc.AltSvc.{AltSvc}
use Rattle.conn_states.specs.Record.{Record}
use Rattle.conn_states.specs.Said.{said}
use Rattle.h2_framing.specs.declared.head.Head.{Head}
use Rattle.origin_frame.specs.PayloadReading.{read_listed}
use Rattle.origin_values.specs.declared.address.Addr.{Addr}
use Rattle.origin_values.specs.declared.origin.Origin.{Origin}
use Rattle.route_events.specs.declared.action.Action.{Action}
use Rattle.route_events.specs.declared.action.Action.TheVariants.{Alternatives, Ignored}
use Rattle.route_events.specs.declared.connection.Connection.{Connection}
use Rattle.route_events.specs.Authority.{authorises}
use Rattle.route_events.specs.Connections.{is_https, is_tls}
use Rattle.route_events.specs.Records.{ConnectionRecord}
use Rattle.route_events.specs.FrameAdvertisements.{origin_action}
use Rattle.route_events.specs.OriginSets.{origins_of}
use Rattle.request_dispatch.specs.declared.outstanding.Outstanding.{Outstanding}
use Rattle.request_dispatch.specs.declared.step_state.StepState.{StepState}
use Rattle.request_dispatch.specs.declared.tables.Tables.{Tables}
use Rattle.request_dispatch.specs.ConnectionTable.{connection_among, listed_on}
use Rattle.request_dispatch.specs.Looks.{reach_at}
use Rattle.request_dispatch.specs.RequestTable.{request_on}
use Rattle.router_core.specs.Rebinding.{rebound_by}

-- the origin whose alternatives an ALTSVC frame brings: on stream 0 its own, on another stream that of the request there, of
-- those that are outstanding on the connection
abbrev pub spoken_for : List Outstanding → List ℕ → ℕ → AltFrame → Option Origin
spoken_for outs numbers stream frame =
    if nat_eq stream 0 then frame.origin else option_map (λ (x : Outstanding). x.request.origin) (request_on outs stream numbers)

-- a value is taken for the origin, or isn't, where these are the addresses of origins
abbrev pub value_done : (Origin → Addr → Bool) → ConnectionRecord → AltSvc → Option Origin → Action
value_done is_address c value None = Ignored c.made.number 10 8 0
value_done is_address c value (Some o) =
    if not (is_https o.scheme) then Ignored c.made.number 10 9 0
    else (if not (authorises c o (reach_at is_address c.made o)) then Ignored c.made.number 10 7 0
    else Alternatives o value)

abbrev pub reading_done : (Origin → Addr → Bool) → List Outstanding → ConnectionRecord → ℕ → Result AltFrame (At AltFrameRefusal) → Action
reading_done is_address outs c stream (Ok frame) = value_done is_address c frame.value (spoken_for outs c.outstanding stream frame)
reading_done is_address outs c stream (Err at) = Ignored c.made.number 10 (altsvc_number at.reason) at.place

abbrev pub altsvc_done : (Origin → Addr → Bool) → List Outstanding → ConnectionRecord → Head → List ℕ → Action
altsvc_done is_address outs c head payload =
    if not (is_tls c.made) then Ignored c.made.number 10 10 0 else reading_done is_address outs c head.stream (read_frame head.stream payload)

-- what is done for a frame, by its kind
abbrev pub frame_done : (Origin → Addr → Bool) → List Outstanding → Head → List ℕ → ConnectionRecord → List Action
frame_done is_address outs head payload c =
    if nat_eq head.kind 10 then altsvc_done is_address outs c head payload ∷ []
    else (if nat_eq head.kind 12 then origin_action c.made head payload ∷ [] else [])

abbrev pub frame_actions : (Origin → Addr → Bool) → Tables → ℕ → Head → List ℕ → List Action
frame_actions is_address t conn head payload = option_map_or (frame_done is_address t.requests.outstanding head payload) (option_map said (connection_among t.connections conn)) []

-- the origins that it lists, where it is an ORIGIN frame that is accepted
abbrev pub listed_at : Head → List ℕ → Connection → Option (List Origin)
listed_at head payload c = if is_tls c && nat_eq head.kind 12 then origins_of (read_listed head.stream head.flags payload) else None

abbrev pub listed_in : List Record → ℕ → Head → List ℕ → Option (List Origin)
listed_in cs conn head payload = option_and_then (λ (c : Record). listed_at head payload (said c).made) (connection_among cs conn)

abbrev pub with_listing : ℕ → Option (List Origin) → List Record → List Record
with_listing conn None cs = cs
with_listing conn (Some origins) cs = map (listed_on conn origins) cs

-- the state after a frame
abbrev pub delivered_so : (Origin → Addr → Bool) → StepState → ℕ → Head → List ℕ → StepState
delivered_so is_address s conn head payload = record {
  tables = record {
    attempts = s.tables.attempts;
    requests = s.tables.requests;
    connections = rebound_by (frame_actions is_address s.tables conn head payload) (with_listing conn (listed_in s.tables.connections conn head payload) s.tables.connections);
  };
  actions = s.actions ++ frame_actions is_address s.tables conn head payload;
}
