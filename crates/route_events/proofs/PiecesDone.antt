-- What is done over two journals that differ in how octets were cut into inputs is the same.
use Rattle.std.proofs.Common.{◌≡◌, subst, ℕ, ◌+◌, Bool, true, false, cond, not, ◌&&◌, ◌||◌, nat_eq, List, [], ◌∷◌, ◌++◌, map, length, Option, Some, None, Result, Ok, Err, filter, find, refl, ap, ◌∙◌}
use Rattle.std.specs.Option.{option_map, option_and_then, option_map_or}
use Rattle.std.specs.List.{list_any}
use Rattle.alt_base.specs.declared.refusal.At.{At}
use Rattle.h2_framing.specs.declared.head.Head.{Head}
use Rattle.origin_values.specs.Equality.{origin_eq}
use Rattle.origin_values.specs.declared.origin.Origin.{Origin}
use Rattle.altsvc_grammar.specs.declared.alt_svc.AltSvc.{AltSvc}
use Rattle.altsvc_frame.specs.declared.frame.AltFrame.{AltFrame}
use Rattle.altsvc_frame.specs.declared.refusal.AltFrameRefusal.{AltFrameRefusal}
use Rattle.altsvc_frame.specs.FrameReading.{read_frame}
use Rattle.route_events.specs.declared.fact.Fact.TheVariants.{Delivered}
use Rattle.route_events.specs.declared.action.Action.{Action}
use Rattle.route_events.specs.declared.action.Action.TheVariants.{OpenTo, SendOn, Lost, Close, Alternatives, Ignored}
use Rattle.route_events.specs.declared.route.Route.{Route}
use Rattle.route_events.specs.declared.route.Route.TheVariants.{Direct}
use Rattle.route_events.specs.declared.request.Request.{Request}
use Rattle.route_events.specs.declared.connection.Connection.{Connection}
use Rattle.route_events.specs.Journal.{Entry, Happened, Cut, Taken, Journal}
use Rattle.route_events.specs.Requests.{SentTo, waiting}
use Rattle.route_events.specs.Connections.{is_https, is_tls, is_http11, is_none_out}
use Rattle.route_events.specs.Authority.{route_eq, rests_on}
use Rattle.route_events.specs.Backoff.{is_on, is_barred_by}
use Rattle.route_events.specs.Routes.{by_alternatives, usable_routes, has_pending}
use Rattle.route_events.specs.Dispatch.{carriers, free_carriers, first_of, or_else, is_by_alternative, best, stream_after, alt_used, send, opened_beside, first_alternative, decide, dispatch}
use Rattle.route_events.specs.FrameAdvertisements.{request_on, spoken_for, value_action, reading_action, origin_action, frame_action, frame_effects}
use Rattle.route_events.specs.Step.{with_actions, part_effects, with_part, settle, settled, follow, actions}
use Rattle.route_events.proofs.Parts.{IsBehind, AreBehind}
use Rattle.route_events.proofs.Pieces.{Pieced, Begun, Both, Pieces, Further, attempts_same, pending_same, request_of_same, waiting_same, sent_to_same, connections_same, open_connections_same, open_connection_same, outstanding_same, sends_same, live_same, record_same, endpoints_same, authority_same, failures_same, tried_same}

-- dispatch

pub carriers_same : {j k : Journal} → Pieced j k → (o : Origin) (now : ℕ) → carriers j o now ≡ carriers k o now
carriers_same p o now = λ i. filter (λ c. authority_same p c o now i) (connections_same p i)

free_same : {j k : Journal} → Pieced j k → (o : Origin) (now : ℕ) → free_carriers j o now ≡ free_carriers k o now
free_same p o now = λ i. filter (λ (c : Connection). not (is_http11 c.proto && not (is_none_out (outstanding_same p c.number i)))) (carriers_same p o now i)

best_same : {j k : Journal} → Pieced j k → (o : Origin) (now : ℕ) → best j o now (free_carriers j o now) ≡ best k o now (free_carriers k o now)
best_same p o now = λ i.
    or_else (first_of (filter (λ (c : Connection). rests_on (record_same p c i) o && is_by_alternative c.route) (free_same p o now i)))
    (or_else (first_of (filter (λ (c : Connection). rests_on (record_same p c i) o) (free_same p o now i))) (first_of (free_same p o now i)))

first_same : {j k : Journal} → Pieced j k → (o : Origin) (now : ℕ) → first_alternative j o now ≡ first_alternative k o now
first_same p o now = λ i. find (λ r. not (is_barred_by (failures_same p o r i) r now)) (by_alternatives (live_same p o now i))

usable_same : {j k : Journal} → Pieced j k → (q : Request) (now : ℕ) → usable_routes j q now ≡ usable_routes k q now
usable_same p q now = λ i.
    filter (λ r. not (is_barred_by (failures_same p q.origin r i) r now) && not (tried_same p q r i)) ((by_alternatives (live_same p q.origin now i) ++ endpoints_same p q.origin now i) ++ Direct ∷ [])

awaited_same : {j k : Journal} → Pieced j k → (o : Origin) (r : Route) → has_pending j o r ≡ has_pending k o r
awaited_same p o r = ap (list_any (is_on o r)) (pending_same p)

send_same : {j k : Journal} → Pieced j k → (q : Request) (now : ℕ) (c : Connection) → send j q now c ≡ send k q now c
send_same p q now c =
    λ i. SendOn q.number c.number (stream_after c.proto (sends_same p c.number i)) (alt_used (rests_on (record_same p c i) q.origin) c.route q.origin)

beside_same : {j k : Journal} → Pieced j k → (o : Origin) (w : Option Route) → opened_beside j o w ≡ opened_beside k o w
beside_same p o None = refl
beside_same p o (Some r) = λ i.
    cond (list_any (λ (c : Connection). origin_eq c.origin o && route_eq c.route r) (open_connections_same p i) || awaited_same p o r i) []
    (OpenTo (length (attempts_same p i) + 1) o r ∷ [])

decide_same :
    {j k : Journal} → Pieced j k → (q : Request) (now : ℕ) (beside : Option Route) (free : Option Connection) (pending : Bool) (usable : List Route) (cs : List Connection) →
    decide j q now beside free pending usable cs ≡ decide k q now beside free pending usable cs
decide_same p q now beside (Some c) pending usable cs = λ i. send_same p q now c i ∷ beside_same p q.origin beside i
decide_same p q now beside None true usable cs = refl
decide_same p q now beside None false (r ∷ usable) cs = λ i. OpenTo (length (attempts_same p i) + 1) q.origin r ∷ []
decide_same p q now beside None false [] (c ∷ cs) = refl
decide_same p q now beside None false [] [] = refl

dispatch_same : {j k : Journal} → Pieced j k → (q : Request) (now : ℕ) → dispatch j q now ≡ dispatch k q now
dispatch_same {j} {k} p q now =
    (λ i. decide j q now (first_same p q.origin now i) (best_same p q.origin now i) (list_any (λ r. awaited_same p q.origin r i) (usable_same p q now i)) (usable_same p q now i) (carriers_same p q.origin now i))
    ∙ decide_same p q now _ _ _ _ _

-- settling

pub with_same : {j k : Journal} → Pieced j k → (as' : List Action) → Pieced (with_actions j as') (with_actions k as')
with_same p [] = p
with_same p (a ∷ as') = with_same (Both (Taken a) p) as'

settle_same : (j k : Journal) (now : ℕ) (qs : List Request) → Pieced j k → Pieced (settle j now qs) (settle k now qs)
settle_same j k now [] p = p
settle_same j k now (q ∷ qs) p =
    settle_same (with_actions j (dispatch j q now)) (with_actions k (dispatch k q now)) now qs
    (subst (λ as'. Pieced (with_actions j (dispatch j q now)) (with_actions k as')) (dispatch_same p q now) (with_same p (dispatch j q now)))

pub settled_same : (j k : Journal) (now : ℕ) → Pieced j k → Pieced (settled j now) (settled k now)
settled_same j k now p = subst (λ qs. Pieced (settled j now) (settle k now qs)) (waiting_same p) (settle_same j k now (waiting j) p)

-- effects of parts

request_on_same : {j k : Journal} → Pieced j k → (conn stream : ℕ) → request_on j conn stream ≡ request_on k conn stream
request_on_same p conn stream = λ i.
    option_and_then (λ n. request_of_same p n i)
    (find (λ n. option_map_or (λ (s : SentTo). option_map_or (nat_eq stream) s.stream false) (sent_to_same p n i) false) (outstanding_same p conn i))

spoken_same : {j k : Journal} → Pieced j k → (conn stream : ℕ) (frame : AltFrame) → spoken_for j conn stream frame ≡ spoken_for k conn stream frame
spoken_same p conn stream frame = λ i. cond (nat_eq stream 0) frame.origin (option_map (λ (q : Request). q.origin) (request_on_same p conn stream i))

value_same : {j k : Journal} → Pieced j k → (now : ℕ) (c : Connection) (value : AltSvc) (w : Option Origin) → value_action j now c value w ≡ value_action k now c value w
value_same p now c value None = refl
value_same p now c value (Some o) = λ i. cond (not (is_https o.scheme)) (Ignored c.number 10 9 0) (cond (not (authority_same p c o now i)) (Ignored c.number 10 7 0) (Alternatives o value))

reading_same : {j k : Journal} → Pieced j k → (now : ℕ) (c : Connection) (stream : ℕ) (w : Result AltFrame (At AltFrameRefusal)) → reading_action j now c stream w ≡ reading_action k now c stream w
reading_same {j} {k} p now c stream (Ok frame) = ap (value_action j now c frame.value) (spoken_same p c.number stream frame) ∙ value_same p now c frame.value (spoken_for k c.number stream frame)
reading_same p now c stream (Err at) = refl

action_same : {j k : Journal} → Pieced j k → (now : ℕ) (head : Head) (payload : List ℕ) (c : Connection) → frame_action j now head payload c ≡ frame_action k now head payload c
action_same p now head payload c = λ i.
    cond (nat_eq head.kind 10) (cond (not (is_tls c)) (Ignored c.number 10 10 0) (reading_same p now c head.stream (read_frame head.stream payload) i) ∷ [])
    (cond (nat_eq head.kind 12) (origin_action c head payload ∷ []) [])

pub frame_same : {j k : Journal} → Pieced j k → (now conn : ℕ) (head : Head) (payload : List ℕ) → frame_effects j now conn head payload ≡ frame_effects k now conn head payload
frame_same p now conn head payload = λ i. option_map_or (λ c. action_same p now head payload c i) (open_connection_same p conn i) []

effects_same : {j k : Journal} → Pieced j k → (now conn : ℕ) (part : Entry) → IsBehind now conn part → part_effects j now part ≡ part_effects k now part
effects_same p now conn (Happened moment (Delivered to head payload) false) behind = frame_same p now to head payload
effects_same p now conn (Cut moment to count) behind = λ i. Close to count ∷ map Lost (outstanding_same p to i)
effects_same p now conn _ behind = absurd behind

part_same : (j k : Journal) (now conn : ℕ) (part : Entry) → IsBehind now conn part → Pieced j k → Pieced (settled (with_part j now part) now) (settled (with_part k now part) now)
part_same j k now conn part behind p =
    settled_same (with_part j now part) (with_part k now part) now
    (subst (λ as'. Pieced (with_part j now part) (with_actions (part ∷ k) as')) (effects_same p now conn part behind) (with_same (Both part p) (part_effects j now part)))

pub follow_same : (j k : Journal) (now conn : ℕ) (parts : List Entry) → AreBehind now conn parts → Pieced j k → Pieced (follow j now parts) (follow k now parts)
follow_same j k now conn [] behind p = p
follow_same j k now conn (part ∷ parts) behind p =
    follow_same (settled (with_part j now part) now) (settled (with_part k now part) now) now conn parts behind.1 (part_same j k now conn part behind.0 p)

-- the actions

pub actions_same : {j k : Journal} → Pieced j k → actions j ≡ actions k
actions_same Begun = refl
actions_same (Both (Happened moment fact handed_in) p) = actions_same p
actions_same (Both (Cut moment conn count) p) = actions_same p
actions_same (Both (Taken a) p) = ap (λ (as' : List Action). as' ++ a ∷ []) (actions_same p)
actions_same (Pieces moment conn a b handed_in p) = actions_same p
actions_same (Further moment conn a handed_in at old p) = actions_same p
