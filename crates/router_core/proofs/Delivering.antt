-- What is done for a frame, by what a router keeps, is what the journal does for it.
use Rattle.std.proofs.Common.{◌≡◌, inl, inr, ℕ, Bool, true, false, cond, not, ◌&&◌, nat_eq, List, [], ◌∷◌, find, Option, Some, None, is_some, Result, Ok, Err, refl, ap, sym, ◌∙◌, true≢false}
use Rattle.std.specs.Option.{option_map, option_map_or, option_and_then}
use Rattle.alt_base.specs.declared.refusal.At.{At}
use Rattle.altsvc_frame.specs.FrameReading.{read_frame}
use Rattle.altsvc_frame.specs.declared.frame.AltFrame.{AltFrame}
use Rattle.altsvc_frame.specs.declared.refusal.AltFrameRefusal.{AltFrameRefusal}
use Rattle.altsvc_grammar.specs.declared.alt_svc.AltSvc.{AltSvc}
use Rattle.h2_framing.specs.declared.head.Head.{Head}
use Rattle.origin_frame.specs.declared.listed.Listed.{Listed}
use Rattle.origin_frame.specs.declared.refusal.OriginFrameRefusal.{OriginFrameRefusal}
use Rattle.origin_frame.specs.PayloadReading.{read_listed}
use Rattle.origin_values.specs.declared.address.Addr.{Addr}
use Rattle.origin_values.specs.declared.origin.Origin.{Origin}
use Rattle.route_events.specs.declared.action.Action.{Action}
use Rattle.route_events.specs.declared.action.Action.TheVariants.{Alternatives, Ignored, Origins}
use Rattle.route_events.specs.declared.connection.Connection.{Connection}
use Rattle.route_events.specs.declared.request.Request.{Request}
use Rattle.route_events.specs.Journal.{Journal}
use Rattle.route_events.specs.Requests.{SentTo, request_of, is_out}
use Rattle.route_events.specs.Connections.{connections, is_open, open_connections, open_connection, is_https, is_tls, outstanding}
use Rattle.route_events.specs.FrameAdvertisements.{is_sent_on as was_sent_on, request_on as asked_on, spoken_for as spoken_for_in, value_action, reading_action, altsvc_action, listing_action, origin_action, frame_action, frame_effects}
use Rattle.route_events.specs.Authority.{record_of, is_authoritative}
use Rattle.route_events.proofs.Lists.{IsIn, in_filter, find_in}
use Rattle.route_events.proofs.Sound.{Sound}
use Rattle.request_dispatch.specs.declared.outstanding.Outstanding.{Outstanding}
use Rattle.request_dispatch.specs.declared.tables.Tables.{Tables}
use Rattle.request_dispatch.specs.RequestTable.{request_among, is_sent_on, request_on}
use Rattle.router_core.specs.Holds.{Hold, IsOut, AreOut}
use Rattle.router_core.specs.FrameEffects.{spoken_for, value_done, reading_done, frame_done, frame_actions}
use Rattle.router_core.proofs.Choosing.{carrier_at, among_is}
use Rattle.router_core.proofs.Knowing.{known_at}

-- what is done for a frame is one action or none, which moves no request
abbrev pub IsFrameAnswer : List Action → Type 0
IsFrameAnswer [] = Unit {0}
IsFrameAnswer (Alternatives o value ∷ []) = Unit {0}
IsFrameAnswer (Ignored conn kind reason place ∷ []) = Unit {0}
IsFrameAnswer (Origins conn taken skipped ∷ []) = Unit {0}
IsFrameAnswer _ = ⊥

value_answer : (j : Journal) (now : ℕ) (c : Connection) (value : AltSvc) (v : Option Origin) → IsFrameAnswer (value_action j now c value v ∷ [])
value_answer j now c value None = tt
value_answer j now c value (Some o) = by_tests (not (is_https o.scheme)) (not (is_authoritative j c o now))
  where
    by_tests : (a b : Bool) → IsFrameAnswer (cond a (Ignored c.number 10 9 0) (cond b (Ignored c.number 10 7 0) (Alternatives o value)) ∷ [])
    by_tests true b = tt
    by_tests false true = tt
    by_tests false false = tt

altsvc_answer : (j : Journal) (now : ℕ) (c : Connection) (head : Head) (payload : List ℕ) → IsFrameAnswer (altsvc_action j now c head payload ∷ [])
altsvc_answer j now c head payload = by_test (not (is_tls c)) (read_frame head.stream payload)
  where
    by_test : (b : Bool) (r : Result AltFrame (At AltFrameRefusal)) → IsFrameAnswer (cond b (Ignored c.number 10 10 0) (reading_action j now c head.stream r) ∷ [])
    by_test true r = tt
    by_test false (Ok frame) = value_answer j now c frame.value (spoken_for_in j c.number head.stream frame)
    by_test false (Err at) = tt

origin_answer : (c : Connection) (head : Head) (payload : List ℕ) → IsFrameAnswer (origin_action c head payload ∷ [])
origin_answer c head payload = by_test (not (is_tls c)) (read_listed head.stream head.flags payload)
  where
    by_test : (b : Bool) (r : Result Listed (At OriginFrameRefusal)) → IsFrameAnswer (cond b (Ignored c.number 12 10 0) (listing_action c r) ∷ [])
    by_test true r = tt
    by_test false (Ok listed) = tt
    by_test false (Err at) = tt

pub frame_answer : (j : Journal) (now conn : ℕ) (head : Head) (payload : List ℕ) → IsFrameAnswer (frame_effects j now conn head payload)
frame_answer j now conn head payload = by_found (open_connection j conn)
  where
    by_kind : (c : Connection) (a b : Bool) → IsFrameAnswer (cond a (altsvc_action j now c head payload ∷ []) (cond b (origin_action c head payload ∷ []) []))
    by_kind c true b = altsvc_answer j now c head payload
    by_kind c false true = origin_answer c head payload
    by_kind c false false = tt

    by_found : (v : Option Connection) → IsFrameAnswer (option_map_or (frame_action j now head payload) v [])
    by_found None = tt
    by_found (Some c) = by_kind c (nat_eq head.kind 10) (nat_eq head.kind 12)

-- the request on a stream

find_same_in : {X : Type 0} (p q : X → Bool) (xs : List X) → ((x : X) → IsIn x xs → p x ≡ q x) → find p xs ≡ find q xs
find_same_in p q [] h = refl
find_same_in p q (x ∷ xs) h = λ i. cond (h x (inl refl) i) (Some x) (find_same_in p q xs (λ y found. h y (inr found)) i)

-- each that is outstanding on a connection is one of the table's
outstanding_known : (j : Journal) (outs : List Outstanding) (conn n : ℕ) → Sound j → AreOut j outs → IsIn n (outstanding j conn) → (x : Outstanding) × (request_among outs n ≡ Some x) × IsOut j n x
outstanding_known j outs conn n sound are out = by_found (request_among outs n) refl (are.out n ∙ ap is_out (sound.out_stands conn n out))
  where
    by_found : (v : Option Outstanding) → request_among outs n ≡ v → is_some v ≡ true → (x : Outstanding) × (request_among outs n ≡ Some x) × IsOut j n x
    by_found None e some = absurd (true≢false (sym some))
    by_found (Some x) e some = (x, e, are.known n x e)

pub origin_on : (j : Journal) (outs : List Outstanding) (conn stream : ℕ) → Sound j → AreOut j outs →
    option_map (λ (x : Outstanding). x.request.origin) (request_on outs stream (outstanding j conn)) ≡ option_map (λ (q : Request). q.origin) (asked_on j conn stream)
origin_on j outs conn stream sound are =
    ap (λ v. option_map (λ (x : Outstanding). x.request.origin) (option_and_then (request_among outs) v)) sent
    ∙ by_found (find (was_sent_on j stream) (outstanding j conn)) refl
  where
    same : (n : ℕ) → IsIn n (outstanding j conn) → is_sent_on outs stream n ≡ was_sent_on j stream n
    same n out =
        let is = outstanding_known j outs conn n sound are out in
        ap (λ v. option_map_or (λ (x : Outstanding). option_map_or (nat_eq stream) x.stream false) v false) is.1
        ∙ sym (ap (λ v. option_map_or (λ (s : SentTo). option_map_or (nat_eq stream) s.stream false) v false) is.2.sent)

    sent : find (is_sent_on outs stream) (outstanding j conn) ≡ find (was_sent_on j stream) (outstanding j conn)
    sent = find_same_in (is_sent_on outs stream) (was_sent_on j stream) (outstanding j conn) same

    by_found : (v : Option ℕ) → find (was_sent_on j stream) (outstanding j conn) ≡ v →
        option_map (λ (x : Outstanding). x.request.origin) (option_and_then (request_among outs) v) ≡ option_map (λ (q : Request). q.origin) (option_and_then (request_of j) v)
    by_found None e = refl
    by_found (Some n) e =
        let is = outstanding_known j outs conn n sound are (find_in (was_sent_on j stream) (outstanding j conn) n e).0 in
        ap (option_map (λ (x : Outstanding). x.request.origin)) is.1 ∙ sym (ap (option_map (λ (q : Request). q.origin)) is.2.request)

-- the same is done

value_is : (j : Journal) (now : ℕ) (x : Connection) (value : AltSvc) (v : Option Origin) → is_open j x ≡ true → value_done (known_at j now) (record_of j x) value v ≡ value_action j now x value v
value_is j now x value None open_now = refl
value_is j now x value (Some o) open_now =
    ap (λ b. cond (not (is_https o.scheme)) (Ignored x.number 10 9 0) (cond (not (b && carrier_at (known_at j now) o (record_of j x))) (Ignored x.number 10 7 0) (Alternatives o value))) (sym open_now)

spoken_is : (j : Journal) (outs : List Outstanding) (conn stream : ℕ) (frame : AltFrame) → Sound j → AreOut j outs → spoken_for outs (outstanding j conn) stream frame ≡ spoken_for_in j conn stream frame
spoken_is j outs conn stream frame sound are = ap (cond (nat_eq stream 0) frame.origin) (origin_on j outs conn stream sound are)

reading_is : (j : Journal) (outs : List Outstanding) (now : ℕ) (x : Connection) (stream : ℕ) (r : Result AltFrame (At AltFrameRefusal)) → Sound j → AreOut j outs → is_open j x ≡ true → reading_done (known_at j now) outs (record_of j x) stream r ≡ reading_action j now x stream r
reading_is j outs now x stream (Ok frame) sound are open_now =
    ap (value_done (known_at j now) (record_of j x) frame.value) (spoken_is j outs x.number stream frame sound are) ∙ value_is j now x frame.value (spoken_for_in j x.number stream frame) open_now
reading_is j outs now x stream (Err at) sound are open_now = refl

frame_is : (j : Journal) (outs : List Outstanding) (now : ℕ) (head : Head) (payload : List ℕ) (x : Connection) → Sound j → AreOut j outs → is_open j x ≡ true → frame_done (known_at j now) outs head payload (record_of j x) ≡ frame_action j now head payload x
frame_is j outs now head payload x sound are open_now =
    ap (λ a. cond (nat_eq head.kind 10) (cond (not (is_tls x)) (Ignored x.number 10 10 0) a ∷ []) (cond (nat_eq head.kind 12) (origin_action x head payload ∷ []) []))
    (reading_is j outs now x head.stream (read_frame head.stream payload) sound are open_now)

pub done_is : (is_address : Origin → Addr → Bool) (t : Tables) (j : Journal) (now conn : ℕ) (head : Head) (payload : List ℕ) → is_address ≡ known_at j now → Sound j → Hold t j → AreOut j t.requests.outstanding →
    frame_actions is_address t conn head payload ≡ frame_effects j now conn head payload
done_is is_address t j now conn head payload seen sound hold are =
    ap (λ at. frame_actions at t conn head payload) seen
    ∙ ap (λ v. option_map_or (frame_done (known_at j now) t.requests.outstanding head payload) v []) (among_is t j conn hold)
    ∙ by_found (open_connection j conn) refl
  where
    by_found : (v : Option Connection) → open_connection j conn ≡ v → option_map_or (frame_done (known_at j now) t.requests.outstanding head payload) (option_map (record_of j) v) [] ≡ option_map_or (frame_action j now head payload) v []
    by_found None e = refl
    by_found (Some x) e =
        let there = (find_in (λ (c : Connection). nat_eq c.number conn) (open_connections j) x e).0 in
        frame_is j t.requests.outstanding now head payload x sound are (in_filter (is_open j) x (connections j) there).1
