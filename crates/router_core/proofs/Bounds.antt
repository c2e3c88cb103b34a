-- How far the effect of a fact raises the counts that a router keeps.
use Rattle.std.proofs.Common.{◌≡◌, ℕ, suc, ◌+◌, ◌*◌, ◌<◌, ◌≤◌, Bool, true, false, cond, nat_eq, List, [], ◌∷◌, ◌++◌, map, length, Option, Some, None, refl, ap, arith, filter, not, nat_lt, is_some, true≢false}
use Rattle.std.specs.Prelude.{max}
use Rattle.std.proofs.lemmas.List.{length-append}
use Rattle.coalescing.specs.declared.cert_name.CertName.{CertName}
use Rattle.origin_values.specs.declared.proto.Proto.{Proto}
use Rattle.origin_values.specs.declared.address.Addr.{Addr}
use Rattle.route_events.specs.declared.attempt.Attempt.{Attempt}
use Rattle.route_events.specs.declared.fact.Fact.{Fact}
use Rattle.h2_framing.specs.declared.frame.Frame.{Frame}
use Rattle.h2_framing.specs.declared.frame.Frame.TheVariants.{Kept, Passed}
use Rattle.h2_framing.specs.declared.head.Head.{Head}
use Rattle.route_events.specs.declared.fact.Fact.TheVariants.{Request, Opened, Failed, Closed, Response, Input, Delivered, Answer, Network, Tick, Who, Stats}
use Rattle.route_events.specs.declared.refusal.StepRefusal.TheVariants.{Spent, TimeBack}
use Rattle.route_events.specs.declared.action.Action.{Action}
use Rattle.route_events.specs.declared.action.Action.TheVariants.{OpenTo, SendOn, Lost, Retry, Alternatives, Field, Close, Ignored, Origins}
use Rattle.route_events.specs.declared.action.Action.TheVariants as action
use Rattle.altsvc_grammar.specs.declared.alt.Alt.{Alt}
use Rattle.origin_values.specs.declared.origin.Origin.{Origin}
use Rattle.route_events.specs.Alternatives.{alternatives_of}
use Rattle.conn_states.specs.Changes.{with_answered, with_listed, with_misdirected, unbound}
use Rattle.conn_states.specs.Record.{Record}
use Rattle.request_dispatch.specs.declared.outstanding.Outstanding.{Outstanding}
use Rattle.request_dispatch.specs.declared.step_state.StepState.{StepState}
use Rattle.request_dispatch.specs.declared.tables.Tables.{Tables}
use Rattle.request_dispatch.specs.declared.waiting.Waiting.{Waiting}
use Rattle.request_dispatch.specs.AttemptTable.{attempt_among}
use Rattle.request_dispatch.specs.RequestTable.{RequestTable, request_among, tried_after, placed, waits_again, sent_back, lost}
use Rattle.route_events.specs.Connections.{is_one_of}
use Rattle.request_dispatch.specs.ConnectionTable.{most_sends, listed_on, misdirected_by, is_left_out, rebound}
use Rattle.request_dispatch.specs.Looks.{Look}
use Rattle.request_dispatch.specs.StepStates.{settled, none_waiting}
use Rattle.request_dispatch.proofs.Bounds.{over_opened, over_sends}
use Rattle.router_core.specs.Reasons.{reason_of, reason_of_fact}
use Rattle.router_core.specs.declared.course.Course.{Course}
use Rattle.router_core.specs.Becomes.{seen, after_effect, Becomes, CutBecomes, Delivers, Cuts, Follows}
use Rattle.router_core.specs.Effects.{ended, opened, made_of, begun_of, misdirected_for, answered_so, cut_so, with_effect}
use Rattle.router_core.specs.Fitting.{brings}
use Rattle.router_core.specs.FrameEffects.{frame_actions, listed_in, with_listing, delivered_so}
use Rattle.router_core.specs.Rebinding.{rebound_by}

-- a fact raises them by one request at most

most_sends_append : (cs : List Record) (c : Record) → c.sends ≡ 0 → most_sends (cs ++ c ∷ []) ≡ most_sends cs
most_sends_append [] c none = rw none refl
most_sends_append (b ∷ cs) c none = ap (max b.sends) (most_sends_append cs c none)

most_sends_filter : (p : Record → Bool) (cs : List Record) → most_sends (filter p cs) ≤ most_sends cs
most_sends_filter p [] = omega arith
most_sends_filter p (c ∷ cs) = by_test (p c) (most_sends_filter p cs)
  where
    kept : (a b c : ℕ) → b ≤ c → max a b ≤ max a c
    kept a b c h = grind arith

    dropped : (a b c : ℕ) → b ≤ c → b ≤ max a c
    dropped a b c h = grind arith

    by_test : (b : Bool) → most_sends (filter p cs) ≤ most_sends cs → most_sends (cond {A = List Record} b (c ∷ filter p cs) (filter p cs)) ≤ max c.sends (most_sends cs)
    by_test true rest = kept c.sends (most_sends (filter p cs)) (most_sends cs) rest
    by_test false rest = dropped c.sends (most_sends (filter p cs)) (most_sends cs) rest

-- what the effect of a fact that brings so many requests leaves of the counts
pub record IsSmall (count : ℕ) (s t : StepState) : Type 0 where
  pub opened : t.tables.attempts.opened ≡ s.tables.attempts.opened
  pub waiting : length t.tables.requests.waiting ≤ length s.tables.requests.waiting + count
  pub sends : most_sends t.tables.connections ≤ most_sends s.tables.connections

length_mapped : (f : Waiting → Waiting) (ws : List Waiting) → length (map f ws) ≡ length ws
length_mapped f [] = refl
length_mapped f (w ∷ ws) = ap (λ n. suc n) (length_mapped f ws)

ended_small : (s : StepState) (w : Option Attempt) → IsSmall 0 s (ended s w)
ended_small s None = record { opened = refl; waiting = omega arith; sends = omega arith }
ended_small s (Some a) = record { opened = refl; waiting = omega (arith, length_mapped (tried_after a.origin a.route) s.tables.requests.waiting); sends = omega arith }

opened_small : (live : Origin → List Alt) (s : StepState) (w : Option Attempt) (p : Proto) (d : Addr) (port : ℕ) (names : List CertName) → IsSmall 0 s (opened live s w p d port names)
opened_small live s None p d port names = record { opened = refl; waiting = omega arith; sends = omega arith }
opened_small live s (Some a) p d port names = record {
  opened = refl;
  waiting = omega (arith, length_mapped (tried_after a.origin a.route) s.tables.requests.waiting);
  sends = omega (arith, most_sends_append s.tables.connections (begun_of live (made_of a p d port names)) refl);
}

-- what maps connections and leaves their sends leaves the most of them
most_sends_kept : (f : Record → Record) (cs : List Record) → ((c : Record) → (f c).sends ≡ c.sends) → most_sends (map f cs) ≡ most_sends cs
most_sends_kept f [] h = refl
most_sends_kept f (c ∷ cs) h = λ i. max (h c i) (most_sends_kept f cs h i)

rebound_kept : (as' : List Action) (cs : List Record) → most_sends (rebound_by as' cs) ≡ most_sends cs
rebound_kept (Alternatives o value ∷ as') cs = most_sends_kept (rebound o (alternatives_of value)) cs (λ c. by_test c (is_left_out o (alternatives_of value) c))
  where
    by_test : (c : Record) (b : Bool) → (cond b (unbound c) c).sends ≡ c.sends
    by_test c true = refl
    by_test c false = refl
rebound_kept [] cs = refl
rebound_kept (OpenTo number origin route ∷ as') cs = refl
rebound_kept (SendOn request conn stream used ∷ as') cs = refl
rebound_kept (action.Refuse request ∷ as') cs = refl
rebound_kept (Lost request ∷ as') cs = refl
rebound_kept (Retry request ∷ as') cs = refl
rebound_kept (Field request reason place ∷ as') cs = refl
rebound_kept (Close conn count ∷ as') cs = refl
rebound_kept (Ignored conn kind reason place ∷ as') cs = refl
rebound_kept (Origins conn taken skipped ∷ as') cs = refl
rebound_kept (action.Malformed name item reason place ∷ as') cs = refl
rebound_kept (action.Who origin conns ∷ as') cs = refl
rebound_kept (action.Stats alternatives answers broken connections waiting ∷ as') cs = refl

-- one more waits, where one is sent back
placed_length : (w : Waiting) (ws : List Waiting) → length (placed w ws) ≡ suc (length ws)
placed_length w [] = refl
placed_length w (x ∷ xs) = by_test (nat_lt w.request.number x.request.number) (placed_length w xs)
  where
    by_test : (b : Bool) → length (placed w xs) ≡ suc (length xs) → length (cond b (w ∷ x ∷ xs) (x ∷ placed w xs)) ≡ suc (suc (length xs))
    by_test true rest = refl
    by_test false rest = ap (λ n. suc n) rest

again_length : (v : Option Outstanding) (ws : List Waiting) → length (waits_again v ws) ≤ length ws + 1
again_length None ws = omega arith
again_length (Some x) ws = omega (arith, placed_length (record { request = x.request; tried = x.tried }) ws)

answer_length : (b : Bool) (request : ℕ) (t : RequestTable) → length (cond b (sent_back request t) (lost (request ∷ []) t)).waiting ≤ length t.waiting + 1
answer_length true request t = again_length (request_among t.outstanding request) t.waiting
answer_length false request t = omega arith

misdirected_kept : (request status : ℕ) (found : Option Outstanding) (cs : List Record) → most_sends (misdirected_for request status found cs) ≡ most_sends cs
misdirected_kept request status None cs = refl
misdirected_kept request status (Some x) cs = by_status (nat_eq status 421)
  where
    same : (c : Record) → (misdirected_by request x.request.origin c).sends ≡ c.sends
    same c = by_one (is_one_of request c.outstanding)
      where
        by_one : (b : Bool) → (cond b (with_misdirected x.request.origin c) c).sends ≡ c.sends
        by_one true = refl
        by_one false = refl

    by_status : (b : Bool) → most_sends (cond b (map (misdirected_by request x.request.origin) cs) cs) ≡ most_sends cs
    by_status true = most_sends_kept (misdirected_by request x.request.origin) cs same
    by_status false = refl

answered_small : (s : StepState) (request status : ℕ) (found : Option Outstanding) (as' : List Action) → IsSmall 1 s (answered_so s request status found as')
answered_small s request status found as' = record {
  opened = refl;
  waiting = answer_length (nat_eq status 421) request s.tables.requests;
  sends = omega (
    arith,
    rebound_kept as' (map (with_answered request) (misdirected_for request status found s.tables.connections)),
    most_sends_kept (with_answered request) (misdirected_for request status found s.tables.connections) (λ c. refl),
    misdirected_kept request status found s.tables.connections,
  );
}

-- a frame brings none
listing_kept : (conn : ℕ) (w : Option (List Origin)) (cs : List Record) → most_sends (with_listing conn w cs) ≡ most_sends cs
listing_kept conn None cs = refl
listing_kept conn (Some origins) cs = most_sends_kept (listed_on conn origins) cs (λ c. by_number c (nat_eq c.number conn))
  where
    by_number : (c : Record) (b : Bool) → (cond b (with_listed origins c) c).sends ≡ c.sends
    by_number c true = refl
    by_number c false = refl

delivered_small : (is_address : Origin → Addr → Bool) (s : StepState) (conn : ℕ) (head : Head) (payload : List ℕ) → IsSmall 0 s (delivered_so is_address s conn head payload)
delivered_small is_address s conn head payload = record {
  opened = refl;
  waiting = omega arith;
  sends = omega (
    arith,
    rebound_kept (frame_actions is_address s.tables conn head payload) (with_listing conn (listed_in s.tables.connections conn head payload) s.tables.connections),
    listing_kept conn (listed_in s.tables.connections conn head payload) s.tables.connections,
  );
}

pub effect_small : (live : Origin → List Alt) (is_address : Origin → Addr → Bool) (s : StepState) (f : Fact) → IsSmall (brings f) s (with_effect live is_address s f)
effect_small live is_address s (Request number origin) = record { opened = refl; waiting = omega (arith, length-append s.tables.requests.waiting (record { request = record { number = number; origin = origin }; tried = [] } ∷ [])); sends = omega arith }
effect_small live is_address s (Opened attempt proto addr port names) = opened_small live s (attempt_among s.tables.attempts.pending attempt) proto addr port names
effect_small live is_address s (Failed attempt) = ended_small s (attempt_among s.tables.attempts.pending attempt)
effect_small live is_address s (Closed conn) = record { opened = refl; waiting = omega arith; sends = most_sends_filter (λ (c : Record). not (nat_eq conn c.number)) s.tables.connections }
effect_small live is_address s (Response request status age altsvc) = answered_small s request status _ _
effect_small live is_address s (Input conn bytes) = record { opened = refl; waiting = omega arith; sends = omega arith }
effect_small live is_address s (Delivered conn head payload) = delivered_small is_address s conn head payload
effect_small live is_address s (Who origin) = record { opened = refl; waiting = omega arith; sends = omega arith }
effect_small live is_address s (Answer name ttl body) = record { opened = refl; waiting = omega arith; sends = omega arith }
effect_small live is_address s Stats = record { opened = refl; waiting = omega arith; sends = omega arith }
effect_small live is_address s Network = record { opened = refl; waiting = omega arith; sends = omega arith }
effect_small live is_address s Tick = record { opened = refl; waiting = omega arith; sends = omega arith }

-- a step that isn't refused leaves room for itself
pub not_spent : (facts last newest : ℕ) (t : Tables) (now : ℕ) (f : Fact) → facts ≤ 16777215 → reason_of facts last newest t now f ≡ None → facts < 16777215
not_spent facts last newest t now f most free = by_test (nat_eq facts 16777215) refl free
  where
    by_test : (b : Bool) → nat_eq facts 16777215 ≡ b → cond b (Some (Spent facts)) (cond (nat_lt now last) (Some (TimeBack (record { 0 = last }))) (reason_of_fact newest t f)) ≡ None → facts < 16777215
    by_test true e free = absurd (true≢false (ap is_some free))
    by_test false e free = grind arith

-- how far a course of parts that brings so many requests raises the counts
pub record IsWithin (parts count : ℕ) (old new : Course) : Type 0 where
  pub opened : new.state.tables.attempts.opened ≤ old.state.tables.attempts.opened + parts * 16777215
  pub sends : most_sends new.state.tables.connections + length new.state.tables.requests.waiting ≤ most_sends old.state.tables.connections + length old.state.tables.requests.waiting + count

settled_within : (look : Look) (old new : Course) (s : StepState) (count : ℕ) → IsSmall count old.state s → new.state ≡ settled look s → most_sends old.state.tables.connections + length old.state.tables.requests.waiting + count ≤ 16777215 → IsWithin 1 count old new
settled_within look old new s count small state few =
    let more = over_opened look (none_waiting s) s.tables.requests.waiting in
    let sends = over_sends look (none_waiting s) s.tables.requests.waiting in
    record {
      opened = rw state (omega (arith, more, small.opened, small.waiting, few));
      sends = rw state (omega (arith, sends, small.sends, small.waiting));
    }

pub becomes_within : (old new : Course) (now : ℕ) (f : Fact) → Becomes old new now f → most_sends old.state.tables.connections + length old.state.tables.requests.waiting + brings f ≤ 16777215 → IsWithin 1 (brings f) old new
becomes_within old new now f is few = settled_within (seen new now) old new (after_effect old now f) (brings f) (effect_small (seen old now).live (seen old now).is_address old.state f) is.state few

pub delivers_within : (now conn : ℕ) (old : Course) (frames : List Frame) (new : Course) → Delivers now conn old frames new → most_sends old.state.tables.connections + length old.state.tables.requests.waiting ≤ 16777215 → IsWithin (length frames) 0 old new
delivers_within now conn old [] new is few = rw is (record { opened = omega arith; sends = omega arith })
delivers_within now conn old (Passed head ∷ frames) new is few =
    let rest = delivers_within now conn old frames new is few in
    record { opened = omega (arith, rest.opened); sends = rest.sends }
delivers_within now conn old (Kept head payload ∷ frames) new is few =
    let first = becomes_within old is.0 now (Delivered conn head payload) is.1 (omega (arith, few)) in
    let rest = delivers_within now conn is.0 frames new is.2 (omega (arith, few, first.sends)) in
    record { opened = omega (arith, first.opened, rest.opened); sends = omega (arith, first.sends, rest.sends) }

pub cut_small : (s : StepState) (conn count : ℕ) → IsSmall 0 s (cut_so s conn count)
cut_small s conn count = record { opened = refl; waiting = omega arith; sends = most_sends_filter (λ (c : Record). not (nat_eq conn c.number)) s.tables.connections }

cut_within : (old new : Course) (now conn count : ℕ) → CutBecomes old new now conn count → most_sends old.state.tables.connections + length old.state.tables.requests.waiting ≤ 16777215 → IsWithin 1 0 old new
cut_within old new now conn count is few =
    settled_within (seen old now) old new (cut_so old.state conn count) 0 (cut_small old.state conn count) is.state (omega (arith, few))

cuts_within : (now conn : ℕ) (old : Course) (w : Option ℕ) (new : Course) → Cuts now conn old w new → most_sends old.state.tables.connections + length old.state.tables.requests.waiting ≤ 16777215 → IsWithin 1 0 old new
cuts_within now conn old None new is few = rw is (record { opened = omega arith; sends = omega arith })
cuts_within now conn old (Some count) new is few = cut_within old new now conn count is few

pub follows_within : (old new : Course) (now : ℕ) (f : Fact) (conn : ℕ) (frames : List Frame) (w : Option ℕ) → Follows old new now f conn frames w → most_sends old.state.tables.connections + length old.state.tables.requests.waiting + brings f ≤ 16777215 → length frames ≤ 9103 → IsWithin 9105 (brings f) old new
follows_within old new now f conn frames w is few count =
    let first = becomes_within old is.begun now f is.begins few in
    let then = delivers_within now conn is.begun frames is.delivered is.delivers (omega (arith, few, first.sends)) in
    let last = cuts_within now conn is.delivered w new is.cuts (omega (arith, few, first.sends, then.sends)) in
    record { opened = omega (arith, first.opened, then.opened, last.opened, count); sends = omega (arith, first.sends, then.sends, last.sends) }

-- a step that isn't refused brings no more than its own fact
brings_one : (f : Fact) → brings f ≤ 1
brings_one (Request number origin) = omega arith
brings_one (Opened attempt proto addr port names) = omega arith
brings_one (Failed attempt) = omega arith
brings_one (Closed conn) = omega arith
brings_one (Response request status age altsvc) = omega arith
brings_one (Input conn bytes) = omega arith
brings_one (Delivered conn head payload) = omega arith
brings_one (Answer name ttl body) = omega arith
brings_one Stats = omega arith
brings_one Network = omega arith
brings_one Tick = omega arith
brings_one (Who origin) = omega arith

pub leaves_room : (old : Course) (t : Tables) (facts : ℕ) (f : Fact) → old.state.tables ≡ t → most_sends t.connections + length t.requests.waiting ≤ facts → facts < 16777215 →
    most_sends old.state.tables.connections + length old.state.tables.requests.waiting + brings f ≤ 16777215
leaves_room old t facts f same few room = rw same (omega (arith, few, room, brings_one f))

pub record StepWithin (t : Tables) (facts : ℕ) (new : Course) : Type 0 where
  pub opened : new.state.tables.attempts.opened ≤ t.attempts.opened + 9105 * 16777215
  pub sends : most_sends new.state.tables.connections + length new.state.tables.requests.waiting ≤ facts + 1

pub step_within : (old new : Course) (t : Tables) (facts now : ℕ) (f : Fact) (conn : ℕ) (frames : List Frame) (w : Option ℕ) → old.state.tables ≡ t → most_sends t.connections + length t.requests.waiting ≤ facts → facts < 16777215 →
    Follows old new now f conn frames w → length frames ≤ 9103 → StepWithin t facts new
step_within old new t facts now f conn frames w same few room is count =
    let within = follows_within old new now f conn frames w is (leaves_room old t facts f same few room) count in
    let opened = ap (λ (u : Tables). u.attempts.opened) same in
    let sends = ap (λ (u : Tables). most_sends u.connections + length u.requests.waiting) same in
    record { opened = omega (arith, within.opened, opened); sends = omega (arith, within.sends, sends, few, brings_one f) }
