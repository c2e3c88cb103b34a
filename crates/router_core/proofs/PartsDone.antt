-- A part of a step, for what a router keeps, is the part for the journal.
use Rattle.std.proofs.Common.{◌≡◌, inl, inr, ℕ, ◌<◌, ◌≤◌, Bool, true, false, cond, nat_eq, nat_lt, List, [], ◌∷◌, ◌++◌, map, filter, drop, length, Option, Some, None, is_some, refl, ap, sym, ◌∙◌, subst, arith, true≢false}
use Rattle.std.proofs.lemmas.List.{map-append}
use Rattle.alias_chain.specs.Held.{in_force}
use Rattle.alias_chain.specs.Walk.{NameOf}
use Rattle.answer_store.specs.Bodies.{Kind}
use Rattle.answer_store.specs.Contents.{kept as kept_answer}
use Rattle.network_cache.specs.Contents.{kept, live as cache_live}
use Rattle.origin_values.specs.declared.origin.Origin.{Origin}
use Rattle.route_choice.specs.declared.broken.Broken.{Broken}
use Rattle.route_choice.specs.Capped.{capped}
use Rattle.route_choice.specs.Contents.{kept_failures}
use Rattle.route_choice.proofs.Backoffs.{capped_barred}
use Rattle.route_events.specs.declared.fact.Fact.{Fact}
use Rattle.route_events.specs.declared.fact.Fact.TheVariants as fact
use Rattle.route_events.specs.declared.action.Action.TheVariants.{Lost, Close}
use Rattle.route_events.specs.declared.request.Request.{Request}
use Rattle.route_events.specs.declared.refusal.StepRefusal.TheVariants.{NoSuchRequest}
use Rattle.route_events.specs.declared.route.Route.{Route}
use Rattle.route_events.specs.declared.route.Route.TheVariants.{Direct, Alt, Rec}
use Rattle.route_events.specs.Alternatives.{age_in, live}
use Rattle.route_events.specs.Backoff.{is_direct, failures, is_barred_by, is_broken}
use Rattle.route_events.specs.Connections.{is_open_number, outstanding, answered_in}
use Rattle.route_events.specs.Journal.{Happened, Cut, Taken, Journal, step_count, newest_moment}
use Rattle.route_events.specs.Requests.{requests, newest_number, standing, waits, is_out, waiting}
use Rattle.route_events.specs.Step.{refusal, with_part, with_fact, effects, cut_effects, settle, settled as journal_settled, newest_actions}
use Rattle.route_events.proofs.Deliveries.{drop_front}
use Rattle.route_events.proofs.Lists.{IsIn, AreApart, apart_filter}
use Rattle.route_events.proofs.Sound.{Sound, not_earlier, above_newest, opened_pending, failed_pending, closed_open, used_of, sound_cut, IsStarted, started_of}
use Rattle.route_events.proofs.Settles.{Settles, effected}
use Rattle.route_events.proofs.Runs.{all_settled, are_effects, are_lost, waiting_in}
use Rattle.request_dispatch.specs.declared.step_state.StepState.{StepState}
use Rattle.request_dispatch.specs.declared.waiting.Waiting.{Waiting}
use Rattle.request_dispatch.specs.AttemptTable.{attempt_among, other_attempts}
use Rattle.request_dispatch.specs.ConnectionTable.{connection_among, out_on}
use Rattle.request_dispatch.specs.Looks.{Look, live_at, address_at, look_of}
use Rattle.request_dispatch.specs.RequestTable.{requests_of, without_all, after_end}
use Rattle.request_dispatch.specs.StepStates.{none_waiting, settled}
use Rattle.request_dispatch.proofs.Listing.{filter_within}
use Rattle.router_core.specs.declared.course.Course.{Course}
use Rattle.router_core.specs.Becomes.{seen, after_effect, done_by, Becomes, CutBecomes}
use Rattle.router_core.specs.Effects.{ended, opened, cut_so}
use Rattle.router_core.specs.Holds.{Hold, AreTried, AreOut}
use Rattle.router_core.specs.Notes.{given_up, spared, value_noted, kept_after}
use Rattle.router_core.specs.StoredAnswers.{answer_of, HoldsAnswers}
use Rattle.router_core.proofs.Answering.{answer_keeps}
use Rattle.router_core.proofs.Applying.{newest_with, hold_requests, tried_taken}
use Rattle.router_core.proofs.Coming.{IsFrame, Comes, sound_part}
use Rattle.router_core.proofs.Effects.{waiting_request, tried_arrival, requests_tried, tried_ended, out_ended, hold_ended, hold_opened, out_on_is, loses_all, nowhere_else, nowhere_after_cut, hold_closed, hold_cut, out_arrival}
use Rattle.router_core.proofs.FrameKeeping.{frame_keeps}
use Rattle.router_core.proofs.Knowing.{SaysSame, said_settled, Sees}
use Rattle.router_core.proofs.Naming.{resolved_keeps}
use Rattle.router_core.proofs.Noting.{failures_with, failures_noted_are, fresh_alts, lost_live, live_noted}
use Rattle.router_core.proofs.Resolving.{addresses_are, endpoints_are, answers_with, told_is}
use Rattle.router_core.proofs.Returning.{AreRising, rise_part, rise_cut}
use Rattle.router_core.proofs.SettlingSo.{Keeps, Asked, number_of, still_waiting, over_keeps}

-- the effect of a fact

-- facts that end no attempt and bring no request
tried_closed : (j : Journal) (now c : ℕ) (ws : List Waiting) → AreTried j ws → AreTried (Happened now (fact.Closed c) true ∷ j) ws
tried_closed j now c [] h = tt
tried_closed j now c (w ∷ ws) h = (h.0, tried_closed j now c ws h.1)

tried_tick : (j : Journal) (now : ℕ) (ws : List Waiting) → AreTried j ws → AreTried (Happened now fact.Tick true ∷ j) ws
tried_tick j now [] h = tt
tried_tick j now (w ∷ ws) h = (h.0, tried_tick j now ws h.1)

tried_network : (j : Journal) (now : ℕ) (ws : List Waiting) → AreTried j ws → AreTried (Happened now fact.Network true ∷ j) ws
tried_network j now [] h = tt
tried_network j now (w ∷ ws) h = (h.0, tried_network j now ws h.1)

tried_input : (j : Journal) (now c : ℕ) (bytes : List ℕ) (ws : List Waiting) → AreTried j ws → AreTried (Happened now (fact.Input c bytes) true ∷ j) ws
tried_input j now c bytes [] h = tt
tried_input j now c bytes (w ∷ ws) h = (h.0, tried_input j now c bytes ws h.1)

tried_stats : (j : Journal) (now : ℕ) (ws : List Waiting) → AreTried j ws → AreTried (Happened now fact.Stats true ∷ j) ws
tried_stats j now [] h = tt
tried_stats j now (w ∷ ws) h = (h.0, tried_stats j now ws h.1)

tried_who : (j : Journal) (now : ℕ) (o : Origin) (ws : List Waiting) → AreTried j ws → AreTried (Happened now (fact.Who o) true ∷ j) ws
tried_who j now o [] h = tt
tried_who j now o (w ∷ ws) h = (h.0, tried_who j now o ws h.1)

-- a request that is answered is outstanding
answered_out : (j : Journal) (now q status age : ℕ) (altsvc : Option (List ℕ)) → refusal j now (fact.Response q status age altsvc) ≡ None → is_out (standing j q) ≡ true
answered_out j now q status age altsvc free = out_where (is_out (standing j q)) (not_earlier (nat_lt now (newest_moment j)) _ _ (not_earlier (nat_eq (step_count j) 16777215) _ _ free))
  where
    out_where : (b : Bool) → cond b None (Some NoSuchRequest) ≡ None → b ≡ true
    out_where true e = refl
    out_where false e = absurd (true≢false (ap is_some e))

answered_by : (j : Journal) (now : ℕ) (f : Fact) → refusal j now f ≡ None → (q : ℕ) → answered_in f ≡ Some q → is_out (standing j q) ≡ true
answered_by j now (fact.Response r status age altsvc) free q is = subst (λ n. is_out (standing j n) ≡ true) (one r q is) (answered_out j now r status age altsvc free)
  where
    one : (a b : ℕ) → Some a ≡ Some b → a ≡ b
    one a b e = cc
answered_by j now _ free q is = absurd (true≢false (sym (ap is_some is)))

-- the course of a step knows what a journal says, but for the actions
pub record Knows (course : Course) (j : Journal) : Type 0 where
  pub tables : Hold course.state.tables j
  pub waiting : requests_of course.state.tables.requests.waiting ≡ waiting j
  pub tried : AreTried j course.state.tables.requests.waiting
  pub outstanding : AreOut j course.state.tables.requests.outstanding
  pub alternatives : (o : Origin) (at : ℕ) → newest_moment j ≤ at → cache_live course.alternatives o at ≡ live j o at
  pub failures : (o : Origin) (r : Route) → is_direct r ≡ false → kept_failures course.broken o r ≡ capped (failures j o r)
  pub answers : HoldsAnswers course.answers j

handed_keeps : (course : Course) (j : Journal) (now : ℕ) (f : Fact) → course.state.actions ≡ [] → Knows course j → Sound j → AreRising (requests j) → newest_moment j ≤ now → refusal j now f ≡ None → Keeps (after_effect course now f) (with_fact j now f) (waiting (with_fact j now f))
handed_keeps course j now (fact.Request n o) before knows sound rise later free = record {
  tables = record { opened = knows.tables.opened; pending = knows.tables.pending; connections = knows.tables.connections };
  waiting = map-append (λ (w : Waiting). w.request) course.state.tables.requests.waiting (record { request = record { number = n; origin = o }; tried = [] } ∷ [])
      ∙ ap (λ (qs : List Request). qs ++ record { number = n; origin = o } ∷ []) knows.waiting ∙ sym (waiting_request j now n o sound above);
  tried = tried_arrival j now n o course.state.tables.requests.waiting below knows.tried;
  outstanding = out_arrival j now n o course.state.tables.requests.outstanding sound above knows.outstanding;
  written = before;
}
  where
    above : newest_number j < n
    above = above_newest j now n o free

    below : (q : Request) → IsIn q (requests_of course.state.tables.requests.waiting) → q.number < n
    below q found = omega (arith, above, sound.newest q (waiting_in j q (subst (IsIn q) knows.waiting found)).0)
handed_keeps course j now (fact.Opened m p d port names) before knows sound rise later free =
    let is : IsStarted j m = started_of j m (opened_pending j now m p d port names free) in
    let k : Journal = Happened now (fact.Opened m p d port names) true ∷ j in
    subst (λ w. Keeps (opened (live_at course.alternatives now) course.state w p d port names) k (waiting k)) (sym (ap (λ as'. attempt_among as' m) knows.tables.pending ∙ is.found)) (record {
      tables = hold_opened (live_at course.alternatives now) course.state.tables j now m is.attempt p d port names _ sound (λ o. knows.alternatives o now later) is.found is.numbered is.going knows.tables;
      waiting = requests_tried is.attempt.origin is.attempt.route course.state.tables.requests.waiting ∙ knows.waiting;
      tried = tried_ended j now (fact.Opened m p d port names) m is.attempt course.state.tables.requests.waiting refl is.found knows.tried;
      outstanding = out_ended j now (fact.Opened m p d port names) m is.attempt course.state.tables.requests.outstanding refl is.found knows.outstanding;
      written = before;
    })
handed_keeps course j now (fact.Failed m) before knows sound rise later free =
    let is : IsStarted j m = started_of j m (failed_pending j now m free) in
    let k : Journal = Happened now (fact.Failed m) true ∷ j in
    subst (λ w. Keeps (ended course.state w) k (waiting k)) (sym (ap (λ as'. attempt_among as' m) knows.tables.pending ∙ is.found)) (record {
      tables = subst (λ n. Hold (record { attempts = record { opened = course.state.tables.attempts.opened; pending = other_attempts course.state.tables.attempts.pending n }; requests = after_end is.attempt.origin is.attempt.route course.state.tables.requests; connections = course.state.tables.connections }) k) (sym is.numbered) (hold_ended course.state.tables j now m _ knows.tables);
      waiting = requests_tried is.attempt.origin is.attempt.route course.state.tables.requests.waiting ∙ knows.waiting;
      tried = tried_ended j now (fact.Failed m) m is.attempt course.state.tables.requests.waiting refl is.found knows.tried;
      outstanding = out_ended j now (fact.Failed m) m is.attempt course.state.tables.requests.outstanding refl is.found knows.outstanding;
      written = before;
    })
handed_keeps course j now (fact.Closed c) before knows sound rise later free =
    let begins : Journal = Happened now (fact.Closed c) true ∷ j in
    let loses = loses_all _ begins (outstanding j c) (hold_closed course.state.tables j now c course.state.tables.requests knows.tables) (λ q out. nowhere_else j now c q sound out) in
    let lost : out_on (connection_among course.state.tables.connections c) ≡ outstanding j c = out_on_is course.state.tables j c knows.tables (closed_open j now c free) in
    record {
      tables = record { opened = loses.tables.opened; pending = loses.tables.pending; connections = loses.tables.connections };
      waiting = knows.waiting ∙ sym loses.waiting;
      tried = loses.tried course.state.tables.requests.waiting (tried_closed j now c course.state.tables.requests.waiting knows.tried);
      outstanding = subst (λ qs. AreOut (with_fact j now (fact.Closed c)) (without_all qs course.state.tables.requests.outstanding)) (sym lost)
          (loses.outstanding course.state.tables.requests.outstanding (record { out = knows.outstanding.out; known = λ n x e. let was = knows.outstanding.known n x e in record { request = was.request; sent = was.sent; tried = was.tried } }));
      written = (λ i. before i ++ map Lost (lost i)) ∙ sym (newest_with begins (map Lost (outstanding j c)));
    }
handed_keeps course j now (fact.Response q status age altsvc) before knows sound rise later free =
    let out : is_out (standing j q) ≡ true = answered_out j now q status age altsvc free in
    answer_keeps (address_at course.answers now) course.state j now q status age altsvc (addresses_are course.answers j now knows.answers later) before sound rise out knows.tables knows.waiting knows.tried knows.outstanding
handed_keeps course j now fact.Network before knows sound rise later free = record {
  tables = record { opened = knows.tables.opened; pending = knows.tables.pending; connections = knows.tables.connections };
  waiting = knows.waiting;
  tried = tried_network j now course.state.tables.requests.waiting knows.tried;
  outstanding = record { out = knows.outstanding.out; known = λ n x e. let was = knows.outstanding.known n x e in record { request = was.request; sent = was.sent; tried = was.tried } };
  written = before;
}
handed_keeps course j now fact.Tick before knows sound rise later free = record {
  tables = record { opened = knows.tables.opened; pending = knows.tables.pending; connections = knows.tables.connections };
  waiting = knows.waiting;
  tried = tried_tick j now course.state.tables.requests.waiting knows.tried;
  outstanding = record { out = knows.outstanding.out; known = λ n x e. let was = knows.outstanding.known n x e in record { request = was.request; sent = was.sent; tried = was.tried } };
  written = before;
}
handed_keeps course j now (fact.Input c bytes) before knows sound rise later free = record {
  tables = record { opened = knows.tables.opened; pending = knows.tables.pending; connections = knows.tables.connections };
  waiting = knows.waiting;
  tried = tried_input j now c bytes course.state.tables.requests.waiting knows.tried;
  outstanding = record { out = knows.outstanding.out; known = λ n x e. let was = knows.outstanding.known n x e in record { request = was.request; sent = was.sent; tried = was.tried } };
  written = before;
}
handed_keeps course j now (fact.Delivered c head payload) before knows sound rise later free =
    frame_keeps (address_at course.answers now) course.state j now c head payload true (addresses_are course.answers j now knows.answers later) before sound knows.tables knows.waiting knows.tried knows.outstanding
handed_keeps course j now (fact.Answer name ttl body) before knows sound rise later free = resolved_keeps course.state j now name ttl body before knows.tables knows.waiting knows.tried knows.outstanding
handed_keeps course j now fact.Stats before knows sound rise later free = record {
  tables = record { opened = knows.tables.opened; pending = knows.tables.pending; connections = knows.tables.connections };
  waiting = knows.waiting;
  tried = tried_stats j now course.state.tables.requests.waiting knows.tried;
  outstanding = record { out = knows.outstanding.out; known = λ n x e. let was = knows.outstanding.known n x e in record { request = was.request; sent = was.sent; tried = was.tried } };
  written = before;
}
handed_keeps course j now (fact.Who o) before knows sound rise later free = record {
  tables = record { opened = knows.tables.opened; pending = knows.tables.pending; connections = knows.tables.connections };
  waiting = knows.waiting;
  tried = tried_who j now o course.state.tables.requests.waiting knows.tried;
  outstanding = record { out = knows.outstanding.out; known = λ n x e. let was = knows.outstanding.known n x e in record { request = was.request; sent = was.sent; tried = was.tried } };
  written = before;
}

-- the journal behind a fact and its effect
abbrev pub behind : Journal → ℕ → Fact → Bool → Journal
behind j now f h = with_part j now (Happened now f h)

frame_case : (course : Course) (j : Journal) (now : ℕ) (f : Fact) (h : Bool) → IsFrame f → course.state.actions ≡ newest_actions (Happened now f h ∷ j) → Knows course j → Sound j → newest_moment j ≤ now → Keeps (after_effect course now f) (behind j now f h) (waiting (behind j now f h))
frame_case course j now (fact.Delivered c head payload) h is before knows sound later =
    frame_keeps (address_at course.answers now) course.state j now c head payload h (addresses_are course.answers j now knows.answers later) before sound knows.tables knows.waiting knows.tried knows.outstanding
frame_case course j now _ h is before knows sound later = absurd is

pub fact_keeps : (course : Course) (j : Journal) (now : ℕ) (f : Fact) (h : Bool) → course.state.actions ≡ newest_actions (Happened now f h ∷ j) → Knows course j → Sound j → AreRising (requests j) → newest_moment j ≤ now → Comes j now f h → Keeps (after_effect course now f) (behind j now f h) (waiting (behind j now f h))
fact_keeps course j now f h before knows sound rise later (inl frame) = frame_case course j now f h frame before knows sound later
fact_keeps course j now f h before knows sound rise later (inr handed) =
    subst (λ b. course.state.actions ≡ newest_actions (Happened now f b ∷ j) → Keeps (after_effect course now f) (behind j now f b) (waiting (behind j now f b))) (sym handed.0)
    (λ begun. handed_keeps course j now f begun knows sound rise later handed.1) before

-- settling

-- those that wait at the end are those of them that wait on
still_all : (k : Journal) (now : ℕ) → Settles k (journal_settled k now) now (waiting k) → still_waiting (journal_settled k now) (waiting k) ≡ waiting (journal_settled k now)
still_all k now all =
    let p : Request → Bool = λ (r : Request). waits (standing (journal_settled k now) r.number) in
    let q : Request → Bool = λ (r : Request). waits (standing k r.number) in
    sym (ap (filter p) all.quiet.requests_same ∙ filter_within p q (requests k) (λ r found h. all.fewer r.number h))

asked_of : (look : Look) (s : StepState) (k : Journal) (now : ℕ) → Sound k → newest_moment k ≡ now → Keeps s k (waiting k) → Sees look k now → Asked look k now s.tables.requests.waiting
asked_of look s k now sound moment keeps sees =
    let back : waiting k ≡ requests_of s.tables.requests.waiting = sym keeps.waiting in
    record {
      sound = sound;
      moment = moment;
      apart = subst (λ qs. AreApart number_of qs) back (apart_filter number_of (λ (r : Request). waits (standing k r.number)) (requests k) sound.requests_apart);
      waits_now = λ q found. waiting_in k q (subst (IsIn q) keeps.waiting found);
      tried = keeps.tried;
      sees = sees;
    }

pub settle_keeps : (look : Look) (s : StepState) (k : Journal) (now : ℕ) → Sound k → newest_moment k ≡ now → Keeps s k (waiting k) → Sees look k now → Keeps (settled look s) (journal_settled k now) (waiting (journal_settled k now))
settle_keeps look s k now sound moment keeps sees =
    let start : Keeps (none_waiting s) k [] = record { tables = hold_requests s.tables k _ keeps.tables; waiting = refl; tried = tt; outstanding = keeps.outstanding; written = keeps.written } in
    let done = over_keeps look (none_waiting s) k now s.tables.requests.waiting [] (asked_of look s k now sound moment keeps sees) start in
    subst (λ qs. Keeps (settled look s) (journal_settled k now) qs) (still_all k now (all_settled k now sound moment))
    (subst (λ qs. Keeps (settled look s) (settle k now qs) (still_waiting (settle k now qs) qs)) keeps.waiting done)

-- a fact, with its effect and settled

-- the actions of the effect are the journal's
done_is : (course : Course) (j : Journal) (now : ℕ) (f : Fact) (h : Bool) → course.state.actions ≡ newest_actions (Happened now f h ∷ j) → Keeps (after_effect course now f) (behind j now f h) (waiting (behind j now f h)) → done_by course now f ≡ effects j now f
done_is course j now f h before keeps =
    ap (drop (length course.state.actions)) (keeps.written ∙ newest_with (Happened now f h ∷ j) (effects j now f) ∙ ap (λ bs. bs ++ effects j now f) (sym before))
    ∙ drop_front course.state.actions (effects j now f)

answered_by_part : (j : Journal) (now : ℕ) (f : Fact) (h : Bool) → Comes j now f h → (q : ℕ) → answered_in f ≡ Some q → is_out (standing j q) ≡ true
answered_by_part j now f h (inl frame) q is = by_frame f frame is
  where
    by_frame : (f : Fact) → IsFrame f → answered_in f ≡ Some q → is_out (standing j q) ≡ true
    by_frame (fact.Delivered c head payload) frame is = absurd (true≢false (sym (ap is_some is)))
    by_frame _ frame is = absurd frame
answered_by_part j now f h (inr handed) q is = answered_by j now f handed.1 q is

seen_live : (old new : Course) (j : Journal) (now : ℕ) (f : Fact) (h : Bool) → old.state.actions ≡ newest_actions (Happened now f h ∷ j) → Knows old j → Sound j → Comes j now f h → newest_moment j ≤ now →
    Keeps (after_effect old now f) (behind j now f h) (waiting (behind j now f h)) → (becomes : Becomes old new now f) → (o : Origin) (at : ℕ) → now ≤ at → cache_live new.alternatives o at ≡ live (behind j now f h) o at
seen_live old new j now f h before knows sound comes later keeps becomes o at after =
    ap (fresh_alts at) (becomes.alternatives o ∙ ap (λ as'. value_noted now (age_in f) as' o (spared (given_up old.state.tables f) o (kept_after f (kept old.alternatives o)))) (done_is old j now f h before keeps))
    ∙ live_noted old.state.tables j now f h o at (kept old.alternatives o) sound knows.tables knows.outstanding (answered_by_part j now f h comes) (knows.alternatives o at (omega (arith, later, after)))

failures_known : (old new : Course) (j : Journal) (now : ℕ) (f : Fact) (h : Bool) → Knows old j → Becomes old new now f → (o : Origin) (r : Route) → is_direct r ≡ false → kept_failures new.broken o r ≡ capped (failures (behind j now f h) o r)
failures_known old new j now f h knows becomes o r other = becomes.failures o r other ∙ failures_noted_are old.state.tables j now f h o r (kept_failures old.broken o r) knows.tables (knows.failures o r other)

-- a route is broken by what is kept of its failures where it is by all of them
pub barred_as : (broken : Broken) (k : Journal) (o : Origin) (r : Route) (at : ℕ) → (is_direct r ≡ false → kept_failures broken o r ≡ capped (failures k o r)) → is_barred_by (kept_failures broken o r) r at ≡ is_broken k o r at
barred_as broken k o Direct at failed = refl
barred_as broken k o (Alt key) at failed = ap (λ fs. is_barred_by fs (Alt key) at) (failed refl) ∙ capped_barred (failures k o (Alt key)) (Alt key) at
barred_as broken k o (Rec endpoint) at failed = ap (λ fs. is_barred_by fs (Rec endpoint) at) (failed refl) ∙ capped_barred (failures k o (Rec endpoint)) (Rec endpoint) at

-- what is known once a part is settled
pub record PartDone (course : Course) (k : Journal) : Type 0 where
  pub knows : Knows course k
  pub written : course.state.actions ≡ newest_actions k
  pub sound : Sound k
  pub rise : AreRising (requests k)

-- the tables that settling leaves, with what is known beside
done_with : (course : Course) (s : StepState) (k : Journal) (now : ℕ) → Sound k → newest_moment k ≡ now → AreRising (requests k) → Keeps s k (waiting k) → course.state ≡ settled (seen course now) s →
    ((o : Origin) (at : ℕ) → now ≤ at → cache_live course.alternatives o at ≡ live k o at) → ((o : Origin) (r : Route) → is_direct r ≡ false → kept_failures course.broken o r ≡ capped (failures k o r)) →
    ((name : NameOf) (kind : Kind) (at : ℕ) → now ≤ at → in_force at (kept_answer course.answers name kind) ≡ in_force at (answer_of k name kind)) → PartDone course (journal_settled k now)
done_with course s k now sound moment rise keeps state alternatives failed resolved =
    let all = all_settled k now sound moment in
    let said : SaysSame k (journal_settled k now) = said_settled k now (waiting k) in
    let done = subst (λ x. Keeps x (journal_settled k now) (waiting (journal_settled k now))) (sym state) (settle_keeps (seen course now) s k now sound moment keeps sees) in
    record {
      knows = record {
        tables = done.tables;
        waiting = done.waiting;
        tried = done.tried;
        outstanding = done.outstanding;
        alternatives = λ o at h. alternatives o at (omega (arith, all.quiet.moment_same, moment, h)) ∙ sym (said.live_same o at);
        failures = λ o r other. failed o r other ∙ ap capped (sym (said.failures_same o r));
        answers = λ name kind at h. resolved name kind at (omega (arith, all.quiet.moment_same, moment, h)) ∙ sym (ap (in_force at) (said.answers_same name kind));
      };
      written = done.written;
      sound = all.sound;
      rise = subst AreRising (sym all.quiet.requests_same) rise;
    }
  where
    holds : HoldsAnswers course.answers k
    holds = λ name kind at h. resolved name kind at (omega (arith, moment, h))

    sees : Sees (seen course now) k now
    sees = record {
      live_seen = λ o. alternatives o now (omega arith);
      broken_seen = λ o r. barred_as course.broken k o r now (failed o r);
      address_seen = addresses_are course.answers k now holds (omega (arith, moment));
      endpoints_seen = λ o. endpoints_are course.answers k now o holds (omega (arith, moment));
    }

pub part_done : (old new : Course) (j : Journal) (now : ℕ) (f : Fact) (h : Bool) → old.state.actions ≡ newest_actions (Happened now f h ∷ j) → Knows old j → Sound j → AreRising (requests j) → newest_moment j ≤ now → Comes j now f h → Becomes old new now f →
    PartDone new (journal_settled (behind j now f h) now)
part_done old new j now f h before knows sound rise later comes becomes =
    let done = effected (Happened now f h ∷ j) (effects j now f) (are_effects j now f) in
    let begins = fact_keeps old j now f h before knows sound rise later comes in
    done_with new (after_effect old now f) (behind j now f h) now (done.sound (sound_part j now f h sound comes)) done.moment (rise_part j now f h sound comes rise) begins becomes.state
    (λ o at after. seen_live old new j now f h before knows sound comes later begins becomes o at after) (failures_known old new j now f h knows becomes)
    (told_is old.answers new.answers j now f h (effects j now f) knows.answers later becomes.answers)

-- a connection that is cut

tried_cut : (j : Journal) (now c count : ℕ) (ws : List Waiting) → AreTried j ws → AreTried (Cut now c count ∷ j) ws
tried_cut j now c count [] h = tt
tried_cut j now c count (w ∷ ws) h = (h.0, tried_cut j now c count ws h.1)

cut_keeps : (s : StepState) (j : Journal) (now c count : ℕ) → s.actions ≡ newest_actions j → Sound j → is_open_number j c ≡ true → Hold s.tables j → requests_of s.tables.requests.waiting ≡ waiting j → AreTried j s.tables.requests.waiting → AreOut j s.tables.requests.outstanding →
    Keeps (cut_so s c count) (with_part j now (Cut now c count)) (waiting (with_part j now (Cut now c count)))
cut_keeps s j now c count before sound open_now hold asked tried outs =
    let begins : Journal = Taken (Close c count) ∷ Cut now c count ∷ j in
    let loses = loses_all _ begins (outstanding j c) (hold_cut s.tables j now c count s.tables.requests hold) (λ q out. nowhere_after_cut j now c count q sound out) in
    let lost : out_on (connection_among s.tables.connections c) ≡ outstanding j c = out_on_is s.tables j c hold open_now in
    record {
      tables = record { opened = loses.tables.opened; pending = loses.tables.pending; connections = loses.tables.connections };
      waiting = asked ∙ sym loses.waiting;
      tried = loses.tried s.tables.requests.waiting (tried_taken (Cut now c count ∷ j) (Close c count) s.tables.requests.waiting (tried_cut j now c count s.tables.requests.waiting tried));
      outstanding = subst (λ qs. AreOut (with_part j now (Cut now c count)) (without_all qs s.tables.requests.outstanding)) (sym lost)
          (loses.outstanding s.tables.requests.outstanding (record { out = outs.out; known = λ n x e. let was = outs.known n x e in record { request = was.request; sent = was.sent; tried = was.tried } }));
      written = (λ i. (before i ++ Close c count ∷ []) ++ map Lost (lost i)) ∙ sym (newest_with begins (map Lost (outstanding j c)));
    }

pub cut_done : (old new : Course) (j : Journal) (now c count : ℕ) → Knows old j → old.state.actions ≡ newest_actions j → Sound j → AreRising (requests j) → newest_moment j ≡ now → is_open_number j c ≡ true → CutBecomes old new now c count →
    PartDone new (journal_settled (with_part j now (Cut now c count)) now)
cut_done old new j now c count knows before sound rise at open_now becomes =
    let k : Journal = with_part j now (Cut now c count) in
    let done = effected (Cut now c count ∷ j) (cut_effects j c count) (tt, are_lost (outstanding j c)) in
    let begins = cut_keeps old.state j now c count before sound open_now knows.tables knows.waiting knows.tried knows.outstanding in
    done_with new (cut_so old.state c count) k now (done.sound (sound_cut j now c count (used_of j c open_now sound) sound)) done.moment (rise_cut j now c count rise) begins
    (becomes.state ∙ (λ i. settled (look_of (sym becomes.alternatives i) (sym becomes.broken i) (sym becomes.answers i) now) (cut_so old.state c count)))
    (λ o t after. ap (λ cache. cache_live cache o t) becomes.alternatives ∙ knows.alternatives o t (omega (arith, at, after)) ∙ sym (lost_live begins_of (outstanding j c) o t))
    (λ o r other. ap (λ b. kept_failures b o r) becomes.broken ∙ knows.failures o r other ∙ ap capped (sym (failures_with begins_of (map Lost (outstanding j c)) o r)))
    (λ name kind t after. ap (λ store. in_force t (kept_answer store name kind)) becomes.answers ∙ knows.answers name kind t (omega (arith, at, after)) ∙ sym (ap (in_force t) (answers_with begins_of (map Lost (outstanding j c)) name kind)))
  where
    begins_of : Journal
    begins_of = Taken (Close c count) ∷ Cut now c count ∷ j
