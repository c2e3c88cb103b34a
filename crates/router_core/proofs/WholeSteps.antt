-- A whole step of a router, its parts and the answer, is the journal's step.
use Rattle.std.proofs.Common.{◌≡◌, ℕ, ◌+◌, true, ◌||◌, inr, nat_eq, List, [], ◌∷◌, ◌++◌, map, filter, Option, Some, None, is_some, refl, ap, sym, ◌∙◌, subst, arith, true≢false}
use Rattle.std.specs.List.{list_any, flat_map}
use Rattle.std.proofs.lemmas.List.{append-nil}
use Rattle.alias_chain.specs.Held.{in_force}
use Rattle.alias_chain.specs.Walk.{NameOf}
use Rattle.answer_store.specs.Bodies.{Kind}
use Rattle.answer_store.specs.Contents.{kept as kept_answer}
use Rattle.origin_values.specs.declared.origin.Origin.{Origin}
use Rattle.h2_framing.specs.declared.frame.Frame.{Frame}
use Rattle.frame_readers.specs.declared.readers.ReaderOf.{ReaderOf}
use Rattle.network_cache.specs.declared.kept.Kept.{Kept}
use Rattle.network_cache.specs.Contents.{kept}
use Rattle.network_cache.specs.Freshness.{is_fresh}
use Rattle.network_cache.proofs.Lists.{fresh_later}
use Rattle.route_choice.specs.Contents.{kept_failures}
use Rattle.conn_states.specs.Said.{said}
use Rattle.route_events.specs.declared.action.Action.{Action}
use Rattle.route_events.specs.declared.action.Action.TheVariants as action
use Rattle.route_events.specs.declared.connection.Connection.{Connection}
use Rattle.route_events.specs.declared.fact.Fact.{Fact}
use Rattle.route_events.specs.declared.fact.Fact.TheVariants as fact
use Rattle.route_events.specs.Journal.{Happened, Taken, Journal, newest_moment, step_count}
use Rattle.route_events.specs.Records.{ConnectionRecord}
use Rattle.route_events.specs.Authority.{record_of}
use Rattle.route_events.specs.Connections.{connections, closes, is_open_number}
use Rattle.route_events.specs.Dispatch.{carriers}
use Rattle.route_events.specs.Frames.{delivery, cut_by}
use Rattle.route_events.specs.Step.{Stepped, refusal, with_actions, with_fact, settled, follow, parts_of, answer_to, newest_actions, step}
use Rattle.route_events.proofs.PartsKeep.{follow_append, moment_settled}
use Rattle.route_events.proofs.Sound.{input_open}
use Rattle.route_events.proofs.Runs.{each}
use Rattle.request_dispatch.specs.declared.tables.Tables.{Tables}
use Rattle.request_dispatch.specs.declared.waiting.Waiting.{Waiting}
use Rattle.request_dispatch.specs.ConnectionTable.{is_carrier, carrier_numbers}
use Rattle.request_dispatch.specs.RequestTable.{requests_of}
use Rattle.request_dispatch.proofs.Listing.{filter_map, map_twice}
use Rattle.router_core.specs.declared.course.Course.{Course}
use Rattle.router_core.specs.declared.router.Router.{Router}
use Rattle.router_core.specs.Asking.{asked_in, IsAnswered}
use Rattle.router_core.specs.Holds.{Hold, AreTried, AreOut}
use Rattle.router_core.specs.Reasons.{newest_after}
use Rattle.router_core.specs.StandsFor.{StandsFor, Takes}
use Rattle.router_core.specs.StepBecomes.{IsBrought, PartsBecome, StepBecomes, course_of}
use Rattle.router_core.specs.StoredAnswers.{KeepsNoneEnded}
use Rattle.router_core.proofs.Applying.{newest_with, tried_with}
use Rattle.router_core.proofs.Choosing.{carrier_at, carriers_are}
use Rattle.router_core.proofs.Counting.{count_step, number_step}
use Rattle.router_core.proofs.Knowing.{known_at}
use Rattle.router_core.proofs.Noting.{fresh_alts}
use Rattle.router_core.proofs.OpenAfter.{made_read, closed_read, open_same, frames_open}
use Rattle.router_core.proofs.PartsDone.{Knows, part_done}
use Rattle.router_core.proofs.ReadersAfter.{parts_are, readers_after}
use Rattle.router_core.proofs.Resolving.{addresses_are, purged_holds, purged_ended}
use Rattle.router_core.proofs.Returning.{requests_rise}
use Rattle.router_core.proofs.StepReadings.{read_settled}
use Rattle.router_core.proofs.Tallying.{counted_is}
use Rattle.router_core.proofs.Steps.{OnCourse, not_before, filter_again, delivers_done, cuts_done}

-- a step begins with what the router keeps
knows_begun : (router : Router) (j : Journal) → StandsFor router j → Knows (course_of router) j
knows_begun router j stands = record { tables = stands.tables; waiting = stands.waiting; tried = stands.tried; outstanding = stands.outstanding; alternatives = stands.alternatives; failures = stands.failures; answers = stands.answers }

-- and it ends with what is kept behind a purge
rested : (new : Router) (ended : Course) (k : Journal) (now conn : ℕ) → OnCourse ended k now conn → new.tables ≡ ended.state.tables → new.broken ≡ ended.broken → ((o : Origin) → kept new.alternatives o ≡ filter (is_fresh now) (kept ended.alternatives o)) →
    ((name : NameOf) (kind : Kind) → kept_answer new.answers name kind ≡ in_force now (kept_answer ended.answers name kind)) → Knows (course_of new) k
rested new ended k now conn on tables broken purged purged_answers = record {
  tables = subst (λ t. Hold t k) (sym tables) knows.tables;
  waiting = ap (λ (t : Tables). requests_of t.requests.waiting) tables ∙ knows.waiting;
  tried = subst (λ (t : Tables). AreTried k t.requests.waiting) (sym tables) knows.tried;
  outstanding = subst (λ (t : Tables). AreOut k t.requests.outstanding) (sym tables) knows.outstanding;
  alternatives = λ o at h. ap (fresh_alts at) (purged o)
      ∙ ap (map (λ (x : Kept). x.alt)) (fresh_later now at (kept ended.alternatives o) (omega (arith, on.moment, h)))
      ∙ knows.alternatives o at h;
  failures = λ o r other. ap (λ b. kept_failures b o r) broken ∙ knows.failures o r other;
  answers = purged_holds ended.answers new.answers k now on.moment knows.answers purged_answers;
}
  where
    knows : Knows ended k
    knows = on.done.knows

-- the answer names the carriers of the journal
numbers_are : (t : Tables) (k : Journal) (now : ℕ) (o : Origin) → Hold t k → carrier_numbers (known_at k now) o t.connections ≡ map (λ (c : Connection). c.number) (carriers k o now)
numbers_are t k now o hold =
    sym (map_twice number said (filter (is_carrier (known_at k now) o) t.connections))
    ∙ ap (map number) (sym (filter_map (carrier_at (known_at k now) o) said t.connections) ∙ ap (filter (carrier_at (known_at k now) o)) hold.connections ∙ sym (carriers_are k now o))
    ∙ map_twice number (record_of k) (carriers k o now)
  where
    number : ConnectionRecord → ℕ
    number r = r.made.number

-- what is answered is the journal's answer, where no alternative that has ended is kept
answer_is : (router : Router) (k : Journal) (f : Fact) (answer : List Action) → Knows (course_of router) k → newest_moment k ≡ router.last → ((o : Origin) → filter (is_fresh router.last) (kept router.alternatives o) ≡ kept router.alternatives o) →
    IsAnswered router (asked_in f) answer → answer ≡ answer_to k router.last f
answer_is router k (fact.Who o) answer knows moment none_ended is =
    is
    ∙ ap (λ at. action.Who o (carrier_numbers at o router.tables.connections) ∷ []) (addresses_are router.answers k router.last knows.answers (omega (arith, moment)))
    ∙ ap (λ numbers. action.Who o numbers ∷ []) (numbers_are router.tables k router.last o knows.tables)
answer_is router k fact.Stats answer knows moment none_ended is = counted_is router k answer knows moment none_ended is
answer_is router k _ answer knows moment none_ended is = is

-- an answer moves nothing
abbrev IsTelling : List Action → Type 0
IsTelling [] = Unit {0}
IsTelling (action.Who origin conns ∷ []) = Unit {0}
IsTelling (action.Stats alternatives answers broken connections waiting ∷ []) = Unit {0}
IsTelling _ = ⊥

tells : (k : Journal) (now : ℕ) (f : Fact) → IsTelling (answer_to k now f)
tells k now (fact.Who o) = tt
tells k now fact.Stats = tt
tells k now _ = tt

told : (course : Course) (k : Journal) (as' : List Action) → IsTelling as' → Knows course k → Knows course (with_actions k as')
told course k [] telling knows = knows
told course k (action.Who o numbers ∷ []) telling knows = record {
  tables = record { opened = knows.tables.opened; pending = knows.tables.pending; connections = knows.tables.connections };
  waiting = knows.waiting;
  tried = tried_with k (action.Who o numbers ∷ []) course.state.tables.requests.waiting knows.tried;
  outstanding = record { out = knows.outstanding.out; known = λ n x e. let was = knows.outstanding.known n x e in record { request = was.request; sent = was.sent; tried = was.tried } };
  alternatives = knows.alternatives;
  failures = knows.failures;
  answers = knows.answers;
}
told course k (action.Stats alternatives answers broken connections waiting ∷ []) telling knows = record {
  tables = record { opened = knows.tables.opened; pending = knows.tables.pending; connections = knows.tables.connections };
  waiting = knows.waiting;
  tried = tried_with k (action.Stats alternatives answers broken connections waiting ∷ []) course.state.tables.requests.waiting knows.tried;
  outstanding = record { out = knows.outstanding.out; known = λ n x e. let was = knows.outstanding.known n x e in record { request = was.request; sent = was.sent; tried = was.tried } };
  alternatives = knows.alternatives;
  failures = knows.failures;
  answers = knows.answers;
}
told course k _ telling knows = absurd telling

same_moment : (k : Journal) (as' : List Action) → newest_moment (with_actions k as') ≡ newest_moment k
same_moment k [] = refl
same_moment k (a ∷ as') = same_moment (Taken a ∷ k) as'

none_cut : {X : Type 0} (w : Option ℕ) → w ≡ None → is_some w ≡ true → X
none_cut w none some = absurd (true≢false (sym some ∙ ap is_some none))

-- the connection is open where its octets are cut
cut_open : (rs rs' : List ReaderOf) (j : Journal) (now : ℕ) (f : Fact) (conn : ℕ) (frames : List Frame) (w : Option ℕ) → refusal j now f ≡ None → IsBrought rs rs' f conn frames w → is_some w ≡ true →
    is_open_number (follow (settled (with_fact j now f) now) now (flat_map (delivery now conn) frames)) conn ≡ true
cut_open rs rs' j now (fact.Input c bytes) conn frames w free brings some =
    frames_open now conn frames (settled (with_fact j now (fact.Input c bytes)) now) conn
    ∙ open_same j (settled (with_fact j now (fact.Input c bytes)) now) conn
    (read_settled connections (λ conn cs. cs) made_read j now (Happened now (fact.Input c bytes) true))
    (read_settled (λ (j : Journal). list_any (closes conn) j) (λ c b. nat_eq c conn || b) (closed_read conn) j now (Happened now (fact.Input c bytes) true))
    ∙ ap (is_open_number j) brings.0
    ∙ input_open j now c bytes free
cut_open rs rs' j now (fact.Request n o) conn frames w free brings some = none_cut w brings.1 some
cut_open rs rs' j now (fact.Opened m p d port names) conn frames w free brings some = none_cut w brings.1 some
cut_open rs rs' j now (fact.Failed m) conn frames w free brings some = none_cut w brings.1 some
cut_open rs rs' j now (fact.Closed c) conn frames w free brings some = none_cut w brings.1 some
cut_open rs rs' j now (fact.Response q status age altsvc) conn frames w free brings some = none_cut w brings.1 some
cut_open rs rs' j now (fact.Delivered c head payload) conn frames w free brings some = none_cut w brings.1 some
cut_open rs rs' j now (fact.Answer name ttl body) conn frames w free brings some = none_cut w brings.1 some
cut_open rs rs' j now fact.Network conn frames w free brings some = none_cut w brings.1 some
cut_open rs rs' j now fact.Tick conn frames w free brings some = none_cut w brings.1 some
cut_open rs rs' j now (fact.Who o) conn frames w free brings some = none_cut w brings.1 some
cut_open rs rs' j now fact.Stats conn frames w free brings some = none_cut w brings.1 some

pub step_stands : (old new : Router) (actions : List Action) (j : Journal) (now : ℕ) (f : Fact) → StandsFor old j → refusal j now f ≡ None → StepBecomes old new actions now f → Takes new actions j now f
step_stands old new actions j now f stands free becomes =
    let parts_done : PartsBecome old new becomes.done now f = becomes.parts in
    let conn = parts_done.conn in
    let frames = parts_done.frames in
    let w = parts_done.too_large in
    let follows = parts_done.follows in
    let begun : Journal = settled (with_fact j now f) now in
    let parts = parts_are old.readers new.readers j now f conn frames w free stands.readers parts_done.brought in
    let first : OnCourse follows.begun begun now conn = record {
      done = part_done (course_of old) follows.begun j now f true refl (knows_begun old j stands) (each stands.run).sound (requests_rise stands.run) (not_before j now f free) (inr (refl, free)) follows.begins;
      moment = moment_settled j now (Happened now f true);
    } in
    let delivered = delivers_done now conn follows.begun frames follows.delivered begun first follows.delivers in
    let cut = cuts_done now conn follows.delivered w parts_done.ended (follow begun now (flat_map (delivery now conn) frames)) delivered (cut_open old.readers new.readers j now f conn frames w free parts_done.brought) follows.cuts in
    let k : Journal = follow j now (parts_of j now f) in
    let whole : OnCourse parts_done.ended k now conn =
    subst (λ k. OnCourse parts_done.ended k now conn) (sym (ap (follow begun now) parts ∙ follow_append begun now (flat_map (delivery now conn) frames) (cut_by now conn w))) cut in
    let rests : Knows (course_of new) k = rested new parts_done.ended k now conn whole parts_done.tables parts_done.broken parts_done.purged parts_done.purged_answers in
    let none_ended : (o : Origin) → filter (is_fresh new.last) (kept new.alternatives o) ≡ kept new.alternatives o = λ o.
    ap (λ t. filter (is_fresh t) (kept new.alternatives o)) parts_done.last ∙ ap (filter (is_fresh now)) (parts_done.purged o) ∙ filter_again (is_fresh now) (kept parts_done.ended.alternatives o) ∙ sym (parts_done.purged o) in
    let answer : becomes.answer ≡ answer_to k now f =
    answer_is new k f becomes.answer rests (whole.moment ∙ sym parts_done.last) none_ended becomes.answered ∙ ap (λ t. answer_to k t f) parts_done.last in
    let known : Knows (course_of new) (step j now f) = told (course_of new) k (answer_to k now f) (tells k now f) rests in
    let moment : newest_moment (step j now f) ≡ now = same_moment k (answer_to k now f) ∙ whole.moment in
    let counted : step_count (step j now f) ≡ 1 + step_count j = count_step j now f conn frames w parts in
    let facts : new.facts ≡ step_count (step j now f) = omega (arith, parts_done.facts, stands.facts, counted) in
    record {
      not_refused = free;
      written = becomes.written ∙ (λ i. (parts_done.written ∙ whole.done.written) i ++ answer i) ∙ sym (newest_with k (answer_to k now f));
      moment = moment;
      stands = record {
        run = Stepped j now f stands.run free;
        facts = facts;
        last = parts_done.last ∙ sym moment;
        newest = parts_done.newest ∙ ap (λ n. newest_after n f) stands.newest ∙ sym (number_step j now f conn frames w parts);
        tables = known.tables;
        waiting = known.waiting;
        tried = known.tried;
        outstanding = known.outstanding;
        readers = readers_after old.readers new.readers j now f conn frames w stands.run free stands.readers parts_done.brought;
        alternatives = known.alternatives;
        none_ended = none_ended;
        failures = known.failures;
        answers = known.answers;
        no_ended_answer = subst (λ t. KeepsNoneEnded new.answers t) (sym parts_done.last) (purged_ended parts_done.ended.answers new.answers now parts_done.purged_answers);
      };
    }
