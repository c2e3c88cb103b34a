-- A router's step is the journal's step.
use Rattle.std.proofs.Common.{◌≡◌, inl, ℕ, ◌≤◌, Bool, true, false, cond, not, ◌&&◌, nat_eq, nat_lt, nat_le, List, [], ◌∷◌, filter, find, Option, Some, None, is_some, refl, ap, sym, ◌∙◌, subst, arith, true≢false, Result, Ok, Err, IfOk}
use Rattle.std.specs.Option.{option_map}
use Rattle.std.specs.List.{flat_map}
use Rattle.conn_states.specs.Record.{Record}
use Rattle.conn_states.specs.Said.{said}
use Rattle.h2_framing.specs.declared.frame.Frame.{Frame}
use Rattle.h2_framing.specs.declared.frame.Frame.TheVariants.{Kept, Passed}
use Rattle.h2_framing.specs.declared.head.Head.{Head}
use Rattle.route_events.specs.declared.fact.Fact.{Fact}
use Rattle.route_events.specs.declared.fact.Fact.TheVariants as fact
use Rattle.route_events.specs.declared.action.Action.TheVariants.{SendOn, Refuse}
use Rattle.route_events.specs.declared.connection.Connection.{Connection}
use Rattle.route_events.specs.declared.refusal.StepRefusal.{StepRefusal}
use Rattle.route_events.specs.declared.refusal.StepRefusal.TheVariants.{Spent, TimeBack, NumberNotAbove, NoSuchAttempt, NoSuchConn, NotFramed, NoSuchRequest}
use Rattle.route_events.specs.Authority.{record_of}
use Rattle.route_events.specs.Connections.{open_connections, open_connection, is_open_number, is_h2}
use Rattle.route_events.specs.Frames.{delivery, cut_by}
use Rattle.route_events.specs.Headline.{SendsOnlyOn, RefusesOnlyWhere}
use Rattle.route_events.specs.Journal.{Happened, Cut, Journal, step_count, newest_moment}
use Rattle.route_events.specs.Records.{ConnectionRecord}
use Rattle.route_events.specs.Step.{IsRun, Stepped, refusal, frame_refusal, fact_refusal, settled, follow, step}
use Rattle.route_events.proofs.Lists.{filter_same, filter_twice}
use Rattle.route_events.proofs.PartsKeep.{moment_settled}
use Rattle.route_events.proofs.Runs.{allowed_at}
use Rattle.route_events.proofs.Sound.{not_earlier}
use Rattle.request_dispatch.specs.declared.tables.Tables.{Tables}
use Rattle.request_dispatch.specs.AttemptTable.{attempt_among}
use Rattle.request_dispatch.specs.ConnectionTable.{connection_among}
use Rattle.router_core.specs.declared.course.Course.{Course}
use Rattle.router_core.specs.declared.router.Router.{Router}
use Rattle.router_core.specs.Becomes.{Delivers, Cuts}
use Rattle.router_core.specs.Holds.{Hold}
use Rattle.router_core.specs.Reasons.{frame_reason, reason_of, reason_of_fact}
use Rattle.router_core.specs.StandsFor.{StandsFor}
use Rattle.router_core.proofs.Choosing.{among_is}
use Rattle.router_core.proofs.PartsDone.{behind, PartDone, part_done, cut_done}

-- why a step isn't taken

not_above : (n newest : ℕ) → nat_le n newest ≡ not (nat_lt newest n)
not_above n newest = grind arith

number_reason : (b : Bool) (r : StepRefusal) → cond b None (Some r) ≡ cond (not b) (Some r) None
number_reason true r = refl
number_reason false r = refl

some_map : {X Y : Type 0} (f : X → Y) (w : Option X) → is_some (option_map f w) ≡ is_some w
some_map f None = refl
some_map f (Some x) = refl

pub open_is : (t : Tables) (j : Journal) (c : ℕ) → Hold t j → is_some (connection_among t.connections c) ≡ is_open_number j c
open_is t j c hold =
    sym (some_map said (connection_among t.connections c))
    ∙ ap is_some (among_is t j c hold)
    ∙ some_map (record_of j) (find (λ (x : Connection). nat_eq x.number c) (open_connections j))

-- octets and frames come on a connection of HTTP/2 that is open
pub frame_reason_is : (t : Tables) (j : Journal) (c : ℕ) → Hold t j → frame_reason (connection_among t.connections c) ≡ frame_refusal (open_connection j c)
frame_reason_is t j c hold = of_table (connection_among t.connections c) ∙ ap of_record (among_is t j c hold) ∙ of_journal (open_connection j c)
  where
    of_record : Option ConnectionRecord → Option StepRefusal
    of_record None = Some NoSuchConn
    of_record (Some r) = cond (is_h2 r.made.proto) None (Some NotFramed)

    of_table : (v : Option Record) → frame_reason v ≡ of_record (option_map said v)
    of_table None = refl
    of_table (Some r) = refl

    of_journal : (v : Option Connection) → of_record (option_map (record_of j) v) ≡ frame_refusal v
    of_journal None = refl
    of_journal (Some x) = refl

fact_reason : (router : Router) (j : Journal) (f : Fact) → StandsFor router j → reason_of_fact router.newest router.tables f ≡ fact_refusal j f
fact_reason router j (fact.Request n o) stands =
    number_reason (nat_lt router.newest n) (NumberNotAbove router.newest)
    ∙ ap (λ b. cond b (Some (NumberNotAbove router.newest)) None) (sym (not_above n router.newest))
    ∙ ap (λ m. cond (nat_le n m) (Some (NumberNotAbove m)) None) stands.newest
fact_reason router j (fact.Opened m p d port names) stands = ap (λ as'. cond (is_some (attempt_among as' m)) None (Some NoSuchAttempt)) stands.tables.pending
fact_reason router j (fact.Failed m) stands = ap (λ as'. cond (is_some (attempt_among as' m)) None (Some NoSuchAttempt)) stands.tables.pending
fact_reason router j (fact.Closed c) stands = ap (λ b. cond b None (Some NoSuchConn)) (open_is router.tables j c stands.tables)
fact_reason router j (fact.Response q status age altsvc) stands = ap (λ b. cond b None (Some NoSuchRequest)) (stands.outstanding.out q)
fact_reason router j (fact.Input c bytes) stands = frame_reason_is router.tables j c stands.tables
fact_reason router j (fact.Delivered c head payload) stands = frame_reason_is router.tables j c stands.tables
fact_reason router j (fact.Answer name ttl body) stands = refl
fact_reason router j fact.Network stands = refl
fact_reason router j fact.Tick stands = refl
fact_reason router j (fact.Who o) stands = refl
fact_reason router j fact.Stats stands = refl

pub reason_is : (router : Router) (j : Journal) (now : ℕ) (f : Fact) → StandsFor router j → reason_of router.facts router.last router.newest router.tables now f ≡ refusal j now f
reason_is router j now f stands =
    ap (λ r. cond (nat_eq router.facts 16777215) (Some (Spent router.facts)) (cond (nat_lt now router.last) (Some (TimeBack (record { 0 = router.last }))) r)) (fact_reason router j f stands)
    ∙ (λ i. cond (nat_eq (stands.facts i) 16777215) (Some (Spent (stands.facts i))) (cond (nat_lt now (stands.last i)) (Some (TimeBack (record { 0 = stands.last i }))) (fact_refusal j f)))

-- a moment that isn't refused isn't before that of the newest step
pub not_before : (j : Journal) (now : ℕ) (f : Fact) → refusal j now f ≡ None → newest_moment j ≤ now
not_before j now f free = by_test (nat_lt now (newest_moment j)) refl (not_earlier (nat_eq (step_count j) 16777215) _ _ free)
  where
    by_test : (b : Bool) → nat_lt now (newest_moment j) ≡ b → cond b (Some (TimeBack (record { 0 = newest_moment j }))) (fact_refusal j f) ≡ None → newest_moment j ≤ now
    by_test true e free = absurd (true≢false (ap is_some free))
    by_test false e free = grind arith

-- what passed a test once passes it again
pub filter_again : {X : Type 0} (p : X → Bool) (xs : List X) → filter p (filter p xs) ≡ filter p xs
filter_again p xs = filter_twice p p xs ∙ filter_same (λ x. p x && p x) p xs (λ x. both (p x))
  where
    both : (b : Bool) → (b && b) ≡ b
    both true = refl
    both false = refl

-- a frame, with its effect and settled
abbrev framed : Journal → ℕ → ℕ → Head → List ℕ → Journal
framed j now conn head payload = settled (behind j now (fact.Delivered conn head payload) false) now

-- how far a step has come, at its moment
pub record OnCourse (course : Course) (k : Journal) (now conn : ℕ) : Type 0 where
  pub done : PartDone course k
  pub moment : newest_moment k ≡ now

pub delivers_done : (now conn : ℕ) (old : Course) (frames : List Frame) (new : Course) (k : Journal) → OnCourse old k now conn → Delivers now conn old frames new → OnCourse new (follow k now (flat_map (delivery now conn) frames)) now conn
delivers_done now conn old [] new k on is = subst (λ c. OnCourse c k now conn) (sym is) on
delivers_done now conn old (Passed head ∷ frames) new k on is = delivers_done now conn old frames new k on is
delivers_done now conn old (Kept head payload ∷ frames) new k on is =
    delivers_done now conn is.0 frames new (framed k now conn head payload)
    (record {
      done = part_done old is.0 k now (fact.Delivered conn head payload) false on.done.written on.done.knows on.done.sound on.done.rise (omega (arith, on.moment)) (inl tt) is.1;
      moment = moment_settled k now (Happened now (fact.Delivered conn head payload) false);
    })
    is.2

pub cuts_done : (now conn : ℕ) (old : Course) (too_large : Option ℕ) (new : Course) (k : Journal) → OnCourse old k now conn → (is_some too_large ≡ true → is_open_number k conn ≡ true) → Cuts now conn old too_large new → OnCourse new (follow k now (cut_by now conn too_large)) now conn
cuts_done now conn old None new k on open_now is = subst (λ c. OnCourse c k now conn) (sym is) on
cuts_done now conn old (Some length) new k on open_now is = record {
  done = cut_done old new k now conn length on.done.knows on.done.written on.done.sound on.done.rise on.moment (open_now refl) is;
  moment = moment_settled k now (Cut now conn length);
}

-- the three sentences, of a journal that a run gives
pub sends_only : (j : Journal) → IsRun j → SendsOnlyOn j
sends_only j is = λ newer before q conn s u e. allowed_at j newer before (SendOn q conn s u) is e

pub refuses_only : (j : Journal) → IsRun j → RefusesOnlyWhere j
refuses_only j is = λ newer before q e. allowed_at j newer before (Refuse q) is e

-- a step that isn't refused gives such a journal
pub step_runs : (router : Router) (j : Journal) (now : ℕ) (f : Fact) → reason_of router.facts router.last router.newest router.tables now f ≡ None → StandsFor router j → IsRun (step j now f)
step_runs router j now f free stands = Stepped j now f stands.run (sym (reason_is router j now f stands) ∙ free)

pub ok_map : {T E : Type 0} (P Q : T → Type 0) (r : Result T E) → ((x : T) → P x → Q x) → IfOk r P → IfOk r Q
ok_map P Q (Ok x) h p = h x p
ok_map P Q (Err e) h p = p

pub ok_always : {T E : Type 0} (Q : Type 0) (r : Result T E) → Q → IfOk r (λ x. Q)
ok_always Q (Ok x) q = q
ok_always Q (Err e) q = tt
