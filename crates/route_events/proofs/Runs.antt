-- The laws of all runs.
use Rattle.std.proofs.Common.{◌≡◌, ℕ, Bool, true, false, cond, not, nat_eq, List, [], ◌∷◌, ◌++◌, map, length, Option, Some, None, is_some, Result, Ok, Err, All, refl, sym, ◌∙◌, subst}
use Rattle.std.specs.Option.{option_map_or}
use Rattle.alt_base.specs.declared.refusal.At.{At}
use Rattle.h2_framing.specs.declared.head.Head.{Head}
use Rattle.altsvc_frame.specs.declared.frame.AltFrame.{AltFrame}
use Rattle.altsvc_frame.specs.declared.refusal.AltFrameRefusal.{AltFrameRefusal}
use Rattle.altsvc_frame.specs.FrameReading.{read_frame}
use Rattle.origin_frame.specs.declared.listed.Listed.{Listed}
use Rattle.origin_frame.specs.declared.refusal.OriginFrameRefusal.{OriginFrameRefusal}
use Rattle.origin_frame.specs.PayloadReading.{read_listed}
use Rattle.origin_values.specs.declared.origin.Origin.{Origin}
use Rattle.altsvc_grammar.specs.declared.alt_svc.AltSvc.{AltSvc}
use Rattle.altsvc_grammar.specs.declared.refusal.AltRefusal.{AltRefusal}
use Rattle.altsvc_grammar.specs.ValueReading.{read_value}
use Rattle.route_events.specs.declared.fact.Fact.{Fact}
use Rattle.route_events.specs.declared.fact.Fact.TheVariants.{Closed, Response, Input, Delivered, Answer, Tick}
use Rattle.route_events.specs.declared.fact.Fact.TheVariants as fact
use Rattle.alias_chain.specs.Walk.{NameOf}
use Rattle.route_events.specs.declared.answer.AnswerBody.{AnswerBody}
use Rattle.route_events.specs.declared.answer.AnswerBody.TheVariants.{V4, V6, Https}
use Rattle.route_events.specs.declared.action.Action.{Action}
use Rattle.route_events.specs.declared.action.Action.TheVariants.{Lost, Retry, Alternatives, Field, Ignored, Who, Stats}
use Rattle.route_events.specs.declared.refusal.StepRefusal.{StepRefusal}
use Rattle.route_events.specs.declared.request.Request.{Request}
use Rattle.route_events.specs.declared.connection.Connection.{Connection}
use Rattle.route_events.specs.Journal.{Entry, Happened, Cut, Taken, Journal, newest_moment}
use Rattle.route_events.specs.Attempts.{has_ended}
use Rattle.route_events.specs.Requests.{requests, request_of, standing, waits, waiting}
use Rattle.route_events.specs.Connections.{is_https, is_tls, open_connections, open_connection, outstanding}
use Rattle.route_events.specs.Answers.{Records, read_records, malformed, malformed_effects}
use Rattle.route_events.specs.Counts.{live_count, answer_count, broken_count, capped}
use Rattle.route_events.specs.Authority.{is_authoritative}
use Rattle.route_events.specs.Frames.{octets_on, deliveries}
use Rattle.route_events.specs.Dispatch.{carriers, dispatch}
use Rattle.route_events.specs.FrameAdvertisements.{spoken_for, value_action, reading_action, altsvc_action, listing_action, origin_action, frame_action, frame_effects}
use Rattle.route_events.specs.Advertisements.{is_answered_by_authority, value_taken, value_of_reading, field_effects, answer_effects}
use Rattle.route_events.specs.Step.{IsRun, Begun, Stepped, refusal, settled, step, run, effects, cut_effects, with_part, with_fact, follow, parts_of, with_answer}
use Rattle.route_events.specs.Headline.{MayWait, IsAllowed, EachAction}
use Rattle.route_events.proofs.Lists.{IsIn, in_filter, filter_in, apart_filter, all_from_in}
use Rattle.route_events.proofs.Sound.{Sound, sound_begun, sound_fact, sound_delivered, sound_cut, sound_told, sound_counted, used_of, input_open}
use Rattle.route_events.proofs.Quiet.{rests_still, quiet_tick, quiet_told, quiet_counted}
use Rattle.route_events.proofs.Parts.{IsBehind, AreBehind, all_behind, ended_part}
use Rattle.route_events.proofs.Settles.{Settles, settles, settle_nothing, may_wait, IsEffect, AreEffects, effected}

-- what holds after each step
pub record IsSettled (journal : Journal) : Type 0 where
  pub sound : Sound journal
  pub allowed : EachAction IsAllowed journal
  pub rests : (q : Request) → IsIn q (waiting journal) → dispatch journal q (newest_moment journal) ≡ []

begun : IsSettled []
begun = record { sound = sound_begun; allowed = tt; rests = λ q none. absurd none }

pub waiting_in : (j : Journal) (q : Request) → IsIn q (waiting j) → IsIn q (requests j) × (waits (standing j q.number) ≡ true)
waiting_in j q found = in_filter (λ (r : Request). waits (standing j r.number)) q (requests j) found

pub all_settled : (j : Journal) (now : ℕ) → Sound j → newest_moment j ≡ now → Settles j (settled j now) now (waiting j)
all_settled j now sound moment = settles j now (waiting j) sound moment
    (apart_filter (λ (r : Request). r.number) (λ (r : Request). waits (standing j r.number)) (requests j) sound.requests_apart)
    (waiting_in j)

-- a journal with a fact and its effect, once it is settled
settled_is : (j : Journal) (now : ℕ) → Sound j → EachAction IsAllowed j → newest_moment j ≡ now → IsSettled (settled j now)
settled_is j now sound allowed moment =
    let k : Journal = settled j now in
    let all : Settles j k now (waiting j) = all_settled j now sound moment in
    record {
      sound = all.sound;
      allowed = all.allowed allowed;
      rests = λ q found.
          let still = waiting_in k q found in
          subst (λ t. dispatch k q t ≡ []) (sym (all.quiet.moment_same ∙ moment))
          (all.done q (filter_in (λ (r : Request). waits (standing j r.number)) q (requests j) (subst (IsIn q) all.quiet.requests_same still.0) (all.fewer q.number still.1)) still.1);
    }

-- what is done for a response is one action that no request stands on, or none
field_effect : (j : Journal) (now status : ℕ) (altsvc : Option (List ℕ)) (q : Request) → AreEffects (field_effects j now status altsvc q)
unfolding value_taken
field_effect j now status None q = tt
field_effect j now status (Some bytes) q = (by_misdirected (nat_eq status 421), tt)
  where
    by_reading : (w : Result AltSvc (At AltRefusal)) → IsEffect (value_of_reading q w)
    by_reading (Ok value) = tt
    by_reading (Err at) = tt

    by_authority : (b : Bool) → IsEffect (cond b (Field q.number 13 0) (value_taken q bytes))
    by_authority true = tt
    by_authority false = by_reading (read_value bytes)

    by_scheme : (b : Bool) → IsEffect (cond b (Field q.number 12 0) (cond (not (is_answered_by_authority j now q)) (Field q.number 13 0) (value_taken q bytes)))
    by_scheme true = tt
    by_scheme false = by_authority (not (is_answered_by_authority j now q))

    by_misdirected : (b : Bool) → IsEffect (cond b (Field q.number 11 0) (cond (not (is_https q.origin.scheme)) (Field q.number 12 0) (cond (not (is_answered_by_authority j now q)) (Field q.number 13 0) (value_taken q bytes))))
    by_misdirected true = tt
    by_misdirected false = by_scheme (not (is_https q.origin.scheme))

field_effect_of : (j : Journal) (now status : ℕ) (altsvc : Option (List ℕ)) (w : Option Request) → AreEffects (option_map_or (field_effects j now status altsvc) w [])
field_effect_of j now status altsvc None = tt
field_effect_of j now status altsvc (Some q) = field_effect j now status altsvc q

answer_effect : (j : Journal) (now q status : ℕ) (altsvc : Option (List ℕ)) → AreEffects (answer_effects j now q status altsvc)
answer_effect j now q status altsvc = by_misdirected (nat_eq status 421)
  where
    by_misdirected : (b : Bool) → AreEffects (cond b (Retry q ∷ []) [] ++ option_map_or (field_effects j now status altsvc) (request_of j q) [])
    by_misdirected true = (tt, field_effect_of j now status altsvc (request_of j q))
    by_misdirected false = field_effect_of j now status altsvc (request_of j q)

pub are_lost : (qs : List ℕ) → AreEffects (map Lost qs)
are_lost [] = tt
are_lost (q ∷ qs) = (tt, are_lost qs)

-- what is done for a frame is one action that no request stands on, or none
altsvc_effect : (j : Journal) (now : ℕ) (head : Head) (payload : List ℕ) (c : Connection) → IsEffect (altsvc_action j now c head payload)
altsvc_effect j now head payload c = by_tls (not (is_tls c))
  where
    by_authority : (o : Origin) (value : AltSvc) (b : Bool) → IsEffect (cond b (Ignored c.number 10 7 0) (Alternatives o value))
    by_authority o value true = tt
    by_authority o value false = tt

    by_scheme : (o : Origin) (value : AltSvc) (b : Bool) → IsEffect (cond b (Ignored c.number 10 9 0) (cond (not (is_authoritative j c o now)) (Ignored c.number 10 7 0) (Alternatives o value)))
    by_scheme o value true = tt
    by_scheme o value false = by_authority o value (not (is_authoritative j c o now))

    by_origin : (value : AltSvc) (w : Option Origin) → IsEffect (value_action j now c value w)
    by_origin value None = tt
    by_origin value (Some o) = by_scheme o value (not (is_https o.scheme))

    by_reading : (stream : ℕ) (w : Result AltFrame (At AltFrameRefusal)) → IsEffect (reading_action j now c stream w)
    by_reading stream (Ok frame) = by_origin frame.value (spoken_for j c.number stream frame)
    by_reading stream (Err at) = tt

    by_tls : (b : Bool) → IsEffect (cond b (Ignored c.number 10 10 0) (reading_action j now c head.stream (read_frame head.stream payload)))
    by_tls true = tt
    by_tls false = by_reading head.stream (read_frame head.stream payload)

origin_effect : (c : Connection) (head : Head) (payload : List ℕ) → IsEffect (origin_action c head payload)
origin_effect c head payload = by_tls (not (is_tls c))
  where
    by_reading : (w : Result Listed (At OriginFrameRefusal)) → IsEffect (listing_action c w)
    by_reading (Ok listed) = tt
    by_reading (Err at) = tt

    by_tls : (b : Bool) → IsEffect (cond b (Ignored c.number 12 10 0) (listing_action c (read_listed head.stream head.flags payload)))
    by_tls true = tt
    by_tls false = by_reading (read_listed head.stream head.flags payload)

frame_effect : (j : Journal) (now conn : ℕ) (head : Head) (payload : List ℕ) → AreEffects (frame_effects j now conn head payload)
frame_effect j now conn head payload = by_connection (open_connection j conn)
  where
    by_kinds : (c : Connection) (b d : Bool) → AreEffects (cond b (altsvc_action j now c head payload ∷ []) (cond d (origin_action c head payload ∷ []) []))
    by_kinds c true d = (altsvc_effect j now head payload c, tt)
    by_kinds c false true = (origin_effect c head payload, tt)
    by_kinds c false false = tt

    by_connection : (w : Option Connection) → AreEffects (option_map_or (frame_action j now head payload) w [])
    by_connection None = tt
    by_connection (Some c) = by_kinds c (nat_eq head.kind 10) (nat_eq head.kind 12)

-- what is done for an answer is at most to name a malformed record
malformed_effect : (name : NameOf) (body : AnswerBody) → AreEffects (malformed_effects name body)
malformed_effect name (V4 addresses) = tt
malformed_effect name (V6 addresses) = tt
malformed_effect name (Https rdatas) = by_reading (read_records 1 rdatas)
  where
    by_reading : (w : Records) → AreEffects (malformed name w)
    by_reading (Ok rs) = tt
    by_reading (Err first) = (tt, tt)

pub are_effects : (j : Journal) (now : ℕ) (fact : Fact) → AreEffects (effects j now fact)
are_effects j now (Closed conn) = are_lost (outstanding j conn)
are_effects j now (Response q status age altsvc) = answer_effect j now q status altsvc
are_effects j now (Delivered conn head payload) = frame_effect j now conn head payload
are_effects j now (Answer name ttl body) = malformed_effect name body
are_effects j now _ = tt

-- the fact of a step, with its effect and settled
pub fact_is : (j : Journal) (now : ℕ) (fact : Fact) → refusal j now fact ≡ None → IsSettled j → IsSettled (settled (with_fact j now fact) now)
fact_is j now fact free was =
    let done = effected (Happened now fact true ∷ j) (effects j now fact) (are_effects j now fact) in
    settled_is (with_fact j now fact) now (done.sound (sound_fact j now fact free was.sound)) (done.allowed was.allowed) done.moment

-- a part behind octets
pub part_is : (j : Journal) (now conn : ℕ) (part : Entry) → IsBehind now conn part → has_ended j conn ≡ true → IsSettled j → IsSettled (settled (with_part j now part) now)
part_is j now conn (Happened moment (Delivered to head payload) false) behind used was =
    let done = effected (Happened moment (Delivered to head payload) false ∷ j) (effects j now (Delivered to head payload)) (are_effects j now (Delivered to head payload)) in
    settled_is (with_part j now (Happened moment (Delivered to head payload) false)) now (done.sound (sound_delivered j moment to head payload false was.sound)) (done.allowed was.allowed) (done.moment ∙ behind.0)
part_is j now conn (Cut moment to count) behind used was =
    let done = effected (Cut moment to count ∷ j) (cut_effects j to count) (tt, are_lost (outstanding j to)) in
    settled_is (with_part j now (Cut moment to count)) now (done.sound (sound_cut j moment to count (subst (λ n. has_ended j n ≡ true) (sym behind.1) used) was.sound)) (done.allowed was.allowed) (done.moment ∙ behind.0)
part_is j now conn _ behind used was = absurd behind

pub follow_is : (j : Journal) (now conn : ℕ) (parts : List Entry) → AreBehind now conn parts → has_ended j conn ≡ true → IsSettled j → IsSettled (follow j now parts)
follow_is j now conn [] behind used was = was
follow_is j now conn (part ∷ parts) behind used was =
    follow_is (settled (with_part j now part) now) now conn parts behind.1 (ended_part j now part conn used) (part_is j now conn part behind.0 used was)

pub parts_are : (j : Journal) (now : ℕ) (fact : Fact) → refusal j now fact ≡ None → IsSettled j → IsSettled (follow j now (parts_of j now fact))
parts_are j now (Input conn bytes) free was =
    let used : has_ended j conn ≡ true = used_of j conn (input_open j now conn bytes free) was.sound in
    follow_is (settled (with_fact j now (Input conn bytes)) now) now conn (deliveries now conn (octets_on j conn) bytes) (all_behind now conn (octets_on j conn) bytes)
    (ended_part j now (Happened now (Input conn bytes) true) conn used) (fact_is j now (Input conn bytes) free was)
parts_are j now fact free was = fact_is j now fact free was

-- what is told who asked changes nothing
told_is : (j : Journal) (o : Origin) (cs : List ℕ) → IsSettled j → IsSettled (Taken (Who o cs) ∷ j)
told_is j o cs was = record {
  sound = sound_told j o cs was.sound;
  allowed = (tt, was.allowed);
  rests = λ q found. rests_still j (Taken (Who o cs) ∷ j) (newest_moment j) q (quiet_told j (newest_moment j) o cs) (was.rests q found);
}

counted_is : (j : Journal) (alternatives answers broken open_now waiting_now : ℕ) → IsSettled j → IsSettled (Taken (Stats alternatives answers broken open_now waiting_now) ∷ j)
counted_is j alternatives answers broken open_now waiting_now was = record {
  sound = sound_counted j alternatives answers broken open_now waiting_now was.sound;
  allowed = (tt, was.allowed);
  rests = λ q found.
      rests_still j (Taken (Stats alternatives answers broken open_now waiting_now) ∷ j) (newest_moment j) q
      (quiet_counted j (newest_moment j) alternatives answers broken open_now waiting_now) (was.rests q found);
}

answer_is : (j : Journal) (now : ℕ) (fact : Fact) → IsSettled j → IsSettled (with_answer j now fact)
answer_is j now (fact.Who o) was = told_is j o (map (λ (c : Connection). c.number) (carriers j o now)) was
answer_is j now fact.Stats was =
    counted_is j (capped (live_count j now)) (capped (answer_count j now)) (capped (broken_count j now)) (capped (length (open_connections j))) (capped (length (waiting j))) was
answer_is j now fact was = was

pub step_is : (j : Journal) (now : ℕ) (fact : Fact) → refusal j now fact ≡ None → IsSettled j → IsSettled (step j now fact)
step_is j now fact free was = answer_is (follow j now (parts_of j now fact)) now fact (parts_are j now fact free was)

pub each : {j : Journal} → IsRun j → IsSettled j
each Begun = begun
each (Stepped j now fact was free) = step_is j now fact free (each was)

-- a run over facts gives such a journal
pub run_gives : (j : Journal) (es : List (ℕ × Fact)) → IsRun j → IsRun (run j es)
run_gives j [] was = was
run_gives j (e ∷ es) was = by_refusal (refusal j e.0 e.1) refl (λ free. run_gives (step j e.0 e.1) es (Stepped j e.0 e.1 was free))
  where
    by_refusal : (w : Option StepRefusal) → refusal j e.0 e.1 ≡ w → (w ≡ None → IsRun (run (step j e.0 e.1) es)) → IsRun (cond (is_some w) j (run (step j e.0 e.1) es))
    by_refusal None is rest = rest refl
    by_refusal (Some reason) is rest = was

-- what holds of each action holds at each split
pub at_split : (P : Journal → Action → Type 0) (newer before : Journal) (a : Action) → EachAction P (newer ++ Taken a ∷ before) → P before a
at_split P [] before a h = h.0
at_split P (Happened now fact handed_in ∷ newer) before a h = at_split P newer before a h
at_split P (Cut now conn length ∷ newer) before a h = at_split P newer before a h
at_split P (Taken b ∷ newer) before a h = at_split P newer before a h.1

pub allowed_at : (j newer before : Journal) (a : Action) → IsRun j → j ≡ newer ++ Taken a ∷ before → IsAllowed before a
allowed_at j newer before a is e = at_split IsAllowed newer before a (subst (EachAction IsAllowed) e (each is).allowed)

pub all_wait : (j : Journal) → IsRun j → All (MayWait j) (waiting j)
all_wait j is = all_from_in (MayWait j) (waiting j) (λ q found. may_wait j q ((each is).rests q found))

pub settled_again : (j : Journal) → IsRun j → settled j (newest_moment j) ≡ j
settled_again j is = settle_nothing j (newest_moment j) (waiting j) (each is).rests

-- a tick at the moment of the newest step writes nothing
pub tick_nothing : (j : Journal) → IsRun j → step j (newest_moment j) Tick ≡ Happened (newest_moment j) Tick true ∷ j
tick_nothing j is =
    settle_nothing (Happened (newest_moment j) Tick true ∷ j) (newest_moment j) (waiting j)
    (λ q found. rests_still j (Happened (newest_moment j) Tick true ∷ j) (newest_moment j) q (quiet_tick j) ((each is).rests q found))
