-- What numbers mean in each journal of a run: attempts are counted, requests and connections have numbers of their
-- own, and what is outstanding stands where it was sent.
use Rattle.std.proofs.Common.{◌≡◌, ◌⊎◌, inl, inr, ℕ, ◌+◌, ◌<◌, ◌≤◌, Bool, true, false, cond, not, ◌||◌, nat_eq, nat_lt, nat_le, List, [], ◌∷◌, ◌++◌, length, Option, Some, None, is_some, find, refl, ap, sym, ◌∙◌, subst, arith, true≢false}
use Rattle.std.specs.Option.{option_map, option_map_or}
use Rattle.std.proofs.lemmas.List.{length-append}
use Rattle.coalescing.specs.declared.cert_name.CertName.{CertName}
use Rattle.altsvc_grammar.specs.declared.alt_svc.AltSvc.{AltSvc}
use Rattle.h2_framing.specs.declared.head.Head.{Head}
use Rattle.origin_values.specs.declared.origin.Origin.{Origin}
use Rattle.origin_values.specs.declared.host.Host.{Host}
use Rattle.origin_values.specs.declared.proto.Proto.{Proto}
use Rattle.origin_values.specs.declared.address.Addr.{Addr}
use Rattle.alias_chain.specs.Walk.{NameOf}
use Rattle.route_events.specs.declared.answer.AnswerBody.{AnswerBody}
use Rattle.route_events.specs.declared.fact.Fact.{Fact}
use Rattle.route_events.specs.declared.fact.Fact.TheVariants as fact
use Rattle.route_events.specs.declared.action.Action.TheVariants.{OpenTo, SendOn, Refuse, Lost, Retry, Close, Alternatives, Field, Ignored, Origins, Malformed, Who, Stats}
use Rattle.route_events.specs.declared.route.Route.{Route}
use Rattle.route_events.specs.declared.request.Request.{Request}
use Rattle.route_events.specs.declared.attempt.Attempt.{Attempt}
use Rattle.route_events.specs.declared.connection.Connection.{Connection}
use Rattle.route_events.specs.declared.refusal.StepRefusal.{StepRefusal}
use Rattle.route_events.specs.declared.refusal.StepRefusal.TheVariants.{NumberNotAbove, NoSuchAttempt, NoSuchConn}
use Rattle.route_events.specs.Journal.{Happened, Cut, Taken, Journal, newest_moment, step_count, with_end}
use Rattle.route_events.specs.Attempts.{attempts, has_ended, pending, pending_attempt, is_pending}
use Rattle.route_events.specs.Requests.{Standing, OutOn, Over, requests, newest_number, standing, waits, after_status}
use Rattle.route_events.specs.Connections.{connections, closes, is_open, open_connections, open_connection, is_open_number, outstanding, send_count, without}
use Rattle.std.specs.List.{list_any}
use Rattle.route_events.specs.Step.{frame_refusal, refusal}
use Rattle.route_events.proofs.Lists.{IsIn, AreApart, nat_eq-below, in_append_one, apart_append_one, in_filter, find_in}
use Rattle.alt_base.proofs.Booleans.{contradicts, second_of_neither}
use Rattle.alt_base.proofs.Numbers.{true_eq, eq_self}
use Rattle.std.proofs.lemmas.Bool.{not-true, or_right}

pub record Sound (journal : Journal) : Type 0 where
  -- an attempt's number is among those that are counted, and no other one has ended
  pub counted : (a : Attempt) → IsIn a (attempts journal) → a.number ≤ length (attempts journal)
  pub not_ended : (n : ℕ) → length (attempts journal) < n → has_ended journal n ≡ false
  pub attempts_apart : AreApart (λ (a : Attempt). a.number) (attempts journal)
  pub requests_apart : AreApart (λ (q : Request). q.number) (requests journal)
  pub newest : (q : Request) → IsIn q (requests journal) → q.number ≤ newest_number journal
  pub connections_apart : AreApart (λ (c : Connection). c.number) (connections journal)
  -- the attempt of a connection has ended
  pub ended : (c : Connection) → IsIn c (connections journal) → has_ended journal c.number ≡ true
  -- what is outstanding on a connection was sent there last, and is the number of a request
  pub out_stands : (conn q : ℕ) → IsIn q (outstanding journal conn) → standing journal q ≡ Some (OutOn conn)
  pub out_known : (conn q : ℕ) → IsIn q (outstanding journal conn) → q ≤ newest_number journal
  -- nothing was sent, and nothing closed, where no attempt has ended
  pub unused : (n : ℕ) → has_ended journal n ≡ false → (outstanding journal n ≡ []) × (send_count journal n ≡ 0) × (list_any (closes n) journal ≡ false)

pub sound_begun : Sound []
sound_begun = record {
  counted = λ a none. absurd none;
  not_ended = λ n more. refl;
  attempts_apart = tt;
  requests_apart = tt;
  newest = λ q none. absurd none;
  connections_apart = tt;
  ended = λ c none. absurd none;
  out_stands = λ conn q none. absurd none;
  out_known = λ conn q none. absurd none;
  unused = λ n h. (refl, refl, refl);
}

-- actions

-- a request that waited moves, and what is outstanding stays where it is
stays_out : (j : Journal) (q conn r : ℕ) (to : Standing) → waits (standing j q) ≡ true → standing j r ≡ Some (OutOn conn) → option_map_or Some (cond (nat_eq q r) (Some to) None) (standing j r) ≡ Some (OutOn conn)
stays_out j q conn r to waiting out = by_test (nat_eq q r) refl
  where
    by_test : (b : Bool) → nat_eq q r ≡ b → option_map_or Some (cond b (Some to) None) (standing j r) ≡ Some (OutOn conn)
    by_test false e = out
    by_test true e = contradicts (waits (standing j q)) waiting (ap waits (ap (standing j) (true_eq q r e) ∙ out))

pub sound_send : (j : Journal) (q c : ℕ) (s : Option ℕ) (u : Option (Host × ℕ)) → waits (standing j q) ≡ true → q ≤ newest_number j → has_ended j c ≡ true → Sound j → Sound (Taken (SendOn q c s u) ∷ j)
sound_send j q c s u waiting known used sound = record {
  counted = sound.counted;
  not_ended = sound.not_ended;
  attempts_apart = sound.attempts_apart;
  requests_apart = sound.requests_apart;
  newest = sound.newest;
  connections_apart = sound.connections_apart;
  ended = sound.ended;
  out_stands = λ conn r found. by_conn conn r (nat_eq c conn) refl found;
  out_known = λ conn r found. known_by_conn conn r (nat_eq c conn) found;
  unused = λ n h. (out_by_conn n h (nat_eq c n) refl, sends_by_conn n h (nat_eq c n) refl, (sound.unused n h).2);
}
  where
    by_place : (conn r : ℕ) → nat_eq c conn ≡ true → IsIn r (outstanding j conn) ⊎ (r ≡ q) → option_map_or Some (cond (nat_eq q r) (Some (OutOn c)) None) (standing j r) ≡ Some (OutOn conn)
    by_place conn r e (inl old) = stays_out j q conn r (OutOn c) waiting (sound.out_stands conn r old)
    by_place conn r e (inr new) = rw (new, eq_self q, true_eq c conn e) refl

    by_conn : (conn r : ℕ) (b : Bool) → nat_eq c conn ≡ b → IsIn r (cond b (outstanding j conn ++ q ∷ []) (outstanding j conn)) → option_map_or Some (cond (nat_eq q r) (Some (OutOn c)) None) (standing j r) ≡ Some (OutOn conn)
    by_conn conn r false e found = stays_out j q conn r (OutOn c) waiting (sound.out_stands conn r found)
    by_conn conn r true e found = by_place conn r e (in_append_one r q (outstanding j conn) found)

    known_by_place : (conn r : ℕ) → IsIn r (outstanding j conn) ⊎ (r ≡ q) → r ≤ newest_number j
    known_by_place conn r (inl old) = sound.out_known conn r old
    known_by_place conn r (inr new) = omega (arith, new, known)

    known_by_conn : (conn r : ℕ) (b : Bool) → IsIn r (cond b (outstanding j conn ++ q ∷ []) (outstanding j conn)) → r ≤ newest_number j
    known_by_conn conn r false found = sound.out_known conn r found
    known_by_conn conn r true found = known_by_place conn r (in_append_one r q (outstanding j conn) found)

    out_by_conn : (n : ℕ) → has_ended j n ≡ false → (b : Bool) → nat_eq c n ≡ b → cond b (outstanding j n ++ q ∷ []) (outstanding j n) ≡ []
    out_by_conn n h false e = (sound.unused n h).0
    out_by_conn n h true e = contradicts (has_ended j c) used (ap (has_ended j) (true_eq c n e) ∙ h)

    sends_by_conn : (n : ℕ) → has_ended j n ≡ false → (b : Bool) → nat_eq c n ≡ b → cond b (send_count j n + 1) (send_count j n) ≡ 0
    sends_by_conn n h false e = (sound.unused n h).1
    sends_by_conn n h true e = contradicts (has_ended j c) used (ap (has_ended j) (true_eq c n e) ∙ h)

pub sound_refuse : (j : Journal) (q : ℕ) → waits (standing j q) ≡ true → Sound j → Sound (Taken (Refuse q) ∷ j)
sound_refuse j q waiting sound = record {
  counted = sound.counted;
  not_ended = sound.not_ended;
  attempts_apart = sound.attempts_apart;
  requests_apart = sound.requests_apart;
  newest = sound.newest;
  connections_apart = sound.connections_apart;
  ended = sound.ended;
  out_stands = λ conn r found. stays_out j q conn r Over waiting (sound.out_stands conn r found);
  out_known = sound.out_known;
  unused = sound.unused;
}

pub sound_open : (j : Journal) (o : Origin) (r : Route) → Sound j → Sound (Taken (OpenTo (length (attempts j) + 1) o r) ∷ j)
sound_open j o r sound =
    let more : length (attempts j ++ a ∷ []) ≡ length (attempts j) + 1 = length-append (attempts j) (a ∷ []) in
    record {
      counted = λ b found. by_place b (in_append_one b a (attempts j) found);
      not_ended = λ n above. sound.not_ended n (omega (arith, above, more));
      attempts_apart = apart_append_one (λ (a : Attempt). a.number) (attempts j) a sound.attempts_apart (λ b found. nat_eq-below b.number (length (attempts j) + 1) (omega (arith, sound.counted b found)));
      requests_apart = sound.requests_apart;
      newest = sound.newest;
      connections_apart = sound.connections_apart;
      ended = sound.ended;
      out_stands = sound.out_stands;
      out_known = sound.out_known;
      unused = sound.unused;
    }
  where
    a : Attempt
    a = record { number = length (attempts j) + 1; origin = o; route = r }

    by_place : (b : Attempt) → IsIn b (attempts j) ⊎ (b ≡ a) → b.number ≤ length (attempts j ++ a ∷ [])
    by_place b (inl old) = omega (arith, sound.counted b old, length-append (attempts j) (a ∷ []))
    by_place b (inr new) = omega (arith, ap (λ (x : Attempt). x.number) new, length-append (attempts j) (a ∷ []))

-- where a request isn't outstanding any more, the others still are
left_out : (j : Journal) (q conn r : ℕ) (to : Standing) → Sound j → IsIn r (without q (outstanding j conn)) → option_map_or Some (cond (nat_eq q r) (Some to) None) (standing j r) ≡ Some (OutOn conn)
left_out j q conn r to sound found =
    let still = in_filter (λ n. not (nat_eq n q)) r (outstanding j conn) found in
    by_test (nat_eq q r) (flipped q r ∙ not-true (nat_eq r q) still.1) (sound.out_stands conn r still.0)
  where
    flipped : (a b : ℕ) → nat_eq a b ≡ nat_eq b a
    flipped a b = grind arith

    by_test : (b : Bool) → b ≡ false → standing j r ≡ Some (OutOn conn) → option_map_or Some (cond b (Some to) None) (standing j r) ≡ Some (OutOn conn)
    by_test false e out = out
    by_test true e out = absurd (true≢false e)

pub sound_lost : (j : Journal) (q : ℕ) → Sound j → Sound (Taken (Lost q) ∷ j)
sound_lost j q sound = record {
  counted = sound.counted;
  not_ended = sound.not_ended;
  attempts_apart = sound.attempts_apart;
  requests_apart = sound.requests_apart;
  newest = sound.newest;
  connections_apart = sound.connections_apart;
  ended = sound.ended;
  out_stands = λ conn r found. left_out j q conn r Over sound found;
  out_known = λ conn r found. sound.out_known conn r (in_filter (λ n. not (nat_eq n q)) r (outstanding j conn) found).0;
  unused = λ n h. (ap (without q) (sound.unused n h).0, (sound.unused n h).1, (sound.unused n h).2);
}

-- what a value of alternatives changes is none of this
pub sound_alternatives : (j : Journal) (o : Origin) (value : AltSvc) → Sound j → Sound (Taken (Alternatives o value) ∷ j)
sound_alternatives j o value sound = record { counted = sound.counted; not_ended = sound.not_ended; attempts_apart = sound.attempts_apart; requests_apart = sound.requests_apart; newest = sound.newest; connections_apart = sound.connections_apart; ended = sound.ended; out_stands = sound.out_stands; out_known = sound.out_known; unused = sound.unused }

pub sound_retry : (j : Journal) (q : ℕ) → Sound j → Sound (Taken (Retry q) ∷ j)
sound_retry j q sound = record { counted = sound.counted; not_ended = sound.not_ended; attempts_apart = sound.attempts_apart; requests_apart = sound.requests_apart; newest = sound.newest; connections_apart = sound.connections_apart; ended = sound.ended; out_stands = sound.out_stands; out_known = sound.out_known; unused = sound.unused }

pub sound_field : (j : Journal) (q reason place : ℕ) → Sound j → Sound (Taken (Field q reason place) ∷ j)
sound_field j q reason place sound = record { counted = sound.counted; not_ended = sound.not_ended; attempts_apart = sound.attempts_apart; requests_apart = sound.requests_apart; newest = sound.newest; connections_apart = sound.connections_apart; ended = sound.ended; out_stands = sound.out_stands; out_known = sound.out_known; unused = sound.unused }

pub sound_close : (j : Journal) (c count : ℕ) → Sound j → Sound (Taken (Close c count) ∷ j)
sound_close j c count sound = record { counted = sound.counted; not_ended = sound.not_ended; attempts_apart = sound.attempts_apart; requests_apart = sound.requests_apart; newest = sound.newest; connections_apart = sound.connections_apart; ended = sound.ended; out_stands = sound.out_stands; out_known = sound.out_known; unused = sound.unused }

pub sound_ignored : (j : Journal) (c kind reason place : ℕ) → Sound j → Sound (Taken (Ignored c kind reason place) ∷ j)
sound_ignored j c kind reason place sound = record { counted = sound.counted; not_ended = sound.not_ended; attempts_apart = sound.attempts_apart; requests_apart = sound.requests_apart; newest = sound.newest; connections_apart = sound.connections_apart; ended = sound.ended; out_stands = sound.out_stands; out_known = sound.out_known; unused = sound.unused }

pub sound_origins : (j : Journal) (c taken skipped : ℕ) → Sound j → Sound (Taken (Origins c taken skipped) ∷ j)
sound_origins j c taken skipped sound = record { counted = sound.counted; not_ended = sound.not_ended; attempts_apart = sound.attempts_apart; requests_apart = sound.requests_apart; newest = sound.newest; connections_apart = sound.connections_apart; ended = sound.ended; out_stands = sound.out_stands; out_known = sound.out_known; unused = sound.unused }

pub sound_malformed : (j : Journal) (name : NameOf) (item reason place : ℕ) → Sound j → Sound (Taken (Malformed name item reason place) ∷ j)
sound_malformed j name item reason place sound = record { counted = sound.counted; not_ended = sound.not_ended; attempts_apart = sound.attempts_apart; requests_apart = sound.requests_apart; newest = sound.newest; connections_apart = sound.connections_apart; ended = sound.ended; out_stands = sound.out_stands; out_known = sound.out_known; unused = sound.unused }

pub sound_told : (j : Journal) (o : Origin) (cs : List ℕ) → Sound j → Sound (Taken (Who o cs) ∷ j)
sound_told j o cs sound = record { counted = sound.counted; not_ended = sound.not_ended; attempts_apart = sound.attempts_apart; requests_apart = sound.requests_apart; newest = sound.newest; connections_apart = sound.connections_apart; ended = sound.ended; out_stands = sound.out_stands; out_known = sound.out_known; unused = sound.unused }

pub sound_counted : (j : Journal) (alternatives answers broken open_now waiting_now : ℕ) → Sound j → Sound (Taken (Stats alternatives answers broken open_now waiting_now) ∷ j)
sound_counted j alternatives answers broken open_now waiting_now sound = record { counted = sound.counted; not_ended = sound.not_ended; attempts_apart = sound.attempts_apart; requests_apart = sound.requests_apart; newest = sound.newest; connections_apart = sound.connections_apart; ended = sound.ended; out_stands = sound.out_stands; out_known = sound.out_known; unused = sound.unused }

-- facts

-- what a fact that isn't refused meets
pub not_earlier : (b : Bool) (reason : StepRefusal) (other : Option StepRefusal) → cond b (Some reason) other ≡ None → other ≡ None
not_earlier true reason other free = absurd (true≢false (ap is_some free))
not_earlier false reason other free = free

pub above_newest : (j : Journal) (now n : ℕ) (o : Origin) → refusal j now (fact.Request n o) ≡ None → newest_number j < n
above_newest j now n o free =
    by_test (nat_le n (newest_number j)) refl (not_earlier (nat_lt now (newest_moment j)) _ _ (not_earlier (nat_eq (step_count j) 16777215) _ _ free))
  where
    by_test : (b : Bool) → nat_le n (newest_number j) ≡ b → cond b (Some (NumberNotAbove (newest_number j))) None ≡ None → newest_number j < n
    by_test true e free = absurd (true≢false (ap is_some free))
    by_test false e free = grind arith

taken_where : (b : Bool) (reason : StepRefusal) → cond b None (Some reason) ≡ None → b ≡ true
taken_where true reason e = refl
taken_where false reason e = absurd (true≢false (ap is_some e))

pub opened_pending : (j : Journal) (now m : ℕ) (p : Proto) (d : Addr) (port : ℕ) (names : List CertName) → refusal j now (fact.Opened m p d port names) ≡ None → is_pending j m ≡ true
opened_pending j now m p d port names free = taken_where (is_pending j m) NoSuchAttempt (not_earlier (nat_lt now (newest_moment j)) _ _ (not_earlier (nat_eq (step_count j) 16777215) _ _ free))

pub failed_pending : (j : Journal) (now m : ℕ) → refusal j now (fact.Failed m) ≡ None → is_pending j m ≡ true
failed_pending j now m free = taken_where (is_pending j m) NoSuchAttempt (not_earlier (nat_lt now (newest_moment j)) _ _ (not_earlier (nat_eq (step_count j) 16777215) _ _ free))

pub closed_open : (j : Journal) (now c : ℕ) → refusal j now (fact.Closed c) ≡ None → is_open_number j c ≡ true
closed_open j now c free = taken_where (is_open_number j c) NoSuchConn (not_earlier (nat_lt now (newest_moment j)) _ _ (not_earlier (nat_eq (step_count j) 16777215) _ _ free))

-- octets and frames come on a connection that is open
frame_open : (w : Option Connection) → frame_refusal w ≡ None → is_some w ≡ true
frame_open None e = absurd (true≢false (ap is_some e))
frame_open (Some c) e = refl

pub input_open : (j : Journal) (now c : ℕ) (bytes : List ℕ) → refusal j now (fact.Input c bytes) ≡ None → is_open_number j c ≡ true
input_open j now c bytes free = frame_open (open_connection j c) (not_earlier (nat_lt now (newest_moment j)) _ _ (not_earlier (nat_eq (step_count j) 16777215) _ _ free))

pub sound_request : (j : Journal) (now n : ℕ) (o : Origin) (handed_in : Bool) → newest_number j < n → Sound j → Sound (Happened now (fact.Request n o) handed_in ∷ j)
sound_request j now n o handed_in above sound =
    record {
      counted = sound.counted;
      not_ended = sound.not_ended;
      attempts_apart = sound.attempts_apart;
      requests_apart = apart_append_one (λ (r : Request). r.number) (requests j) q sound.requests_apart (λ r found. nat_eq-below r.number n (omega (arith, above, sound.newest r found)));
      newest = λ r found. by_place r (in_append_one r q (requests j) found);
      connections_apart = sound.connections_apart;
      ended = sound.ended;
      out_stands = λ conn r found. rw (other n r (omega (arith, above, sound.out_known conn r found))) (sound.out_stands conn r found);
      out_known = λ conn r found. omega (arith, above, sound.out_known conn r found);
      unused = sound.unused;
    }
  where
    q : Request
    q = record { number = n; origin = o }

    other : (n r : ℕ) → r < n → nat_eq n r ≡ false
    other n r below = grind arith

    by_place : (r : Request) → IsIn r (requests j) ⊎ (r ≡ record { number = n; origin = o }) → r.number ≤ n
    by_place r (inl old) = omega (arith, above, sound.newest r old)
    by_place r (inr new) = omega (arith, ap (λ (x : Request). x.number) new)

-- a pending attempt was started, and hasn't ended
pub record IsStarted (j : Journal) (m : ℕ) : Type 0 where
  pub attempt : Attempt
  pub found : pending_attempt j m ≡ Some attempt
  pub started : IsIn attempt (attempts j)
  pub numbered : attempt.number ≡ m
  pub going : has_ended j m ≡ false

pub started_of : (j : Journal) (m : ℕ) → is_pending j m ≡ true → IsStarted j m
started_of j m pend = by_found (pending_attempt j m) refl pend
  where
    by_found : (w : Option Attempt) → pending_attempt j m ≡ w → is_some w ≡ true → IsStarted j m
    by_found None e some = absurd (true≢false (sym some))
    by_found (Some a) e some =
        let there = find_in (λ (a : Attempt). nat_eq a.number m) (pending j) a e in
        let passed = in_filter (λ (a : Attempt). not (has_ended j a.number)) a (attempts j) there.0 in
        let same : a.number ≡ m = true_eq a.number m there.1 in
        record { attempt = a; found = e; started = passed.0; numbered = same; going = subst (λ n. has_ended j n ≡ false) same (not-true (has_ended j a.number) passed.1) }

-- an attempt that is pending is counted
above_other : (j : Journal) (m : ℕ) → IsStarted j m → Sound j → (n : ℕ) → length (attempts j) < n → (nat_eq m n || has_ended j n) ≡ false
above_other j m is sound n above = rw (below m n (omega (arith, above, sound.counted is.attempt is.started, is.numbered))) (sound.not_ended n above)
  where
    below : (m n : ℕ) → m < n → nat_eq m n ≡ false
    below m n h = nat_eq-below m n h

pub sound_failed : (j : Journal) (now m : ℕ) (handed_in : Bool) → is_pending j m ≡ true → Sound j → Sound (Happened now (fact.Failed m) handed_in ∷ j)
sound_failed j now m handed_in pend sound = record {
  counted = sound.counted;
  not_ended = λ n above. above_other j m (started_of j m pend) sound n above;
  attempts_apart = sound.attempts_apart;
  requests_apart = sound.requests_apart;
  newest = sound.newest;
  connections_apart = sound.connections_apart;
  ended = λ c found. or_right (nat_eq m c.number) (has_ended j c.number) (sound.ended c found);
  out_stands = sound.out_stands;
  out_known = sound.out_known;
  unused = λ n h. sound.unused n (second_of_neither (nat_eq m n) (has_ended j n) h);
}

pub sound_opened : (j : Journal) (now m : ℕ) (p : Proto) (d : Addr) (port : ℕ) (names : List CertName) (handed_in : Bool) → is_pending j m ≡ true → Sound j → Sound (Happened now (fact.Opened m p d port names) handed_in ∷ j)
sound_opened j now m p d port names handed_in pend sound =
    let made = by_attempt (pending_attempt j m) in
    record {
      counted = sound.counted;
      not_ended = λ n above. above_other j m is sound n above;
      attempts_apart = sound.attempts_apart;
      requests_apart = sound.requests_apart;
      newest = sound.newest;
      connections_apart = made.0;
      ended = made.1;
      out_stands = sound.out_stands;
      out_known = sound.out_known;
      unused = λ n h. sound.unused n (second_of_neither (nat_eq m n) (has_ended j n) h);
    }
  where
    is : IsStarted j m
    is = started_of j m pend

    connection : Attempt → Connection
    connection a = record { number = m; origin = a.origin; route = a.route; proto = p; addr = d; port = port; names = names }

    other : (c : Connection) → IsIn c (connections j) → nat_eq c.number m ≡ false
    other c found = by_test (nat_eq c.number m) refl
      where
        by_test : (b : Bool) → nat_eq c.number m ≡ b → b ≡ false
        by_test false e = refl
        by_test true e = contradicts (has_ended j m) (subst (λ k. has_ended j k ≡ true) (true_eq c.number m e) (sound.ended c found)) is.going

    by_place : (a : Attempt) (c : Connection) → IsIn c (connections j) ⊎ (c ≡ connection a) → (nat_eq m c.number || has_ended j c.number) ≡ true
    by_place a c (inl old) = or_right (nat_eq m c.number) (has_ended j c.number) (sound.ended c old)
    by_place a c (inr new) = subst (λ (x : Connection). (nat_eq m x.number || has_ended j x.number) ≡ true) (sym new) (rw (eq_self m) refl)

    by_attempt : (w : Option Attempt) → AreApart (λ (c : Connection). c.number) (with_end (connections j) (option_map connection w)) × ((c : Connection) → IsIn c (with_end (connections j) (option_map connection w)) → (nat_eq m c.number || has_ended j c.number) ≡ true)
    by_attempt None = (sound.connections_apart, λ c found. or_right (nat_eq m c.number) (has_ended j c.number) (sound.ended c found))
    by_attempt (Some a) = (apart_append_one (λ (c : Connection). c.number) (connections j) (connection a) sound.connections_apart other, λ c found. by_place a c (in_append_one c (connection a) (connections j) found))

-- an open connection of a number was made
pub record IsOpened (j : Journal) (c : ℕ) : Type 0 where
  pub connection : Connection
  pub found : find (λ (x : Connection). nat_eq x.number c) (open_connections j) ≡ Some connection
  pub there : IsIn connection (open_connections j)
  pub made : IsIn connection (connections j)
  pub numbered : connection.number ≡ c

pub opened_of : (j : Journal) (c : ℕ) → is_open_number j c ≡ true → IsOpened j c
opened_of j c h = by_found (find (λ (x : Connection). nat_eq x.number c) (open_connections j)) refl h
  where
    by_found : (w : Option Connection) → find (λ (x : Connection). nat_eq x.number c) (open_connections j) ≡ w → is_some w ≡ true → IsOpened j c
    by_found None e some = absurd (true≢false (sym some))
    by_found (Some x) e some =
        let there = find_in (λ (x : Connection). nat_eq x.number c) (open_connections j) x e in
        record { connection = x; found = e; there = there.0; made = (in_filter (is_open j) x (connections j) there.0).0; numbered = true_eq x.number c there.1 }

-- the attempt of an open connection has ended
pub used_of : (j : Journal) (c : ℕ) → is_open_number j c ≡ true → Sound j → has_ended j c ≡ true
used_of j c is_open_now sound = let is = opened_of j c is_open_now in subst (λ k. has_ended j k ≡ true) is.numbered (sound.ended is.connection is.made)

-- a connection whose attempt has ended closes, by a fact or by a cut
closed_unused : (j : Journal) (c : ℕ) → has_ended j c ≡ true → Sound j → (n : ℕ) → has_ended j n ≡ false → (nat_eq c n || list_any (closes n) j) ≡ false
closed_unused j c used sound n h = by_test (nat_eq c n) refl
  where
    by_test : (b : Bool) → nat_eq c n ≡ b → (b || list_any (closes n) j) ≡ false
    by_test false e = (sound.unused n h).2
    by_test true e = contradicts (has_ended j c) used (ap (has_ended j) (true_eq c n e) ∙ h)

pub sound_closed : (j : Journal) (now c : ℕ) (handed_in : Bool) → is_open_number j c ≡ true → Sound j → Sound (Happened now (fact.Closed c) handed_in ∷ j)
sound_closed j now c handed_in is_open_now sound = record { counted = sound.counted; not_ended = sound.not_ended; attempts_apart = sound.attempts_apart; requests_apart = sound.requests_apart; newest = sound.newest; connections_apart = sound.connections_apart; ended = sound.ended; out_stands = sound.out_stands; out_known = sound.out_known; unused = λ n h. ((sound.unused n h).0, (sound.unused n h).1, closed_unused j c (used_of j c is_open_now sound) sound n h) }

pub sound_cut : (j : Journal) (now c count : ℕ) → has_ended j c ≡ true → Sound j → Sound (Cut now c count ∷ j)
sound_cut j now c count used sound = record { counted = sound.counted; not_ended = sound.not_ended; attempts_apart = sound.attempts_apart; requests_apart = sound.requests_apart; newest = sound.newest; connections_apart = sound.connections_apart; ended = sound.ended; out_stands = sound.out_stands; out_known = sound.out_known; unused = λ n h. ((sound.unused n h).0, (sound.unused n h).1, closed_unused j c used sound n h) }

-- a request that is answered isn't outstanding any more
pub sound_response : (j : Journal) (now q status age : ℕ) (altsvc : Option (List ℕ)) (handed_in : Bool) → Sound j → Sound (Happened now (fact.Response q status age altsvc) handed_in ∷ j)
sound_response j now q status age altsvc handed_in sound =
    let lost : Sound (Taken (Lost q) ∷ j) = sound_lost j q sound in
    record {
      counted = sound.counted;
      not_ended = sound.not_ended;
      attempts_apart = sound.attempts_apart;
      requests_apart = sound.requests_apart;
      newest = sound.newest;
      connections_apart = sound.connections_apart;
      ended = sound.ended;
      out_stands = λ conn r found. left_out j q conn r (after_status status) sound found;
      out_known = lost.out_known;
      unused = lost.unused;
    }

pub sound_input : (j : Journal) (now : ℕ) (c : ℕ) (bytes : List ℕ) (handed_in : Bool) → Sound j → Sound (Happened now (fact.Input c bytes) handed_in ∷ j)
sound_input j now c bytes handed_in sound = record { counted = sound.counted; not_ended = sound.not_ended; attempts_apart = sound.attempts_apart; requests_apart = sound.requests_apart; newest = sound.newest; connections_apart = sound.connections_apart; ended = sound.ended; out_stands = sound.out_stands; out_known = sound.out_known; unused = sound.unused }

pub sound_delivered : (j : Journal) (now : ℕ) (c : ℕ) (head : Head) (payload : List ℕ) (handed_in : Bool) → Sound j → Sound (Happened now (fact.Delivered c head payload) handed_in ∷ j)
sound_delivered j now c head payload handed_in sound = record { counted = sound.counted; not_ended = sound.not_ended; attempts_apart = sound.attempts_apart; requests_apart = sound.requests_apart; newest = sound.newest; connections_apart = sound.connections_apart; ended = sound.ended; out_stands = sound.out_stands; out_known = sound.out_known; unused = sound.unused }

pub sound_who : (j : Journal) (now : ℕ) (o : Origin) (handed_in : Bool) → Sound j → Sound (Happened now (fact.Who o) handed_in ∷ j)
sound_who j now o handed_in sound = record { counted = sound.counted; not_ended = sound.not_ended; attempts_apart = sound.attempts_apart; requests_apart = sound.requests_apart; newest = sound.newest; connections_apart = sound.connections_apart; ended = sound.ended; out_stands = sound.out_stands; out_known = sound.out_known; unused = sound.unused }

pub sound_answer : (j : Journal) (now : ℕ) (name : NameOf) (ttl : ℕ) (body : AnswerBody) (handed_in : Bool) → Sound j → Sound (Happened now (fact.Answer name ttl body) handed_in ∷ j)
sound_answer j now name ttl body handed_in sound = record { counted = sound.counted; not_ended = sound.not_ended; attempts_apart = sound.attempts_apart; requests_apart = sound.requests_apart; newest = sound.newest; connections_apart = sound.connections_apart; ended = sound.ended; out_stands = sound.out_stands; out_known = sound.out_known; unused = sound.unused }

pub sound_stats : (j : Journal) (now : ℕ) (handed_in : Bool) → Sound j → Sound (Happened now fact.Stats handed_in ∷ j)
sound_stats j now handed_in sound = record { counted = sound.counted; not_ended = sound.not_ended; attempts_apart = sound.attempts_apart; requests_apart = sound.requests_apart; newest = sound.newest; connections_apart = sound.connections_apart; ended = sound.ended; out_stands = sound.out_stands; out_known = sound.out_known; unused = sound.unused }

-- each fact that isn't refused
pub sound_fact : (j : Journal) (now : ℕ) (fact : Fact) → refusal j now fact ≡ None → Sound j → Sound (Happened now fact true ∷ j)
sound_fact j now (fact.Request n o) free sound = sound_request j now n o true (above_newest j now n o free) sound
sound_fact j now (fact.Opened m p d port names) free sound = sound_opened j now m p d port names true (opened_pending j now m p d port names free) sound
sound_fact j now (fact.Failed m) free sound = sound_failed j now m true (failed_pending j now m free) sound
sound_fact j now (fact.Closed c) free sound = sound_closed j now c true (closed_open j now c free) sound
sound_fact j now (fact.Response q status age altsvc) free sound = sound_response j now q status age altsvc true sound
sound_fact j now (fact.Input c bytes) free sound = sound_input j now c bytes true sound
sound_fact j now (fact.Delivered c head payload) free sound = sound_delivered j now c head payload true sound
sound_fact j now fact.Network free sound = record { counted = sound.counted; not_ended = sound.not_ended; attempts_apart = sound.attempts_apart; requests_apart = sound.requests_apart; newest = sound.newest; connections_apart = sound.connections_apart; ended = sound.ended; out_stands = sound.out_stands; out_known = sound.out_known; unused = sound.unused }
sound_fact j now fact.Tick free sound = record { counted = sound.counted; not_ended = sound.not_ended; attempts_apart = sound.attempts_apart; requests_apart = sound.requests_apart; newest = sound.newest; connections_apart = sound.connections_apart; ended = sound.ended; out_stands = sound.out_stands; out_known = sound.out_known; unused = sound.unused }
sound_fact j now (fact.Who o) free sound = sound_who j now o true sound
sound_fact j now (fact.Answer name ttl body) free sound = sound_answer j now name ttl body true sound
sound_fact j now fact.Stats free sound = sound_stats j now true sound
