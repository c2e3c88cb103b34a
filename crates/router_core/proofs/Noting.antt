-- What a step notes of failures and alternatives is what the journal says from then on.
use Rattle.std.proofs.Common.{◌≡◌, ℕ, ◌+◌, Bool, true, false, cond, not, ◌&&◌, List, [], ◌∷◌, map, filter, Option, Some, None, Ok, Err, refl, ap, sym, ◌∙◌, arith, min, true≢false}
use Rattle.alias_chain.specs.Walk.{NameOf}
use Rattle.coalescing.specs.declared.cert_name.CertName.{CertName}
use Rattle.h2_framing.specs.declared.head.Head.{Head}
use Rattle.origin_values.specs.Equality.{origin_eq}
use Rattle.origin_values.specs.declared.address.Addr.{Addr}
use Rattle.origin_values.specs.declared.origin.Origin.{Origin}
use Rattle.origin_values.specs.declared.proto.Proto.{Proto}
use Rattle.altsvc_grammar.specs.Keys.{key_eq}
use Rattle.altsvc_grammar.specs.declared.alt_key.AltKey.{AltKey}
use Rattle.altsvc_grammar.specs.declared.alt.Alt.{Alt}
use Rattle.network_cache.specs.declared.kept.Kept.{Kept}
use Rattle.network_cache.specs.Freshness.{taken_at, is_fresh, has_other_key}
use Rattle.network_cache.proofs.Origins.{turned, turned_not}
use Rattle.route_choice.specs.Capped.{capped}
use Rattle.route_events.specs.declared.answer.AnswerBody.{AnswerBody}
use Rattle.route_events.specs.declared.answer.AnswerBody.TheVariants.{V4, V6, Https}
use Rattle.route_events.specs.declared.fact.Fact.{Fact}
use Rattle.route_events.specs.declared.fact.Fact.TheVariants as fact
use Rattle.route_events.specs.declared.action.Action.{Action}
use Rattle.route_events.specs.declared.action.Action.TheVariants.{Lost, Retry, Alternatives, Field, Ignored, Origins}
use Rattle.route_events.specs.declared.route.Route.{Route}
use Rattle.route_events.specs.declared.route.Route.TheVariants.{Direct, Alt as ByAlternative, Rec}
use Rattle.route_events.specs.declared.attempt.Attempt.{Attempt}
use Rattle.route_events.specs.Answers.{Records, read_records, malformed, malformed_effects}
use Rattle.route_events.specs.Journal.{Happened, Taken, Journal}
use Rattle.std.proofs.lemmas.Bool.{and_right}
use Rattle.route_events.specs.Attempts.{pending_attempt}
use Rattle.route_events.specs.Authority.{route_eq}
use Rattle.route_events.specs.Alternatives.{alternatives_of, age_in, live}
use Rattle.route_events.specs.Alternatives as journal
use Rattle.route_events.specs.Backoff.{Failures, no_failures, failed_at, failures, failures_after, is_direct, is_on}
use Rattle.route_events.specs.Connections.{outstanding, answered_in}
use Rattle.route_events.specs.Requests.{standing, is_out}
use Rattle.route_events.specs.Misdirection.{gives_up}
use Rattle.route_events.specs.FrameAdvertisements.{frame_effects}
use Rattle.route_events.specs.Step.{with_actions, effects}
use Rattle.route_events.proofs.Lists.{filter_same, filter_twice}
use Rattle.route_events.proofs.Sound.{Sound}
use Rattle.request_dispatch.specs.declared.tables.Tables.{Tables}
use Rattle.request_dispatch.specs.AttemptTable.{attempt_among}
use Rattle.request_dispatch.specs.Successes.{succeeds}
use Rattle.request_dispatch.proofs.Listing.{filter_map}
use Rattle.router_core.specs.Holds.{Hold, AreOut}
use Rattle.router_core.specs.Notes.{end_noted, failure_noted, opening_noted, failures_noted, given_up, spared, value_noted, kept_after}
use Rattle.router_core.proofs.Answering.{IsAnswer, answer_is}
use Rattle.router_core.proofs.Delivering.{IsFrameAnswer, frame_answer}
use Rattle.router_core.proofs.GivingUp.{is_given, given_up_is}

-- failures

-- nothing is noted of another route where an attempt by the direct one ends
pub nothing_noted : (now : ℕ) (success : Bool) (a : Attempt) (o : Origin) (r : Route) (f : Failures) → a.route ≡ Direct → is_direct r ≡ false → f ≡ end_noted now success a o r f
nothing_noted now success a o r f direct other = sym (ap (λ (b : Bool). cond b (cond success no_failures (capped (failed_at now f))) f) not_on)
  where
    other_than : (r : Route) → is_direct r ≡ false → route_eq Direct r ≡ false
    other_than Direct e = absurd (true≢false e)
    other_than (ByAlternative key) e = refl
    other_than (Rec endpoint) e = refl

    not_on : is_on o r a ≡ false
    not_on = and_right (origin_eq a.origin o) (route_eq a.route r) (ap (λ (s : Route). route_eq s r) direct ∙ other_than r other)

pub failures_with : (j : Journal) (as' : List Action) (o : Origin) (r : Route) → failures (with_actions j as') o r ≡ failures j o r
failures_with j [] o r = refl
failures_with j (a ∷ as') o r = failures_with (Taken a ∷ j) as' o r

failing_once_more : (now : ℕ) (f : Failures) → capped (failed_at now (capped f)) ≡ capped (failed_at now f)
failing_once_more now f = λ i. record { count = least f.count i; last = now }
  where
    least : (n : ℕ) → min 11 (min 11 n + 1) ≡ min 11 (n + 1)
    least n = grind arith

ended_capped : (now : ℕ) (on success : Bool) (f : Failures) →
    cond on (cond success no_failures (capped (failed_at now (capped f)))) (capped f) ≡ capped (cond on (cond success no_failures (failed_at now f)) f)
ended_capped now true true f = refl
ended_capped now true false f = failing_once_more now f
ended_capped now false success f = refl

opening_capped : (j : Journal) (now m : ℕ) (p : Proto) (d : Addr) (port : ℕ) (names : List CertName) (o : Origin) (r : Route) (f : Failures) (v : Option Attempt) → pending_attempt j m ≡ v →
    opening_noted now v p names o r (capped f) ≡ capped (failures_after j o r now (fact.Opened m p d port names) f)
opening_capped j now m p d port names o r f None e = rw e refl
opening_capped j now m p d port names o r f (Some a) e = rw e (ended_capped now (is_on o r a) (succeeds a.origin a.route p names) f)

failing_capped : (j : Journal) (now m : ℕ) (o : Origin) (r : Route) (f : Failures) (v : Option Attempt) → pending_attempt j m ≡ v →
    failure_noted now v o r (capped f) ≡ capped (failures_after j o r now (fact.Failed m) f)
failing_capped j now m o r f None e = rw e refl
failing_capped j now m o r f (Some a) e = rw e (ended_capped now (is_on o r a) false f)

noted_capped : (t : Tables) (j : Journal) (now : ℕ) (f : Fact) (o : Origin) (r : Route) (fs : Failures) → Hold t j → failures_noted t.attempts.pending now f o r (capped fs) ≡ capped (failures_after j o r now f fs)
noted_capped t j now (fact.Request n p) o r fs hold = refl
noted_capped t j now (fact.Opened m p d port names) o r fs hold =
    ap (λ as'. opening_noted now (attempt_among as' m) p names o r (capped fs)) hold.pending ∙ opening_capped j now m p d port names o r fs (pending_attempt j m) refl
noted_capped t j now (fact.Failed m) o r fs hold =
    ap (λ as'. failure_noted now (attempt_among as' m) o r (capped fs)) hold.pending ∙ failing_capped j now m o r fs (pending_attempt j m) refl
noted_capped t j now (fact.Closed c) o r fs hold = refl
noted_capped t j now (fact.Response q status age altsvc) o r fs hold = refl
noted_capped t j now (fact.Input c bytes) o r fs hold = refl
noted_capped t j now (fact.Delivered c head payload) o r fs hold = refl
noted_capped t j now (fact.Answer name ttl body) o r fs hold = refl
noted_capped t j now fact.Network o r fs hold = refl
noted_capped t j now fact.Tick o r fs hold = refl
noted_capped t j now (fact.Who p) o r fs hold = refl
noted_capped t j now fact.Stats o r fs hold = refl

pub failures_noted_are : (t : Tables) (j : Journal) (now : ℕ) (f : Fact) (h : Bool) (o : Origin) (r : Route) (fs : Failures) → Hold t j → fs ≡ capped (failures j o r) →
    failures_noted t.attempts.pending now f o r fs ≡ capped (failures (with_actions (Happened now f h ∷ j) (effects j now f)) o r)
failures_noted_are t j now f h o r fs hold e =
    ap (failures_noted t.attempts.pending now f o r) e ∙ noted_capped t j now f o r (failures j o r) hold ∙ ap capped (sym (failures_with (Happened now f h ∷ j) (effects j now f) o r))

-- alternatives

abbrev pub fresh_alts : ℕ → List Kept → List Alt
fresh_alts now ks = map (λ (k : Kept). k.alt) (filter (is_fresh now) ks)

taken_fresh : (now age at : ℕ) (alts : List Alt) → fresh_alts at (map (taken_at now age) alts) ≡ filter (journal.is_fresh now age at) alts
taken_fresh now age at alts = ap (map (λ (k : Kept). k.alt)) (filter_map (is_fresh at) (taken_at now age) alts) ∙ back (filter (journal.is_fresh now age at) alts)
  where
    back : (xs : List Alt) → map (λ (k : Kept). k.alt) (map (taken_at now age) xs) ≡ xs
    back [] = refl
    back (x ∷ xs) = ap (λ ys. x ∷ ys) (back xs)

-- a test of the alternatives before and behind the test of freshness
tested_fresh : (p : Alt → Bool) (at : ℕ) (ks : List Kept) → fresh_alts at (filter (λ (k : Kept). p k.alt) ks) ≡ filter p (fresh_alts at ks)
tested_fresh p at ks =
    ap (map (λ (k : Kept). k.alt))
    (filter_twice (is_fresh at) (λ (k : Kept). p k.alt) ks
    ∙ filter_same (λ k. p k.alt && is_fresh at k) (λ k. is_fresh at k && p k.alt) ks (λ k. turned_and (p k.alt) (is_fresh at k))
    ∙ sym (filter_twice (λ (k : Kept). p k.alt) (is_fresh at) ks))
    ∙ sym (filter_map p (λ (k : Kept). k.alt) (filter (is_fresh at) ks))
  where
    turned_and : (a b : Bool) → (a && b) ≡ (b && a)
    turned_and true true = refl
    turned_and true false = refl
    turned_and false true = refl
    turned_and false false = refl

-- what is kept without an alternative that is given up
spared_are : (g : Option (Origin × AltKey)) (o : Origin) (ks : List Kept) → spared g o ks ≡ filter (λ (k : Kept). not (is_given g o k.alt.key)) ks
spared_are None o ks = sym (all_pass ks)
  where
    all_pass : (xs : List Kept) → filter (λ (k : Kept). true) xs ≡ xs
    all_pass [] = refl
    all_pass (x ∷ xs) = ap (λ ys. x ∷ ys) (all_pass xs)
spared_are (Some g) o ks = by_test (origin_eq o g.0)
  where
    all_pass : (xs : List Kept) → filter (λ (k : Kept). true) xs ≡ xs
    all_pass [] = refl
    all_pass (x ∷ xs) = ap (λ ys. x ∷ ys) (all_pass xs)

    by_test : (b : Bool) → cond b (filter (has_other_key g.1) ks) ks ≡ filter (λ (k : Kept). not (b && key_eq k.alt.key g.1)) ks
    by_test true = refl
    by_test false = sym (all_pass ks)

pub lost_live : (j : Journal) (qs : List ℕ) (o : Origin) (at : ℕ) → live (with_actions j (map Lost qs)) o at ≡ live j o at
lost_live j [] o at = refl
lost_live j (q ∷ qs) o at = lost_live (Taken (Lost q) ∷ j) qs o at

-- a value that is taken for an origin, or for another one
value_live : (now age at : ℕ) (p o : Origin) (ks : List Kept) (alts was : List Alt) (b : Bool) → origin_eq p o ≡ b → fresh_alts at ks ≡ was →
    fresh_alts at (cond (origin_eq o p) (map (taken_at now age) alts) ks) ≡ cond b (filter (journal.is_fresh now age at) alts) was
value_live now age at p o ks alts was true is e = rw (turned p o is) (taken_fresh now age at alts)
value_live now age at p o ks alts was false is e = rw (turned_not p o is) e

answered_live : (j : Journal) (now q status age : ℕ) (altsvc : Option (List ℕ)) (h : Bool) (o : Origin) (at : ℕ) (ks : List Kept) (as' : List Action) → IsAnswer as' → fresh_alts at ks ≡ live (Happened now (fact.Response q status age altsvc) h ∷ j) o at →
    fresh_alts at (value_noted now age as' o ks) ≡ live (with_actions (Happened now (fact.Response q status age altsvc) h ∷ j) as') o at
answered_live j now q status age altsvc h o at ks [] answer e = e
answered_live j now q status age altsvc h o at ks (Field r reason place ∷ []) answer e = e
answered_live j now q status age altsvc h o at ks (Alternatives p value ∷ []) answer e =
    value_live now age at p o ks (alternatives_of value) (live (Happened now (fact.Response q status age altsvc) h ∷ j) o at) (origin_eq p o) refl e
answered_live j now q status age altsvc h o at ks (Retry r ∷ []) answer e = e
answered_live j now q status age altsvc h o at ks (Retry r ∷ Field n reason place ∷ []) answer e = e
answered_live j now q status age altsvc h o at ks _ answer e = absurd answer

-- a frame has no age
frame_live : (j : Journal) (now c : ℕ) (head : Head) (payload : List ℕ) (h : Bool) (o : Origin) (at : ℕ) (ks : List Kept) (as' : List Action) → IsFrameAnswer as' → fresh_alts at ks ≡ live j o at →
    fresh_alts at (value_noted now 0 as' o ks) ≡ live (with_actions (Happened now (fact.Delivered c head payload) h ∷ j) as') o at
frame_live j now c head payload h o at ks [] answer e = e
frame_live j now c head payload h o at ks (Alternatives p value ∷ []) answer e = value_live now 0 at p o ks (alternatives_of value) (live j o at) (origin_eq p o) refl e
frame_live j now c head payload h o at ks (Ignored n kind reason place ∷ []) answer e = e
frame_live j now c head payload h o at ks (Origins n taken skipped ∷ []) answer e = e
frame_live j now c head payload h o at ks _ answer e = absurd answer

lost_noted : (now age : ℕ) (qs : List ℕ) (o : Origin) (ks : List Kept) → value_noted now age (map Lost qs) o ks ≡ ks
lost_noted now age [] o ks = refl
lost_noted now age (q ∷ qs) o ks = refl

-- a malformed record that is named changes no alternatives
malformed_live : (now : ℕ) (body : AnswerBody) (o : Origin) (at : ℕ) (ks : List Kept) (j : Journal) (name : NameOf) → fresh_alts at ks ≡ live j o at →
    fresh_alts at (value_noted now 0 (malformed_effects name body) o ks) ≡ live (with_actions j (malformed_effects name body)) o at
malformed_live now (V4 addresses) o at ks j name e = e
malformed_live now (V6 addresses) o at ks j name e = e
malformed_live now (Https rdatas) o at ks j name e = by_read (read_records 1 rdatas)
  where
    by_read : (read : Records) → fresh_alts at (value_noted now 0 (malformed name read) o ks) ≡ live (with_actions j (malformed name read)) o at
    by_read (Ok rs) = e
    by_read (Err first) = e

pub live_noted : (t : Tables) (j : Journal) (now : ℕ) (f : Fact) (h : Bool) (o : Origin) (at : ℕ) (ks : List Kept) → Sound j → Hold t j → AreOut j t.requests.outstanding →
    ((q : ℕ) → answered_in f ≡ Some q → is_out (standing j q) ≡ true) → fresh_alts at ks ≡ live j o at →
    fresh_alts at (value_noted now (age_in f) (effects j now f) o (spared (given_up t f) o (kept_after f ks))) ≡ live (with_actions (Happened now f h ∷ j) (effects j now f)) o at
live_noted t j now (fact.Request n p) h o at ks sound hold outs out e = e
live_noted t j now (fact.Opened m p d port names) h o at ks sound hold outs out e = e
live_noted t j now (fact.Failed m) h o at ks sound hold outs out e = e
live_noted t j now (fact.Closed c) h o at ks sound hold outs out e =
    ap (fresh_alts at) (lost_noted now 0 (outstanding j c) o ks) ∙ e ∙ sym (lost_live (Happened now (fact.Closed c) h ∷ j) (outstanding j c) o at)
live_noted t j now (fact.Response q status age altsvc) h o at ks sound hold outs out e =
    let f : Fact = fact.Response q status age altsvc in
    let g : Option (Origin × AltKey) = given_up t f in
    let left : fresh_alts at (spared g o ks) ≡ filter (λ (a : Alt). not (gives_up j o f a.key)) (live j o at) =
    ap (fresh_alts at) (spared_are g o ks)
    ∙ tested_fresh (λ a. not (is_given g o a.key)) at ks
    ∙ filter_same (λ (a : Alt). not (is_given g o a.key)) (λ (a : Alt). not (gives_up j o f a.key)) (fresh_alts at ks) (λ a. ap not (given_up_is t j q status age altsvc o a.key sound hold outs (out q refl)))
    ∙ ap (filter (λ (a : Alt). not (gives_up j o f a.key))) e in
    answered_live j now q status age altsvc h o at (spared g o ks) (effects j now f) (answer_is j now q status altsvc) left
live_noted t j now (fact.Input c bytes) h o at ks sound hold outs out e = e
live_noted t j now (fact.Delivered c head payload) h o at ks sound hold outs out e = frame_live j now c head payload h o at ks (frame_effects j now c head payload) (frame_answer j now c head payload) e
live_noted t j now (fact.Answer name ttl body) h o at ks sound hold outs out e = malformed_live now body o at ks (Happened now (fact.Answer name ttl body) h ∷ j) name e
live_noted t j now fact.Network h o at ks sound hold outs out e = tested_fresh (λ a. a.persist) at ks ∙ ap (filter (λ (a : Alt). a.persist)) e
live_noted t j now fact.Tick h o at ks sound hold outs out e = e
live_noted t j now (fact.Who p) h o at ks sound hold outs out e = e
live_noted t j now fact.Stats h o at ks sound hold outs out e = e
