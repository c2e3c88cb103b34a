-- What settling does.
use Rattle.std.proofs.Common.{◌≡◌, ◌⊎◌, inl, inr, ℕ, ◌+◌, Bool, true, false, cond, not, ◌&&◌, ◌||◌, nat_eq, List, [], ◌∷◌, length, Option, Some, None, filter, All, refl, ap, sym, ◌∙◌, subst, true≢false}
use Rattle.std.specs.Option.{option_map_or}
use Rattle.std.specs.List.{list_any}
use Rattle.origin_values.specs.declared.origin.Origin.{Origin}
use Rattle.route_events.specs.declared.action.Action.{Action}
use Rattle.route_events.specs.declared.action.Action.TheVariants.{OpenTo, Refuse, Lost, Retry, Close, Alternatives, Field, Ignored, Origins, Malformed}
use Rattle.route_events.specs.declared.route.Route.{Route}
use Rattle.route_events.specs.declared.request.Request.{Request}
use Rattle.route_events.specs.declared.connection.Connection.{Connection}
use Rattle.route_events.specs.Journal.{Taken, Journal, newest_moment}
use Rattle.route_events.specs.Attempts.{attempts}
use Rattle.route_events.specs.Requests.{Standing, OutOn, Over, requests, standing, waits, waiting}
use Rattle.route_events.specs.Connections.{connections, is_open, is_busy}
use Rattle.route_events.specs.Authority.{is_authoritative}
use Rattle.route_events.specs.Routes.{routes, is_usable, usable_routes, has_pending}
use Rattle.route_events.specs.Dispatch.{carriers, free_carriers, best, send, opening, opened_beside, is_in_use, first_alternative, decide, dispatch}
use Rattle.route_events.specs.Step.{with_actions, settle}
use Rattle.route_events.specs.Headline.{MaySend, MayRefuse, MayWait, IsAllowed, EachAction}
use Rattle.route_events.proofs.Lists.{IsIn, AreApart, in_filter, find_apart, none_left, some_in, any_from_in, all_from_in}
use Rattle.route_events.proofs.Sound.{Sound, sound_send, sound_open, sound_refuse, sound_lost, sound_retry, sound_close, sound_alternatives, sound_field, sound_ignored, sound_origins, sound_malformed}
use Rattle.route_events.proofs.Quiet.{Quiet, quiet_same, quiet_twice, quiet_send, quiet_open, quiet_refuse, usable_routes_same, none_freed, best_none, none_best, best_in, is_none_left, resting, rested, rests_still, opened_pending}
use Rattle.alt_base.proofs.Booleans.{contradicts}
use Rattle.alt_base.proofs.Numbers.{eq_self}
use Rattle.std.proofs.lemmas.Bool.{not-true, not-false}

-- what settling some requests makes of a journal
pub record Settles (before after : Journal) (now : ℕ) (qs : List Request) : Type 0 where
  pub quiet : Quiet before after now
  pub sound : Sound after
  pub allowed : EachAction IsAllowed before → EachAction IsAllowed after
  pub fewer : (n : ℕ) → waits (standing after n) ≡ true → waits (standing before n) ≡ true
  pub others : (n : ℕ) → ((q : Request) → IsIn q qs → nat_eq q.number n ≡ false) → standing after n ≡ standing before n
  pub done : (q : Request) → IsIn q qs → waits (standing after q.number) ≡ true → dispatch after q now ≡ []

settles_none : (j : Journal) (now : ℕ) → Sound j → Settles j j now []
settles_none j now sound = record { quiet = quiet_same j now; sound = sound; allowed = λ h. h; fewer = λ n h. h; others = λ n h. refl; done = λ q none. absurd none }

settles_more : (i j k : Journal) (now : ℕ) (q : Request) (qs : List Request) → Settles i j now (q ∷ []) → Settles j k now qs → Settles i k now (q ∷ qs)
settles_more i j k now q qs one rest = record {
  quiet = quiet_twice i j k now one.quiet rest.quiet;
  sound = rest.sound;
  allowed = λ h. rest.allowed (one.allowed h);
  fewer = λ n h. one.fewer n (rest.fewer n h);
  others = λ n h. rest.others n (λ r found. h r (inr found)) ∙ one.others n (λ r found. h r (first r found));
  done = done_of;
}
  where
    first : (r : Request) → IsIn r (q ∷ []) → IsIn r (q ∷ qs)
    first r (inl same) = inl same
    first r (inr none) = absurd none

    done_of : (r : Request) → IsIn r (q ∷ qs) → waits (standing k r.number) ≡ true → dispatch k r now ≡ []
    done_of r (inl same) h = rests_still j k now r rest.quiet (one.done r (inl same) (rest.fewer r.number h))
    done_of r (inr later) h = rest.done r later h

-- a request that moves

moved_fewer : (n q : ℕ) (to : Standing) (w : Option Standing) → waits (Some to) ≡ false → waits (option_map_or Some (cond (nat_eq q n) (Some to) None) w) ≡ true → waits w ≡ true
moved_fewer n q to w not_waiting h = by_test (nat_eq q n) h
  where
    by_test : (b : Bool) → waits (option_map_or Some (cond b (Some to) None) w) ≡ true → waits w ≡ true
    by_test true h = contradicts (waits (Some to)) h not_waiting
    by_test false h = h

moved_self : {A : Type 0} (q : ℕ) (to : Standing) (w : Option Standing) → waits (Some to) ≡ false → waits (option_map_or Some (cond (nat_eq q q) (Some to) None) w) ≡ true → A
moved_self q to w not_waiting h = contradicts (waits (Some to)) (subst (λ b. waits (option_map_or Some (cond b (Some to) None) w) ≡ true) (eq_self q) h) not_waiting

moved_other : (n q : ℕ) (to : Standing) (w : Option Standing) → nat_eq q n ≡ false → option_map_or Some (cond (nat_eq q n) (Some to) None) w ≡ w
moved_other n q to w e = rw e refl

-- what the authority of a connection says of it
pub open_where : (j : Journal) (now : ℕ) (o : Origin) (c : Connection) → is_authoritative j c o now ≡ true → is_open j c ≡ true
open_where j now o c h = and_first (is_open j c) _ h
  where
    and_first : (b d : Bool) → (b && d) ≡ true → b ≡ true
    and_first true d e = refl
    and_first false d e = absurd (true≢false (sym e))

-- a connection in a list of carriers that aren't busy
pub record IsFree (j : Journal) (now : ℕ) (o : Origin) (c : Connection) : Type 0 where
  pub there : IsIn c (connections j)
  pub authority : is_authoritative j c o now ≡ true
  pub idle : is_busy j c ≡ false

pub free_of : (j : Journal) (now : ℕ) (o : Origin) (c : Connection) → IsIn c (free_carriers j o now) → IsFree j now o c
free_of j now o c found =
    let carrier = in_filter (λ (c : Connection). not (is_busy j c)) c (carriers j o now) found in
    let made = in_filter (λ (c : Connection). is_authoritative j c o now) c (connections j) carrier.0 in
    record { there = made.0; authority = made.1; idle = not-true (is_busy j c) carrier.1 }

may_send : (j : Journal) (now : ℕ) (q : Request) (c : Connection) → Sound j → newest_moment j ≡ now → IsIn q (requests j) → IsFree j now q.origin c → MaySend j q.number c.number
may_send j now q c sound moment asked free = record {
  request = q;
  connection = c;
  asked = find_apart (λ (r : Request). r.number) (requests j) q sound.requests_apart asked;
  made = find_apart (λ (c : Connection). c.number) (connections j) c sound.connections_apart free.there;
  open_now = open_where j now q.origin c free.authority;
  authoritative = subst (λ t. is_authoritative j c q.origin t ≡ true) (sym moment) free.authority;
  free = free.idle;
}

may_refuse : (j : Journal) (now : ℕ) (q : Request) → Sound j → newest_moment j ≡ now → IsIn q (requests j) → carriers j q.origin now ≡ [] → usable_routes j q now ≡ [] → MayRefuse j q.number
may_refuse j now q sound moment asked no_carrier no_route = record {
  request = q;
  asked = find_apart (λ (r : Request). r.number) (requests j) q sound.requests_apart asked;
  no_authority = subst (λ t. All (λ c. is_authoritative j c q.origin t ≡ false) (connections j)) (sym moment)
      (all_from_in (λ c. is_authoritative j c q.origin now ≡ false) (connections j) (none_left (λ c. is_authoritative j c q.origin now) (connections j) no_carrier));
  no_route = subst (λ t. All (λ r. is_usable j q r t ≡ false) (routes j q.origin t)) (sym moment)
      (all_from_in (λ r. is_usable j q r now ≡ false) (routes j q.origin now) (none_left (λ r. is_usable j q r now) (routes j q.origin now) no_route));
}

settles_open : (j : Journal) (now : ℕ) (o : Origin) (r : Route) → Sound j → Settles j (Taken (OpenTo (length (attempts j) + 1) o r) ∷ j) now []
settles_open j now o r sound = record { quiet = quiet_open j now _ o r; sound = sound_open j o r sound; allowed = λ h. (tt, h); fewer = λ n h. h; others = λ n h. refl; done = λ q none. absurd none }

-- what is opened beside a send
beside_settles : (j : Journal) (a : Action) (now : ℕ) (o : Origin) (beside : Option Route) → attempts (Taken a ∷ j) ≡ attempts j → Sound (Taken a ∷ j) → Settles (Taken a ∷ j) (with_actions (Taken a ∷ j) (opened_beside j o beside)) now []
beside_settles j a now o None same sound = settles_none (Taken a ∷ j) now sound
beside_settles j a now o (Some r) same sound = by_use (is_in_use j o r)
  where
    by_use : (b : Bool) → Settles (Taken a ∷ j) (with_actions (Taken a ∷ j) (cond b [] (opening j o r ∷ []))) now []
    by_use true = settles_none (Taken a ∷ j) now sound
    by_use false = subst (λ as'. Settles (Taken a ∷ j) (Taken (OpenTo (length as' + 1) o r) ∷ Taken a ∷ j) now []) same (settles_open (Taken a ∷ j) now o r sound)

-- one request, by the case of its dispatch
decided : (j : Journal) (now : ℕ) (q : Request) (beside : Option Route) (free : Option Connection) (pending : Bool) (usable : List Route) (cs : List Connection)
    → best j q.origin now (free_carriers j q.origin now) ≡ free → list_any (has_pending j q.origin) (usable_routes j q now) ≡ pending → usable_routes j q now ≡ usable → carriers j q.origin now ≡ cs
    → Sound j → newest_moment j ≡ now → IsIn q (requests j) → waits (standing j q.number) ≡ true
    → Settles j (with_actions j (decide j q now beside free pending usable cs)) now (q ∷ [])
decided j now q beside (Some c) pending usable cs is_best is_pending is_usable is_carriers sound moment asked waiting =
    settles_more j (Taken (send j q now c) ∷ j) _ now q [] sent (beside_settles j (send j q now c) now q.origin beside refl sent.sound)
  where
    c_free : IsFree j now q.origin c
    c_free = free_of j now q.origin c (best_in j q.origin now c (free_carriers j q.origin now) is_best)

    done_of : (r : Request) → IsIn r (q ∷ []) → waits (standing (Taken (send j q now c) ∷ j) r.number) ≡ true → dispatch (Taken (send j q now c) ∷ j) r now ≡ []
    done_of r (inl same) h = moved_self q.number (OutOn c.number) (standing j q.number) refl (subst (λ (x : Request). waits (standing (Taken (send j q now c) ∷ j) x.number) ≡ true) same h)
    done_of r (inr none) h = absurd none

    sent : Settles j (Taken (send j q now c) ∷ j) now (q ∷ [])
    sent = record {
      quiet = quiet_send j now q.number c.number _ _;
      sound = sound_send j q.number c.number _ _ waiting (sound.newest q asked) (sound.ended c c_free.there) sound;
      allowed = λ h. (may_send j now q c sound moment asked c_free, h);
      fewer = λ n. moved_fewer n q.number (OutOn c.number) (standing j n) refl;
      others = λ n h. moved_other n q.number (OutOn c.number) (standing j n) (h q (inl refl));
      done = done_of;
    }
decided j now q beside None true usable cs is_best is_pending is_usable is_carriers sound moment asked waiting = record {
  quiet = quiet_same j now;
  sound = sound;
  allowed = λ h. h;
  fewer = λ n h. h;
  others = λ n h. refl;
  done = done_of;
}
  where
    done_of : (r : Request) → IsIn r (q ∷ []) → waits (standing j r.number) ≡ true → dispatch j r now ≡ []
    done_of r (inl same) h = subst (λ x. dispatch j x now ≡ []) (sym same) (rested j q now (first_alternative j q.origin now) _ _ _ _ (is_best, inl is_pending))
    done_of r (inr none) h = absurd none
decided j now q beside None false (route ∷ usable) cs is_best is_pending is_usable is_carriers sound moment asked waiting = record {
  quiet = quiet_open j now _ q.origin route;
  sound = sound_open j q.origin route sound;
  allowed = λ h. (tt, h);
  fewer = λ n h. h;
  others = λ n h. refl;
  done = done_of;
}
  where
    k : Journal
    k = Taken (opening j q.origin route) ∷ j

    no_best : best k q.origin now (free_carriers k q.origin now) ≡ None
    no_best = best_none k q.origin now (free_carriers k q.origin now) (none_freed j k now q.origin (quiet_open j now _ q.origin route) (none_best j q.origin now (free_carriers j q.origin now) is_best))

    has_one : list_any (has_pending k q.origin) (usable_routes k q now) ≡ true
    has_one = ap (list_any (has_pending k q.origin)) (usable_routes_same j k now q (quiet_open j now _ q.origin route) ∙ is_usable) ∙ ap (λ b. b || list_any (has_pending k q.origin) usable) (opened_pending j q.origin route sound)

    done_of : (r : Request) → IsIn r (q ∷ []) → waits (standing k r.number) ≡ true → dispatch k r now ≡ []
    done_of r (inl same) h = subst (λ x. dispatch k x now ≡ []) (sym same) (rested k q now (first_alternative k q.origin now) _ _ _ _ (no_best, inl has_one))
    done_of r (inr none) h = absurd none
decided j now q beside None false [] (c ∷ cs) is_best is_pending is_usable is_carriers sound moment asked waiting = record {
  quiet = quiet_same j now;
  sound = sound;
  allowed = λ h. h;
  fewer = λ n h. h;
  others = λ n h. refl;
  done = done_of;
}
  where
    done_of : (r : Request) → IsIn r (q ∷ []) → waits (standing j r.number) ≡ true → dispatch j r now ≡ []
    done_of r (inl same) h = subst (λ x. dispatch j x now ≡ []) (sym same) (rested j q now (first_alternative j q.origin now) _ _ _ _ (is_best, inr (is_usable, ap is_none_left is_carriers)))
    done_of r (inr none) h = absurd none
decided j now q beside None false [] [] is_best is_pending is_usable is_carriers sound moment asked waiting = record {
  quiet = quiet_refuse j now q.number;
  sound = sound_refuse j q.number waiting sound;
  allowed = λ h. (may_refuse j now q sound moment asked is_carriers is_usable, h);
  fewer = λ n. moved_fewer n q.number Over (standing j n) refl;
  others = λ n h. moved_other n q.number Over (standing j n) (h q (inl refl));
  done = done_of;
}
  where
    done_of : (r : Request) → IsIn r (q ∷ []) → waits (standing (Taken (Refuse q.number) ∷ j) r.number) ≡ true → dispatch (Taken (Refuse q.number) ∷ j) r now ≡ []
    done_of r (inl same) h = moved_self q.number Over (standing j q.number) refl (subst (λ (x : Request). waits (standing (Taken (Refuse q.number) ∷ j) x.number) ≡ true) same h)
    done_of r (inr none) h = absurd none

-- one request that waits
pub settles_one : (j : Journal) (now : ℕ) (q : Request) → Sound j → newest_moment j ≡ now → IsIn q (requests j) → waits (standing j q.number) ≡ true → Settles j (with_actions j (dispatch j q now)) now (q ∷ [])
settles_one j now q sound moment asked waiting = decided j now q (first_alternative j q.origin now) _ _ _ _ refl refl refl refl sound moment asked waiting

-- the requests after the first, once it is settled
pub waits_later : (j k : Journal) (now : ℕ) (q : Request) (qs : List Request) → Settles j k now (q ∷ []) → AreApart (λ (r : Request). r.number) (q ∷ qs) → ((r : Request) → IsIn r (q ∷ qs) → IsIn r (requests j) × (waits (standing j r.number) ≡ true)) → (r : Request) → IsIn r qs → IsIn r (requests k) × (waits (standing k r.number) ≡ true)
waits_later j k now q qs one apart all r found = (
  subst (IsIn r) (sym one.quiet.requests_same) (all r (inr found)).0,
  subst (λ w. waits w ≡ true) (sym (one.others r.number (λ p only. apart_from p only))) (all r (inr found)).1,
)
  where
    apart_from : (p : Request) → IsIn p (q ∷ []) → nat_eq p.number r.number ≡ false
    apart_from p (inl same) = subst (λ (x : Request). nat_eq x.number r.number ≡ false) (sym same) (apart.0 r found)
    apart_from p (inr none) = absurd none

-- all requests of a list in which no two have one number, and which all wait
pub settles : (j : Journal) (now : ℕ) (qs : List Request) → Sound j → newest_moment j ≡ now → AreApart (λ (r : Request). r.number) qs → ((q : Request) → IsIn q qs → IsIn q (requests j) × (waits (standing j q.number) ≡ true)) → Settles j (settle j now qs) now qs
settles j now [] sound moment apart all = settles_none j now sound
settles j now (q ∷ qs) sound moment apart all =
    let k : Journal = with_actions j (dispatch j q now) in
    let here = all q (inl refl) in
    let one : Settles j k now (q ∷ []) = settles_one j now q sound moment here.0 here.1 in
    settles_more j k (settle k now qs) now q qs one
    (settles k now qs one.sound (one.quiet.moment_same ∙ moment) apart.1 (waits_later j k now q qs one apart all))

-- where nothing is to be done for any of them, nothing is done
pub settle_nothing : (j : Journal) (now : ℕ) (qs : List Request) → ((q : Request) → IsIn q qs → dispatch j q now ≡ []) → settle j now qs ≡ j
settle_nothing j now [] rests = refl
settle_nothing j now (q ∷ qs) rests = ap (λ as'. settle (with_actions j as') now qs) (rests q (inl refl)) ∙ settle_nothing j now qs (λ r found. rests r (inr found))

-- a request for which nothing is to be done may wait
pub may_wait : (j : Journal) (q : Request) → dispatch j q (newest_moment j) ≡ [] → MayWait j q
may_wait j q rests =
    let was = resting j q now (first_alternative j q.origin now) (best j q.origin now (free_carriers j q.origin now)) (list_any (has_pending j q.origin) (usable_routes j q now)) (usable_routes j q now) (carriers j q.origin now) rests in
    by_reason (none_best j q.origin now (free_carriers j q.origin now) was.0) was.1
  where
    now : ℕ
    now = newest_moment j

    awaited : list_any (has_pending j q.origin) (usable_routes j q now) ≡ true → MayWait j q
    awaited some =
        let found = some_in (has_pending j q.origin) (usable_routes j q now) some in
        let usable = in_filter (λ r. is_usable j q r now) found.0 (routes j q.origin now) found.1 in
        inl (any_from_in (λ r. (is_usable j q r now ≡ true) × (has_pending j q.origin r ≡ true)) found.0 (routes j q.origin now) usable.0 (usable.1, found.2))

    first_busy : (cs : List Connection) → carriers j q.origin now ≡ cs → filter (λ c. not (is_busy j c)) cs ≡ [] → is_none_left cs ≡ false → MayWait j q
    first_busy [] is none some = absurd (true≢false some)
    first_busy (c ∷ cs) is none some =
        let there : IsIn c (carriers j q.origin now) = subst (IsIn c) (sym is) (inl refl) in
        let made = in_filter (λ (c : Connection). is_authoritative j c q.origin now) c (connections j) there in
        inr (any_from_in (λ c. (is_authoritative j c q.origin now ≡ true) × (is_busy j c ≡ true)) c (connections j) made.0 (made.1, not-false (is_busy j c) (none_left (λ c. not (is_busy j c)) (c ∷ cs) none c (inl refl))))

    by_reason : filter (λ c. not (is_busy j c)) (carriers j q.origin now) ≡ [] → ((list_any (has_pending j q.origin) (usable_routes j q now) ≡ true) ⊎ ((usable_routes j q now ≡ []) × (is_none_left (carriers j q.origin now) ≡ false))) → MayWait j q
    by_reason none (inl some) = awaited some
    by_reason none (inr h) = first_busy (carriers j q.origin now) refl none h.1

-- the effects of a fact

abbrev pub IsEffect : Action → Type 0
IsEffect (Lost q) = Unit {0}
IsEffect (Retry q) = Unit {0}
IsEffect (Close c count) = Unit {0}
IsEffect (Alternatives o value) = Unit {0}
IsEffect (Field q reason place) = Unit {0}
IsEffect (Ignored c kind reason place) = Unit {0}
IsEffect (Origins c taken skipped) = Unit {0}
IsEffect (Malformed name item reason place) = Unit {0}
IsEffect _ = ⊥

abbrev pub AreEffects : List Action → Type 0
AreEffects [] = Unit {0}
AreEffects (a ∷ as') = IsEffect a × AreEffects as'

pub record Effected (before after : Journal) : Type 0 where
  pub sound : Sound before → Sound after
  pub allowed : EachAction IsAllowed before → EachAction IsAllowed after
  pub moment : newest_moment after ≡ newest_moment before

effected_one : (j : Journal) (a : Action) → IsEffect a → Effected j (Taken a ∷ j)
effected_one j (Lost q) h = record { sound = sound_lost j q; allowed = λ h. (tt, h); moment = refl }
effected_one j (Retry q) h = record { sound = sound_retry j q; allowed = λ h. (tt, h); moment = refl }
effected_one j (Close c count) h = record { sound = sound_close j c count; allowed = λ h. (tt, h); moment = refl }
effected_one j (Alternatives o value) h = record { sound = sound_alternatives j o value; allowed = λ h. (tt, h); moment = refl }
effected_one j (Field q reason place) h = record { sound = sound_field j q reason place; allowed = λ h. (tt, h); moment = refl }
effected_one j (Ignored c kind reason place) h = record { sound = sound_ignored j c kind reason place; allowed = λ h. (tt, h); moment = refl }
effected_one j (Origins c taken skipped) h = record { sound = sound_origins j c taken skipped; allowed = λ h. (tt, h); moment = refl }
effected_one j (Malformed name item reason place) h = record { sound = sound_malformed j name item reason place; allowed = λ h. (tt, h); moment = refl }
effected_one j _ h = absurd h

pub effected : (j : Journal) (as' : List Action) → AreEffects as' → Effected j (with_actions j as')
effected j [] h = record { sound = λ s. s; allowed = λ h. h; moment = refl }
effected j (a ∷ as') h =
    let one = effected_one j a h.0 in
    let rest = effected (Taken a ∷ j) as' h.1 in
    record { sound = λ s. rest.sound (one.sound s); allowed = λ h. rest.allowed (one.allowed h); moment = rest.moment ∙ one.moment }
