-- What an action of dispatch leaves as it is. The lemmas below `Quiet` know the definitions by its fields alone; the
-- lemmas on each action say that the definitions have them.
use Rattle.std.proofs.Common.{◌≡◌, ◌⊎◌, inl, inr, ℕ, ◌+◌, Bool, true, false, cond, not, ◌&&◌, nat_eq, List, [], ◌∷◌, ◌++◌, length, Option, Some, None, is_some, filter, refl, ap, sym, ◌∙◌, arith, true≢false}
use Rattle.std.specs.List.{list_any}
use Rattle.std.proofs.lemmas.List.Folds.{list_any-append}
use Rattle.origin_values.specs.declared.host.Host.{Host}
use Rattle.origin_values.specs.declared.origin.Origin.{Origin}
use Rattle.route_events.specs.declared.action.Action.TheVariants.{OpenTo, SendOn, Refuse, Who, Stats}
use Rattle.route_events.specs.declared.route.Route.{Route}
use Rattle.route_events.specs.declared.request.Request.{Request}
use Rattle.route_events.specs.declared.attempt.Attempt.{Attempt}
use Rattle.route_events.specs.declared.connection.Connection.{Connection}
use Rattle.route_events.specs.declared.fact.Fact.TheVariants.{Tick}
use Rattle.route_events.specs.Journal.{Happened, Taken, Journal, newest_moment}
use Rattle.route_events.specs.Attempts.{attempts, has_ended, pending}
use Rattle.route_events.specs.Requests.{requests}
use Rattle.route_events.specs.Connections.{connections, outstanding, is_busy, is_http11, is_none_out}
use Rattle.route_events.specs.Authority.{is_authoritative, has_basis}
use Rattle.route_events.specs.Backoff.{is_on}
use Rattle.route_events.specs.Routes.{routes, is_usable, usable_routes, has_pending}
use Rattle.route_events.specs.Dispatch.{is_by_alternative, carriers, free_carriers, first_of, or_else, best, first_alternative, decide, dispatch}
use Rattle.route_events.proofs.RouteTests.{route_self}
use Rattle.route_events.proofs.Lists.{IsIn, in_filter, filter_same, filter_fewer, filter_end, list_any_more}
use Rattle.route_events.proofs.Sound.{Sound}
use Rattle.std.proofs.lemmas.Bool.{or_left, or_right}
use Rattle.origin_values.proofs.Equal.{origin_self}

pub record Quiet (before after : Journal) (now : ℕ) : Type 0 where
  pub moment_same : newest_moment after ≡ newest_moment before
  pub requests_same : requests after ≡ requests before
  pub connections_same : connections after ≡ connections before
  pub authority_same : (c : Connection) (o : Origin) → is_authoritative after c o now ≡ is_authoritative before c o now
  pub routes_same : (o : Origin) → routes after o now ≡ routes before o now
  pub usable_same : (q : Request) (r : Route) → is_usable after q r now ≡ is_usable before q r now
  pub busy_stays : (c : Connection) → is_busy before c ≡ true → is_busy after c ≡ true
  pub pending_stays : (o : Origin) (r : Route) → has_pending before o r ≡ true → has_pending after o r ≡ true

pub quiet_same : (j : Journal) (now : ℕ) → Quiet j j now
quiet_same j now = record { moment_same = refl; requests_same = refl; connections_same = refl; authority_same = λ c o. refl; routes_same = λ o. refl; usable_same = λ q r. refl; busy_stays = λ c h. h; pending_stays = λ o r h. h }

pub quiet_twice : (i j k : Journal) (now : ℕ) → Quiet i j now → Quiet j k now → Quiet i k now
quiet_twice i j k now a b = record {
  moment_same = b.moment_same ∙ a.moment_same;
  requests_same = b.requests_same ∙ a.requests_same;
  connections_same = b.connections_same ∙ a.connections_same;
  authority_same = λ c o. b.authority_same c o ∙ a.authority_same c o;
  routes_same = λ o. b.routes_same o ∙ a.routes_same o;
  usable_same = λ q r. b.usable_same q r ∙ a.usable_same q r;
  busy_stays = λ c h. b.busy_stays c (a.busy_stays c h);
  pending_stays = λ o r h. b.pending_stays o r (a.pending_stays o r h);
}

pub carriers_same : (j k : Journal) (now : ℕ) (o : Origin) → Quiet j k now → carriers k o now ≡ carriers j o now
carriers_same j k now o quiet = ap (filter (λ c. is_authoritative k c o now)) quiet.connections_same ∙ filter_same (λ c. is_authoritative k c o now) (λ c. is_authoritative j c o now) (connections j) (λ c. quiet.authority_same c o)

pub usable_routes_same : (j k : Journal) (now : ℕ) (q : Request) → Quiet j k now → usable_routes k q now ≡ usable_routes j q now
usable_routes_same j k now q quiet = ap (filter (λ r. is_usable k q r now)) (quiet.routes_same q.origin) ∙ filter_same (λ r. is_usable k q r now) (λ r. is_usable j q r now) (routes j q.origin now) (λ r. quiet.usable_same q r)

not_from_not : (a b : Bool) → (a ≡ true → b ≡ true) → not b ≡ true → not a ≡ true
not_from_not true true h e = e
not_from_not true false h e = absurd (true≢false (sym (h refl)))
not_from_not false b h e = refl

pub none_freed : (j k : Journal) (now : ℕ) (o : Origin) → Quiet j k now → free_carriers j o now ≡ [] → free_carriers k o now ≡ []
none_freed j k now o quiet none =
    ap (filter (λ c. not (is_busy k c))) (carriers_same j k now o quiet)
    ∙ filter_fewer (λ c. not (is_busy j c)) (λ c. not (is_busy k c)) (carriers j o now) (λ c. not_from_not (is_busy j c) (is_busy k c) (quiet.busy_stays c)) none

-- the best of a list

pub best_none : (j : Journal) (o : Origin) (now : ℕ) (cs : List Connection) → cs ≡ [] → best j o now cs ≡ None
best_none j o now [] e = refl
best_none j o now (c ∷ cs) e = cc

some_else : {X A : Type 0} (w : Option X) (x : X) → or_else w (Some x) ≡ None → A
some_else None x e = absurd (true≢false (ap is_some e))
some_else (Some y) x e = absurd (true≢false (ap is_some e))

else_none : {X : Type 0} (v w : Option X) → or_else v w ≡ None → w ≡ None
else_none None w e = e
else_none (Some x) w e = absurd (true≢false (ap is_some e))

pub none_best : (j : Journal) (o : Origin) (now : ℕ) (cs : List Connection) → best j o now cs ≡ None → cs ≡ []
none_best j o now [] e = refl
none_best j o now (c ∷ cs) e = some_else _ c (else_none _ _ e)

first_in : (c : Connection) (cs : List Connection) → first_of cs ≡ Some c → IsIn c cs
first_in c [] e = absurd (true≢false (sym (ap is_some e)))
first_in c (d ∷ ds) e = inl (cc)

-- the first that passes, or what the rest gives
else_in : (p : Connection → Bool) (c : Connection) (cs : List Connection) (rest : Option Connection) → (rest ≡ Some c → IsIn c cs) → or_else (first_of (filter p cs)) rest ≡ Some c → IsIn c cs
else_in p c cs rest h e = by_first (first_of (filter p cs)) refl e
  where
    by_first : (w : Option Connection) → first_of (filter p cs) ≡ w → or_else w rest ≡ Some c → IsIn c cs
    by_first None is e = h e
    by_first (Some d) is e = (in_filter p c cs (first_in c (filter p cs) (is ∙ e))).0

pub best_in : (j : Journal) (o : Origin) (now : ℕ) (c : Connection) (cs : List Connection) → best j o now cs ≡ Some c → IsIn c cs
best_in j o now c cs e = else_in (λ (c : Connection). has_basis j c o now && is_by_alternative c.route) c cs _ (else_in (λ c. has_basis j c o now) c cs _ (first_in c cs)) e

-- when nothing is done for a request

abbrev pub is_none_left : {X : Type 0} → List X → Bool
is_none_left [] = true
is_none_left (x ∷ xs) = false

abbrev pub IsResting : Option Connection → Bool → List Route → List Connection → Type 0
IsResting free pending usable carriers = (free ≡ None) × ((pending ≡ true) ⊎ ((usable ≡ []) × (is_none_left carriers ≡ false)))

cons_nil : {X A : Type 0} (x : X) (xs : List X) → x ∷ xs ≡ [] → A
cons_nil x xs e = absurd (true≢false (sym (ap is_none_left e)))

pub resting : (j : Journal) (q : Request) (now : ℕ) (beside : Option Route) (free : Option Connection) (pending : Bool) (usable : List Route) (cs : List Connection) → decide j q now beside free pending usable cs ≡ [] → IsResting free pending usable cs
resting j q now beside (Some c) pending usable cs e = cons_nil _ _ e
resting j q now beside None true usable cs e = (refl, inl refl)
resting j q now beside None false (r ∷ usable) cs e = cons_nil _ _ e
resting j q now beside None false [] (c ∷ cs) e = (refl, inr (refl, refl))
resting j q now beside None false [] [] e = cons_nil _ _ e

pub rested : (j : Journal) (q : Request) (now : ℕ) (beside : Option Route) (free : Option Connection) (pending : Bool) (usable : List Route) (cs : List Connection) → IsResting free pending usable cs → decide j q now beside free pending usable cs ≡ []
rested j q now beside (Some c) pending usable cs h = absurd (true≢false (ap is_some h.0))
rested j q now beside None true usable cs h = refl
rested j q now beside None false (r ∷ usable) cs (e, inl p) = absurd (true≢false (sym p))
rested j q now beside None false (r ∷ usable) cs (e, inr p) = cons_nil _ _ p.0
rested j q now beside None false [] (c ∷ cs) h = refl
rested j q now beside None false [] [] (e, inl p) = absurd (true≢false (sym p))
rested j q now beside None false [] [] (e, inr p) = absurd (true≢false p.1)

-- a request for which nothing is to be done stays so
pub rests_still : (j k : Journal) (now : ℕ) (q : Request) → Quiet j k now → dispatch j q now ≡ [] → dispatch k q now ≡ []
rests_still j k now q quiet rests =
    let was = resting j q now (first_alternative j q.origin now) (best j q.origin now (free_carriers j q.origin now)) (list_any (has_pending j q.origin) (usable_routes j q now)) (usable_routes j q now) (carriers j q.origin now) rests in
    let none : best k q.origin now (free_carriers k q.origin now) ≡ None =
    best_none k q.origin now (free_carriers k q.origin now) (none_freed j k now q.origin quiet (none_best j q.origin now (free_carriers j q.origin now) was.0)) in
    rested k q now (first_alternative k q.origin now) (best k q.origin now (free_carriers k q.origin now)) (list_any (has_pending k q.origin) (usable_routes k q now)) (usable_routes k q now) (carriers k q.origin now) (none, by_reason was.1)
  where
    by_reason : ((list_any (has_pending j q.origin) (usable_routes j q now) ≡ true) ⊎ ((usable_routes j q now ≡ []) × (is_none_left (carriers j q.origin now) ≡ false))) → ((list_any (has_pending k q.origin) (usable_routes k q now) ≡ true) ⊎ ((usable_routes k q now ≡ []) × (is_none_left (carriers k q.origin now) ≡ false)))
    by_reason (inl pending) = inl (ap (list_any (has_pending k q.origin)) (usable_routes_same j k now q quiet) ∙ list_any_more (has_pending j q.origin) (has_pending k q.origin) (usable_routes j q now) (quiet.pending_stays q.origin) pending)
    by_reason (inr h) = inr (usable_routes_same j k now q quiet ∙ h.0, ap is_none_left (carriers_same j k now q.origin quiet) ∙ h.1)

-- the actions

and_more : (a b c : Bool) → (b ≡ true → c ≡ true) → (a && b) ≡ true → (a && c) ≡ true
and_more true b c h e = h e
and_more false b c h e = e

-- what is outstanding isn't less after one more send
not_fewer : (b : Bool) (q : ℕ) (out : List ℕ) → not (is_none_out out) ≡ true → not (is_none_out (cond b (out ++ q ∷ []) out)) ≡ true
not_fewer true q [] e = refl
not_fewer true q (r ∷ out) e = refl
not_fewer false q out e = e

pub quiet_send : (j : Journal) (now q c : ℕ) (s : Option ℕ) (u : Option (Host × ℕ)) → Quiet j (Taken (SendOn q c s u) ∷ j) now
quiet_send j now q c s u = record {
  moment_same = refl;
  requests_same = refl;
  connections_same = refl;
  authority_same = λ c o. refl;
  routes_same = λ o. refl;
  usable_same = λ q r. refl;
  busy_stays = λ d. and_more (is_http11 d.proto) _ _ (not_fewer (nat_eq c d.number) q (outstanding j d.number));
  pending_stays = λ o r h. h;
}

pub quiet_refuse : (j : Journal) (now q : ℕ) → Quiet j (Taken (Refuse q) ∷ j) now
quiet_refuse j now q = record {
  moment_same = refl;
  requests_same = refl;
  connections_same = refl;
  authority_same = λ c o. refl;
  routes_same = λ o. refl;
  usable_same = λ q r. refl;
  busy_stays = λ d h. h;
  pending_stays = λ o r h. h;
}

-- the pending attempts after one more start
pub pending_more : (j : Journal) (n : ℕ) (o : Origin) (r : Route) → pending (Taken (OpenTo n o r) ∷ j) ≡ pending j ++ cond (not (has_ended j n)) (record { number = n; origin = o; route = r } ∷ []) []
pending_more j n o r = filter_end (λ (a : Attempt). not (has_ended j a.number)) (attempts j) (record { number = n; origin = o; route = r })

pub quiet_open : (j : Journal) (now n : ℕ) (o : Origin) (r : Route) → Quiet j (Taken (OpenTo n o r) ∷ j) now
quiet_open j now n o r = record {
  moment_same = refl;
  requests_same = refl;
  connections_same = refl;
  authority_same = λ c o. refl;
  routes_same = λ o. refl;
  usable_same = λ q r. refl;
  busy_stays = λ d h. h;
  pending_stays = λ p s h. ap (list_any (is_on p s)) (pending_more j n o r) ∙ list_any-append (is_on p s) (pending j) (cond (not (has_ended j n)) (record { number = n; origin = o; route = r } ∷ []) []) ∙ or_left _ _ h;
}

-- an attempt that was just started is pending
pub opened_pending : (j : Journal) (o : Origin) (r : Route) → Sound j → has_pending (Taken (OpenTo (length (attempts j) + 1) o r) ∷ j) o r ≡ true
opened_pending j o r sound =
    let n : ℕ = length (attempts j) + 1 in
    let fresh : has_ended j n ≡ false = sound.not_ended n (omega arith) in
    let added : List Attempt = cond (not (has_ended j n)) (record { number = n; origin = o; route = r } ∷ []) [] in
    let new : list_any (is_on o r) added ≡ true = rw (fresh, origin_self o, route_self r) refl in
    ap (list_any (is_on o r)) (pending_more j n o r) ∙ list_any-append (is_on o r) (pending j) added ∙ or_right (list_any (is_on o r) (pending j)) (list_any (is_on o r) added) new

-- time that passes within one moment
pub quiet_tick : (j : Journal) → Quiet j (Happened (newest_moment j) Tick true ∷ j) (newest_moment j)
quiet_tick j = record {
  moment_same = refl;
  requests_same = refl;
  connections_same = refl;
  authority_same = λ c o. refl;
  routes_same = λ o. refl;
  usable_same = λ q r. refl;
  busy_stays = λ d h. h;
  pending_stays = λ o r h. h;
}

-- what is counted
pub quiet_counted : (j : Journal) (now alternatives answers broken open_now waiting_now : ℕ) → Quiet j (Taken (Stats alternatives answers broken open_now waiting_now) ∷ j) now
quiet_counted j now alternatives answers broken open_now waiting_now = record {
  moment_same = refl;
  requests_same = refl;
  connections_same = refl;
  authority_same = λ c o. refl;
  routes_same = λ o. refl;
  usable_same = λ q r. refl;
  busy_stays = λ d h. h;
  pending_stays = λ o r h. h;
}

-- what is told who asked
pub quiet_told : (j : Journal) (now : ℕ) (o : Origin) (cs : List ℕ) → Quiet j (Taken (Who o cs) ∷ j) now
quiet_told j now o cs = record {
  moment_same = refl;
  requests_same = refl;
  connections_same = refl;
  authority_same = λ c o. refl;
  routes_same = λ o. refl;
  usable_same = λ q r. refl;
  busy_stays = λ d h. h;
  pending_stays = λ o r h. h;
}
