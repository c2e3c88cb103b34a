-- At which step a value was taken for an origin, and what is live since.
use Rattle.std.proofs.Common.{◌≡◌, ℕ, Bool, true, false, cond, not, ◌||◌, List, [], ◌∷◌, ◌++◌, Option, Some, None, filter, refl, ap, sym, ◌∙◌, subst}
use Rattle.std.specs.List.{list_any}
use Rattle.origin_values.specs.Equality.{origin_eq}
use Rattle.origin_values.specs.declared.origin.Origin.{Origin}
use Rattle.altsvc_grammar.specs.declared.alt.Alt.{Alt}
use Rattle.route_events.specs.declared.action.Action.{Action}
use Rattle.route_events.specs.declared.action.Action.TheVariants.{OpenTo, SendOn, Refuse, Lost, Retry, Close, Alternatives, Field, Ignored, Origins, Malformed, Who as WhoAction, Stats as StatsAction}
use Rattle.route_events.specs.declared.fact.Fact.{Fact}
use Rattle.route_events.specs.declared.fact.Fact.TheVariants.{Request as RequestFact, Opened, Failed, Closed, Response, Input, Delivered, Answer, Network, Tick, Who, Stats}
use Rattle.route_events.specs.declared.request.Request.{Request}
use Rattle.route_events.specs.declared.route.Route.{Route}
use Rattle.route_events.specs.declared.connection.Connection.{Connection}
use Rattle.route_events.specs.Alternatives.{left_by, live}
use Rattle.route_events.specs.Dispatch.{send, opening, opened_beside, is_in_use, decide, dispatch}
use Rattle.route_events.specs.Frames.{octets_on, deliveries}
use Rattle.route_events.specs.Journal.{Entry, Happened, Cut, Taken, Journal}
use Rattle.route_events.specs.Misdirection.{gives_up}
use Rattle.route_events.specs.Requests.{waiting}
use Rattle.route_events.specs.Step.{with_actions, part_effects, with_part, with_fact, settle, settled, follow, answer_to, step, newest_actions}
use Rattle.route_events.proofs.Lists.{IsIn, in_filter}
use Rattle.route_events.proofs.Parts.{IsBehind, AreBehind, all_behind}
use Rattle.both_ends.specs.Deliveries.{takes_for}
use Rattle.both_ends.specs.Histories.{after_told, actions_by}

-- a test of one more at the end
pub any_end : {X : Type 0} (p : X → Bool) (xs : List X) (x : X) → list_any p (xs ++ x ∷ []) ≡ (list_any p xs || p x)
any_end p [] x = by_test (p x)
  where
    by_test : (b : Bool) → (b || false) ≡ b
    by_test true = refl
    by_test false = refl
any_end p (y ∷ xs) x = by_test (p y) (any_end p xs x)
  where
    by_test : (b : Bool) → list_any p (xs ++ x ∷ []) ≡ (list_any p xs || p x) → (b || list_any p (xs ++ x ∷ [])) ≡ ((b || list_any p xs) || p x)
    by_test true e = refl
    by_test false e = e

pub neither : (b c : Bool) → (b || c) ≡ false → (b ≡ false) × (c ≡ false)
neither false false e = (refl, refl)
neither false true e = cc
neither true c e = cc

-- what a fact leaves was there
left_in : (older : Journal) (o : Origin) (fact : Fact) (alts : List Alt) (a : Alt) → IsIn a (left_by older o fact alts) → IsIn a alts
left_in older o (RequestFact number origin) alts a i = i
left_in older o (Opened attempt proto addr port names) alts a i = i
left_in older o (Failed attempt) alts a i = i
left_in older o (Closed conn) alts a i = i
left_in older o (Response request status age altsvc) alts a i = (in_filter (λ (b : Alt). not (gives_up older o (Response request status age altsvc) b.key)) a alts i).0
left_in older o (Input conn bytes) alts a i = i
left_in older o (Delivered conn head payload) alts a i = i
left_in older o (Answer name ttl body) alts a i = i
left_in older o Network alts a i = (in_filter (λ (b : Alt). b.persist) a alts i).0
left_in older o Tick alts a i = i
left_in older o (Who origin) alts a i = i
left_in older o Stats alts a i = i

-- what another action leaves
untaken : (act : Action) (older : Journal) (o : Origin) (at : ℕ) → takes_for o act ≡ false → live (Taken act ∷ older) o at ≡ live older o at
untaken (OpenTo attempt origin route) older o at e = refl
untaken (SendOn request conn stream used) older o at e = refl
untaken (Refuse request) older o at e = refl
untaken (Lost request) older o at e = refl
untaken (Retry request) older o at e = refl
untaken (Close conn length) older o at e = refl
untaken (Alternatives p value) older o at e = rw e refl
untaken (Field request reason place) older o at e = refl
untaken (Ignored conn kind reason place) older o at e = refl
untaken (Origins conn taken skipped) older o at e = refl
untaken (Malformed name item reason place) older o at e = refl
untaken (WhoAction origin conns) older o at e = refl
untaken (StatsAction alternatives answers broken connections waiting_now) older o at e = refl

-- the journal below the newest step
abbrev pub below : Journal → Journal
below [] = []
below (Happened moment fact true ∷ older) = older
below (Happened moment fact false ∷ older) = below older
below (Cut moment conn length ∷ older) = below older
below (Taken action ∷ older) = below older

-- where the newest step takes no value for an origin, what is live was live below it
not_taken : (j : Journal) (o : Origin) (at : ℕ) (a : Alt) → list_any (takes_for o) (newest_actions j) ≡ false → IsIn a (live j o at) → IsIn a (live (below j) o at)
not_taken [] o at a none i = i
not_taken (Happened moment fact true ∷ older) o at a none i = left_in older o fact (live older o at) a i
not_taken (Happened moment fact false ∷ older) o at a none i = not_taken older o at a none (left_in older o fact (live older o at) a i)
not_taken (Cut moment conn length ∷ older) o at a none i = not_taken older o at a none i
not_taken (Taken act ∷ older) o at a none i =
    let both = neither (list_any (takes_for o) (newest_actions older)) (takes_for o act) (sym (any_end (takes_for o) (newest_actions older) act) ∙ none) in
    not_taken older o at a both.0 (subst (IsIn a) (untaken act older o at both.1) i)

-- below a step stands the journal before it

below_with : (j : Journal) (as' : List Action) → below (with_actions j as') ≡ below j
below_with j [] = refl
below_with j (a ∷ as') = below_with (Taken a ∷ j) as'

below_settle : (j : Journal) (now : ℕ) (qs : List Request) → below (settle j now qs) ≡ below j
below_settle j now [] = refl
below_settle j now (q ∷ qs) = below_settle (with_actions j (dispatch j q now)) now qs ∙ below_with j (dispatch j q now)

below_settled : (j : Journal) (now : ℕ) (part : Entry) → below (settled (with_part j now part) now) ≡ below (part ∷ j)
below_settled j now part = below_settle (with_part j now part) now (waiting (with_part j now part)) ∙ below_with (part ∷ j) (part_effects j now part)

below_behind : (j : Journal) (now conn : ℕ) (part : Entry) → IsBehind now conn part → below (part ∷ j) ≡ below j
below_behind j now conn (Happened moment (Delivered to head payload) false) behind = refl
below_behind j now conn (Cut moment to count) behind = refl
below_behind j now conn _ behind = absurd behind

below_follow : (j : Journal) (now conn : ℕ) (parts : List Entry) → AreBehind now conn parts → below (follow j now parts) ≡ below j
below_follow j now conn [] behind = refl
below_follow j now conn (part ∷ parts) behind =
    below_follow (settled (with_part j now part) now) now conn parts behind.1 ∙ below_settled j now part ∙ below_behind j now conn part behind.0

pub below_step : (j : Journal) (now : ℕ) (fact : Fact) → below (step j now fact) ≡ j
below_step j now (Input conn bytes) =
    below_follow (settled (with_fact j now (Input conn bytes)) now) now conn (deliveries now conn (octets_on j conn) bytes) (all_behind now conn (octets_on j conn) bytes)
    ∙ below_settled j now (Happened now (Input conn bytes) true)
below_step j now fact = below_with (settled (with_fact j now fact) now) (answer_to (settled (with_fact j now fact) now) now fact) ∙ below_settled j now (Happened now fact true)

pub live_before : (j : Journal) (now : ℕ) (told : Option Fact) (o : Origin) (at : ℕ) (a : Alt) → list_any (takes_for o) (actions_by j now told) ≡ false → IsIn a (live (after_told j now told) o at) → IsIn a (live j o at)
live_before j now None o at a none i = i
live_before j now (Some fact) o at a none i = subst (λ k. IsIn a (live k o at)) (below_step j now fact) (not_taken (step j now fact) o at a none i)

-- settling takes no value, and so leaves what is live

pub record Leaves (before after : Journal) (o : Origin) (at : ℕ) : Type 0 where
  pub taken : list_any (takes_for o) (newest_actions after) ≡ list_any (takes_for o) (newest_actions before)
  pub live_still : live after o at ≡ live before o at

leaves_itself : (j : Journal) (o : Origin) (at : ℕ) → Leaves j j o at
leaves_itself j o at = record { taken = refl; live_still = refl }

leaves_twice : (i j k : Journal) (o : Origin) (at : ℕ) → Leaves i j o at → Leaves j k o at → Leaves i k o at
leaves_twice i j k o at a b = record { taken = b.taken ∙ a.taken; live_still = b.live_still ∙ a.live_still }

or_none : (b : Bool) → (b || false) ≡ b
or_none true = refl
or_none false = refl

one_more : (j : Journal) (o : Origin) (at : ℕ) (act : Action) → takes_for o act ≡ false → Leaves j (Taken act ∷ j) o at
one_more j o at act e = record {
  taken = any_end (takes_for o) (newest_actions j) act ∙ ap (λ b. list_any (takes_for o) (newest_actions j) || b) e ∙ or_none (list_any (takes_for o) (newest_actions j));
  live_still = untaken act j o at e;
}

leaves_beside : (j : Journal) (o : Origin) (at : ℕ) (q : Request) (now : ℕ) (c : Connection) (beside : Option Route) → Leaves j (with_actions (Taken (send j q now c) ∷ j) (opened_beside j q.origin beside)) o at
leaves_beside j o at q now c None = one_more j o at (send j q now c) refl
leaves_beside j o at q now c (Some r) = by_use (is_in_use j q.origin r)
  where
    by_use : (b : Bool) → Leaves j (with_actions (Taken (send j q now c) ∷ j) (cond b [] (opening j q.origin r ∷ []))) o at
    by_use true = one_more j o at (send j q now c) refl
    by_use false = leaves_twice j (Taken (send j q now c) ∷ j) _ o at (one_more j o at (send j q now c) refl) (one_more (Taken (send j q now c) ∷ j) o at (opening j q.origin r) refl)

leaves_decided : (j : Journal) (o : Origin) (at : ℕ) (q : Request) (now : ℕ) (beside : Option Route) (free : Option Connection) (pending : Bool) (usable : List Route) (cs : List Connection) → Leaves j (with_actions j (decide j q now beside free pending usable cs)) o at
leaves_decided j o at q now beside (Some c) pending usable cs = leaves_beside j o at q now c beside
leaves_decided j o at q now beside None true usable cs = leaves_itself j o at
leaves_decided j o at q now beside None false (r ∷ usable) cs = one_more j o at (opening j q.origin r) refl
leaves_decided j o at q now beside None false [] (c ∷ cs) = leaves_itself j o at
leaves_decided j o at q now beside None false [] [] = one_more j o at (Refuse q.number) refl

pub leaves_settled : (j : Journal) (o : Origin) (at now : ℕ) (qs : List Request) → Leaves j (settle j now qs) o at
leaves_settled j o at now [] = leaves_itself j o at
leaves_settled j o at now (q ∷ qs) = leaves_twice j (with_actions j (dispatch j q now)) _ o at (leaves_decided j o at q now _ _ _ _ _) (leaves_settled (with_actions j (dispatch j q now)) o at now qs)
