-- What the parts behind octets, and settling, leave as it is.
use Rattle.std.proofs.Common.{◌≡◌, ℕ, true, false, cond, nat_eq, List, [], ◌∷◌, ◌++◌, Option, Some, None, refl, ap, ◌∙◌, subst}
use Rattle.std.specs.List.{list_any, flat_map}
use Rattle.std.proofs.lemmas.Bool.{or_left, not-true}
use Rattle.alt_base.proofs.Numbers.{eq_self}
use Rattle.alt_base.proofs.Booleans.{contradicts}
use Rattle.h2_framing.specs.Streams.{too_large_of}
use Rattle.route_events.specs.declared.fact.Fact.{Fact}
use Rattle.route_events.specs.declared.fact.Fact.TheVariants.{Input, Delivered}
use Rattle.route_events.specs.declared.action.Action.{Action}
use Rattle.route_events.specs.declared.request.Request.{Request}
use Rattle.route_events.specs.Journal.{Entry, Happened, Cut, Taken, Journal, newest_moment}
use Rattle.route_events.specs.Requests.{waiting}
use Rattle.route_events.specs.Connections.{connections, closes, is_open, is_open_number}
use Rattle.route_events.specs.Alternatives.{newest_age}
use Rattle.route_events.specs.Dispatch.{dispatch}
use Rattle.route_events.specs.Frames.{octets_on, frames_behind, delivery, cut_by, deliveries}
use Rattle.route_events.specs.Step.{with_actions, part_effects, with_part, with_fact, settle, settled, follow, answer_to, step}
use Rattle.route_events.proofs.Lists.{in_filter}
use Rattle.route_events.proofs.Sound.{opened_of}
use Rattle.route_events.proofs.Parts.{IsBehind, AreBehind, all_behind}

pub follow_append : (j : Journal) (now : ℕ) (parts more : List Entry) → follow j now (parts ++ more) ≡ follow (follow j now parts) now more
follow_append j now [] more = refl
follow_append j now (part ∷ parts) more = follow_append (settled (with_part j now part) now) now parts more

-- octets
pub octets_with : (j : Journal) (as' : List Action) (c : ℕ) → octets_on (with_actions j as') c ≡ octets_on j c
octets_with j [] c = refl
octets_with j (a ∷ as') c = octets_with (Taken a ∷ j) as' c

octets_settle : (j : Journal) (now : ℕ) (qs : List Request) (c : ℕ) → octets_on (settle j now qs) c ≡ octets_on j c
octets_settle j now [] c = refl
octets_settle j now (q ∷ qs) c = octets_settle (with_actions j (dispatch j q now)) now qs c ∙ octets_with j (dispatch j q now) c

pub octets_settled : (j : Journal) (now : ℕ) (part : Entry) (c : ℕ) → octets_on (settled (with_part j now part) now) c ≡ octets_on (part ∷ j) c
octets_settled j now part c = octets_settle (with_part j now part) now (waiting (with_part j now part)) c ∙ octets_with (part ∷ j) (part_effects j now part) c

octets_behind : (j : Journal) (now conn : ℕ) (part : Entry) (c : ℕ) → IsBehind now conn part → octets_on (part ∷ j) c ≡ octets_on j c
octets_behind j now conn (Happened moment (Delivered to head payload) false) c behind = refl
octets_behind j now conn (Cut moment to count) c behind = refl
octets_behind j now conn _ c behind = absurd behind

pub octets_follow : (j : Journal) (now conn : ℕ) (parts : List Entry) (c : ℕ) → AreBehind now conn parts → octets_on (follow j now parts) c ≡ octets_on j c
octets_follow j now conn [] c behind = refl
octets_follow j now conn (part ∷ parts) c behind =
    octets_follow (settled (with_part j now part) now) now conn parts c behind.1 ∙ octets_settled j now part c ∙ octets_behind j now conn part c behind.0

pub octets_input : (j : Journal) (now c : ℕ) (a : List ℕ) → octets_on (Happened now (Input c a) true ∷ j) c ≡ octets_on j c ++ a
octets_input j now c a = ap (λ b. cond b (octets_on j c ++ a) (octets_on j c)) (eq_self c)

-- a step adds those of its own fact
pub octets_step : (j : Journal) (now : ℕ) (fact : Fact) (c : ℕ) → octets_on (step j now fact) c ≡ octets_on (Happened now fact true ∷ j) c
octets_step j now (Input conn bytes) c =
    octets_follow (settled (with_fact j now (Input conn bytes)) now) now conn (deliveries now conn (octets_on j conn) bytes) c (all_behind now conn (octets_on j conn) bytes)
    ∙ octets_settled j now (Happened now (Input conn bytes) true) c
octets_step j now fact c = octets_with (settled (with_fact j now fact) now) (answer_to (settled (with_fact j now fact) now) now fact) c ∙ octets_settled j now (Happened now fact true) c

-- the moment
moment_with : (j : Journal) (as' : List Action) → newest_moment (with_actions j as') ≡ newest_moment j
moment_with j [] = refl
moment_with j (a ∷ as') = moment_with (Taken a ∷ j) as'

moment_settle : (j : Journal) (now : ℕ) (qs : List Request) → newest_moment (settle j now qs) ≡ newest_moment j
moment_settle j now [] = refl
moment_settle j now (q ∷ qs) = moment_settle (with_actions j (dispatch j q now)) now qs ∙ moment_with j (dispatch j q now)

pub moment_settled : (j : Journal) (now : ℕ) (part : Entry) → newest_moment (settled (with_part j now part) now) ≡ newest_moment (part ∷ j)
moment_settled j now part = moment_settle (with_part j now part) now (waiting (with_part j now part)) ∙ moment_with (part ∷ j) (part_effects j now part)

moment_behind : (j : Journal) (now conn : ℕ) (part : Entry) → IsBehind now conn part → newest_moment (part ∷ j) ≡ now
moment_behind j now conn (Happened moment (Delivered to head payload) false) behind = behind.0
moment_behind j now conn (Cut moment to count) behind = behind.0
moment_behind j now conn _ behind = absurd behind

pub moment_follow : (j : Journal) (now conn : ℕ) (parts : List Entry) → AreBehind now conn parts → newest_moment j ≡ now → newest_moment (follow j now parts) ≡ now
moment_follow j now conn [] behind at = at
moment_follow j now conn (part ∷ parts) behind at =
    moment_follow (settled (with_part j now part) now) now conn parts behind.1 (moment_settled j now part ∙ moment_behind j now conn part behind.0)

-- the age of a value
age_with : (j : Journal) (as' : List Action) → newest_age (with_actions j as') ≡ newest_age j
age_with j [] = refl
age_with j (a ∷ as') = age_with (Taken a ∷ j) as'

age_settle : (j : Journal) (now : ℕ) (qs : List Request) → newest_age (settle j now qs) ≡ newest_age j
age_settle j now [] = refl
age_settle j now (q ∷ qs) = age_settle (with_actions j (dispatch j q now)) now qs ∙ age_with j (dispatch j q now)

pub age_settled : (j : Journal) (now : ℕ) (part : Entry) → newest_age (settled (with_part j now part) now) ≡ newest_age (part ∷ j)
age_settled j now part = age_settle (with_part j now part) now (waiting (with_part j now part)) ∙ age_with (part ∷ j) (part_effects j now part)

age_behind : (j : Journal) (now conn : ℕ) (part : Entry) → IsBehind now conn part → newest_age j ≡ 0 → newest_age (part ∷ j) ≡ 0
age_behind j now conn (Happened moment (Delivered to head payload) false) behind none = refl
age_behind j now conn (Cut moment to count) behind none = none
age_behind j now conn _ behind none = absurd behind

pub age_follow : (j : Journal) (now conn : ℕ) (parts : List Entry) → AreBehind now conn parts → newest_age j ≡ 0 → newest_age (follow j now parts) ≡ 0
age_follow j now conn [] behind none = none
age_follow j now conn (part ∷ parts) behind none =
    age_follow (settled (with_part j now part) now) now conn parts behind.1 (age_settled j now part ∙ age_behind j now conn part behind.0 none)

-- a connection that was closed stays closed
pub closed_with : (j : Journal) (as' : List Action) (n : ℕ) → list_any (closes n) j ≡ true → list_any (closes n) (with_actions j as') ≡ true
closed_with j [] n h = h
closed_with j (a ∷ as') n h = closed_with (Taken a ∷ j) as' n h

pub closed_settle : (j : Journal) (now : ℕ) (qs : List Request) (n : ℕ) → list_any (closes n) j ≡ true → list_any (closes n) (settle j now qs) ≡ true
closed_settle j now [] n h = h
closed_settle j now (q ∷ qs) n h = closed_settle (with_actions j (dispatch j q now)) now qs n (closed_with j (dispatch j q now) n h)

-- once its octets were cut, a connection isn't open
cut_closed : (j : Journal) (now c count : ℕ) → list_any (closes c) (settled (with_part j now (Cut now c count)) now) ≡ true
cut_closed j now c count =
    let k : Journal = with_part j now (Cut now c count) in
    closed_settle k now (waiting k) c (closed_with (Cut now c count ∷ j) (part_effects j now (Cut now c count)) c (or_left (nat_eq c c) (list_any (closes c) j) (eq_self c)))

-- a connection that isn't closed behind the parts of octets wasn't cut by them
pub never_cut : (j : Journal) (now c : ℕ) (x a : List ℕ) → list_any (closes c) (follow j now (deliveries now c x a)) ≡ false → too_large_of (x ++ a) ≡ None
never_cut j now c x a going = by_cut (too_large_of (x ++ a)) refl
  where
    by_cut : (w : Option ℕ) → too_large_of (x ++ a) ≡ w → w ≡ None
    by_cut None e = refl
    by_cut (Some count) e =
        let k : Journal = follow j now (flat_map (delivery now c) (frames_behind x a)) in
        let last : follow j now (deliveries now c x a) ≡ settled (with_part (follow j now (flat_map (delivery now c) (frames_behind x a))) now (Cut now c count)) now =
        ap (λ w. follow j now (flat_map (delivery now c) (frames_behind x a) ++ cut_by now c w)) e ∙ follow_append j now (flat_map (delivery now c) (frames_behind x a)) (Cut now c count ∷ []) in
        contradicts (list_any (closes c) (follow j now (deliveries now c x a))) (ap (list_any (closes c)) last ∙ cut_closed k now c count) going

-- what is open isn't closed
pub open_unclosed : (j : Journal) (c : ℕ) → is_open_number j c ≡ true → list_any (closes c) j ≡ false
open_unclosed j c open_now =
    let is = opened_of j c open_now in
    subst (λ n. list_any (closes n) j ≡ false) is.numbered (not-true (list_any (closes is.connection.number) j) (in_filter (is_open j) is.connection (connections j) is.there).1)
