-- A request that waits again has its old place, since requests arrive in the order of their numbers.
use Rattle.std.proofs.Common.{◌≡◌, ◌⊎◌, inl, inr, ℕ, ◌<◌, Bool, true, false, cond, nat_eq, nat_lt, List, [], ◌∷◌, ◌++◌, filter, Some, None, refl, ap, sym, ◌∙◌, subst, arith}
use Rattle.std.specs.Option.{option_map_or}
use Rattle.route_events.specs.declared.fact.Fact.{Fact}
use Rattle.route_events.specs.declared.fact.Fact.TheVariants as fact
use Rattle.route_events.specs.declared.action.Action.{Action}
use Rattle.route_events.specs.declared.request.Request.{Request}
use Rattle.route_events.specs.Journal.{Entry, Happened, Cut, Taken, Journal}
use Rattle.route_events.specs.Requests.{Waits, requests, standing, waits, waiting}
use Rattle.route_events.specs.Dispatch.{dispatch}
use Rattle.route_events.specs.Frames.{octets_on, deliveries}
use Rattle.route_events.specs.Step.{IsRun, Begun, Stepped, refusal, effects, cut_effects, part_effects, with_actions, with_part, with_fact, settle, settled, follow, answer_to, step}
use Rattle.route_events.proofs.Lists.{IsIn, in_filter, filter_same_in, in_append_one, nat_eq-flip, nat_eq-below}
use Rattle.route_events.proofs.Sound.{Sound, above_newest}
use Rattle.route_events.proofs.Parts.{IsBehind, AreBehind, all_behind}
use Rattle.route_events.proofs.Runs.{each}
use Rattle.request_dispatch.specs.declared.waiting.Waiting.{Waiting}
use Rattle.request_dispatch.specs.RequestTable.{requests_of, placed}
use Rattle.router_core.specs.Holds.{AreTried}
use Rattle.router_core.proofs.SettlingSo.{HasTried}
use Rattle.router_core.proofs.Coming.{IsFrame, Comes}
use Rattle.alt_base.proofs.Numbers.{lt_true, eq_self}

-- requests in the order of their numbers

abbrev pub AreRising : List Request → Type 0
AreRising [] = Unit {0}
AreRising (q ∷ qs) = ((r : Request) → IsIn r qs → q.number < r.number) × AreRising qs

rising_end : (q : Request) (rs : List Request) → ((r : Request) → IsIn r rs → r.number < q.number) → AreRising rs → AreRising (rs ++ q ∷ [])
rising_end q [] below rise = (λ r none. absurd none, tt)
rising_end q (r ∷ rs) below rise = (λ x found. by_place x (in_append_one x q rs found), rising_end q rs (λ x found. below x (inr found)) rise.1)
  where
    by_place : (x : Request) → IsIn x rs ⊎ (x ≡ q) → r.number < x.number
    by_place x (inl old) = rise.0 x old
    by_place x (inr new) = subst (λ (y : Request). r.number < y.number) (sym new) (below r (inl refl))

rise_fact : (j : Journal) (now : ℕ) (f : Fact) → Sound j → refusal j now f ≡ None → AreRising (requests j) → AreRising (requests (Happened now f true ∷ j))
rise_fact j now (fact.Request n o) sound free rise =
    rising_end (record { number = n; origin = o }) (requests j) (λ r found. omega (arith, sound.newest r found, above_newest j now n o free)) rise
rise_fact j now (fact.Opened m p d port names) sound free rise = rise
rise_fact j now (fact.Failed m) sound free rise = rise
rise_fact j now (fact.Closed c) sound free rise = rise
rise_fact j now (fact.Response q status age altsvc) sound free rise = rise
rise_fact j now (fact.Input c bytes) sound free rise = rise
rise_fact j now (fact.Delivered c head payload) sound free rise = rise
rise_fact j now (fact.Answer name ttl body) sound free rise = rise
rise_fact j now fact.Network sound free rise = rise
rise_fact j now fact.Tick sound free rise = rise
rise_fact j now (fact.Who o) sound free rise = rise
rise_fact j now fact.Stats sound free rise = rise

requests_with : (j : Journal) (as' : List Action) → requests (with_actions j as') ≡ requests j
requests_with j [] = refl
requests_with j (a ∷ as') = requests_with (Taken a ∷ j) as'

-- a part of a step
pub rise_part : (j : Journal) (now : ℕ) (f : Fact) (h : Bool) → Sound j → Comes j now f h → AreRising (requests j) → AreRising (requests (with_part j now (Happened now f h)))
rise_part j now f h sound comes rise = subst AreRising (sym (requests_with (Happened now f h ∷ j) (effects j now f))) (by_coming comes)
  where
    by_frame : (f : Fact) → IsFrame f → AreRising (requests (Happened now f h ∷ j))
    by_frame (fact.Delivered c head payload) is = rise
    by_frame _ is = absurd is

    by_coming : Comes j now f h → AreRising (requests (Happened now f h ∷ j))
    by_coming (inl frame) = by_frame f frame
    by_coming (inr handed) = rise_fact j now f sound handed.1 rise

pub rise_cut : (j : Journal) (now c count : ℕ) → AreRising (requests j) → AreRising (requests (with_part j now (Cut now c count)))
rise_cut j now c count rise = subst AreRising (sym (requests_with (Cut now c count ∷ j) (cut_effects j c count))) rise

-- a whole step adds the request of its own fact
requests_settle : (j : Journal) (now : ℕ) (qs : List Request) → requests (settle j now qs) ≡ requests j
requests_settle j now [] = refl
requests_settle j now (q ∷ qs) = requests_settle (with_actions j (dispatch j q now)) now qs ∙ requests_with j (dispatch j q now)

requests_settled : (j : Journal) (now : ℕ) (part : Entry) → requests (settled (with_part j now part) now) ≡ requests (part ∷ j)
requests_settled j now part = requests_settle (with_part j now part) now (waiting (with_part j now part)) ∙ requests_with (part ∷ j) (part_effects j now part)

requests_behind : (j : Journal) (now conn : ℕ) (part : Entry) → IsBehind now conn part → requests (part ∷ j) ≡ requests j
requests_behind j now conn (Happened moment (fact.Delivered to head payload) false) behind = refl
requests_behind j now conn (Cut moment to count) behind = refl
requests_behind j now conn _ behind = absurd behind

requests_follow : (j : Journal) (now conn : ℕ) (parts : List Entry) → AreBehind now conn parts → requests (follow j now parts) ≡ requests j
requests_follow j now conn [] behind = refl
requests_follow j now conn (part ∷ parts) behind =
    requests_follow (settled (with_part j now part) now) now conn parts behind.1 ∙ requests_settled j now part ∙ requests_behind j now conn part behind.0

pub requests_step : (j : Journal) (now : ℕ) (f : Fact) → requests (step j now f) ≡ requests (Happened now f true ∷ j)
requests_step j now (fact.Input conn bytes) =
    requests_follow (settled (with_fact j now (fact.Input conn bytes)) now) now conn (deliveries now conn (octets_on j conn) bytes) (all_behind now conn (octets_on j conn) bytes)
    ∙ requests_settled j now (Happened now (fact.Input conn bytes) true)
requests_step j now f = requests_with (settled (with_fact j now f) now) (answer_to (settled (with_fact j now f) now) now f) ∙ requests_settled j now (Happened now f true)

pub requests_rise : {j : Journal} → IsRun j → AreRising (requests j)
requests_rise Begun = tt
requests_rise (Stepped j now f was free) = subst AreRising (sym (requests_step j now f)) (rise_fact j now f (each was).sound free (requests_rise was))

-- the place of a request among those that wait

abbrev pub placed_request : Request → List Request → List Request
placed_request q [] = q ∷ []
placed_request q (r ∷ rs) = cond (nat_lt q.number r.number) (q ∷ r ∷ rs) (r ∷ placed_request q rs)

pub requests_placed : (w : Waiting) (ws : List Waiting) → requests_of (placed w ws) ≡ placed_request w.request (requests_of ws)
requests_placed w [] = refl
requests_placed w (x ∷ xs) = by_test (nat_lt w.request.number x.request.number) (requests_placed w xs)
  where
    by_test : (b : Bool) → requests_of (placed w xs) ≡ placed_request w.request (requests_of xs) → requests_of (cond b (w ∷ x ∷ xs) (x ∷ placed w xs)) ≡ cond b (w.request ∷ x.request ∷ requests_of xs) (x.request ∷ placed_request w.request (requests_of xs))
    by_test true rest = refl
    by_test false rest = ap (λ (qs : List Request). x.request ∷ qs) rest

pub tried_placed : (k : Journal) (w : Waiting) (ws : List Waiting) → HasTried k w → AreTried k ws → AreTried k (placed w ws)
tried_placed k w [] own h = (own, tt)
tried_placed k w (x ∷ xs) own h = by_test (nat_lt w.request.number x.request.number) (tried_placed k w xs own h.1)
  where
    by_test : (b : Bool) → AreTried k (placed w xs) → AreTried k (cond b (w ∷ x ∷ xs) (x ∷ placed w xs))
    by_test true rest = (own, h)
    by_test false rest = (h.0, rest)

above_test : (a b : ℕ) → b < a → nat_lt a b ≡ false
above_test a b h = grind arith

placed_first : (q : Request) (rs : List Request) → ((r : Request) → IsIn r rs → q.number < r.number) → placed_request q rs ≡ q ∷ rs
placed_first q [] below = refl
placed_first q (r ∷ rs) below = ap (λ b. cond b (q ∷ r ∷ rs) (r ∷ placed_request q rs)) (lt_true q.number r.number (below r (inl refl)))

-- where one more of some rising requests passes, it takes its place among those that passed
filter_back : (q : Request) (p after : Request → Bool) (rs : List Request) → AreRising rs → IsIn q rs → p q ≡ false → after q ≡ true → ((r : Request) → nat_eq q.number r.number ≡ false → after r ≡ p r) →
    filter after rs ≡ placed_request q (filter p rs)
filter_back q p after [] rise none was is same = absurd none
filter_back q p after (r ∷ rs) rise (inl here) was is same =
    (λ i. cond ((ap after (sym here) ∙ is) i) (sym here i ∷ others i) (others i))
    ∙ sym (placed_first q (filter p rs) (λ x found. subst (λ (y : Request). y.number < x.number) (sym here) (rise.0 x (in_filter p x rs found).0)))
    ∙ ap (placed_request q) (sym (ap (λ b. cond b (r ∷ filter p rs) (filter p rs)) (ap p (sym here) ∙ was)))
  where
    others : filter after rs ≡ filter p rs
    others = filter_same_in after p rs (λ x found. same x (nat_eq-below q.number x.number (subst (λ (y : Request). y.number < x.number) (sym here) (rise.0 x found))))
filter_back q p after (r ∷ rs) rise (inr later) was is same =
    ap (λ b. cond b (r ∷ filter after rs) (filter after rs)) (same r (nat_eq-flip q.number r.number ∙ nat_eq-below r.number q.number (rise.0 q later)))
    ∙ by_test (p r) (filter_back q p after rs rise.1 later was is same)
  where
    by_test : (b : Bool) → filter after rs ≡ placed_request q (filter p rs) → cond b (r ∷ filter after rs) (filter after rs) ≡ placed_request q (cond b (r ∷ filter p rs) (filter p rs))
    by_test true rest =
        ap (λ (qs : List Request). r ∷ qs) rest ∙ ap (λ c. cond c (q ∷ r ∷ filter p rs) (r ∷ placed_request q (filter p rs))) (sym (above_test q.number r.number (rise.0 q later)))
    by_test false rest = rest

pub waiting_back : (j k : Journal) (q : Request) → AreRising (requests j) → IsIn q (requests j) → requests k ≡ requests j →
    ((n : ℕ) → standing k n ≡ option_map_or Some (cond (nat_eq q.number n) (Some Waits) None) (standing j n)) → waits (standing j q.number) ≡ false → waiting k ≡ placed_request q (waiting j)
waiting_back j k q rise asked same moved was =
    ap (filter after) same ∙ filter_back q p after (requests j) rise asked was (ap waits (moved q.number) ∙ ap (λ b. waits (option_map_or Some (cond b (Some Waits) None) (standing j q.number))) (eq_self q.number)) others
  where
    p : Request → Bool
    p r = waits (standing j r.number)

    after : Request → Bool
    after r = waits (standing k r.number)

    others : (r : Request) → nat_eq q.number r.number ≡ false → after r ≡ p r
    others r e = ap waits (moved r.number) ∙ ap (λ b. waits (option_map_or Some (cond b (Some Waits) None) (standing j r.number))) e
