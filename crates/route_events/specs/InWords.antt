-- What is live, what failed and what is outstanding, by the history's own words: as splits of the journal at the entry
-- that decides.
use Rattle.std.specs.Prelude.{◌≡◌, ◌⊎◌, ℕ, ◌+◌, Bool, true, false, not, ◌&&◌, [], ◌∷◌, ◌++◌, Some, if◌then◌else◌, Any}
use Rattle.std.specs.List.{list_any}
use Rattle.std.specs.Option.{option_map_or}
use Rattle.origin_values.specs.Equality.{origin_eq}
use Rattle.origin_values.specs.declared.origin.Origin.{Origin}
use Rattle.altsvc_grammar.specs.declared.alt.Alt.{Alt}
use Rattle.altsvc_grammar.specs.declared.alt_key.AltKey.{AltKey}
use Rattle.altsvc_grammar.specs.declared.alt_svc.AltSvc.{AltSvc}
use Rattle.route_events.specs.declared.action.Action.TheVariants as action
use Rattle.route_events.specs.declared.fact.Fact.{Fact}
use Rattle.route_events.specs.declared.fact.Fact.TheVariants as fact
use Rattle.route_events.specs.declared.route.Route.{Route}
use Rattle.route_events.specs.Journal.{Entry, Happened, Cut, Taken, Journal, of_fact, of_action, newest_moment}
use Rattle.route_events.specs.Misdirection.{gives_up}
use Rattle.route_events.specs.Alternatives.{alternatives_of, newest_age, is_fresh}
use Rattle.route_events.specs.Backoff.{is_attempt_on, opens_well}
use Rattle.route_events.specs.Distinct.{advertised_in}

-- an action takes a value for an origin
abbrev pub takes_for : Origin → Entry → Bool
takes_for o entry = option_map_or (λ p. origin_eq p o) (of_action advertised_in entry) false

-- a fact is a change of the network
abbrev pub is_change : Fact → Bool
is_change fact.Network = true
is_change _ = false

abbrev pub changes_network : Entry → Bool
changes_network entry = option_map_or is_change (of_fact (λ fact. Some fact) entry) false

abbrev pub of_happened : (Fact → Bool) → Entry → Bool
of_happened test entry = option_map_or test (of_fact (λ fact. Some fact) entry) false

-- none of the newest entries above an older journal is a 421 on a connection that was opened for the origin by the
-- alternative
abbrev pub none_gives_up : Journal → Journal → Origin → AltKey → Bool
none_gives_up before [] o key = true
none_gives_up before (entry ∷ since) o key = not (of_happened (λ fact. gives_up (since ++ before) o fact key) entry) && none_gives_up before since o key

-- an alternative is live (RFC 7838 2.2, 3, 3.1): a value was taken for the origin, and none since; it lists the
-- alternative; the age of its response and the seconds since are together below the alternative's `ma`; since then no 421
-- came for the origin on a connection that was opened for it by the alternative; and the alternative persists, or the
-- network hasn't changed since
pub record IsLive (journal : Journal) (o : Origin) (now : ℕ) (a : Alt) : Type 0 where
  pub since : Journal
  pub before : Journal
  pub origin : Origin
  pub value : AltSvc
  pub taken : journal ≡ since ++ Taken (action.Alternatives origin value) ∷ before
  pub for_it : origin_eq origin o ≡ true
  pub newest : list_any (takes_for o) since ≡ false
  pub listed : Any (λ b. b ≡ a) (alternatives_of value)
  pub fresh : is_fresh (newest_moment before) (newest_age before) now a ≡ true
  pub not_given_up : none_gives_up (Taken (action.Alternatives origin value) ∷ before) since o a.key ≡ true
  pub stays : (a.persist ≡ true) ⊎ (list_any changes_network since ≡ false)

-- a fact ends an attempt for the origin by the route, and is no success
abbrev pub fails_by : Journal → Origin → Route → Fact → Bool
fails_by older o r (fact.Opened attempt proto addr port names) = is_attempt_on older o r attempt && not (opens_well older (fact.Opened attempt proto addr port names))
fails_by older o r (fact.Failed attempt) = is_attempt_on older o r attempt
fails_by older o r _ = false

-- a fact is a success of an attempt for the origin by the route, or a change of the network
abbrev pub clears : Journal → Origin → Route → Fact → Bool
clears older o r (fact.Opened attempt proto addr port names) = is_attempt_on older o r attempt && opens_well older (fact.Opened attempt proto addr port names)
clears older o r fact.Network = true
clears older o r _ = false

-- how many of the newest entries, above an older journal, are failures of the origin's route
abbrev pub failures_above : Journal → Journal → Origin → Route → ℕ
failures_above before [] o r = 0
failures_above before (entry ∷ since) o r = (if of_happened (fails_by (since ++ before) o r) entry then 1 else 0) + failures_above before since o r

-- the moment of the newest one, 0 where there is none
abbrev pub last_failure_above : Journal → Journal → Origin → Route → ℕ
last_failure_above before [] o r = 0
last_failure_above before (Happened moment fact handed_in ∷ since) o r = if fails_by (since ++ before) o r fact then moment else last_failure_above before since o r
last_failure_above before (Cut moment conn length ∷ since) o r = last_failure_above before since o r
last_failure_above before (Taken action ∷ since) o r = last_failure_above before since o r

-- none of the newest entries above an older journal ends the failures of the origin's route
abbrev pub none_clears : Journal → Journal → Origin → Route → Bool
none_clears before [] o r = true
none_clears before (entry ∷ since) o r = not (of_happened (clears (since ++ before) o r) entry) && none_clears before since o r

-- a journal is empty, or its newest entry ends the failures of the origin's route
abbrev pub begins_anew : Journal → Origin → Route → Bool
begins_anew [] o r = true
begins_anew (entry ∷ older) o r = of_happened (clears older o r) entry

-- the failures in a row are those since the newest success of the origin's route and the newest change of the network
pub record AreFailures (journal : Journal) (o : Origin) (r : Route) (count last : ℕ) : Type 0 where
  pub since : Journal
  pub before : Journal
  pub split : journal ≡ since ++ before
  pub anew : begins_anew before o r ≡ true
  pub none_cleared : none_clears before since o r ≡ true
  pub counted : count ≡ failures_above before since o r
  pub newest : last ≡ last_failure_above before since o r
