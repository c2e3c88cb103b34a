-- What a client promises of its actions.
use Rattle.std.specs.Prelude.{◌≡◌, ◌⊎◌, ℕ, true, false, [], ◌∷◌, ◌++◌, Option, Some, All, Any}
use Rattle.origin_values.specs.declared.host.Host.{Host}
use Rattle.route_events.specs.declared.action.Action.{Action}
use Rattle.route_events.specs.declared.action.Action.TheVariants as action
use Rattle.route_events.specs.declared.request.Request.{Request}
use Rattle.route_events.specs.declared.connection.Connection.{Connection}
use Rattle.route_events.specs.Journal.{Happened, Cut, Taken, Journal, newest_moment}
use Rattle.route_events.specs.Requests.{request_of, waiting}
use Rattle.route_events.specs.Connections.{connections, connection_of, is_open, is_busy}
use Rattle.route_events.specs.Authority.{is_authoritative}
use Rattle.route_events.specs.Routes.{routes, is_usable, has_pending}

-- a request may be sent on a connection: that is open, authoritative for the request's origin at the moment, and not
-- busy
pub record MaySend (before : Journal) (number conn : ℕ) : Type 0 where
  pub request : Request
  pub connection : Connection
  pub asked : request_of before number ≡ Some request
  pub made : connection_of before conn ≡ Some connection
  pub open_now : is_open before connection ≡ true
  pub authoritative : is_authoritative before connection request.origin (newest_moment before) ≡ true
  pub free : is_busy before connection ≡ false

-- a request may be refused: no connection is authoritative for its origin, busy or not, and no route is usable
pub record MayRefuse (before : Journal) (number : ℕ) : Type 0 where
  pub request : Request
  pub asked : request_of before number ≡ Some request
  pub no_authority : All (λ c. is_authoritative before c request.origin (newest_moment before) ≡ false) (connections before)
  pub no_route : All (λ r. is_usable before request r (newest_moment before) ≡ false) (routes before request.origin (newest_moment before))

-- a request may wait: a usable route has a pending attempt, or a busy connection is authoritative for its origin
abbrev pub MayWait : Journal → Request → Type 0
MayWait after q =
    Any (λ r. (is_usable after q r (newest_moment after) ≡ true) × (has_pending after q.origin r ≡ true)) (routes after q.origin (newest_moment after))
    ⊎ Any (λ c. (is_authoritative after c q.origin (newest_moment after) ≡ true) × (is_busy after c ≡ true)) (connections after)

-- what an action rests on, in the journal just before it
abbrev pub IsAllowed : Journal → Action → Type 0
IsAllowed before (action.SendOn request conn stream alt_used) = MaySend before request conn
IsAllowed before (action.Refuse request) = MayRefuse before request
IsAllowed before _ = Unit {0}

-- it holds of each action, in the journal just before it
abbrev pub EachAction : (Journal → Action → Type 0) → Journal → Type 0
EachAction P [] = Unit {0}
EachAction P (Happened moment fact handed_in ∷ older) = EachAction P older
EachAction P (Cut moment conn length ∷ older) = EachAction P older
EachAction P (Taken action ∷ older) = P older action × EachAction P older

-- the three sentences, of a journal
abbrev pub SendsOnlyOn : Journal → Type 0
SendsOnlyOn journal =
    (newer before : Journal) (request conn : ℕ) (stream : Option ℕ) (used : Option (Host × ℕ)) →
    journal ≡ newer ++ Taken (action.SendOn request conn stream used) ∷ before → MaySend before request conn

abbrev pub RefusesOnlyWhere : Journal → Type 0
RefusesOnlyWhere journal =
    (newer before : Journal) (request : ℕ) → journal ≡ newer ++ Taken (action.Refuse request) ∷ before → MayRefuse before request

abbrev pub WaitsOnlyFor : Journal → Type 0
WaitsOnlyFor journal = All (MayWait journal) (waiting journal)
