-- Steps and runs.
use Rattle.std.specs.Prelude.{◌≡◌, ℕ, true, false, nat_eq, nat_lt, nat_le, List, [], ◌∷◌, ◌++◌, map, Option, Some, None, is_some, if◌then◌else◌}
use Rattle.route_events.specs.declared.fact.Fact.{Fact}
use Rattle.route_events.specs.declared.fact.Fact.TheVariants as fact
use Rattle.route_events.specs.declared.action.Action.{Action}
use Rattle.route_events.specs.declared.action.Action.TheVariants as action
use Rattle.route_events.specs.declared.refusal.StepRefusal.{StepRefusal}
use Rattle.route_events.specs.declared.refusal.StepRefusal.TheVariants.{Spent, TimeBack, NumberNotAbove, NoSuchAttempt, NoSuchConn, NotFramed, NoSuchRequest}
use Rattle.route_events.specs.declared.request.Request.{Request}
use Rattle.route_events.specs.declared.connection.Connection.{Connection}
use Rattle.route_events.specs.Journal.{Entry, Happened, Cut, Taken, Journal, step_count, newest_moment}
use Rattle.route_events.specs.Attempts.{is_pending}
use Rattle.route_events.specs.Requests.{newest_number, standing, is_out, waiting}
use Rattle.route_events.specs.Connections.{open_connection, is_open_number, is_h2, outstanding}
use Rattle.route_events.specs.Frames.{octets_on, deliveries}
use Rattle.route_events.specs.Answers.{malformed_effects}
use Rattle.route_events.specs.Advertisements.{answer_effects}
use Rattle.route_events.specs.FrameAdvertisements.{frame_effects}
use Rattle.route_events.specs.Dispatch.{carriers, dispatch}
use Rattle.route_events.specs.Counts.{stats}

-- why octets or a frame don't come on a connection: it isn't open, or it isn't one of HTTP/2
abbrev pub frame_refusal : Option Connection → Option StepRefusal
frame_refusal None = Some NoSuchConn
frame_refusal (Some c) = if is_h2 c.proto then None else Some NotFramed

-- why a fact isn't taken, by the fact alone
abbrev pub fact_refusal : Journal → Fact → Option StepRefusal
fact_refusal journal (fact.Request number origin) = if nat_le number (newest_number journal) then Some (NumberNotAbove (newest_number journal)) else None
fact_refusal journal (fact.Opened attempt proto addr port names) = if is_pending journal attempt then None else Some NoSuchAttempt
fact_refusal journal (fact.Failed attempt) = if is_pending journal attempt then None else Some NoSuchAttempt
fact_refusal journal (fact.Closed conn) = if is_open_number journal conn then None else Some NoSuchConn
fact_refusal journal (fact.Response request status age altsvc) = if is_out (standing journal request) then None else Some NoSuchRequest
fact_refusal journal (fact.Input conn bytes) = frame_refusal (open_connection journal conn)
fact_refusal journal (fact.Delivered conn head payload) = frame_refusal (open_connection journal conn)
fact_refusal journal (fact.Answer name ttl body) = None
fact_refusal journal fact.Network = None
fact_refusal journal fact.Tick = None
fact_refusal journal (fact.Who origin) = None
fact_refusal journal fact.Stats = None

-- the first reason why a step isn't taken: too many steps, a moment that goes back, the fact
abbrev pub refusal : Journal → ℕ → Fact → Option StepRefusal
refusal journal now fact =
    if nat_eq (step_count journal) 16777215 then Some (Spent (step_count journal))
    else (if nat_lt now (newest_moment journal) then Some (TimeBack (record { 0 = newest_moment journal }))
    else fact_refusal journal fact)

-- actions in order, as the newest entries
abbrev pub with_actions : Journal → List Action → Journal
with_actions journal [] = journal
with_actions journal (a ∷ as') = with_actions (Taken a ∷ journal) as'

-- the effect of a fact, in the journal below it: what was outstanding on a connection that ends is lost, and the Alt-Svc
-- of a response, or what a frame says, is taken or not; of an answer a malformed record is named
abbrev pub effects : Journal → ℕ → Fact → List Action
effects older now (fact.Closed conn) = map action.Lost (outstanding older conn)
effects older now (fact.Response request status age altsvc) = answer_effects older now request status altsvc
effects older now (fact.Delivered conn head payload) = frame_effects older now conn head payload
effects older now (fact.Answer name ttl body) = malformed_effects name body
effects older now _ = []

-- each waiting request is dispatched once, in the order of arrival, each in the journal so far
abbrev pub settle : Journal → ℕ → List Request → Journal
settle journal now [] = journal
settle journal now (q ∷ qs) = settle (with_actions journal (dispatch journal q now)) now qs

abbrev pub settled : Journal → ℕ → Journal
settled journal now = settle journal now (waiting journal)

-- the parts behind a fact: of octets on a connection, the frames that they end, and the cut
abbrev pub parts_behind : Journal → ℕ → Fact → List Entry
parts_behind journal now (fact.Input conn bytes) = deliveries now conn (octets_on journal conn) bytes
parts_behind journal now _ = []

-- the parts of a fact, as the entries that they make, in order: the fact itself, and those behind it
abbrev pub parts_of : Journal → ℕ → Fact → List Entry
parts_of journal now fact = Happened now fact true ∷ parts_behind journal now fact

-- a connection that was cut is closed, and what was outstanding on it is lost (RFC 9113 4.2)
abbrev pub cut_effects : Journal → ℕ → ℕ → List Action
cut_effects older conn length = action.Close conn length ∷ map action.Lost (outstanding older conn)

-- the effect of a part, in the journal below it
abbrev pub part_effects : Journal → ℕ → Entry → List Action
part_effects older now (Happened moment fact handed_in) = effects older now fact
part_effects older now (Cut moment conn length) = cut_effects older conn length
part_effects older now (Taken action) = []

-- the journal with a part and its effect
abbrev pub with_part : Journal → ℕ → Entry → Journal
with_part journal now part = with_actions (part ∷ journal) (part_effects journal now part)

-- the journal with a fact and its effect
abbrev pub with_fact : Journal → ℕ → Fact → Journal
with_fact journal now fact = with_part journal now (Happened now fact true)

-- each part has its effect, and then all waiting requests are settled, before the next one
abbrev pub follow : Journal → ℕ → List Entry → Journal
follow journal now [] = journal
follow journal now (part ∷ parts) = follow (settled (with_part journal now part) now) now parts

-- what a fact asks is answered behind all its parts: which connections are authoritative for an origin, or how much of each
-- there is
abbrev pub answer_to : Journal → ℕ → Fact → List Action
answer_to journal now (fact.Who origin) = action.Who origin (map (λ (c : Connection). c.number) (carriers journal origin now)) ∷ []
answer_to journal now fact.Stats = stats journal now ∷ []
answer_to journal now _ = []

abbrev pub with_answer : Journal → ℕ → Fact → Journal
with_answer journal now fact = with_actions journal (answer_to journal now fact)

-- the journal after a step
abbrev pub step : Journal → ℕ → Fact → Journal
step journal now fact = with_answer (follow journal now (parts_of journal now fact)) now fact

-- the actions of the newest step, in order
abbrev pub newest_actions : Journal → List Action
newest_actions [] = []
newest_actions (Happened moment fact true ∷ older) = []
newest_actions (Happened moment fact false ∷ older) = newest_actions older
newest_actions (Cut moment conn length ∷ older) = newest_actions older
newest_actions (Taken a ∷ older) = newest_actions older ++ a ∷ []

-- all actions, in order
abbrev pub actions : Journal → List Action
actions [] = []
actions (Happened moment fact handed_in ∷ older) = actions older
actions (Cut moment conn length ∷ older) = actions older
actions (Taken a ∷ older) = actions older ++ a ∷ []

-- the journal after some facts with their moments, up to the first that is refused
abbrev pub run : Journal → List (ℕ × Fact) → Journal
run journal [] = journal
run journal (event ∷ events) = if is_some (refusal journal event.0 event.1) then journal else run (step journal event.0 event.1) events

-- the journals that a run gives
pub data IsRun : Journal → Type 0 where
  Begun : IsRun []
  Stepped : (journal : Journal) (now : ℕ) (fact : Fact) → IsRun journal → refusal journal now fact ≡ None → IsRun (step journal now fact)
