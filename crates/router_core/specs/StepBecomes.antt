-- What a step makes of a router, by what it keeps: its parts, and what is answered behind them.
use Rattle.std.specs.Prelude.{◌≡◌, ℕ, ◌+◌, false, nat_eq, List, [], ◌++◌, Option, Some, None, filter}
use Rattle.alias_chain.specs.Held.{in_force}
use Rattle.alias_chain.specs.Walk.{NameOf}
use Rattle.answer_store.specs.Bodies.{Kind}
use Rattle.answer_store.specs.Contents.{kept as kept_answer}
use Rattle.frame_readers.specs.Readers.{Reads, reader_among, other_readers}
use Rattle.frame_readers.specs.declared.readers.ReaderOf.{ReaderOf}
use Rattle.h2_framing.specs.declared.frame.Frame.{Frame}
use Rattle.h2_framing.specs.Reading.{Brings}
use Rattle.network_cache.specs.Contents.{kept}
use Rattle.network_cache.specs.Freshness.{is_fresh}
use Rattle.origin_values.specs.declared.origin.Origin.{Origin}
use Rattle.route_events.specs.declared.action.Action.{Action}
use Rattle.route_events.specs.declared.fact.Fact.{Fact}
use Rattle.route_events.specs.declared.fact.Fact.TheVariants.{Closed, Input}
use Rattle.router_core.specs.declared.course.Course.{Course}
use Rattle.router_core.specs.declared.router.Router.{Router}
use Rattle.router_core.specs.Asking.{asked_in, IsAnswered}
use Rattle.router_core.specs.Becomes.{Follows}
use Rattle.router_core.specs.Reasons.{newest_after}

-- what octets bring on a connection, by its reader: the frames that end in them, and the length of a head that is too large
pub record IsRead (old new : List ReaderOf) (conn : ℕ) (bytes : List ℕ) (frames : List Frame) (too_large : Option ℕ) : Type 0 where
  pub brings : (x : List ℕ) → Reads old conn x → Brings x bytes frames too_large
  pub reads : (x : List ℕ) → Reads old conn x → too_large ≡ None → Reads new conn (x ++ bytes)
  pub ended : (length : ℕ) → too_large ≡ Some length → reader_among new conn ≡ None
  pub others : (n : ℕ) → nat_eq conn n ≡ false → reader_among new n ≡ reader_among old n

-- by the fact: other facts bring none, and a connection that ends is read no further
abbrev pub IsBrought : List ReaderOf → List ReaderOf → Fact → ℕ → List Frame → Option ℕ → Type 0
IsBrought old new (Input to bytes) conn frames too_large = (conn ≡ to) × IsRead old new to bytes frames too_large
IsBrought old new (Closed to) conn frames too_large = (frames ≡ []) × (too_large ≡ None) × (new ≡ other_readers old to)
IsBrought old new _ conn frames too_large = (frames ≡ []) × (too_large ≡ None) × (new ≡ old)

-- the course of a step as it begins
abbrev pub course_of : Router → Course
course_of router = record {
  state = record { tables = router.tables; actions = [] };
  alternatives = router.alternatives;
  answers = router.answers;
  broken = router.broken;
}

-- its parts, and what is kept of them
pub record PartsBecome (old new : Router) (done : List Action) (now : ℕ) (fact : Fact) : Type 0 where
  pub facts : new.facts ≡ old.facts + 1
  pub last : new.last ≡ now
  pub newest : new.newest ≡ newest_after old.newest fact
  -- the fact, the frames that it ends, and the cut
  pub conn : ℕ
  pub frames : List Frame
  pub too_large : Option ℕ
  pub brought : IsBrought old.readers new.readers fact conn frames too_large
  pub ended : Course
  pub follows : Follows (course_of old) ended now fact conn frames too_large
  -- and what is kept of it
  pub purged : (o : Origin) → kept new.alternatives o ≡ filter (is_fresh now) (kept ended.alternatives o)
  pub purged_answers : (name : NameOf) (kind : Kind) → kept_answer new.answers name kind ≡ in_force now (kept_answer ended.answers name kind)
  pub broken : new.broken ≡ ended.broken
  pub tables : new.tables ≡ ended.state.tables
  pub written : done ≡ ended.state.actions

-- and what the fact asks is answered by what is kept
pub record StepBecomes (old new : Router) (actions : List Action) (now : ℕ) (fact : Fact) : Type 0 where
  pub done : List Action
  pub parts : PartsBecome old new done now fact
  pub answer : List Action
  pub answered : IsAnswered new (asked_in fact) answer
  pub written : actions ≡ done ++ answer
