-- What a step makes of a router, by what it keeps.
use Rattle.std.specs.Prelude.{◌≡◌, ℕ, false, List, [], ◌∷◌, Option, Some, None, length, drop}
use Rattle.origin_values.specs.declared.origin.Origin.{Origin}
use Rattle.network_cache.specs.Contents.{kept}
use Rattle.route_choice.specs.Contents.{kept_failures}
use Rattle.h2_framing.specs.declared.frame.Frame.{Frame}
use Rattle.h2_framing.specs.declared.frame.Frame.TheVariants.{Kept, Passed}
use Rattle.route_events.specs.declared.fact.Fact.{Fact}
use Rattle.route_events.specs.declared.fact.Fact.TheVariants.{Delivered}
use Rattle.route_events.specs.declared.action.Action.{Action}
use Rattle.route_events.specs.declared.route.Route.{Route}
use Rattle.route_events.specs.Alternatives.{age_in}
use Rattle.route_events.specs.Backoff.{is_direct}
use Rattle.router_core.specs.declared.course.Course.{Course}
use Rattle.request_dispatch.specs.declared.step_state.StepState.{StepState}
use Rattle.request_dispatch.specs.Looks.{Look, look_of}
use Rattle.request_dispatch.specs.StepStates.{settled}
use Rattle.router_core.specs.Notes.{failures_noted, given_up, spared, value_noted, kept_after}
use Rattle.router_core.specs.Effects.{with_effect, cut_so}
use Rattle.router_core.specs.StoredAnswers.{IsTold}

-- what the tables of a course say at a moment
abbrev pub seen : Course → ℕ → Look
seen course now = look_of course.alternatives course.broken course.answers now

-- the state after a fact and its effect, by what the tables say just before it
abbrev pub after_effect : Course → ℕ → Fact → StepState
after_effect course now fact = with_effect (seen course now).live (seen course now).is_address course.state fact

-- the actions of the effect
abbrev pub done_by : Course → ℕ → Fact → List Action
done_by course now fact = drop (length course.state.actions) (after_effect course now fact).actions

-- the state after settling, in which the router saw this of alternatives, failures and answers
abbrev pub stepped : Course → Look → ℕ → Fact → StepState
stepped course look now fact = settled look (after_effect course now fact)

-- what a fact makes of the course
pub record Becomes (old new : Course) (now : ℕ) (fact : Fact) : Type 0 where
  -- failures are noted, the value that was taken and the answer that came, before the requests are settled
  pub failures : (o : Origin) (r : Route) → is_direct r ≡ false → kept_failures new.broken o r ≡ failures_noted old.state.tables.attempts.pending now fact o r (kept_failures old.broken o r)
  pub alternatives : (o : Origin) → kept new.alternatives o ≡ value_noted now (age_in fact) (done_by old now fact) o (spared (given_up old.state.tables fact) o (kept_after fact (kept old.alternatives o)))
  pub answers : IsTold old.answers new.answers now fact
  pub state : new.state ≡ stepped old (seen new now) now fact

-- what the cut of a connection's octets makes of it
pub record CutBecomes (old new : Course) (now conn length : ℕ) : Type 0 where
  pub broken : new.broken ≡ old.broken
  pub alternatives : new.alternatives ≡ old.alternatives
  pub answers : new.answers ≡ old.answers
  pub state : new.state ≡ settled (seen old now) (cut_so old.state conn length)

-- each ALTSVC and ORIGIN frame is a fact of its own
abbrev pub Delivers : ℕ → ℕ → Course → List Frame → Course → Type 0
Delivers now conn old [] new = new ≡ old
Delivers now conn old (Kept head payload ∷ frames) new = (mid : Course) × Becomes old mid now (Delivered conn head payload) × Delivers now conn mid frames new
Delivers now conn old (Passed head ∷ frames) new = Delivers now conn old frames new

-- and then comes the cut, where a head gives a length that is too large
abbrev pub Cuts : ℕ → ℕ → Course → Option ℕ → Course → Type 0
Cuts now conn old None new = new ≡ old
Cuts now conn old (Some length) new = CutBecomes old new now conn length

-- what the parts of a fact make of it, one after the other: the fact, the frames that its octets end, and the cut
pub record Follows (old new : Course) (now : ℕ) (fact : Fact) (conn : ℕ) (frames : List Frame) (too_large : Option ℕ) : Type 0 where
  pub begun : Course
  pub begins : Becomes old begun now fact
  pub delivered : Course
  pub delivers : Delivers now conn begun frames delivered
  pub cuts : Cuts now conn delivered too_large new
