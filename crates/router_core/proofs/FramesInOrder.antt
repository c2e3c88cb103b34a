-- Frames that are delivered one after the other.
use Rattle.std.proofs.Common.{ℕ, ◌+◌, ◌*◌, ◌^◌, ◌<◌, ◌≤◌, List, [], ◌∷◌, length, subst, arith}
use Rattle.std.specs.List.{All}
use Rattle.std.proofs.lemmas.List.Elements.{All-tail}
use Rattle.h2_framing.specs.declared.frame.Frame.{Frame}
use Rattle.h2_framing.specs.declared.frame.Frame.TheVariants.{Kept, Passed}
use Rattle.frame_readers.specs.Readers.{Fits}
use Rattle.answer_store.specs.Contents.{newest_moment as newest_answer}
use Rattle.network_cache.specs.Contents.{newest_moment}
use Rattle.route_choice.specs.Contents.{newest_moment as newest_failure}
use Rattle.request_dispatch.specs.ConnectionTable.{most_sends}
use Rattle.router_core.specs.declared.course.Course.{Course}
use Rattle.router_core.specs.Becomes.{Delivers}
use Rattle.router_core.proofs.Bounds.{delivers_within}

-- one, and then others
pub delivers_more : (now conn : ℕ) (old next new : Course) (frame : Frame) (left : List Frame) → Delivers now conn old (frame ∷ []) next → Delivers now conn next left new → Delivers now conn old (frame ∷ left) new
delivers_more now conn old next new (Kept head payload) left first rest = (first.0, first.1, subst (λ c. Delivers now conn c left new) first.2 rest)
delivers_more now conn old next new (Passed head) left first rest = subst (λ c. Delivers now conn c left new) first rest

-- how far the frames have come: what is left of them may be delivered, and all is done then
pub record ComesSoFar (now conn : ℕ) (old course : Course) (frames left : List Frame) : Type 0 where
  pub rest : (new : Course) → Delivers now conn course left new → Delivers now conn old frames new
  pub opened : course.state.tables.attempts.opened + length left * 16777215 < 2 ^ 63
  pub sends : most_sends course.state.tables.connections + length course.state.tables.requests.waiting ≤ 16777215
  pub alternatives : newest_moment course.alternatives ≤ now
  pub answers : newest_answer course.answers ≤ now
  pub failures : newest_failure course.broken ≤ now
  pub fit : All Fits left

pub comes_further : (now conn : ℕ) (old course next : Course) (frames : List Frame) (frame : Frame) (left : List Frame) → ComesSoFar now conn old course frames (frame ∷ left) → Delivers now conn course (frame ∷ []) next →
    newest_moment next.alternatives ≤ now → newest_answer next.answers ≤ now → newest_failure next.broken ≤ now → ComesSoFar now conn old next frames left
comes_further now conn old course next frames frame left comes delivers alternatives answers failures =
    let within = delivers_within now conn course (frame ∷ []) next delivers comes.sends in
    record {
      rest = λ new is. comes.rest new (delivers_more now conn course next new frame left delivers is);
      opened = omega (arith, comes.opened, within.opened);
      sends = omega (arith, comes.sends, within.sends);
      alternatives = alternatives;
      answers = answers;
      failures = failures;
      fit = All-tail Fits frame left comes.fit;
    }
