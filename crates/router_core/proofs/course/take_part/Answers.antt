use Rattle.std.proofs.Common.{◌≡◌, ap, ◌∙◌, arith, cond, filter, drop}
use Rattle.network_cache.specs.Contents.{kept}
use Rattle.network_cache.specs.Freshness.{persists}
use Rattle.request_dispatch.specs.declared.step_state.StepState.{StepState}
use Rattle.request_dispatch.specs.Looks.{look_of}
use Rattle.request_dispatch.specs.StepStates.{settled}
use Rattle.router_core.specs.Becomes.{seen, done_by}
use Rattle.router_core.specs.Notes.{spared, value_noted}
use Rattle.router_core.proofs.Bounds.{effect_small}
use Rattle.router_core.proofs.course.take_part.Goals as goal

pub settle-requires-clause-opened : goal.settle-requires-clause-opened
settle-requires-clause-opened c =
    let small = effect_small (seen c.args.course c.args.now.0).live (seen c.args.course c.args.now.0).is_address c.args.course.state c.args.fact in
    rw c.in_ok-take_fact.ensures.state (omega (arith, small.opened, small.waiting, c.requires.opened, c.requires.sends))

pub settle-requires-clause-sends : goal.settle-requires-clause-sends
settle-requires-clause-sends c =
    let small = effect_small (seen c.args.course c.args.now.0).live (seen c.args.course c.args.now.0).is_address c.args.course.state c.args.fact in
    rw c.in_ok-take_fact.ensures.state (omega (arith, small.sends, small.waiting, c.requires.sends))

pub returns-clause-becomes : goal.returns-clause-becomes
returns-clause-becomes c =
    let done : c.behind.result.now ≡ done_by c.args.course c.args.now.0 c.args.fact =
    c.behind.ensures ∙ (λ i. drop (c.len-before.ensures i) ((c.as_slice.ensures ∙ ap (λ (s : StepState). s.actions) c.in_ok-take_fact.ensures.state) i)) in
    record {
      failures = λ o r other. c.in_ok-note_failures.ensures.failures o r other;
      alternatives = λ o. c.in_ok-note_value.ensures.kept o
          ∙ (λ i. value_noted c.args.now.0 (c.age_in-age.ensures i) (done i) o
          ((c.note_given_up.ensures.kept o
          ∙ (λ k. spared (c.in_ok-given_up.ensures k) o ((c.note_change.ensures.kept o ∙ ap (λ b. cond b (filter persists (kept c.args.course.alternatives o)) (kept c.args.course.alternatives o)) c.is_change-changed.ensures) k))) i));
      answers = λ name kind. c.in_ok-take_fact.ensures.answers name kind;
      state = c.in_ok-settle.ensures ∙ ap (settled (look_of c.note_value.new.cache c.note_failures.new.broken c.take_fact.new.answers c.args.now.0)) c.in_ok-take_fact.ensures.state;
    }
