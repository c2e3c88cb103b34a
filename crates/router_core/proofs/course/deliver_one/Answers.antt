use Rattle.std.proofs.Common.{◌∷◌, [], refl, sym, subst, IfOk}
use Rattle.h2_framing.specs.declared.frame.Frame.{Frame}
use Rattle.h2_framing.specs.declared.frame.Frame.TheVariants.{Kept}
use Rattle.route_events.specs.declared.fact.Fact.TheVariants.{Delivered}
use Rattle.router_core.specs.declared.course.Course.{Course}
use Rattle.router_core.specs.Becomes.{Becomes, Delivers}
use Rattle.router_core.proofs.Steps.{ok_map}
use Rattle.router_core.proofs.course.deliver_one.Goals as goal

pub returns-in-Kept-clause-becomes : goal.returns-in-Kept-clause-becomes
returns-in-Kept-clause-becomes c =
    subst (λ (f : Frame). IfOk c.take_part.result (λ (new : Course). Delivers c.args.now.0 c.args.conn c.args.course (f ∷ []) new)) (sym c.in-Kept.is)
    (ok_map (λ (new : Course). Becomes c.args.course new c.args.now.0 (Delivered c.args.conn c.in-Kept.head c.in-Kept.payload)) (λ (new : Course). Delivers c.args.now.0 c.args.conn c.args.course (Kept c.in-Kept.head c.in-Kept.payload ∷ []) new) c.take_part.result
    (λ new becomes. (new, becomes, refl)) c.take_part.ensures.becomes)
