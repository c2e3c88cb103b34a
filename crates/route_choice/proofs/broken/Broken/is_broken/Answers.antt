use Rattle.std.proofs.Common.{◌≡◌, Some, None, ap, sym, ◌∙◌}
use Rattle.std.specs.Prelude.{find}
use Rattle.std.specs.Option.{option_map_or, option_copied}
use Rattle.route_events.specs.Backoff.{no_failures, is_barred_by}
use Rattle.route_choice.specs.Contents.{kept_failures}
use Rattle.route_choice.specs.FailedRoutes.{failures_of, is_of}
use Rattle.route_choice.proofs.Lookups.{not_barred}
use Rattle.route_choice.proofs.broken.Broken.is_broken.Goals as goal

pub returns-in-Some : goal.returns-in-Some
unfolding kept_failures
returns-in-Some c =
    let is_this = is_of c.args.origin.now c.args.route.now in
    let found : Some c.in-Some.failed.now ≡ find is_this c.args.self.now.failed.items = sym (ap option_copied c.in-Some.is) ∙ c.find_failed.ensures ∙ ap (find is_this) c.as_slice.ensures.value in
    c.bars.ensures ∙ ap (λ x. is_barred_by (option_map_or failures_of x no_failures) c.args.route.now c.args.now.0) found

pub returns-in-None : goal.returns-in-None
unfolding kept_failures
returns-in-None c =
    let is_this = is_of c.args.origin.now c.args.route.now in
    let none : None ≡ find is_this c.args.self.now.failed.items = sym (ap option_copied c.in-None.is) ∙ c.find_failed.ensures ∙ ap (find is_this) c.as_slice.ensures.value in
    sym (not_barred c.args.route.now c.args.now.0) ∙ ap (λ x. is_barred_by (option_map_or failures_of x no_failures) c.args.route.now c.args.now.0) none
