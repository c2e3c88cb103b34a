use Rattle.std.proofs.Common.{◌≡◌, ℕ, Bool, List, Option, Some, None, refl, ap, sym, ◌∙◌}
use Rattle.std.specs.Prelude.{IfSome, IsNone, find, slice_get}
use Rattle.std.specs.List.{position_from}
use Rattle.route_choice.specs.Usable.{is_open_to}
use Rattle.alt_base.proofs.Lists.{none_found}
use Rattle.route_choice.proofs.Places.{found_at, no_place}
use Rattle.route_choice.proofs.usable.first_usable.Goals as goal

at_place : {X : Type 0} (t : X → Bool) (xs : List X) (result : Option ℕ) → result ≡ position_from t 0 xs → IfSome result (λ place. slice_get xs place ≡ find t xs)
at_place t xs None h = tt
at_place t xs (Some place) h = found_at t place xs (sym h)

none_where : (result : Option ℕ) → IsNone result → result ≡ None
none_where None h = refl
none_where (Some place) h = absurd (cc)

is_none_where : (result : Option ℕ) → result ≡ None → IsNone result
is_none_where None h = refl
is_none_where (Some place) h = absurd (cc)

pub returns-clause-route : goal.returns-clause-route
returns-clause-route c =
    let t = is_open_to c.args.broken.now c.args.origin.now c.args.now.0 c.args.barred.now in
    at_place t c.args.routes.now c.place_of_open.result (c.place_of_open.ensures ∙ ap (position_from t 0) c.as_slice.ensures)

pub returns-clause-none : goal.returns-clause-none
returns-clause-none c =
    let t = is_open_to c.args.broken.now c.args.origin.now c.args.now.0 c.args.barred.now in
    let place = c.place_of_open.ensures ∙ ap (position_from t 0) c.as_slice.ensures in (
      λ none. none_found t 0 c.args.routes.now (sym place ∙ none_where c.place_of_open.result none),
      λ none. is_none_where c.place_of_open.result (place ∙ no_place t 0 c.args.routes.now none),
    )
