-- What is done by some routes is what is done by those that a request may take.
use Rattle.std.proofs.Common.{◌≡◌, ℕ, Bool, true, false, ◌&&◌, List, filter, find, refl, ap, sym, ◌∙◌}
use Rattle.std.specs.List.{list_any}
use Rattle.origin_values.specs.declared.address.Addr.{Addr}
use Rattle.origin_values.specs.declared.origin.Origin.{Origin}
use Rattle.answer_store.specs.declared.store.AnswerStore.{AnswerStore}
use Rattle.network_cache.specs.declared.cache.Cache.{Cache}
use Rattle.route_choice.specs.declared.broken.Broken.{Broken}
use Rattle.route_choice.specs.Usable.{is_open_to}
use Rattle.route_events.specs.declared.route.Route.{Route}
use Rattle.route_events.specs.Dispatch.{first_of}
use Rattle.request_dispatch.specs.declared.tables.Tables.{Tables}
use Rattle.request_dispatch.specs.declared.waiting.Waiting.{Waiting}
use Rattle.request_dispatch.specs.AttemptTable.{is_awaited}
use Rattle.request_dispatch.specs.Looks.{Look, look_by}
use Rattle.request_dispatch.specs.Choices.{routes_to, may_take, may_await, by_usable, by_routes, otherwise}
use Rattle.route_events.proofs.Lists.{first_found}
use Rattle.request_dispatch.proofs.Listing.{any_passed, any_same_in}

and_assoc : (a b c : Bool) → (a && (b && c)) ≡ ((a && b) && c)
and_assoc true b c = refl
and_assoc false b c = refl

pub by_routes_is : (cache : Cache) (broken : Broken) (answers : AnswerStore) (now : ℕ) (at : Origin → Addr → Bool) (t : Tables) (w : Waiting) (rs : List Route) →
    rs ≡ routes_to (look_by cache broken answers now at) w.request.origin → by_routes at broken now t w rs ≡ otherwise (look_by cache broken answers now at) t w
by_routes_is cache broken answers now at t w rs are = ap (by_routes at broken now t w) are ∙ (λ i. by_usable at t w (awaited i) (first i))
  where
    look : Look
    look = look_by cache broken answers now at

    all : List Route
    all = routes_to look w.request.origin

    awaited : list_any (may_await broken now t w) all ≡ list_any (is_awaited t.attempts w.request.origin) (filter (may_take look w) all)
    awaited = any_same_in (may_await broken now t w) (λ r. may_take look w r && is_awaited t.attempts w.request.origin r) all (λ r found. and_assoc _ _ (is_awaited t.attempts w.request.origin r))
        ∙ sym (any_passed (may_take look w) (is_awaited t.attempts w.request.origin) all)

    first : find (is_open_to broken w.request.origin now w.tried) all ≡ first_of (filter (may_take look w) all)
    first = first_found (may_take look w) all
