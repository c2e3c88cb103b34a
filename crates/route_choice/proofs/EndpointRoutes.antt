-- The routes to some endpoints, one more at a time.
use Rattle.std.proofs.Common.{◌≡◌, ℕ, ◌+◌, ◌<◌, List, [], ◌∷◌, ◌++◌, length, map, take, get_or, ap, sym, ◌∙◌, append_assoc}
use Rattle.std.proofs.lemmas.List.{map_more}
use Rattle.alias_chain.specs.declared.endpoint.Endpoint.{Endpoint}
use Rattle.route_events.specs.declared.route.Route.{Route}
use Rattle.route_events.specs.declared.route.Route.TheVariants.{Rec}

pub one_more : (routes : List Route) (found : List Endpoint) (i : ℕ) (e : Endpoint) → i < length found → e ≡ get_or found i e → (routes ++ map Rec (take i found)) ++ Rec e ∷ [] ≡ routes ++ map Rec (take (i + 1) found)
one_more routes found i e within is =
    append_assoc routes (map Rec (take i found)) (Rec e ∷ [])
    ∙ ap (λ (rs : List Route). routes ++ rs) (ap (λ (x : Endpoint). map Rec (take i found) ++ Rec x ∷ []) is ∙ sym (map_more Rec found i e within))
