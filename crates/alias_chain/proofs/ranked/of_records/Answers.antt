use Rattle.std.proofs.Common.{◌≡◌, ◌∙◌, ℕ, List, [], ◌∷◌, map, filter, ap, refl}
use Rattle.origin_values.specs.declared.protos.Protos.{Protos}
use Rattle.svcb_wire.specs.declared.svcb.Svcb.{Svcb}
use Rattle.alias_chain.specs.declared.ranked.Ranked.{Ranked}
use Rattle.alias_chain.specs.Walk.{NameOf}
use Rattle.alias_chain.specs.Endpoints.{can_use, endpoint_of}
use Rattle.alias_chain.specs.Following.{ascending}
use Rattle.alias_chain.specs.Ranks.{ranked_of}
use Rattle.alias_chain.proofs.Order.{ascending_map}
use Rattle.alias_chain.proofs.ranked.of_records.Goals as goal

endpoints_ranked : (supported : Protos) (port : ℕ) (name : NameOf) (records : List Svcb) → map (λ (r : Ranked). r.endpoint) (map (ranked_of supported port name) records) ≡ map (endpoint_of supported port name) records
endpoints_ranked supported port name [] = refl
endpoints_ranked supported port name (r ∷ records) = ap (λ es. endpoint_of supported port name r ∷ es) (endpoints_ranked supported port name records)

pub returns : goal.returns
returns c =
    let supported = c.args.supported.now in
    let f = ranked_of supported c.args.port c.args.name.now in
    let usable = filter (can_use supported) c.args.records.now in
    c.in_ok-endpoints.ensures
    ∙ ap (λ rs. map (λ (r : Ranked). r.endpoint) (ascending (λ (r : Ranked). r.priority) rs)) c.in_ok-all.ensures
    ∙ ap (map (λ (r : Ranked). r.endpoint)) (ascending_map f (λ (r : Ranked). r.priority) usable)
    ∙ endpoints_ranked supported c.args.port c.args.name.now (ascending (λ (r : Svcb). r.priority) usable)
