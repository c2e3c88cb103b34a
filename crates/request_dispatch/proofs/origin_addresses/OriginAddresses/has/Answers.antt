use Rattle.std.proofs.Common.{false, Bool, ◌||◌, ap, sym, ◌∙◌}
use Rattle.std.specs.Option.{option_map_or}
use Rattle.route_events.specs.Addresses.{name_of}
use Rattle.request_dispatch.specs.Looks.{lists_in_force}
use Rattle.request_dispatch.specs.Asked.{asked_by}
use Rattle.request_dispatch.proofs.origin_addresses.OriginAddresses.has.Goals as goal

pub returns-then-is_at : goal.returns-then-is_at
unfolding asked_by
returns-then-is_at c =
    let known = c.args.self.now in
    let resolves : Bool = option_map_or (lists_in_force known.answers.now known.moment.0 c.args.addr.now) (name_of known.origin.host) false in
    c.if-is_at.true ∙ ap (λ b. b || resolves) (sym c.if-is_at.true ∙ c.is_at.ensures)

pub returns-else-is_at : goal.returns-else-is_at
unfolding asked_by
returns-else-is_at c =
    let known = c.args.self.now in
    let resolves : Bool = option_map_or (lists_in_force known.answers.now known.moment.0 c.args.addr.now) (name_of known.origin.host) false in
    c.resolves_to.ensures
    ∙ ap (λ name. option_map_or (lists_in_force known.answers.now known.moment.0 c.args.addr.now) name false) known.named
    ∙ ap (λ b. b || resolves) (sym c.if-is_at.false ∙ c.is_at.ensures)
