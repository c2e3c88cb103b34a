use Rattle.std.proofs.Common.{◌≡◌, ℕ, Bool, not, nat_eq, filter, Some, None, ap, sym, ◌∙◌, arith}
use Rattle.std.specs.List.{position_from}
use Rattle.conn_states.specs.Record.{Record}
use Rattle.route_events.proofs.Lists.{nat_eq-flip}
use Rattle.alt_base.proofs.Lists.{none_found}
use Rattle.request_dispatch.specs.ConnectionTable.{out_on}
use Rattle.request_dispatch.proofs.Closing.{at_place, item_at, stands_within, others_same}
use Rattle.request_dispatch.proofs.connections.close_one.Goals as goal

abbrev is_of : ℕ → Record → Bool
is_of number c = nat_eq c.number number

pub remove-requires : goal.remove-requires
remove-requires c =
    let place : position_from (is_of c.args.number) 0 c.args.connections.now.items ≡ Some c.in-Some.place = sym (c.in-Some.ensures ∙ ap (position_from (is_of c.args.number) 0) c.as_slice.ensures.value) in
    let at = at_place (is_of c.args.number) c.args.connections.now.items c.in-Some.place place in
    let within = stands_within c.args.connections.now.items c.in-Some.place at.item at.here in
    omega (arith, within)

pub returns-in-None-clause-lost : goal.returns-in-None-clause-lost
returns-in-None-clause-lost c =
    let place : position_from (is_of c.args.number) 0 c.args.connections.now.items ≡ None = sym (c.in-None.ensures ∙ ap (position_from (is_of c.args.number) 0) c.as_slice.ensures.value) in
    c.new.ensures ∙ ap out_on (sym (none_found (is_of c.args.number) 0 c.args.connections.now.items place))

pub returns-in-Some-clause-lost : goal.returns-in-Some-clause-lost
returns-in-Some-clause-lost c =
    let place : position_from (is_of c.args.number) 0 c.args.connections.now.items ≡ Some c.in-Some.place = sym (c.in-Some.ensures ∙ ap (position_from (is_of c.args.number) 0) c.as_slice.ensures.value) in
    let at = at_place (is_of c.args.number) c.args.connections.now.items c.in-Some.place place in
    c.close.ensures
    ∙ ap (λ (r : Record). r.outstanding) (c.remove.ensures.value ∙ item_at c.args.connections.now.items c.in-Some.place at.item c.remove.result at.here)
    ∙ ap out_on (sym at.found)

pub returns-in-Some-clause-left : goal.returns-in-Some-clause-left
returns-in-Some-clause-left c =
    let place : position_from (is_of c.args.number) 0 c.args.connections.now.items ≡ Some c.in-Some.place = sym (c.in-Some.ensures ∙ ap (position_from (is_of c.args.number) 0) c.as_slice.ensures.value) in
    let at = at_place (is_of c.args.number) c.args.connections.now.items c.in-Some.place place in
    ap (filter (is_other c.args.number)) c.remove.ensures.items
    ∙ others_same (is_other c.args.number) c.args.connections.now.items c.in-Some.place at.item at.here (ap not (nat_eq-flip c.args.number at.item.number ∙ at.passes))
  where
    is_other : ℕ → Record → Bool
    is_other number r = not (nat_eq number r.number)
