use Rattle.std.proofs.Common.{ap, ◌∙◌, sym, arith}
use Rattle.std.specs.List.{position_from}
use Rattle.request_dispatch.proofs.Placing.{is_above, none_above, within, first_above}
use Rattle.request_dispatch.proofs.requests.put_in_place.Goals as goal

pub insert-requires : goal.insert-requires
insert-requires c =
    let place = sym (c.in-Some.ensures ∙ ap (position_from (is_above c.args.request.request.number) 0) c.as_slice.ensures.value) in
    let inside = (within (is_above c.args.request.request.number) 0 c.in-Some.place c.args.waiting.now.items place).1 in
    omega arith

pub returns-in_ok-push-in-None : goal.returns-in_ok-push-in-None
returns-in_ok-push-in-None c =
    let none = sym (c.in-None.ensures ∙ ap (position_from (is_above c.args.request.request.number) 0) c.as_slice.ensures.value) in
    c.in_ok-push-in-None.ensures.items ∙ sym (none_above c.args.request 0 c.args.waiting.now.items none)

pub returns-in_ok-insert-in-Some : goal.returns-in_ok-insert-in-Some
returns-in_ok-insert-in-Some c =
    let place = sym (c.in-Some.ensures ∙ ap (position_from (is_above c.args.request.request.number) 0) c.as_slice.ensures.value) in
    c.in_ok-insert-in-Some.ensures.items ∙ sym (first_above c.args.request c.in-Some.place c.args.waiting.now.items place)
