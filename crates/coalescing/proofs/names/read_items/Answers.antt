use Rattle.std.proofs.Common.{rules, length, ◌+◌, nat_eq, [], ◌∷◌, ◌++◌, tests, arith}
use Rattle.std.proofs.lemmas.Iterator.Splits.{YieldsList-from_slice_split}
use Rattle.std.proofs.lemmas.Iterator.Consumers.{YieldsList-turn, YieldsList-end}
use Rattle.std.proofs.lemmas.List.{length_push, drop_all}
use Rattle.coalescing.specs.NamesReading.{items_of}
use Rattle.coalescing.proofs.Reading.{IsSoFar, at_start, one_more, place_within, bad_item, at_last}
use Rattle.coalescing.proofs.names.read_items.Goals as goal
use Rattle.alt_base.proofs.Lists.{next_item}

pub loop-item-init : goal.loop-item-init
loop-item-init c = rw c.new-names.ensures (at_start _)

pub overflow_cast-result : goal.overflow_cast-result
overflow_cast-result c =
    let turn = YieldsList-turn (YieldsList-from_slice_split _ (λ b. nat_eq b 44) c.args.text.now (cc) (cc) (cc) (λ x r q k. search (rules, tests))) c.loop-item.yielded _ c.loop-item.yielded_by _ _ c.in-Some.item c.in-Some.is c.next.ensures.steps in
    let next = next_item (items_of c.args.text.now) (length c.loop-item.yielded) c.in-Some.item.now turn in
    omega (arith, place_within _ _ c.in-Some.item.now _ _ c.loop-item.invariant next)

pub returns-in-None-2 : goal.returns-in-None-2
returns-in-None-2 c =
    let turn = YieldsList-turn (YieldsList-from_slice_split _ (λ b. nat_eq b 44) c.args.text.now (cc) (cc) (cc) (λ x r q k. search (rules, tests))) c.loop-item.yielded _ c.loop-item.yielded_by _ _ c.in-Some.item c.in-Some.is c.next.ensures.steps in
    let next = next_item (items_of c.args.text.now) (length c.loop-item.yielded) c.in-Some.item.now turn in
    bad_item _ _ c.in-Some.item.now _ _ c.loop-item.invariant next (cc (c.in_ok-name.ensures))

pub loop-item-preserved : goal.loop-item-preserved
loop-item-preserved c =
    let turn = YieldsList-turn (YieldsList-from_slice_split _ (λ b. nat_eq b 44) c.args.text.now (cc) (cc) (cc) (λ x r q k. search (rules, tests))) c.loop-item.yielded _ c.loop-item.yielded_by _ _ c.in-Some.item c.in-Some.is c.next.ensures.steps in
    let next = next_item (items_of c.args.text.now) (length c.loop-item.yielded) c.in-Some.item.now turn in
    let h : IsSoFar c.args.text.now (c.loop-item.names ++ c.in-Some-2.name ∷ []) (c.loop-item.place + (length c.in-Some.item.now + 1)) (length c.loop-item.yielded + 1) = one_more _ _ _ _ _ _ c.loop-item.invariant next (cc (c.in_ok-name.ensures)) in
    rw (c.in_ok-push-in-Some-2.ensures.ok, length_push c.loop-item.yielded c.in-Some.item) h

pub returns : goal.returns
returns c =
    let end = YieldsList-end (YieldsList-from_slice_split _ (λ b. nat_eq b 44) c.args.text.now (cc) (cc) (cc) (λ x r q k. search (rules, tests))) c.loop-item.yielded _ c.loop-item.yielded_by _ _ c.in-None.is c.next.ensures.steps in
    at_last _ _ _ _ c.loop-item.invariant (drop_all (length c.loop-item.yielded) (items_of c.args.text.now) (omega (arith, end.1)))
