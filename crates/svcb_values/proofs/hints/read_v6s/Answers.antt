use Rattle.std.proofs.Common.{rules, length, ◌+◌, nat_eq, tests, arith}
use Rattle.std.proofs.lemmas.Iterator.Splits.{YieldsList-from_slice_split}
use Rattle.std.proofs.lemmas.Iterator.Consumers.{YieldsList-turn, YieldsList-end}
use Rattle.std.proofs.lemmas.List.{length_push, drop_all}
use Rattle.svcb_values.specs.ValueReading.{items_of, read_v6}
use Rattle.alt_base.proofs.Lists.{next_item}
use Rattle.svcb_values.proofs.AddressLists.{IsSoFar, at_start, one_more, no_address, at_last}
use Rattle.svcb_values.proofs.hints.read_v6s.Goals as goal

pub loop-item-init : goal.loop-item-init
loop-item-init c = rw c.new-addresses.ensures (at_start read_v6 c.args.text.now)

pub returns-in_default : goal.returns-in_default
returns-in_default c =
    let turn = YieldsList-turn (YieldsList-from_slice_split _ (λ b. nat_eq b 44) c.args.text.now (cc) (cc) (cc) (λ x r q k. search (rules, tests))) c.loop-item.yielded _ c.loop-item.yielded_by _ _ c.in-Some.item c.in-Some.is c.next.ensures.steps in
    let next = next_item (items_of c.args.text.now) (length c.loop-item.yielded) c.in-Some.item.now turn in
    no_address read_v6 c.args.text.now c.in-Some.item.now c.loop-item.addresses (length c.loop-item.yielded) c.loop-item.invariant next (cc)

pub loop-item-preserved : goal.loop-item-preserved
loop-item-preserved c =
    let turn = YieldsList-turn (YieldsList-from_slice_split _ (λ b. nat_eq b 44) c.args.text.now (cc) (cc) (cc) (λ x r q k. search (rules, tests))) c.loop-item.yielded _ c.loop-item.yielded_by _ _ c.in-Some.item c.in-Some.is c.next.ensures.steps in
    let next = next_item (items_of c.args.text.now) (length c.loop-item.yielded) c.in-Some.item.now turn in
    let h : IsSoFar read_v6 c.args.text.now c.push.new.self (length c.loop-item.yielded + 1) = one_more read_v6 c.args.text.now c.in-Some.item.now c.in-Some-read_v6.address c.loop-item.addresses c.push.new.self (length c.loop-item.yielded) c.loop-item.invariant next (cc) c.in_ok-push.ensures.ok in
    rw (length_push c.loop-item.yielded c.in-Some.item) h

pub returns : goal.returns
returns c =
    let end = YieldsList-end (YieldsList-from_slice_split _ (λ b. nat_eq b 44) c.args.text.now (cc) (cc) (cc) (λ x r q k. search (rules, tests))) c.loop-item.yielded _ c.loop-item.yielded_by _ _ c.in-None.is c.next.ensures.steps in
    at_last read_v6 c.args.text.now c.loop-item.addresses (length c.loop-item.yielded) c.loop-item.invariant (drop_all (length c.loop-item.yielded) (items_of c.args.text.now) (omega (arith, end.1)))
