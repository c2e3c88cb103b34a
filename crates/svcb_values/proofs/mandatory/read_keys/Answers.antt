use Rattle.std.proofs.Common.{rules, length, ◌+◌, nat_eq, tests, arith, Some, ap, ◌∙◌}
use Rattle.std.proofs.lemmas.Iterator.Splits.{YieldsList-from_slice_split}
use Rattle.std.proofs.lemmas.Iterator.Consumers.{YieldsList-turn, YieldsList-end}
use Rattle.std.proofs.lemmas.List.{length_push, drop_all}
use Rattle.svcb_values.specs.ValueReading.{items_of}
use Rattle.alt_base.proofs.Lists.{next_item}
use Rattle.svcb_values.proofs.KeySets.{IsSoFar, no_key, key_zero, key_again, key_on, key_end}
use Rattle.svcb_values.proofs.mandatory.read_keys.Goals as goal

pub loop-name-init : goal.loop-name-init
loop-name-init c = search rules

pub returns-in_default : goal.returns-in_default
returns-in_default c =
    let turn = YieldsList-turn (YieldsList-from_slice_split _ (λ b. nat_eq b 44) c.args.text.now (cc) (cc) (cc) (λ x r q k. search (rules, tests))) c.loop-name.yielded _ c.loop-name.yielded_by _ _ c.in-Some.name c.in-Some.is c.next.ensures.steps in
    let next = next_item (items_of c.args.text.now) (length c.loop-name.yielded) c.in-Some.name.now turn in
    no_key c.args.text.now c.in-Some.name.now c.loop-name.keys.keys (length c.loop-name.yielded) c.loop-name.invariant next (cc)

pub returns-then-key-eq0 : goal.returns-then-key-eq0
returns-then-key-eq0 c =
    let turn = YieldsList-turn (YieldsList-from_slice_split _ (λ b. nat_eq b 44) c.args.text.now (cc) (cc) (cc) (λ x r q k. search (rules, tests))) c.loop-name.yielded _ c.loop-name.yielded_by _ _ c.in-Some.name c.in-Some.is c.next.ensures.steps in
    let next = next_item (items_of c.args.text.now) (length c.loop-name.yielded) c.in-Some.name.now turn in
    key_zero c.args.text.now c.in-Some.name.now c.loop-name.keys.keys (length c.loop-name.yielded) c.in-Some-key_named.key c.loop-name.invariant next (cc) c.if-key-eq0.true

pub returns-then-not-branch : goal.returns-then-not-branch
returns-then-not-branch c =
    let turn = YieldsList-turn (YieldsList-from_slice_split _ (λ b. nat_eq b 44) c.args.text.now (cc) (cc) (cc) (λ x r q k. search (rules, tests))) c.loop-name.yielded _ c.loop-name.yielded_by _ _ c.in-Some.name c.in-Some.is c.next.ensures.steps in
    let next = next_item (items_of c.args.text.now) (length c.loop-name.yielded) c.in-Some.name.now turn in
    key_again c.args.text.now c.in-Some.name.now c.loop-name.keys.keys (length c.loop-name.yielded) c.in-Some-key_named.key c.in_ok-insert.field-0 c.loop-name.invariant next (cc) c.in_ok-insert.ensures.added c.if-not-branch.true

pub loop-name-preserved : goal.loop-name-preserved
loop-name-preserved c =
    let turn = YieldsList-turn (YieldsList-from_slice_split _ (λ b. nat_eq b 44) c.args.text.now (cc) (cc) (cc) (λ x r q k. search (rules, tests))) c.loop-name.yielded _ c.loop-name.yielded_by _ _ c.in-Some.name c.in-Some.is c.next.ensures.steps in
    let next = next_item (items_of c.args.text.now) (length c.loop-name.yielded) c.in-Some.name.now turn in
    let h : IsSoFar c.args.text.now c.insert.new.self.keys (length c.loop-name.yielded + 1) =
    key_on c.args.text.now c.in-Some.name.now c.loop-name.keys.keys c.insert.new.self.keys (length c.loop-name.yielded) c.in-Some-key_named.key c.in_ok-insert.field-0 c.loop-name.invariant next (cc) c.if-key-eq0.false c.in_ok-insert.ensures.added c.if-not-branch.false c.in_ok-insert.ensures.keys in
    rw (length_push c.loop-name.yielded c.in-Some.name) h

pub returns : goal.returns
returns c =
    let end = YieldsList-end (YieldsList-from_slice_split _ (λ b. nat_eq b 44) c.args.text.now (cc) (cc) (cc) (λ x r q k. search (rules, tests))) c.loop-name.yielded _ c.loop-name.yielded_by _ _ c.in-None.is c.next.ensures.steps in
    let h = key_end c.args.text.now c.loop-name.keys.keys (length c.loop-name.yielded) c.loop-name.invariant (drop_all (length c.loop-name.yielded) (items_of c.args.text.now) (omega (arith, end.1))) in
    ap Some c.in_ok-listed.ensures ∙ h
