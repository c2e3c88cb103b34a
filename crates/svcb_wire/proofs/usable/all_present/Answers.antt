use Rattle.std.proofs.Common.{◌+◌, ◌≤◌, length, sym, ◌∙◌, ap, arith}
use Rattle.std.proofs.lemmas.List.{take_rest, length-drop}
use Rattle.svcb_wire.proofs.Presence.{found_behind, present_on, absent_at, none_left}
use Rattle.svcb_wire.proofs.usable.all_present.Goals as goal
use Rattle.svcb_wire.proofs.usable.all_present.Goals.{else-not-begins_with-via-then-not-begins_with+else-not-has_key, else-not-begins_with-via-else-not-begins_with}

pub loop-key-preserved : goal.loop-key-preserved
loop-key-preserved c =
    let params = c.args.params.now in
    let within : c.loop-key.at + c.below-at.result ≤ length params = omega (arith, c.below-at.ensures, ap length (take_rest params c.loop-key.at), length-drop c.loop-key.at params, c.loop-key.invariant.within) in
    elim c.else-not-begins_with.branch [
      | else-not-begins_with-via-then-not-begins_with+else-not-has_key w ↦ record {
        within = within;
        rest = present_on params c.args.keys.now c.loop-key.key-index _ c.loop-key-test.true (sym w.has_key.ensures ∙ w.if-not-has_key.false) c.loop-key.invariant.rest;
      }
      | else-not-begins_with-via-else-not-begins_with w ↦ record {
        within = within;
        rest = present_on params c.args.keys.now c.loop-key.key-index _ c.loop-key-test.true (found_behind _ (c.loop-key.at + c.below-at.result) params _ (take_rest params (c.loop-key.at + c.below-at.result)) (sym c.begins_with.ensures ∙ w.if-not-begins_with.false)) c.loop-key.invariant.rest;
      }
    ]

pub returns-then-not-has_key : goal.returns-then-not-has_key
returns-then-not-has_key c = absent_at c.args.params.now c.args.keys.now c.loop-key.key-index _ c.loop-key-test.true (sym c.has_key.ensures ∙ c.if-not-has_key.true) c.loop-key.invariant.rest

pub returns : goal.returns
returns c = none_left c.args.params.now c.args.keys.now c.loop-key.key-index _ (omega arith) c.loop-key.invariant.rest
