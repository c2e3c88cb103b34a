use Rattle.std.proofs.Common.{◌≡◌, true, cond, Option, Some, None, ap, sym, ◌∙◌}
use Rattle.advertiser_core.specs.declared.fault.ServerFault.{ServerFault}
use Rattle.advertiser_core.specs.declared.fault.ServerFault.TheVariants.{NotServed}
use Rattle.advertiser_core.specs.ServedList.{is_served}
use Rattle.advertiser_core.proofs.Standing.{found_where_served, removed_is_unlisted}
use Rattle.advertiser_core.proofs.advertiser.Advertiser.unserve.Goals as goal

pub returns-then-shift_remove-clause-unserved : goal.returns-then-shift_remove-clause-unserved
returns-then-shift_remove-clause-unserved c = λ acts s.
    let served : is_served acts c.args.origin.now ≡ true = sym (found_where_served c.args.self.now acts c.args.origin.now s) ∙ sym c.shift_remove.ensures.found ∙ c.if-shift_remove.true in
    record {
      accepted = (tt, ap (λ t. cond {A = Option ServerFault} t None (Some NotServed)) served, s.accepted);
      served = c.shift_remove.ensures.keys ∙ removed_is_unlisted c.args.self.now acts c.args.origin.now s;
      messages = s.messages;
    }

pub returns-else-shift_remove-clause-not_served : goal.returns-else-shift_remove-clause-not_served
returns-else-shift_remove-clause-not_served c = λ acts s.
    sym (found_where_served c.args.self.now acts c.args.origin.now s) ∙ sym c.shift_remove.ensures.found ∙ c.if-shift_remove.false
