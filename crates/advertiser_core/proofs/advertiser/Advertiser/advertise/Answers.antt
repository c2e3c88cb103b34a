use Rattle.std.proofs.Common.{◌≡◌, ℕ, List, subst, ◌++◌, ◌∷◌, [], true, false, sym, ◌∙◌}
use Rattle.advertiser_core.specs.Acts.{Act, Advertise}
use Rattle.advertiser_core.specs.Refusals.{IsOver}
use Rattle.advertiser_core.specs.StandsFor.{StandsFor, Refuses}
use Rattle.advertiser_core.specs.Messages.{value_payload, framed}
use Rattle.advertiser_core.proofs.ServedLists.{list_advertised}
use Rattle.advertiser_core.proofs.Standing.{found_where_served, full_where_kept, refused_as_full, refused_as_over, not_refused, by_served, refused_by_fault, if_err, within_along}
use Rattle.advertiser_core.proofs.advertiser.Advertiser.advertise.Goals as goal

pub returns-then-not-contains-clause-refused : goal.returns-then-not-contains-clause-refused
returns-then-not-contains-clause-refused c = λ acts s.
    by_served acts c.args.origin.now c.args.value false (sym (found_where_served c.args.self.now acts c.args.origin.now s) ∙ sym c.contains.ensures ∙ c.if-not-contains.true)

pub returns-then-is_full-clause-refused : goal.returns-then-is_full-clause-refused
returns-then-is_full-clause-refused c = λ acts s.
    by_served acts c.args.origin.now c.args.value true (sym (found_where_served c.args.self.now acts c.args.origin.now s) ∙ sym c.contains.ensures ∙ c.if-not-contains.false)
    ∙ refused_as_full acts (value_payload c.args.origin.now c.args.value) (full_where_kept c.args.self.now acts true s (sym c.is_full.ensures ∙ c.if-is_full.true))

pub returns-in_err-payload-clause-refused : goal.returns-in_err-payload-clause-refused
returns-in_err-payload-clause-refused c =
    let act : Act = Advertise c.args.origin.now c.args.value in
    let over = λ (n : ℕ) (is : IsOver (value_payload c.args.origin.now c.args.value) n) (acts : List Act) (s : StandsFor c.args.self.now acts).
    by_served acts c.args.origin.now c.args.value true (sym (found_where_served c.args.self.now acts c.args.origin.now s) ∙ sym c.contains.ensures ∙ c.if-not-contains.false)
    ∙ refused_as_over acts (value_payload c.args.origin.now c.args.value) n (full_where_kept c.args.self.now acts false s (sym c.is_full.ensures ∙ c.if-is_full.false)) is in
    if_err c.from_residual.result _ _ c.from_residual.ensures.1
    (λ fault e. subst (Refuses c.args.self.now act) (sym e) (refused_by_fault c.args.self.now act (value_payload c.args.origin.now c.args.value) c.in_err-payload.field-0.0 c.in_err-payload.ensures.over over))

pub returns-clause-advertised : goal.returns-clause-advertised
returns-clause-advertised c = λ acts s.
    let payload : c.in_ok-payload.payload ≡ value_payload c.args.origin.now c.args.value = c.in_ok-payload.ensures.ok in
    record {
      accepted = (
        (c.requires.origin, c.requires.value),
        by_served acts c.args.origin.now c.args.value true (sym (found_where_served c.args.self.now acts c.args.origin.now s) ∙ sym c.contains.ensures ∙ c.if-not-contains.false)
            ∙ not_refused acts (value_payload c.args.origin.now c.args.value) (full_where_kept c.args.self.now acts false s (sym c.is_full.ensures ∙ c.if-is_full.false)) (within_along _ _ payload c.in_ok-payload.ensures.within),
        s.accepted,
      );
      served = s.served ∙ sym (list_advertised acts c.args.origin.now c.args.value);
      messages = c.in_ok-add.ensures.added ∙ (λ i. s.messages i ++ framed 10 (payload i) ∷ []);
    }
