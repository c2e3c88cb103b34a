use Rattle.std.proofs.Common.{◌≡◌, ◌++◌, ◌∷◌, [], false, ap, sym, ◌∙◌}
use Rattle.origin_frame.specs.PayloadWritten.{payload_of as origins_payload}
use Rattle.advertiser_core.specs.ServedList.{served_list}
use Rattle.advertiser_core.specs.Messages.{framed}
use Rattle.advertiser_core.proofs.ServedLists.{list_announced}
use Rattle.advertiser_core.proofs.Standing.{full_where_kept, not_refused, within_along}
use Rattle.advertiser_core.proofs.advertiser.Advertiser.announce.Goals as goal

pub returns-clause-announced : goal.returns-clause-announced
returns-clause-announced c = λ acts s.
    let payload : c.in_ok-payload.payload ≡ origins_payload (served_list acts) = c.in_ok-payload.ensures.ok ∙ ap origins_payload (c.as_slice.ensures.keys ∙ s.served) in
    record {
      accepted = (
        tt,
        not_refused acts (origins_payload (served_list acts)) (full_where_kept c.args.self.now acts false s (sym c.is_full.ensures ∙ c.if-is_full.false)) (within_along _ _ payload c.in_ok-payload.ensures.within),
        s.accepted,
      );
      served = s.served ∙ sym (list_announced acts);
      messages = c.in_ok-add.ensures.added ∙ (λ i. s.messages i ++ framed 12 (payload i) ∷ []);
    }
