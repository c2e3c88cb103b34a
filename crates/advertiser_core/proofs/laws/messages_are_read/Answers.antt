use Rattle.std.proofs.Common.{refl, Some}
use Rattle.advertiser_core.specs.ServedList.{served_list}
use Rattle.advertiser_core.proofs.Forms.{served_are_origins, short_value}
use Rattle.advertiser_core.proofs.laws.messages_are_read.Goals as goal

pub returns-clause-announced : goal.returns-clause-announced
returns-clause-announced c = λ acts accepted. c.written_origins_are_listed.ensures.back (served_list acts) (served_are_origins acts accepted.2)

pub returns-clause-advertised : goal.returns-clause-advertised
returns-clause-advertised c = λ acts origin value accepted.
    c.written_frames_are_read.ensures.back 0 (record { origin = Some origin; value = value }) (record { origin = accepted.0.0; value = accepted.0.1 }) refl (short_value acts origin value accepted)
