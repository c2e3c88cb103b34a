use Rattle.std.proofs.Common.{◌≡◌, ℕ, List, Some, sym, ap, ◌∙◌, subst}
use Rattle.advertiser_core.specs.declared.message.Message.{Message}
use Rattle.advertiser_core.specs.Messages.{messages, numbered, IsWhole}
use Rattle.advertiser_core.proofs.MadeMessages.{numbered_is_whole}
use Rattle.advertiser_core.proofs.advertiser.Advertiser.message.Goals as goal

pub returns-clause-whole : goal.returns-clause-whole
returns-clause-whole c = λ acts s.
    let message : Message = c.in_ok-message.message.now in
    let found : numbered (messages acts) c.args.number ≡ Some message = ap (λ (made : List Message). numbered made c.args.number) (sym s.messages) ∙ sym c.in_ok-message.ensures in
    subst (λ (octets : List ℕ). let m : Message = record { head = message.head; payload = octets } in IsWhole m) (sym c.as_slice.ensures) (numbered_is_whole acts c.args.number message s.accepted found)
