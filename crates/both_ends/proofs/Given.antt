-- What the server gives.
use Rattle.std.proofs.Common.{◌≡◌, ◌↔◌, ℕ, ◌+◌, suc, Bool, true, false, cond, List, [], ◌∷◌, ◌++◌, length, slice_get, Option, Some, None, refl, ap, sym, ◌∙◌, subst, add-one}
use Rattle.std.proofs.lemmas.List.{length_push}
use Rattle.origin_values.specs.declared.origin.Origin.{Origin}
use Rattle.advertiser_core.specs.Acts.{Act}
use Rattle.advertiser_core.specs.Messages.{messages, numbered, origins_message, value_message}
use Rattle.advertiser_core.specs.ServedList.{is_served, served_list}
use Rattle.advertiser_core.specs.declared.answer.Answer.{Answer}
use Rattle.advertiser_core.specs.declared.answer.Answer.TheVariants as answer
use Rattle.advertiser_core.specs.declared.message.Message.{Message}
use Rattle.advertiser_core.proofs.Numbers.{last_numbered}
use Rattle.altsvc_grammar.specs.declared.alt_svc.AltSvc.TheVariants as value
use Rattle.event_lines.specs.declared.event.Event.TheVariants.{Server}
use Rattle.event_lines.specs.declared.server_act.ServerAct.{ServerAct}
use Rattle.event_lines.specs.declared.server_act.ServerAct.TheVariants.{Serve, Unserve, Offer, Withdraw, Announce, Deliver, Ask}
use Rattle.router_core.specs.Lent.{outstanding_origin}
use Rattle.both_ends.specs.ServerActs.{with_act, answer_for, output_by, message_by}
use Rattle.both_ends.specs.Histories.{History, acts_of, journal_of, server_output}
use Rattle.both_ends.specs.declared.output.ServerOutput.{ServerOutput}
use Rattle.both_ends.specs.declared.output.ServerOutput.TheVariants.{Nothing, Made, Answered}

pub answers_so : (h : History) (request : ℕ) (o : Origin) → outstanding_origin (journal_of h) request ≡ Some o → (server_output h (Server (Ask request)) ≡ Answered request answer.Serve) ↔ (is_served (acts_of h) o ≡ true)
answers_so h request o out = rw out (by_test (is_served (acts_of h) o))
  where
    by_test : (b : Bool) → (Answered request (cond b answer.Serve answer.Misdirected) ≡ Answered request answer.Serve) ↔ (b ≡ true)
    by_test true = (λ e. refl, λ e. refl)
    by_test false = (λ e. cc, λ e. cc)

number_is : (k n : ℕ) → Made k ≡ Made n → k ≡ n
number_is k n e = ap (λ (x : ServerOutput). number_in x) e
  where
    number_in : ServerOutput → ℕ
    number_in (Made m) = m
    number_in _ = n

pub counts_so : (acts : List Act) (asked : Option Origin) (act : ServerAct) (n : ℕ) → output_by acts asked act ≡ Made n → n ≡ length (messages (with_act act acts))
counts_so acts asked (Serve o) n e = cc
counts_so acts asked (Unserve o) n e = cc
counts_so acts asked (Offer o alts) n e = sym (number_is _ n e) ∙ sym (length_push (messages acts) (value_message o (value.List alts)))
counts_so acts asked (Withdraw o) n e = sym (number_is _ n e) ∙ sym (length_push (messages acts) (value_message o value.Clear))
counts_so acts asked Announce n e = sym (number_is _ n e) ∙ sym (length_push (messages acts) (origins_message (served_list acts)))
counts_so acts asked (Deliver message conn) n e = cc
counts_so acts asked (Ask request) n e = cc

pub messages_so : (acts : List Act) (asked : Option Origin) (act : ServerAct) (n : ℕ) → output_by acts asked act ≡ Made n → numbered (messages (with_act act acts)) n ≡ message_by acts act
messages_so acts asked (Serve o) n e = cc
messages_so acts asked (Unserve o) n e = cc
messages_so acts asked (Offer o alts) n e = subst (λ k. numbered (messages acts ++ value_message o (value.List alts) ∷ []) k ≡ Some (value_message o (value.List alts))) (number_is _ n e) (last_numbered (messages acts) (value_message o (value.List alts)))
messages_so acts asked (Withdraw o) n e = subst (λ k. numbered (messages acts ++ value_message o value.Clear ∷ []) k ≡ Some (value_message o value.Clear)) (number_is _ n e) (last_numbered (messages acts) (value_message o value.Clear))
messages_so acts asked Announce n e = subst (λ k. numbered (messages acts ++ origins_message (served_list acts) ∷ []) k ≡ Some (origins_message (served_list acts))) (number_is _ n e) (last_numbered (messages acts) (origins_message (served_list acts)))
messages_so acts asked (Deliver message conn) n e = cc
messages_so acts asked (Ask request) n e = cc
