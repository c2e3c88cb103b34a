-- By which event a message was made.
use Rattle.std.proofs.Common.{◌≡◌, ◌⊎◌, inl, inr, ℕ, ◌+◌, zero, suc, Bool, true, false, cond, List, [], ◌∷◌, ◌++◌, length, slice_get, Option, Some, None, refl, ap, ◌∙◌, arith}
use Rattle.advertiser_core.specs.Acts.{Act, offer_of}
use Rattle.advertiser_core.specs.Messages.{messages, numbered, origins_message, value_message, value_payload}
use Rattle.advertiser_core.specs.Refusals.{message_refusal, refusal, AreAccepted}
use Rattle.advertiser_core.specs.ServedList.{is_served, served_list}
use Rattle.advertiser_core.specs.declared.fault.ServerFault.TheVariants as fault
use Rattle.advertiser_core.specs.declared.message.Message.{Message}
use Rattle.altsvc_grammar.specs.declared.alt.Alt.{Alt}
use Rattle.altsvc_grammar.specs.declared.alt_svc.AltSvc.TheVariants as value
use Rattle.origin_values.specs.declared.origin.Origin.{Origin}
use Rattle.event_lines.specs.declared.event.Event.{Event}
use Rattle.event_lines.specs.declared.event.Event.TheVariants.{Client, Server, Skip}
use Rattle.event_lines.specs.declared.server_act.ServerAct.{ServerAct}
use Rattle.event_lines.specs.declared.server_act.ServerAct.TheVariants.{Serve, Unserve, Offer, Withdraw, Announce, Deliver, Ask}
use Rattle.both_ends.specs.ServerActs.{with_act, message_by}
use Rattle.both_ends.specs.Histories.{History, IsHistory, Begun, Later, IsInForm, acts_of, event_refusal}
use Rattle.both_ends.proofs.Accepted.{free_of, accepted, accepted_with}

-- a message was made by an act that was accepted
pub record WasMade (history : History) (n : ℕ) (message : Message) : Type 0 where
  pub newer : History
  pub before : History
  pub now : ℕ
  pub act : ServerAct
  pub split : history ≡ newer ++ (now, Server act) ∷ before
  pub counted : n ≡ length (messages (acts_of before)) + 1
  pub accepts : AreAccepted (with_act act (acts_of before))
  pub made : message_by (acts_of before) act ≡ Some message

-- a message among some and one more is one of those, or that one

at_end : (ms : List Message) (m x : Message) (i : ℕ) → slice_get (ms ++ m ∷ []) i ≡ Some x → (slice_get ms i ≡ Some x) ⊎ ((i ≡ length ms) × (m ≡ x))
at_end [] m x zero e = inr (refl, cc)
at_end [] m x (suc i) e = cc
at_end (y ∷ ms) m x zero e = inl e
at_end (y ∷ ms) m x (suc i) e = elim (at_end ms m x i e) [
  | inl there ↦ inl there
  | inr last ↦ inr (omega (arith, last.0), last.1)
]

pub last_or_before : (ms : List Message) (m x : Message) (n : ℕ) → numbered (ms ++ m ∷ []) n ≡ Some x → (numbered ms n ≡ Some x) ⊎ ((n ≡ length ms + 1) × (m ≡ x))
last_or_before ms m x zero e = cc
last_or_before ms m x (suc n) e = elim (at_end ms m x n e) [
  | inl there ↦ inl there
  | inr last ↦ inr (omega (arith, last.0), last.1)
]

none_made : (n : ℕ) (x : Message) (A : Type 0) → numbered [] n ≡ Some x → A
none_made zero x A e = cc
none_made (suc n) x A e = cc

-- an event more
further : (entry : ℕ × Event) (older : History) (n : ℕ) (m : Message) → WasMade older n m → WasMade (entry ∷ older) n m
further entry older n m was = record {
  newer = entry ∷ was.newer;
  before = was.before;
  now = was.now;
  act = was.act;
  split = ap (λ h. entry ∷ h) was.split;
  counted = was.counted;
  accepts = was.accepts;
  made = was.made;
}

-- the event makes the message, or it was made before
made_now : (older : History) (now : ℕ) (act : ServerAct) (n : ℕ) (last m : Message) → IsHistory older → IsInForm (Server act) → event_refusal older now (Server act) ≡ None → message_by (acts_of older) act ≡ Some last
    → ((k : ℕ) (x : Message) → numbered (messages (acts_of older)) k ≡ Some x → WasMade older k x)
    → (numbered (messages (acts_of older)) n ≡ Some m) ⊎ ((n ≡ length (messages (acts_of older)) + 1) × (last ≡ m)) → WasMade ((now, Server act) ∷ older) n m
made_now older now act n last m is form free makes earlier (inl there) = further (now, Server act) older n m (earlier n m there)
made_now older now act n last m is form free makes earlier (inr it) = record {
  newer = [];
  before = older;
  now = now;
  act = act;
  split = refl;
  counted = it.0;
  accepts = accepted_with (Server act) (acts_of older) (accepted is) form (free_of _ _ free).0;
  made = makes ∙ ap Some it.1;
}

made_with : (event : Event) (older : History) (now n : ℕ) (m : Message) → IsHistory older → IsInForm event → event_refusal older now event ≡ None
    → ((k : ℕ) (x : Message) → numbered (messages (acts_of older)) k ≡ Some x → WasMade older k x)
    → numbered (messages (acts_of ((now, event) ∷ older))) n ≡ Some m → WasMade ((now, event) ∷ older) n m
made_with (Client fact) older now n m is form free earlier e = further _ older n m (earlier n m e)
made_with (Server (Serve o)) older now n m is form free earlier e = further _ older n m (earlier n m e)
made_with (Server (Unserve o)) older now n m is form free earlier e = further _ older n m (earlier n m e)
made_with (Server (Offer o alts)) older now n m is form free earlier e =
    made_now older now (Offer o alts) n (value_message o (value.List alts)) m is form free refl earlier (last_or_before (messages (acts_of older)) (value_message o (value.List alts)) m n e)
made_with (Server (Withdraw o)) older now n m is form free earlier e =
    made_now older now (Withdraw o) n (value_message o value.Clear) m is form free refl earlier (last_or_before (messages (acts_of older)) (value_message o value.Clear) m n e)
made_with (Server Announce) older now n m is form free earlier e =
    made_now older now Announce n (origins_message (served_list (acts_of older))) m is form free refl earlier (last_or_before (messages (acts_of older)) (origins_message (served_list (acts_of older))) m n e)
made_with (Server (Deliver message conn)) older now n m is form free earlier e = further _ older n m (earlier n m e)
made_with (Server (Ask request)) older now n m is form free earlier e = further _ older n m (earlier n m e)
made_with Skip older now n m is form free earlier e = further _ older n m (earlier n m e)

pub made_of : {h : History} → IsHistory h → (n : ℕ) (m : Message) → numbered (messages (acts_of h)) n ≡ Some m → WasMade h n m
made_of Begun n m e = none_made n m _ e
made_of (Later older now event is form free) n m e = made_with event older now n m is form free (made_of is) e

-- what is offered is served
pub offered_where_served : (acts : List Act) (o : Origin) (alts : List Alt) → AreAccepted (offer_of o alts ∷ acts) → is_served acts o ≡ true
offered_where_served acts o alts accepts = by_test (is_served acts o) accepts.1
  where
    by_test : (served : Bool) → cond served (message_refusal acts (value_payload o (value.List alts))) (Some fault.NotServed) ≡ None → served ≡ true
    by_test true e = refl
    by_test false e = cc
