-- What becomes of the lists of acts that an advertiser stands for.
use Rattle.std.proofs.Common.{◌≡◌, ℕ, ◌≤◌, Bool, true, false, cond, nat_eq, nat_lt, List, [], ◌∷◌, ◌++◌, length, Some, None, refl, ap, sym, ◌∙◌, subst}
use Rattle.std.specs.List.{list_any}
use Rattle.std.specs.Set.{remove_key}
use Rattle.indexmap.specs.IndexSet.{insert_key}
use Rattle.origin_values.specs.declared.origin.Origin.{Origin}
use Rattle.origin_values.specs.contracts.origin.OriginPartialEq.TheImpl as origins
use Rattle.advertiser_core.specs.declared.advertiser.Advertiser.{Advertiser}
use Rattle.advertiser_core.specs.Acts.{Act, Serve, Unserve, Advertise}
use Rattle.advertiser_core.specs.ServedList.{is_served, served_list}
use Rattle.advertiser_core.specs.declared.message.Message.{Message}
use Rattle.advertiser_core.specs.declared.fault.ServerFault.TheVariants.{NotServed, Full, OverFrame}
use Rattle.origin_frame.specs.PayloadWritten.{frame_limit}
use Rattle.altsvc_grammar.specs.declared.alt_svc.AltSvc.{AltSvc}
use Rattle.alt_base.proofs.Numbers.{lt_true, lt_false}
use Rattle.advertiser_core.specs.Messages.{messages, value_payload}
use Rattle.advertiser_core.specs.Refusals.{most_messages, IsOver, message_refusal, refusal}
use Rattle.advertiser_core.specs.Refusals.{fault_of}
use Rattle.advertiser_core.specs.StandsFor.{StandsFor, Refuses}
use Rattle.std.proofs.Common.{Result, Ok, Err}
use Rattle.std.specs.Result.{IfErr, IsErrAnd}
use Rattle.origin_frame.specs.PayloadWritten.{IfOver}
use Rattle.origin_frame.specs.declared.over_fault.OverFault.{OverFault}
use Rattle.origin_frame.specs.declared.over_fault.OverFault.TheVariants as over
use Rattle.origin_values.proofs.Equal.{same_origin}
use Rattle.advertiser_core.proofs.ServedLists.{listed_where_served, list_served, list_removed}

-- what is found among the kept origins is served
pub found_where_served : (advertiser : Advertiser) (acts : List Act) (o : Origin) → StandsFor advertiser acts → list_any ((origins.eq-value).it o) advertiser.served.keys ≡ is_served acts o
found_where_served advertiser acts o s = (λ i. list_any (same_origin i o) (s.served i)) ∙ listed_where_served acts o

-- an inserted origin keeps its place or goes last
pub inserted_is_listed : (advertiser : Advertiser) (acts : List Act) (o : Origin) → StandsFor advertiser acts → insert_key (origins.eq-value).it advertiser.served.keys o ≡ served_list (Serve o ∷ acts)
inserted_is_listed advertiser acts o s =
    (λ i. cond (found_where_served advertiser acts o s i) (s.served i) (s.served i ++ o ∷ [])) ∙ sym (list_served acts o)

-- a removed one isn't listed any more
pub removed_is_unlisted : (advertiser : Advertiser) (acts : List Act) (o : Origin) → StandsFor advertiser acts → remove_key ((origins.eq-value).it o) advertiser.served.keys ≡ served_list (Unserve o ∷ acts)
removed_is_unlisted advertiser acts o s = (λ i. remove_key (same_origin i o) (s.served i)) ∙ list_removed acts o

-- whether a message has room, by what is kept
pub full_where_kept : (advertiser : Advertiser) (acts : List Act) (full : Bool) → StandsFor advertiser acts → nat_eq (length advertiser.messages.made) most_messages ≡ full → nat_eq (length (messages acts)) most_messages ≡ full
full_where_kept advertiser acts full s h = ap (λ (made : List Message). nat_eq (length made) most_messages) (sym s.messages) ∙ h

-- a message is refused for the first reason that holds

pub refused_as_full : (acts : List Act) (payload : List ℕ) → nat_eq (length (messages acts)) most_messages ≡ true → message_refusal acts payload ≡ Some Full
refused_as_full acts payload full = rw full refl

pub refused_as_over : (acts : List Act) (payload : List ℕ) (n : ℕ) → nat_eq (length (messages acts)) most_messages ≡ false → IsOver payload n → message_refusal acts payload ≡ Some (OverFrame n)
refused_as_over acts payload n room over =
    let long : nat_lt frame_limit (length payload) ≡ true = lt_true frame_limit (length payload) over.0 in
    rw (room, long) (ap (λ m. Some (OverFrame m)) (sym over.1))

pub not_refused : (acts : List Act) (payload : List ℕ) → nat_eq (length (messages acts)) most_messages ≡ false → length payload ≤ frame_limit → message_refusal acts payload ≡ None
not_refused acts payload room within =
    let short : nat_lt frame_limit (length payload) ≡ false = lt_false frame_limit (length payload) within in
    rw (room, short) refl

-- the refusal of a value's message, by whether its origin is served
pub by_served : (acts : List Act) (o : Origin) (value : AltSvc) (served : Bool) → is_served acts o ≡ served → refusal acts (Advertise o value) ≡ cond served (message_refusal acts (value_payload o value)) (Some NotServed)
by_served acts o value served h = ap (λ t. cond t (message_refusal acts (value_payload o value)) (Some NotServed)) h

-- the fault of a payload that is too long is the act's refusal
pub refused_by_fault : (old : Advertiser) (act : Act) (payload : List ℕ) (fault : OverFault) → IfOver {T = List ℕ} (Err fault) (IsOver payload)
    → ((n : ℕ) → IsOver payload n → (acts : List Act) → StandsFor old acts → refusal acts act ≡ Some (OverFrame n)) → Refuses old act (fault_of fault)
refused_by_fault old act payload over.NoMemory is_over h = tt
refused_by_fault old act payload (over.OverFrame n) is_over h = h n is_over

pub if_err : {T E : Type 0} (r : Result T E) (P Q : E → Type 0) → IsErrAnd r P → ((e : E) → P e → Q e) → IfErr r Q
if_err (Ok x) P Q h f = tt
if_err (Err e) P Q h f = f e h

pub within_along : (xs ys : List ℕ) → xs ≡ ys → length xs ≤ frame_limit → length ys ≤ frame_limit
within_along xs ys e h = subst (λ (zs : List ℕ). length zs ≤ frame_limit) e h
