-- Each end of a history alone: the server's acts are accepted, and the client's journal is one that a run gives.
use Rattle.std.proofs.Common.{◌≡◌, ℕ, Bool, true, false, cond, nat_eq, nat_lt, List, [], ◌∷◌, length, Option, Some, None, refl}
use Rattle.origin_frame.specs.PayloadWritten.{payload_of as origins_payload, frame_limit, capped}
use Rattle.advertiser_core.specs.Acts.{Act, Serve as ServeAct, Unserve as UnserveAct, Announce as AnnounceAct, Advertise as AdvertiseAct, offer_of, withdrawal_of}
use Rattle.advertiser_core.specs.Messages.{messages, value_payload}
use Rattle.advertiser_core.specs.Refusals.{most_messages, message_refusal, refusal, AreAccepted}
use Rattle.advertiser_core.specs.ServedList.{is_served, served_list}
use Rattle.advertiser_core.specs.declared.fault.ServerFault.TheVariants as fault
use Rattle.event_lines.specs.declared.event.Event.{Event}
use Rattle.event_lines.specs.declared.event.Event.TheVariants.{Client, Server, Skip}
use Rattle.event_lines.specs.declared.server_act.ServerAct.TheVariants.{Serve, Unserve, Offer, Withdraw, Announce, Deliver, Ask}
use Rattle.route_events.specs.declared.fact.Fact.{Fact}
use Rattle.route_events.specs.declared.refusal.StepRefusal.{StepRefusal}
use Rattle.route_events.specs.Journal.{Journal}
use Rattle.route_events.specs.Step.{IsRun, Begun as RunBegun, Stepped}
use Rattle.both_ends.specs.Refusals.{reason_of}
use Rattle.both_ends.specs.Histories.{History, IsHistory, Begun, Later, IsInForm, with_event, acts_of, journal_of, told_by, after_told, server_refusal, step_refusal, first_refusal}
use Rattle.both_ends.specs.declared.refusal.ServerRefusal.{ServerRefusal}

-- an event that isn't refused is refused by neither end
pub free_of : (by_server : Option ServerRefusal) (by_client : Option StepRefusal) → first_refusal by_server by_client ≡ None → (by_server ≡ None) × (by_client ≡ None)
free_of None None e = (refl, refl)
free_of None (Some reason) e = cc
free_of (Some reason) by_client e = cc

-- the advertiser never lacks memory by the acts alone

message_reason : (acts : List Act) (payload : List ℕ) → reason_of (message_refusal acts payload) ≡ None → message_refusal acts payload ≡ None
message_reason acts payload e = by_tests (nat_eq (length (messages acts)) most_messages) (nat_lt frame_limit (length payload)) e
  where
    by_tests : (full long : Bool) → reason_of (cond full (Some fault.Full) (cond long (Some (fault.OverFrame (capped (length payload)))) None)) ≡ None → cond full (Some fault.Full) (cond long (Some (fault.OverFrame (capped (length payload)))) None) ≡ None
    by_tests true long e = cc
    by_tests false true e = cc
    by_tests false false e = refl

pub no_reason : (acts : List Act) (act : Act) → reason_of (refusal acts act) ≡ None → refusal acts act ≡ None
no_reason acts (ServeAct o) e = refl
no_reason acts (UnserveAct o) e = by_test (is_served acts o) e
  where
    by_test : (served : Bool) → reason_of (cond served None (Some fault.NotServed)) ≡ None → cond served None (Some fault.NotServed) ≡ None
    by_test true e = refl
    by_test false e = cc
no_reason acts AnnounceAct e = message_reason acts (origins_payload (served_list acts)) e
no_reason acts (AdvertiseAct o value) e = by_test (is_served acts o) e
  where
    by_test : (served : Bool) → reason_of (cond served (message_refusal acts (value_payload o value)) (Some fault.NotServed)) ≡ None → cond served (message_refusal acts (value_payload o value)) (Some fault.NotServed) ≡ None
    by_test true e = message_reason acts (value_payload o value) e
    by_test false e = cc

-- one more event
pub accepted_with : (event : Event) (acts : List Act) → AreAccepted acts → IsInForm event → server_refusal acts event ≡ None → AreAccepted (with_event event acts)
accepted_with (Client fact) acts are form free = are
accepted_with (Server (Serve o)) acts are form free = (form, refl, are)
accepted_with (Server (Unserve o)) acts are form free = (tt, no_reason acts (UnserveAct o) free, are)
accepted_with (Server (Offer o alts)) acts are form free = (form, no_reason acts (offer_of o alts) free, are)
accepted_with (Server (Withdraw o)) acts are form free = ((form, tt), no_reason acts (withdrawal_of o) free, are)
accepted_with (Server Announce) acts are form free = (tt, no_reason acts AnnounceAct free, are)
accepted_with (Server (Deliver message conn)) acts are form free = are
accepted_with (Server (Ask request)) acts are form free = are
accepted_with Skip acts are form free = are

pub accepted : {h : History} → IsHistory h → AreAccepted (acts_of h)
accepted Begun = tt
accepted (Later older now event is form free) = accepted_with event (acts_of older) (accepted is) form (free_of _ _ free).0

run_with : (j : Journal) (now : ℕ) (w : Option Fact) → IsRun j → step_refusal j now w ≡ None → IsRun (after_told j now w)
run_with j now None is free = is
run_with j now (Some fact) is free = Stepped j now fact is free

pub runs : {h : History} → IsHistory h → IsRun (journal_of h)
runs Begun = RunBegun
runs (Later older now event is form free) = run_with (journal_of older) now (told_by (acts_of older) (journal_of older) event) (runs is) (free_of _ _ free).1
