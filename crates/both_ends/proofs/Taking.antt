-- What becomes of the histories that both ends stand for.
use Rattle.std.proofs.Common.{◌≡◌, ℕ, List, ◌∷◌, Option, Some, None, Result, Ok, Err, IfOk, refl, ap, sym, ◌∙◌, subst}
use Rattle.origin_values.specs.declared.origin.Origin.{Origin}
use Rattle.advertiser_core.specs.declared.advertiser.Advertiser.{Advertiser}
use Rattle.advertiser_core.specs.Acts.{Act}
use Rattle.advertiser_core.specs.StandsFor.{StandsFor as ServerStandsFor}
use Rattle.event_lines.specs.Valid.{IsServerAct}
use Rattle.event_lines.specs.declared.event.Event.TheVariants.{Client, Server}
use Rattle.event_lines.specs.declared.server_act.ServerAct.{ServerAct}
use Rattle.route_events.specs.declared.action.Action.{Action}
use Rattle.route_events.specs.declared.fact.Fact.{Fact}
use Rattle.route_events.specs.declared.refusal.StepRefusal.{StepRefusal}
use Rattle.route_events.specs.Journal.{Journal}
use Rattle.route_events.specs.Step.{refusal, step, newest_actions}
use Rattle.router_core.specs.StandsFor.{StandsFor as ClientStandsFor, Takes as ClientTakes}
use Rattle.both_ends.specs.ServerActs.{asked_origin, fact_by, output_by}
use Rattle.both_ends.specs.Refusals.{act_refusal}
use Rattle.both_ends.specs.Histories.{History, IsHistory, Later, acts_of, journal_of, after_told, actions_by, step_refusal, by_step, first_refusal, event_refusal}
use Rattle.both_ends.specs.StandsFor.{StandsFor, Takes, Refuses, ServerTakes, ServerRefuses}
use Rattle.both_ends.specs.declared.both_ends.BothEnds.{BothEnds}
use Rattle.both_ends.specs.declared.fault.EndFault.{EndFault}
use Rattle.both_ends.specs.declared.fault.EndFault.TheVariants as fault
use Rattle.both_ends.specs.declared.fault.EndRefusal.TheVariants as refused
use Rattle.both_ends.specs.declared.output.Output.{Output}
use Rattle.both_ends.specs.declared.output.ServerOutput.{ServerOutput}
use Rattle.both_ends.specs.declared.output.ServerOutput.TheVariants.{Nothing}
use Rattle.both_ends.specs.declared.refusal.ServerRefusal.{ServerRefusal}

-- what a call says of an act is said of the act that it is called for
pub told_so : (old new : Advertiser) (asked : Option Origin) (made act : ServerAct) (result : Result (Fact × ServerOutput) EndFault) → made ≡ act
    → IfOk result (λ (r : Fact × ServerOutput). (acts : List Act) (any : Option Origin) → ServerStandsFor old acts → ServerTakes new r.0 r.1 acts any made)
    → IfOk result (λ (r : Fact × ServerOutput). (acts : List Act) → ServerStandsFor old acts → ServerTakes new r.0 r.1 acts asked act)
told_so old new asked made act (Ok r) same h = λ acts stands. subst (ServerTakes new r.0 r.1 acts asked) same (h acts asked stands)
told_so old new asked made act (Err fault) same h = tt

-- a fact
pub took_fact : (old new : BothEnds) (output : Output) (h : History) (now : ℕ) (fact : Fact) → StandsFor old h → ClientTakes new.router output.actions (journal_of h) now fact → new.advertiser ≡ old.advertiser → output.server ≡ Nothing → Takes new output h now (Client fact)
took_fact old new output h now fact stands took same nothing = record {
  not_refused = free;
  server = nothing;
  actions = took.written;
  stands = record { taken = Later h now (Client fact) stands.taken tt free; client = took.stands; server = subst (λ a. ServerStandsFor a (acts_of h)) (sym same) stands.server };
}
  where
    free : event_refusal h now (Client fact) ≡ None
    free = ap by_step took.not_refused

-- an act of the server
pub took_act : (old new : BothEnds) (output : Output) (h : History) (now : ℕ) (act : ServerAct) (fact : Fact) → StandsFor old h → IsServerAct act → ServerTakes new.advertiser fact output.server (acts_of h) (asked_origin (journal_of h) act) act → ClientTakes new.router output.actions (journal_of h) now fact → Takes new output h now (Server act)
took_act old new output h now act fact stands form consent took = record {
  not_refused = free;
  server = consent.output;
  actions = took.written ∙ ap (actions_by (journal_of h) now) (sym consent.told);
  stands = record {
    taken = Later h now (Server act) stands.taken form free;
    client = subst (λ w. ClientStandsFor new.router (after_told (journal_of h) now w)) (sym consent.told) took.stands;
    server = consent.stands;
  };
}
  where
    free : event_refusal h now (Server act) ≡ None
    free = ap (λ w. first_refusal (act_refusal (acts_of h) act) (step_refusal (journal_of h) now w)) consent.told ∙ ap (λ w. first_refusal w (refusal (journal_of h) now fact)) consent.not_refused ∙ ap by_step took.not_refused

-- the step refuses what an act tells
pub refused_by_step : (new : Advertiser) (output : ServerOutput) (h : History) (now : ℕ) (act : ServerAct) (fact : Fact) (reason : StepRefusal) → ServerTakes new fact output (acts_of h) (asked_origin (journal_of h) act) act → refusal (journal_of h) now fact ≡ Some reason → event_refusal h now (Server act) ≡ Some (refused.Step reason)
refused_by_step new output h now act fact reason consent e =
    ap (λ w. first_refusal (act_refusal (acts_of h) act) (step_refusal (journal_of h) now w)) consent.told ∙ ap (λ w. first_refusal w (refusal (journal_of h) now fact)) consent.not_refused ∙ ap by_step e

-- the server refuses it
pub refused_by_server : (h : History) (now : ℕ) (act : ServerAct) (reason : ServerRefusal) → act_refusal (acts_of h) act ≡ Some reason → event_refusal h now (Server act) ≡ Some (refused.Server reason)
refused_by_server h now act reason e = ap (λ w. first_refusal w (step_refusal (journal_of h) now (fact_by (acts_of h) (asked_origin (journal_of h) act) act))) e

pub refused_early : (old : BothEnds) (now : ℕ) (act : ServerAct) (fault : EndFault) → ServerRefuses old.advertiser act fault → Refuses old now (Server act) fault
refused_early old now act fault.NoMemory e = tt
refused_early old now act (fault.Refused (refused.Server reason)) e = λ h stands. refused_by_server h now act reason (e (acts_of h) stands.server)
refused_early old now act (fault.Refused (refused.Step reason)) e = absurd e

-- the origin that was asked for is the journal's
pub consent_for : (new : Advertiser) (fact : Fact) (output : ServerOutput) (acts : List Act) (j : Journal) (asked : Option Origin) (act : ServerAct) → asked ≡ asked_origin j act → ServerTakes new fact output acts asked act → ServerTakes new fact output acts (asked_origin j act) act
consent_for new fact output acts j asked act same consent = subst (λ o. ServerTakes new fact output acts o act) same consent
