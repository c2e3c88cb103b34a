-- The effect of a frame, for what a router keeps, is its effect for the journal.
use Rattle.std.proofs.Common.{◌≡◌, ℕ, Bool, List, [], ◌∷◌, ◌++◌, ap, sym, ◌∙◌, subst}
use Rattle.h2_framing.specs.declared.head.Head.{Head}
use Rattle.origin_values.specs.declared.address.Addr.{Addr}
use Rattle.origin_values.specs.declared.origin.Origin.{Origin}
use Rattle.route_events.specs.declared.action.Action.{Action}
use Rattle.route_events.specs.declared.action.Action.TheVariants.{Alternatives, Ignored, Origins}
use Rattle.route_events.specs.declared.fact.Fact.TheVariants.{Delivered}
use Rattle.route_events.specs.FrameAdvertisements.{frame_effects}
use Rattle.route_events.specs.Journal.{Happened, Journal}
use Rattle.route_events.specs.Requests.{waiting}
use Rattle.route_events.specs.Step.{with_actions, newest_actions}
use Rattle.route_events.proofs.Sound.{Sound}
use Rattle.request_dispatch.specs.declared.step_state.StepState.{StepState}
use Rattle.request_dispatch.specs.declared.waiting.Waiting.{Waiting}
use Rattle.request_dispatch.specs.RequestTable.{requests_of}
use Rattle.router_core.specs.Holds.{Hold, AreTried, AreOut}
use Rattle.router_core.specs.FrameEffects.{listed_in, with_listing, delivered_so}
use Rattle.router_core.specs.Rebinding.{rebound_by}
use Rattle.router_core.proofs.Answering.{hold_value}
use Rattle.router_core.proofs.Applying.{newest_with, tried_with}
use Rattle.router_core.proofs.Delivering.{IsFrameAnswer, frame_answer, done_is}
use Rattle.router_core.proofs.Gating.{hold_listing}
use Rattle.router_core.proofs.Knowing.{known_at}
use Rattle.router_core.proofs.SettlingSo.{Keeps}

-- a frame ends no attempt
tried_frame : (j : Journal) (now conn : ℕ) (head : Head) (payload : List ℕ) (h : Bool) (ws : List Waiting) → AreTried j ws → AreTried (Happened now (Delivered conn head payload) h ∷ j) ws
tried_frame j now conn head payload h [] was = tt
tried_frame j now conn head payload h (w ∷ ws) was = (was.0, tried_frame j now conn head payload h ws was.1)

pub frame_keeps : (is_address : Origin → Addr → Bool) (s : StepState) (j : Journal) (now conn : ℕ) (head : Head) (payload : List ℕ) (h : Bool) → is_address ≡ known_at j now → s.actions ≡ newest_actions (Happened now (Delivered conn head payload) h ∷ j) → Sound j →
    Hold s.tables j → requests_of s.tables.requests.waiting ≡ waiting j → AreTried j s.tables.requests.waiting → AreOut j s.tables.requests.outstanding →
    Keeps (delivered_so is_address s conn head payload) (with_actions (Happened now (Delivered conn head payload) h ∷ j) (frame_effects j now conn head payload))
    (waiting (with_actions (Happened now (Delivered conn head payload) h ∷ j) (frame_effects j now conn head payload)))
frame_keeps is_address s j now conn head payload h seen before sound hold asked tried outs =
    subst (λ as'. Keeps (after as') (with_actions k (frame_effects j now conn head payload)) (waiting (with_actions k (frame_effects j now conn head payload))))
    (sym (done_is is_address s.tables j now conn head payload seen sound hold outs))
    (by_actions (frame_effects j now conn head payload) (frame_answer j now conn head payload))
  where
    k : Journal
    k = Happened now (Delivered conn head payload) h ∷ j

    after : List Action → StepState
    after as' = record {
      tables = record {
        attempts = s.tables.attempts;
        requests = s.tables.requests;
        connections = rebound_by as' (with_listing conn (listed_in s.tables.connections conn head payload) s.tables.connections);
      };
      actions = s.actions ++ as';
    }

    held : Hold (record { attempts = s.tables.attempts; requests = s.tables.requests; connections = with_listing conn (listed_in s.tables.connections conn head payload) s.tables.connections }) k
    held = hold_listing s.tables j now conn head payload h sound hold

    tried_now : AreTried k s.tables.requests.waiting
    tried_now = tried_frame j now conn head payload h s.tables.requests.waiting tried

    written_as : (as' : List Action) → s.actions ++ as' ≡ newest_actions (with_actions k as')
    written_as as' = ap (λ bs. bs ++ as') before ∙ sym (newest_with k as')

    by_actions : (as' : List Action) → IsFrameAnswer as' → Keeps (after as') (with_actions k as') (waiting (with_actions k as'))
    by_actions [] answer = record {
      tables = held;
      waiting = asked;
      tried = tried_now;
      outstanding = record { out = outs.out; known = λ n x e. let was = outs.known n x e in record { request = was.request; sent = was.sent; tried = was.tried } };
      written = written_as [];
    }
    by_actions (Alternatives o value ∷ []) answer = record {
      tables = hold_value _ k o value held;
      waiting = asked;
      tried = tried_with k (Alternatives o value ∷ []) s.tables.requests.waiting tried_now;
      outstanding = record { out = outs.out; known = λ n x e. let was = outs.known n x e in record { request = was.request; sent = was.sent; tried = was.tried } };
      written = written_as (Alternatives o value ∷ []);
    }
    by_actions (Ignored c kind reason place ∷ []) answer = record {
      tables = record { opened = held.opened; pending = held.pending; connections = held.connections };
      waiting = asked;
      tried = tried_with k (Ignored c kind reason place ∷ []) s.tables.requests.waiting tried_now;
      outstanding = record { out = outs.out; known = λ n x e. let was = outs.known n x e in record { request = was.request; sent = was.sent; tried = was.tried } };
      written = written_as (Ignored c kind reason place ∷ []);
    }
    by_actions (Origins c taken skipped ∷ []) answer = record {
      tables = record { opened = held.opened; pending = held.pending; connections = held.connections };
      waiting = asked;
      tried = tried_with k (Origins c taken skipped ∷ []) s.tables.requests.waiting tried_now;
      outstanding = record { out = outs.out; known = λ n x e. let was = outs.known n x e in record { request = was.request; sent = was.sent; tried = was.tried } };
      written = written_as (Origins c taken skipped ∷ []);
    }
    by_actions _ answer = absurd answer
