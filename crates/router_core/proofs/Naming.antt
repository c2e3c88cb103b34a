-- A malformed record that is named moves nothing, for what a router keeps as for the journal.
use Rattle.std.proofs.Common.{◌≡◌, ℕ, true, List, [], ◌∷◌, ◌++◌, Ok, Err, ap, sym, ◌∙◌}
use Rattle.alias_chain.specs.Walk.{NameOf}
use Rattle.route_events.specs.declared.action.Action.{Action}
use Rattle.route_events.specs.declared.action.Action.TheVariants.{Malformed}
use Rattle.route_events.specs.declared.answer.AnswerBody.{AnswerBody}
use Rattle.route_events.specs.declared.answer.AnswerBody.TheVariants.{V4, V6, Https}
use Rattle.route_events.specs.declared.fact.Fact.TheVariants.{Answer}
use Rattle.route_events.specs.Answers.{Records, read_records, malformed, malformed_effects}
use Rattle.route_events.specs.Journal.{Happened, Journal}
use Rattle.route_events.specs.Requests.{waiting}
use Rattle.route_events.specs.Step.{with_actions, newest_actions}
use Rattle.request_dispatch.specs.declared.step_state.StepState.{StepState}
use Rattle.request_dispatch.specs.declared.waiting.Waiting.{Waiting}
use Rattle.request_dispatch.specs.RequestTable.{requests_of}
use Rattle.router_core.specs.Effects.{resolved}
use Rattle.router_core.specs.Holds.{Hold, AreTried, AreOut}
use Rattle.router_core.proofs.Applying.{newest_with, tried_with}
use Rattle.router_core.proofs.SettlingSo.{Keeps}

-- what is done for an answer is at most that a record is named
abbrev pub IsNaming : List Action → Type 0
IsNaming [] = Unit {0}
IsNaming (Malformed name item reason place ∷ []) = Unit {0}
IsNaming _ = ⊥

pub names_only : (name : NameOf) (body : AnswerBody) → IsNaming (malformed_effects name body)
names_only name (V4 addresses) = tt
names_only name (V6 addresses) = tt
names_only name (Https rdatas) = by_read (read_records 1 rdatas)
  where
    by_read : (read : Records) → IsNaming (malformed name read)
    by_read (Ok rs) = tt
    by_read (Err first) = tt

-- an answer ends no attempt
tried_answer : (j : Journal) (now : ℕ) (name : NameOf) (ttl : ℕ) (body : AnswerBody) (ws : List Waiting) → AreTried j ws → AreTried (Happened now (Answer name ttl body) true ∷ j) ws
tried_answer j now name ttl body [] was = tt
tried_answer j now name ttl body (w ∷ ws) was = (was.0, tried_answer j now name ttl body ws was.1)

pub resolved_keeps : (s : StepState) (j : Journal) (now : ℕ) (name : NameOf) (ttl : ℕ) (body : AnswerBody) → s.actions ≡ [] →
    Hold s.tables j → requests_of s.tables.requests.waiting ≡ waiting j → AreTried j s.tables.requests.waiting → AreOut j s.tables.requests.outstanding →
    Keeps (resolved s name body) (with_actions (Happened now (Answer name ttl body) true ∷ j) (malformed_effects name body)) (waiting (with_actions (Happened now (Answer name ttl body) true ∷ j) (malformed_effects name body)))
resolved_keeps s j now name ttl body before hold asked tried outs = by_actions (malformed_effects name body) (names_only name body)
  where
    k : Journal
    k = Happened now (Answer name ttl body) true ∷ j

    after : List Action → StepState
    after as' = record { tables = s.tables; actions = s.actions ++ as' }

    tried_now : AreTried k s.tables.requests.waiting
    tried_now = tried_answer j now name ttl body s.tables.requests.waiting tried

    written_as : (as' : List Action) → s.actions ++ as' ≡ newest_actions (with_actions k as')
    written_as as' = ap (λ bs. bs ++ as') before ∙ sym (newest_with k as')

    by_actions : (as' : List Action) → IsNaming as' → Keeps (after as') (with_actions k as') (waiting (with_actions k as'))
    by_actions [] naming = record {
      tables = record { opened = hold.opened; pending = hold.pending; connections = hold.connections };
      waiting = asked;
      tried = tried_now;
      outstanding = record { out = outs.out; known = λ n x e. let was = outs.known n x e in record { request = was.request; sent = was.sent; tried = was.tried } };
      written = written_as [];
    }
    by_actions (Malformed own item reason place ∷ []) naming = record {
      tables = record { opened = hold.opened; pending = hold.pending; connections = hold.connections };
      waiting = asked;
      tried = tried_with k (Malformed own item reason place ∷ []) s.tables.requests.waiting tried_now;
      outstanding = record { out = outs.out; known = λ n x e. let was = outs.known n x e in record { request = was.request; sent = was.sent; tried = was.tried } };
      written = written_as (Malformed own item reason place ∷ []);
    }
    by_actions _ naming = absurd naming
