-- What settling makes of the state of a step.
use Rattle.std.specs.Prelude.{ℕ, Bool, ◌+◌, List, [], ◌∷◌, ◌++◌, Option, Some, None, map}
use Rattle.origin_values.specs.declared.origin.Origin.{Origin}
use Rattle.origin_values.specs.declared.address.Addr.{Addr}
use Rattle.origin_values.specs.declared.host.Host.{Host}
use Rattle.route_events.specs.declared.action.Action.TheVariants.{OpenTo, SendOn, Refuse as RefuseAction}
use Rattle.route_events.specs.declared.route.Route.{Route}
use Rattle.request_dispatch.specs.declared.choice.Choice.{Choice}
use Rattle.request_dispatch.specs.declared.choice.Choice.TheVariants.{Wait, Open, Send, Refuse}
use Rattle.request_dispatch.specs.declared.step_state.StepState.{StepState}
use Rattle.request_dispatch.specs.declared.waiting.Waiting.{Waiting}
use Rattle.request_dispatch.specs.AttemptTable.{started}
use Rattle.request_dispatch.specs.RequestTable.{RequestTable}
use Rattle.request_dispatch.specs.ConnectionTable.{sent_on}
use Rattle.request_dispatch.specs.Choices.{choice}
use Rattle.request_dispatch.specs.Looks.{Look}

-- an attempt starts for the origin of a request
abbrev pub with_start : Origin → Route → StepState → StepState
with_start o r s = record {
  tables = record { attempts = started o r s.tables.attempts; requests = s.tables.requests; connections = s.tables.connections };
  actions = s.actions ++ OpenTo (s.tables.attempts.opened + 1) o r ∷ [];
}

abbrev pub with_beside : Origin → Option Route → StepState → StepState
with_beside o None s = s
with_beside o (Some r) s = with_start o r s

-- a request waits on
abbrev pub still_waiting : Waiting → RequestTable → RequestTable
still_waiting w t = record { waiting = t.waiting ++ w ∷ []; outstanding = t.outstanding }

abbrev pub with_waiting : Waiting → StepState → StepState
with_waiting w s = record {
  tables = record { attempts = s.tables.attempts; requests = still_waiting w s.tables.requests; connections = s.tables.connections };
  actions = s.actions;
}

-- a request is sent on a connection
abbrev pub sent_request : Waiting → ℕ → Option ℕ → RequestTable → RequestTable
sent_request w conn stream t = record {
  waiting = t.waiting;
  outstanding = t.outstanding ++ record { request = w.request; conn = conn; stream = stream; tried = w.tried } ∷ [];
}

abbrev pub with_send : (Origin → Addr → Bool) → Waiting → ℕ → Option ℕ → Option (Host × ℕ) → StepState → StepState
with_send at w conn stream used s = record {
  tables = record {
    attempts = s.tables.attempts;
    requests = sent_request w conn stream s.tables.requests;
    connections = map (sent_on at w.request.origin conn w.request.number) s.tables.connections;
  };
  actions = s.actions ++ SendOn w.request.number conn stream used ∷ [];
}

-- a request is refused
abbrev pub with_refusal : Waiting → StepState → StepState
with_refusal w s = record { tables = s.tables; actions = s.actions ++ RefuseAction w.request.number ∷ [] }

-- one waiting request is settled: what is chosen for it is done
abbrev pub by_choice : (Origin → Addr → Bool) → StepState → Waiting → Choice → StepState
by_choice at s w Wait = with_waiting w s
by_choice at s w (Open r) = with_waiting w (with_start w.request.origin r s)
by_choice at s w (Send conn stream used beside) = with_beside w.request.origin beside (with_send at w conn stream used s)
by_choice at s w Refuse = with_refusal w s

abbrev pub settled_by : Look → StepState → Waiting → StepState
settled_by look s w = by_choice look.is_address s w (choice look s.tables w)

-- all of some requests in order
abbrev pub settle_over : Look → StepState → List Waiting → StepState
settle_over look s [] = s
settle_over look s (w ∷ ws) = settle_over look (settled_by look s w) ws

-- a state in which no request waits yet
abbrev pub none_waiting : StepState → StepState
none_waiting s = record {
  tables = record { attempts = s.tables.attempts; requests = record { waiting = []; outstanding = s.tables.requests.outstanding }; connections = s.tables.connections };
  actions = s.actions;
}

-- all that wait
abbrev pub settled : Look → StepState → StepState
settled look s = settle_over look (none_waiting s) s.tables.requests.waiting
