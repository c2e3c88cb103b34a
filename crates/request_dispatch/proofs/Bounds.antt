-- How far settling raises the counts that the tables keep.
use Rattle.std.proofs.Common.{◌≡◌, ℕ, ◌+◌, ◌≤◌, Bool, true, false, cond, nat_eq, List, [], ◌∷◌, ◌++◌, map, length, Some, None, arith}
use Rattle.std.specs.Prelude.{max}
use Rattle.std.proofs.lemmas.List.{length-append}
use Rattle.origin_values.specs.declared.address.Addr.{Addr}
use Rattle.origin_values.specs.declared.origin.Origin.{Origin}
use Rattle.conn_states.specs.Changes.{with_sent}
use Rattle.request_dispatch.specs.declared.choice.Choice.{Choice}
use Rattle.request_dispatch.specs.declared.choice.Choice.TheVariants.{Wait, Open, Send, Refuse}
use Rattle.conn_states.specs.Record.{Record}
use Rattle.request_dispatch.specs.declared.step_state.StepState.{StepState}
use Rattle.request_dispatch.specs.declared.waiting.Waiting.{Waiting}
use Rattle.request_dispatch.specs.ConnectionTable.{may_carry, sent_on, most_sends}
use Rattle.request_dispatch.specs.Looks.{Look}
use Rattle.request_dispatch.specs.Choices.{choice}
use Rattle.request_dispatch.specs.StepStates.{by_choice, settled_by, settle_over}

-- a choice starts at most one attempt

pub settled_opened : (look : Look) (s : StepState) (w : Waiting) → (settled_by look s w).tables.attempts.opened ≤ s.tables.attempts.opened + 1
settled_opened look s w = by_case (choice look s.tables w)
  where
    by_case : (ch : Choice) → (by_choice look.is_address s w ch).tables.attempts.opened ≤ s.tables.attempts.opened + 1
    by_case Wait = omega arith
    by_case (Open r) = omega arith
    by_case (Send conn stream used None) = omega arith
    by_case (Send conn stream used (Some r)) = omega arith
    by_case Refuse = omega arith

-- a send is one more on one connection, and its request doesn't wait on

max_more : (a b c d : ℕ) → a ≤ b + 1 → c ≤ d + 1 → max a c ≤ max b d + 1
max_more a b c d h k = grind arith

sent_more : (at : Origin → Addr → Bool) (o : Origin) (conn q : ℕ) (c : Record) → (sent_on at o conn q c).sends ≤ c.sends + 1
sent_more at o conn q c = by_tests (nat_eq c.number conn) (may_carry at o q c)
  where
    by_tests : (a b : Bool) → (cond a (cond b (with_sent q c) c) c).sends ≤ c.sends + 1
    by_tests true true = omega arith
    by_tests true false = omega arith
    by_tests false b = omega arith

pub most_sends_sent : (at : Origin → Addr → Bool) (o : Origin) (conn q : ℕ) (cs : List Record) → most_sends (map (sent_on at o conn q) cs) ≤ most_sends cs + 1
most_sends_sent at o conn q [] = omega arith
most_sends_sent at o conn q (c ∷ cs) = max_more (sent_on at o conn q c).sends c.sends (most_sends (map (sent_on at o conn q) cs)) (most_sends cs) (sent_more at o conn q c) (most_sends_sent at o conn q cs)

-- sends and the requests that wait, together, are at most one more
pub settled_sends : (look : Look) (s : StepState) (w : Waiting) → most_sends (settled_by look s w).tables.connections + length (settled_by look s w).tables.requests.waiting ≤ most_sends s.tables.connections + length s.tables.requests.waiting + 1
settled_sends look s w = by_case (choice look s.tables w)
  where
    more : length (s.tables.requests.waiting ++ w ∷ []) ≡ length s.tables.requests.waiting + 1
    more = length-append s.tables.requests.waiting (w ∷ [])

    by_case : (ch : Choice) → most_sends (by_choice look.is_address s w ch).tables.connections + length (by_choice look.is_address s w ch).tables.requests.waiting ≤ most_sends s.tables.connections + length s.tables.requests.waiting + 1
    by_case Wait = omega (arith, more)
    by_case (Open r) = omega (arith, more)
    by_case (Send conn stream used None) = omega (arith, most_sends_sent look.is_address w.request.origin conn w.request.number s.tables.connections)
    by_case (Send conn stream used (Some r)) = omega (arith, most_sends_sent look.is_address w.request.origin conn w.request.number s.tables.connections)
    by_case Refuse = omega arith

pub over_opened : (look : Look) (s : StepState) (ws : List Waiting) → (settle_over look s ws).tables.attempts.opened ≤ s.tables.attempts.opened + length ws
over_opened look s [] = omega arith
over_opened look s (w ∷ ws) = omega (arith, settled_opened look s w, over_opened look (settled_by look s w) ws)

pub over_sends : (look : Look) (s : StepState) (ws : List Waiting) →
    most_sends (settle_over look s ws).tables.connections + length (settle_over look s ws).tables.requests.waiting ≤ most_sends s.tables.connections + length s.tables.requests.waiting + length ws
over_sends look s [] = omega arith
over_sends look s (w ∷ ws) = omega (arith, settled_sends look s w, over_sends look (settled_by look s w) ws)
