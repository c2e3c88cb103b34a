-- Which open connections may carry requests of an origin, and which is the best.
use Rattle.std.specs.Prelude.{ℕ, Bool, ◌&&◌, List, Option, if◌then◌else◌, filter, map}
use Rattle.std.specs.List.{list_any}
use Rattle.std.specs.Option.{option_and_then}
use Rattle.origin_values.specs.declared.address.Addr.{Addr}
use Rattle.origin_values.specs.declared.origin.Origin.{Origin}
use Rattle.route_choice.specs.Candidates.{best_of, number_of}
use Rattle.route_choice.specs.declared.candidate.BasisKind.{BasisKind}
use Rattle.route_choice.specs.declared.candidate.BasisKind.TheVariants.{ByAlt, ByOther, Without}
use Rattle.route_choice.specs.declared.candidate.Candidate.{Candidate}
use Rattle.route_events.specs.Authority.{rests_on}
use Rattle.route_events.specs.Dispatch.{is_by_alternative}
use Rattle.route_events.specs.Connections.{is_one_of}
use Rattle.conn_states.specs.Record.{Record}
use Rattle.conn_states.specs.Said.{said}
use Rattle.request_dispatch.specs.ConnectionTable.{connection_among, is_carrier, is_free}

-- its basis for the origin
abbrev pub basis_of : Origin → Record → BasisKind
basis_of o c = if rests_on (said c) o then (if is_by_alternative c.made.route then ByAlt else ByOther) else Without

abbrev pub candidate_of : Origin → Record → Candidate
candidate_of o c = record { conn = c.number; basis = basis_of o c }

-- those that are authoritative and not busy, each with its basis, in the order of opening
abbrev pub candidates : (Origin → Addr → Bool) → Origin → List Record → List Candidate
candidates at o cs = map (candidate_of o) (filter (is_free at o) cs)

-- the best of them
abbrev pub best_connection : (Origin → Addr → Bool) → Origin → List Record → Option Record
best_connection at o cs = option_and_then (connection_among cs) (number_of (best_of (candidates at o cs)))

-- one on which the request of this number is outstanding is authoritative for the origin
abbrev pub is_answered_by_authority : (Origin → Addr → Bool) → ℕ → Origin → List Record → Bool
is_answered_by_authority at number o cs = list_any (λ (c : Record). is_one_of number c.outstanding && is_carrier at o c) cs
