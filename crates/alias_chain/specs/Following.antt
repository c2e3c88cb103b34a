-- The same endpoints as a function of the map: aliases followed one by one, and records put in order.
use Rattle.std.specs.Prelude.{ℕ, zero, suc, Bool, true, false, ◌||◌, nat_le, List, [], ◌∷◌, ◌++◌, map, filter, Option, None, Some, if◌then◌else◌}
use Rattle.std.specs.Result.{result_ok}
use Rattle.std.specs.List.{list_any}
use Rattle.dns_names.specs.Names.{name_eq}
use Rattle.dns_names.specs.TextReading.{read_text}
use Rattle.origin_values.specs.declared.scheme.Scheme.{Scheme}
use Rattle.origin_values.specs.declared.scheme.Scheme.TheVariants.{Http, Https}
use Rattle.origin_values.specs.declared.host.Host.{Host}
use Rattle.origin_values.specs.declared.host.Host.TheVariants.{Name, V4, V6}
use Rattle.origin_values.specs.declared.origin.Origin.{Origin}
use Rattle.origin_values.specs.declared.protos.Protos.{Protos}
use Rattle.svcb_wire.specs.declared.svcb.Svcb.{Svcb}
use Rattle.alias_chain.specs.declared.endpoint.Endpoint.{Endpoint}
use Rattle.alias_chain.specs.QueryName.{query_text}
use Rattle.alias_chain.specs.Walk.{NameOf, AnswerMap, alias_of}
use Rattle.alias_chain.specs.Endpoints.{can_use, endpoint_of, own_endpoint, records_of}

-- the name that is asked for
abbrev pub query_for : Scheme → Host → ℕ → Option NameOf
query_for Https (Name host) port = result_ok (read_text (query_text port host))
query_for Https (V4 bytes) port = None
query_for Https (V6 bytes) port = None
query_for Http host port = None

abbrev pub is_root : NameOf → Bool
is_root [] = true
is_root (label ∷ labels) = false

abbrev pub is_among : NameOf → List NameOf → Bool
is_among name names = list_any (name_eq name) names

-- the names of the aliases followed, and the name at which they end
abbrev pub Ended : Type 0
Ended = List NameOf × NameOf

abbrev pub go_on : (List NameOf → NameOf → Option Ended) → List NameOf → NameOf → Option NameOf → Option Ended
go_on next before name None = Some (before, name)
go_on next before name (Some target) =
    if is_root target || is_among target (before ++ name ∷ []) then None else next (before ++ name ∷ []) target

-- at most so many names more are looked at, from this one on
unfoldable pub follow : AnswerMap → ℕ → List NameOf → NameOf → Option Ended
follow answers zero before name = None
follow answers (suc more) before name = go_on (follow answers more) before name (alias_of (answers name))

module _ {X : Type 0} where
  -- in front of what has a higher key, or the same
  abbrev pub insert_by : (X → ℕ) → X → List X → List X
  insert_by key x [] = x ∷ []
  insert_by key x (y ∷ ys) = if nat_le (key x) (key y) then x ∷ y ∷ ys else y ∷ insert_by key x ys

  abbrev pub ascending : (X → ℕ) → List X → List X
  ascending key [] = []
  ascending key (x ∷ xs) = insert_by key x (ascending key xs)

abbrev pub of_records : Protos → ℕ → NameOf → List Svcb → List Endpoint
of_records supported port name records = map (endpoint_of supported port name) (ascending (λ (r : Svcb). r.priority) (filter (can_use supported) records))

-- the last name itself, where there were names before it
abbrev pub itself : ℕ → List NameOf → NameOf → List Endpoint
itself port [] name = []
itself port (before ∷ more) name = own_endpoint port name ∷ []

abbrev pub at_end : AnswerMap → Protos → ℕ → Option Ended → List Endpoint
at_end answers supported port None = []
at_end answers supported port (Some end) = of_records supported port end.1 (records_of (answers end.1)) ++ itself port end.0 end.1

abbrev pub from_query : AnswerMap → Protos → ℕ → Option NameOf → List Endpoint
from_query answers supported port None = []
from_query answers supported port (Some name) = at_end answers supported port (follow answers 9 [] name)

unfoldable pub endpoints_by : AnswerMap → Protos → Origin → List Endpoint
endpoints_by answers supported origin = from_query answers supported origin.port (query_for origin.scheme origin.host origin.port)
