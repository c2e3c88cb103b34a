-- The endpoints of an origin (RFC 9460 3), over any map of answers.
use Rattle.std.specs.Prelude.{◌≡◌, ◌⊎◌, ℕ, Bool, true, false, ◌&&◌, List, [], ◌∷◌, ◌++◌, map, filter, Contains, Option, None, Some}
use Rattle.std.specs.List.Sorted.{IsSortedByKey, IsStableByKey}
use Rattle.std.specs.Ordering.{nat_cmp}
use Rattle.origin_values.specs.declared.protos.Protos.{Protos}
use Rattle.origin_values.specs.declared.origin.Origin.{Origin}
use Rattle.svcb_wire.specs.declared.param.Param.{Param}
use Rattle.svcb_wire.specs.declared.param.Param.TheVariants.{Mandatory, Alpn, NoDefaultAlpn, Port, V4Hint, Other, V6Hint}
use Rattle.svcb_wire.specs.declared.svcb.Svcb.{Svcb}
use Rattle.svcb_wire.specs.Usable.{is_consistent, is_compatible, protos_of}
use Rattle.alias_chain.specs.declared.endpoint.Endpoint.{Endpoint}
use Rattle.alias_chain.specs.Walk.{NameOf, AnswerMap, IsWalk, end_of}

-- RFC 9460 8: what a client can't use is left out, and nothing else with it
abbrev pub can_use : Protos → Svcb → Bool
can_use supported r = is_consistent r && is_compatible supported r

-- RFC 9460 2.5.2: the root stands for the record's own name
abbrev pub target_of : NameOf → NameOf → NameOf
target_of name [] = name
target_of name (label ∷ labels) = label ∷ labels

-- RFC 9460 7.2: the port of the record, or else the origin's
abbrev pub port_of : ℕ → List Param → ℕ
port_of port [] = port
port_of port (Port own ∷ params) = own
port_of port (Mandatory keys ∷ params) = port_of port params
port_of port (Alpn ids ∷ params) = port_of port params
port_of port (NoDefaultAlpn ∷ params) = port_of port params
port_of port (V4Hint addresses ∷ params) = port_of port params
port_of port (Other key value ∷ params) = port_of port params
port_of port (V6Hint addresses ∷ params) = port_of port params

-- the endpoint of a record of a name
abbrev pub endpoint_of : Protos → ℕ → NameOf → Svcb → Endpoint
endpoint_of supported port name r = record {
  target = target_of name r.target;
  port = port_of port r.params;
  protos = protos_of supported r.params;
}

-- RFC 9460 3: where an alias was followed, the last name itself, by the scheme's own protocols
abbrev pub own_endpoint : ℕ → NameOf → Endpoint
own_endpoint port name = record { target = name; port = port; protos = record { h2 = true; h3 = false; http11 = true } }

abbrev pub appended : ℕ → NameOf → List NameOf → List Endpoint
appended port name [] = []
appended port name (target ∷ targets) = own_endpoint port (end_of target targets) ∷ []

-- the records of a name
abbrev pub records_of : Option (List Svcb) → List Svcb
records_of None = []
records_of (Some records) = records

-- RFC 9460 2.4.3: in ascending priority, and those of one priority in the order that they had
pub record IsByPriority (records sorted : List Svcb) : Type 0 where
  pub ascending : IsSortedByKey (λ (r : Svcb). r.priority) nat_cmp sorted
  pub kept : IsStableByKey (λ (r : Svcb). r.priority) nat_cmp records sorted

-- what a walk gives: an endpoint for each record of its last name that can be used, and maybe that name itself
pub record AreOfWalk (answers : AnswerMap) (supported : Protos) (origin : Origin) (name : NameOf) (targets : List NameOf) (endpoints : List Endpoint) : Type 0 where
  pub walk : IsWalk answers origin name targets
  pub sorted : List Svcb
  pub by_priority : IsByPriority (filter (can_use supported) (records_of (answers (end_of name targets)))) sorted
  pub list : endpoints ≡ map (endpoint_of supported origin.port (end_of name targets)) sorted ++ appended origin.port name targets

-- the endpoints of an origin: what the walk gives, or none where there is no walk
abbrev pub AreEndpoints : AnswerMap → Protos → Origin → List Endpoint → Type 0
AreEndpoints answers supported origin endpoints =
    ((name : NameOf) × ((targets : List NameOf) × AreOfWalk answers supported origin name targets endpoints))
    ⊎ (((name : NameOf) (targets : List NameOf) → IsWalk answers origin name targets → ⊥) × (endpoints ≡ []))

-- where an endpoint comes from: a record of the walk's last name that can be used, or that name itself
pub record IsOfRecord (answers : AnswerMap) (supported : Protos) (origin : Origin) (endpoint : Endpoint) : Type 0 where
  pub name : NameOf
  pub targets : List NameOf
  pub walk : IsWalk answers origin name targets
  pub source : Svcb
  pub among : Contains (records_of (answers (end_of name targets))) source
  pub consistent : is_consistent source ≡ true
  pub compatible : is_compatible supported source ≡ true
  pub is : endpoint ≡ endpoint_of supported origin.port (end_of name targets) source

pub record IsAppended (answers : AnswerMap) (origin : Origin) (endpoint : Endpoint) : Type 0 where
  pub name : NameOf
  pub target : NameOf
  pub targets : List NameOf
  pub walk : IsWalk answers origin name (target ∷ targets)
  pub is : endpoint ≡ own_endpoint origin.port (end_of target targets)
