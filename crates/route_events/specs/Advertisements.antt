-- What the client does for a response, and with its Alt-Svc (RFC 7838 3).
use Rattle.std.specs.Prelude.{ℕ, Bool, not, ◌&&◌, nat_eq, List, [], ◌∷◌, ◌++◌, Option, Some, None, Result, Ok, Err, if◌then◌else◌}
use Rattle.std.specs.Option.{option_map_or}
use Rattle.std.specs.List.{list_any}
use Rattle.alt_base.specs.declared.refusal.At.{At}
use Rattle.altsvc_grammar.specs.RefusalNumbers.{refusal_number}
use Rattle.altsvc_grammar.specs.ValueReading.{read_value}
use Rattle.altsvc_grammar.specs.declared.alt_svc.AltSvc.{AltSvc}
use Rattle.altsvc_grammar.specs.declared.refusal.AltRefusal.{AltRefusal}
use Rattle.route_events.specs.declared.action.Action.{Action}
use Rattle.route_events.specs.declared.action.Action.TheVariants.{Retry, Alternatives, Field}
use Rattle.route_events.specs.declared.request.Request.{Request}
use Rattle.route_events.specs.declared.connection.Connection.{Connection}
use Rattle.route_events.specs.Journal.{Journal}
use Rattle.route_events.specs.Requests.{request_of}
use Rattle.route_events.specs.Connections.{open_connections, is_one_of, outstanding}
use Rattle.route_events.specs.Authority.{is_https, is_authoritative}

-- the connection on which a request is outstanding is authoritative for its origin
abbrev pub is_answered_by_authority : Journal → ℕ → Request → Bool
is_answered_by_authority journal now q =
    list_any (λ (c : Connection). is_one_of q.number (outstanding journal c.number) && is_authoritative journal c q.origin now) (open_connections journal)

-- a value is taken for the request's origin; what is no value is not, for its refusal
abbrev pub value_of_reading : Request → Result AltSvc (At AltRefusal) → Action
value_of_reading q (Ok value) = Alternatives q.origin value
value_of_reading q (Err at) = Field q.number (refusal_number at.reason) at.place

unfoldable pub value_taken : Request → List ℕ → Action
value_taken q bytes = value_of_reading q (read_value bytes)

-- the value of a field is taken, or is not for the first of these reasons: the response is a 421 (RFC 7838 6), the origin
-- is of http, the connection isn't authoritative for it (RFC 7838 2.1), it is no value
abbrev pub advertisement : Journal → ℕ → Request → ℕ → List ℕ → Action
advertisement older now q status bytes =
    if nat_eq status 421 then Field q.number 11 0
    else (if not (is_https q.origin.scheme) then Field q.number 12 0
    else (if not (is_answered_by_authority older now q) then Field q.number 13 0
    else value_taken q bytes))

abbrev pub field_effects : Journal → ℕ → ℕ → Option (List ℕ) → Request → List Action
field_effects older now status None q = []
field_effects older now status (Some bytes) q = advertisement older now q status bytes ∷ []

-- a request that the server turned away is tried again (RFC 9110 15.5.20)
abbrev pub retries : ℕ → ℕ → List Action
retries request status = if nat_eq status 421 then Retry request ∷ [] else []

-- what is done for a response, in the journal below it
abbrev pub answer_effects : Journal → ℕ → ℕ → ℕ → Option (List ℕ) → List Action
answer_effects older now request status altsvc =
    retries request status ++ option_map_or (field_effects older now status altsvc) (request_of older request) []
