-- What a step notes of failures and alternatives, for the steps to come.
use Rattle.std.specs.Prelude.{ℕ, Bool, true, false, List, ◌∷◌, map, filter, Option, Some, None, if◌then◌else◌}
use Rattle.std.specs.Option.{option_and_then}
use Rattle.altsvc_grammar.specs.declared.alt_key.AltKey.{AltKey}
use Rattle.coalescing.specs.declared.cert_name.CertName.{CertName}
use Rattle.conn_states.specs.Record.{Record}
use Rattle.origin_values.specs.Equality.{origin_eq}
use Rattle.origin_values.specs.declared.origin.Origin.{Origin}
use Rattle.origin_values.specs.declared.proto.Proto.{Proto}
use Rattle.network_cache.specs.declared.kept.Kept.{Kept}
use Rattle.network_cache.specs.Freshness.{taken_at, persists, has_other_key}
use Rattle.route_choice.specs.Capped.{capped}
use Rattle.route_events.specs.declared.fact.Fact.{Fact}
use Rattle.route_events.specs.declared.fact.Fact.TheVariants.{Opened, Failed, Network}
use Rattle.route_events.specs.declared.action.Action.{Action}
use Rattle.route_events.specs.declared.action.Action.TheVariants.{Alternatives}
use Rattle.route_events.specs.declared.route.Route.{Route}
use Rattle.route_events.specs.declared.route.Route.TheVariants.{Direct, Alt, Rec}
use Rattle.route_events.specs.declared.attempt.Attempt.{Attempt}
use Rattle.route_events.specs.Alternatives.{alternatives_of}
use Rattle.route_events.specs.Misdirection.{turned_away_in}
use Rattle.route_events.specs.Backoff.{Failures, no_failures, failed_at, is_on}
use Rattle.request_dispatch.specs.declared.outstanding.Outstanding.{Outstanding}
use Rattle.request_dispatch.specs.declared.tables.Tables.{Tables}
use Rattle.request_dispatch.specs.AttemptTable.{attempt_among}
use Rattle.request_dispatch.specs.ConnectionTable.{carrying}
use Rattle.request_dispatch.specs.RequestTable.{request_among}
use Rattle.request_dispatch.specs.Successes.{succeeds}

-- an attempt that succeeds ends the failures of its origin's route, and one that doesn't is one more. Nothing is noted of
-- the direct route, which no failure bars.
abbrev pub end_noted : ℕ → Bool → Attempt → Origin → Route → Failures → Failures
end_noted now success a o r f = if is_on o r a then (if success then no_failures else capped (failed_at now f)) else f

abbrev pub failure_noted : ℕ → Option Attempt → Origin → Route → Failures → Failures
failure_noted now None o r f = f
failure_noted now (Some a) o r f = end_noted now false a o r f

abbrev pub opening_noted : ℕ → Option Attempt → Proto → List CertName → Origin → Route → Failures → Failures
opening_noted now None proto names o r f = f
opening_noted now (Some a) proto names o r f = end_noted now (succeeds a.origin a.route proto names) a o r f

-- the failures of an origin's route after a fact, where these attempts were pending
abbrev pub failures_noted : List Attempt → ℕ → Fact → Origin → Route → Failures → Failures
failures_noted attempts now (Opened attempt proto addr port names) o r f = opening_noted now (attempt_among attempts attempt) proto names o r f
failures_noted attempts now (Failed attempt) o r f = failure_noted now (attempt_among attempts attempt) o r f
failures_noted attempts now Network o r f = no_failures
failures_noted attempts now _ o r f = f

-- the alternatives that are kept for an origin after the actions of a fact: those of a value that is taken for it
abbrev pub value_noted : ℕ → ℕ → List Action → Origin → List Kept → List Kept
value_noted now age (Alternatives p value ∷ actions) o ks = if origin_eq o p then map (taken_at now age) (alternatives_of value) else ks
value_noted now age _ o ks = ks

-- the alternative by which a connection was opened for an origin
abbrev pub key_of : Origin → Route → Option (Origin × AltKey)
key_of o Direct = None
key_of o (Alt key) = Some (o, key)
key_of o (Rec endpoint) = None

abbrev pub led_by : Origin → Record → Option (Origin × AltKey)
led_by o c = if origin_eq c.made.origin o then key_of o c.made.route else None

-- the alternative that a fact gives up, with its origin: the one by which the connection was opened for the origin whose
-- request is turned away on it (RFC 9110 15.5.20)
abbrev pub given_up_on : Option Outstanding → Option Record → Option (Origin × AltKey)
given_up_on (Some x) (Some c) = led_by x.request.origin c
given_up_on _ _ = None

abbrev pub given_up : Tables → Fact → Option (Origin × AltKey)
given_up t fact = option_and_then (λ number. given_up_on (request_among t.requests.outstanding number) (carrying t.connections number)) (turned_away_in fact)

-- what is kept for an origin without it
abbrev pub spared : Option (Origin × AltKey) → Origin → List Kept → List Kept
spared None o ks = ks
spared (Some g) o ks = if origin_eq o g.0 then filter (has_other_key g.1) ks else ks

-- those that a fact leaves: the network may change
abbrev pub is_change : Fact → Bool
is_change Network = true
is_change _ = false

abbrev pub kept_after : Fact → List Kept → List Kept
kept_after fact ks = if is_change fact then filter persists ks else ks
