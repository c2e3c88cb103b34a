-- Histories with HTTPS records (RFC 9460), whose actions are computed.
use Rattle.std.specs.Prelude.{ℕ, true, false, List, [], ◌∷◌, ◌++◌, None, Some, codes}
use Rattle.dns_names.specs.Names.{wire_form}
use Rattle.origin_values.specs.declared.proto.Proto.TheVariants.{H2}
use Rattle.alias_chain.specs.Walk.{NameOf}
use Rattle.route_events.specs.declared.answer.AnswerBody.TheVariants.{Https}
use Rattle.route_events.specs.declared.fact.Fact.{Fact}
use Rattle.route_events.specs.declared.fact.Fact.TheVariants.{Request, Failed, Closed, Answer, Network}
use Rattle.route_events.specs.declared.action.Action.{Action}
use Rattle.route_events.specs.declared.action.Action.TheVariants.{OpenTo, SendOn, Refuse, Malformed}
use Rattle.route_events.specs.declared.route.Route.{Route}
use Rattle.route_events.specs.declared.route.Route.TheVariants.{Direct, Alt, Rec}
use Rattle.route_events.specs.WorkedHistories.{site, opened_with}
use Rattle.route_events.specs.WorkedAlternatives.{at_port, for_seconds, answered_with, first_sent, taken}

abbrev pub a_example : NameOf
a_example = codes "a" ∷ codes "example" ∷ []

abbrev pub b_example : NameOf
b_example = codes "b" ∷ codes "example" ∷ []

-- the octets of a record of so low a priority, with parameters (RFC 9460 2.2)
abbrev pub record_with : ℕ → NameOf → List ℕ → List ℕ
record_with priority target params = 0 ∷ priority ∷ wire_form target ++ params

abbrev pub records_for : NameOf → ℕ → List (List ℕ) → Fact
records_for name ttl all = Answer name ttl (Https all)

-- HTTP/2 by alpn, beside HTTP/1.1; and port 8443
abbrev pub with_h2 : List ℕ
with_h2 = 0 ∷ 1 ∷ 0 ∷ 3 ∷ 2 ∷ codes "h2"

abbrev pub at_8443 : List ℕ
at_8443 = 0 ∷ 3 ∷ 0 ∷ 2 ∷ 32 ∷ 251 ∷ []

-- an endpoint with HTTP/2 and HTTP/1.1
abbrev pub to : NameOf → ℕ → Route
to name port = Rec (record { target = name; port = port; protos = record { h2 = true; h3 = false; http11 = true } })

-- the site is an alias of another name, for so many seconds
abbrev pub aliased : ℕ → Fact
aliased ttl = records_for a_example ttl (record_with 0 b_example [] ∷ [])

-- an alias is followed, and its name is an endpoint of its own
abbrev pub by_alias : List (ℕ × Fact)
by_alias = (0, aliased 300) ∷ (1, Request 1 site) ∷ []

abbrev pub alias_opened : List Action
alias_opened = OpenTo 1 site (to b_example 443) ∷ []

-- its record gives a port; behind it comes the name itself, then the direct route
abbrev pub by_port : List (ℕ × Fact)
by_port =
    (0, aliased 300) ∷ (0, records_for b_example 300 (record_with 1 [] (with_h2 ++ at_8443) ∷ [])) ∷ (1, Request 1 site)
    ∷ (2, Failed 1) ∷ (3, Failed 2) ∷ (4, opened_with 3 H2) ∷ []

abbrev pub one_by_one : List Action
one_by_one =
    OpenTo 1 site (to b_example 8443) ∷ OpenTo 2 site (to b_example 443) ∷ OpenTo 3 site Direct ∷ SendOn 1 3 (Some 1) None ∷ []

-- where one record is malformed, none counts, and the first such is named
abbrev pub one_malformed : List (ℕ × Fact)
one_malformed = (0, records_for a_example 300 (record_with 1 [] with_h2 ∷ (0 ∷ 1 ∷ []) ∷ (0 ∷ []) ∷ [])) ∷ (1, Request 1 site) ∷ []

abbrev pub second_named : List Action
second_named = Malformed a_example 2 2 2 ∷ OpenTo 1 site Direct ∷ []

-- an answer is in force for fewer seconds than its TTL, and not after the network changed
abbrev pub in_time : List (ℕ × Fact)
in_time = (0, aliased 60) ∷ (59, Request 1 site) ∷ []

abbrev pub too_late : List (ℕ × Fact)
too_late = (0, aliased 60) ∷ (60, Request 1 site) ∷ []

abbrev pub moved_on : List (ℕ × Fact)
moved_on = (0, aliased 300) ∷ (1, Network) ∷ (2, Request 1 site) ∷ []

-- a newer answer replaces the older one, also where it is empty
abbrev pub replaced : List (ℕ × Fact)
replaced = (0, aliased 300) ∷ (1, records_for a_example 300 []) ∷ (2, Request 1 site) ∷ []

-- a connection by a record carries the request, and nothing is told of an alternative
abbrev pub record_used : List (ℕ × Fact)
record_used = (0, aliased 300) ∷ (1, Request 1 site) ∷ (2, opened_with 1 H2) ∷ (3, Request 2 site) ∷ []

abbrev pub sent_by_record : List Action
sent_by_record = OpenTo 1 site (to b_example 443) ∷ SendOn 1 1 (Some 1) None ∷ SendOn 2 1 (Some 3) None ∷ []

-- an endpoint that failed isn't opened for three hundred seconds
abbrev pub record_failed : List (ℕ × Fact)
record_failed =
    (0, aliased 86400) ∷ (1, Request 1 site) ∷ (2, Failed 1) ∷ (3, Failed 2) ∷ (301, Request 2 site) ∷ (301, Failed 3) ∷ (302, Request 3 site) ∷ []

abbrev pub record_opened_again : List Action
record_opened_again =
    OpenTo 1 site (to b_example 443) ∷ OpenTo 2 site Direct ∷ Refuse 1 ∷ OpenTo 3 site Direct ∷ Refuse 2 ∷ OpenTo 4 site (to b_example 443) ∷ []

-- alternatives come before endpoints, and these before the direct route
abbrev pub all_routes : List (ℕ × Fact)
all_routes =
    (0, aliased 300) ∷ (0, Network) ∷ (0, Request 1 site) ∷ (1, opened_with 1 H2) ∷ (2, answered_with 1 0 (codes "h2=\":8443\"")) ∷ (3, Closed 1)
    ∷ (4, aliased 300) ∷ (5, Request 2 site) ∷ (6, Failed 2) ∷ (7, Failed 3) ∷ []

abbrev pub in_their_order : List Action
in_their_order =
    first_sent ++ (taken (for_seconds 8443 86400 false ∷ []) ∷ OpenTo 2 site (Alt (at_port 8443)) ∷ OpenTo 3 site (to b_example 443) ∷ OpenTo 4 site Direct ∷ [])
