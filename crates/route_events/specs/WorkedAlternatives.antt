-- Histories with alternatives (RFC 7838), whose actions are computed.
use Rattle.std.specs.Prelude.{ℕ, Bool, true, false, List, [], ◌∷◌, ◌++◌, Some, None, codes}
use Rattle.coalescing.specs.declared.cert_name.CertName.TheVariants.{Exact}
use Rattle.origin_values.specs.declared.host.Host.TheVariants.{Name}
use Rattle.origin_values.specs.declared.proto.Proto.TheVariants.{H2, Http11}
use Rattle.altsvc_grammar.specs.declared.alt_key.AltKey.{AltKey}
use Rattle.altsvc_grammar.specs.declared.alt.Alt.{Alt as Alternative}
use Rattle.altsvc_grammar.specs.declared.alt_svc.AltSvc.TheVariants as value
use Rattle.route_events.specs.declared.fact.Fact.{Fact}
use Rattle.route_events.specs.declared.fact.Fact.TheVariants.{Request, Opened, Failed, Response, Network}
use Rattle.route_events.specs.declared.action.Action.{Action}
use Rattle.route_events.specs.declared.action.Action.TheVariants.{OpenTo, SendOn, Refuse, Retry, Alternatives, Field}
use Rattle.route_events.specs.declared.route.Route.TheVariants.{Direct, Alt}
use Rattle.route_events.specs.WorkedHistories.{site, plain_site, its_address, opened_with}

-- HTTP/2 at another port of the origin's host
abbrev pub at_port : ℕ → AltKey
at_port port = record { proto = codes "h2"; host = None; port = port }

abbrev pub for_seconds : ℕ → ℕ → Bool → Alternative
for_seconds port ma persist = record { key = at_port port; ma = ma; persist = persist }

abbrev pub answered_with : ℕ → ℕ → List ℕ → Fact
answered_with request age text = Response request 200 age (Some text)

abbrev pub opened_at : ℕ → ℕ → Fact
opened_at attempt port = Opened attempt H2 its_address port (Exact (codes "a.example") ∷ [])

-- a value that was ten seconds old, for sixty seconds: it is live through the forty-ninth second behind its response
abbrev pub value_taken_at_ten : List (ℕ × Fact)
value_taken_at_ten = (0, Request 1 site) ∷ (1, opened_with 1 H2) ∷ (10, answered_with 1 10 (codes "h2=\":8443\"; ma=60")) ∷ []

abbrev pub first_sent : List Action
first_sent = OpenTo 1 site Direct ∷ SendOn 1 1 (Some 1) None ∷ []

abbrev pub taken : List Alternative → Action
taken alts = Alternatives site (value.List alts)

-- the next request goes on the connection that there is, and the alternative is opened beside; the one behind it goes
-- there, and tells the server by which alternative
abbrev pub alternative_used : List (ℕ × Fact)
alternative_used = value_taken_at_ten ++ ((59, Request 2 site) ∷ (59, opened_at 2 8443) ∷ (60, Request 3 site) ∷ [])

abbrev pub sent_by_alternative : List Action
sent_by_alternative =
    first_sent ++ (taken (for_seconds 8443 60 false ∷ []) ∷ SendOn 2 1 (Some 3) None ∷ OpenTo 2 site (Alt (at_port 8443))
    ∷ SendOn 3 2 (Some 1) (Some (Name (codes "a.example"), 8443)) ∷ [])

-- a second later nothing is opened any more
abbrev pub alternative_stale : List (ℕ × Fact)
alternative_stale = value_taken_at_ten ++ ((60, Request 2 site) ∷ [])

abbrev pub sent_directly : List Action
sent_directly = first_sent ++ (taken (for_seconds 8443 60 false ∷ []) ∷ SendOn 2 1 (Some 3) None ∷ [])

-- a connection that an alternative opened carries nothing any more once a value doesn't list it
abbrev pub alternative_cleared : List (ℕ × Fact)
alternative_cleared = alternative_used ++ ((61, answered_with 3 0 (codes "clear")) ∷ (62, Request 4 site) ∷ [])

abbrev pub sent_elsewhere : List Action
sent_elsewhere = sent_by_alternative ++ (Alternatives site value.Clear ∷ SendOn 4 1 (Some 5) None ∷ [])

-- a change of the network leaves only what says that it stays
abbrev pub network_changed : List (ℕ × Fact)
network_changed =
    (0, Request 1 site) ∷ (1, opened_with 1 H2) ∷ (2, answered_with 1 0 (codes "h2=\":8443\", h2=\":9443\"; persist=1"))
    ∷ (3, Network) ∷ (4, Request 2 site) ∷ []

abbrev pub persistent_opened : List Action
persistent_opened =
    first_sent ++ (taken (for_seconds 8443 86400 false ∷ for_seconds 9443 86400 true ∷ []) ∷ SendOn 2 1 (Some 3) None
    ∷ OpenTo 2 site (Alt (at_port 9443)) ∷ [])

-- an alternative that failed isn't opened for three hundred seconds
abbrev pub alternative_failed : List (ℕ × Fact)
alternative_failed =
    (0, Request 1 site) ∷ (1, opened_with 1 H2) ∷ (2, answered_with 1 0 (codes "h2=\":8443\"")) ∷ (3, Request 2 site)
    ∷ (4, Failed 2) ∷ (303, Request 3 site) ∷ (304, Request 4 site) ∷ []

abbrev pub opened_again : List Action
opened_again =
    first_sent ++ (taken (for_seconds 8443 86400 false ∷ []) ∷ SendOn 2 1 (Some 3) None ∷ OpenTo 2 site (Alt (at_port 8443))
    ∷ SendOn 3 1 (Some 5) None ∷ SendOn 4 1 (Some 7) None ∷ OpenTo 3 site (Alt (at_port 8443)) ∷ [])

-- a server that an alternative led to turns a request away: the alternative is live no more, the value in the response
-- isn't taken, and the request goes again where it may, with its old place before a newer one
abbrev pub alternative_misdirected : List (ℕ × Fact)
alternative_misdirected =
    (0, Request 1 site) ∷ (1, opened_with 1 H2) ∷ (2, answered_with 1 0 (codes "h2=\":8443\"")) ∷ (3, Request 2 site)
    ∷ (4, opened_at 2 8443) ∷ (5, Request 3 site) ∷ (6, Response 3 421 0 (Some (codes "h2=\":9443\""))) ∷ (7, Request 4 site) ∷ []

abbrev pub sent_again : List Action
sent_again =
    first_sent ++ (taken (for_seconds 8443 86400 false ∷ []) ∷ SendOn 2 1 (Some 3) None ∷ OpenTo 2 site (Alt (at_port 8443))
    ∷ SendOn 3 2 (Some 1) (Some (Name (codes "a.example"), 8443)) ∷ Retry 3 ∷ Field 3 11 0 ∷ SendOn 3 1 (Some 5) None
    ∷ SendOn 4 1 (Some 7) None ∷ [])

-- what is no value isn't taken, and nothing is taken for an origin of http
abbrev pub no_value : List (ℕ × Fact)
no_value = (0, Request 1 site) ∷ (1, opened_with 1 H2) ∷ (2, answered_with 1 0 (codes "h%32=\":443\"")) ∷ []

abbrev pub plain_value : List (ℕ × Fact)
plain_value =
    (0, Request 1 plain_site) ∷ (1, Opened 1 H2 its_address 80 []) ∷ (1, Request 2 plain_site)
    ∷ (2, Opened 2 Http11 its_address 80 []) ∷ (3, answered_with 2 0 (codes "clear")) ∷ []

abbrev pub plain_ignored : List Action
plain_ignored =
    OpenTo 1 plain_site Direct ∷ Refuse 1 ∷ OpenTo 2 plain_site Direct ∷ SendOn 2 2 None None ∷ Field 2 12 0 ∷ []
