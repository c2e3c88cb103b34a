-- Histories in which one connection serves several origins (RFC 9113 9.1.1), and counts, whose actions are computed.
use Rattle.std.specs.Prelude.{ℕ, false, List, [], ◌∷◌, ◌++◌, None, Some, codes}
use Rattle.coalescing.specs.declared.cert_name.CertName.TheVariants.{Exact, Ip}
use Rattle.origin_values.specs.declared.scheme.Scheme.TheVariants.{Https as HttpsScheme}
use Rattle.origin_values.specs.declared.host.Host.TheVariants as host
use Rattle.origin_values.specs.declared.origin.Origin.{Origin}
use Rattle.origin_values.specs.declared.address.Addr.TheVariants as address
use Rattle.origin_values.specs.declared.proto.Proto.{Proto}
use Rattle.origin_values.specs.declared.proto.Proto.TheVariants.{H2, Http11}
use Rattle.altsvc_grammar.specs.declared.alt.Alt.{Alt as Alternative}
use Rattle.route_events.specs.declared.answer.AnswerBody.TheVariants.{V4, V6}
use Rattle.route_events.specs.declared.fact.Fact.{Fact}
use Rattle.route_events.specs.declared.fact.Fact.TheVariants.{Request, Opened, Failed, Answer, Who, Stats}
use Rattle.route_events.specs.declared.action.Action.{Action}
use Rattle.route_events.specs.declared.action.Action.TheVariants.{OpenTo, SendOn, Who as Told, Stats as Counted}
use Rattle.route_events.specs.declared.route.Route.TheVariants.{Direct, Alt}
use Rattle.route_events.specs.WorkedHistories.{site, plain_site, its_address, opened_with}
use Rattle.route_events.specs.WorkedAlternatives.{at_port, for_seconds, answered_with, first_sent, taken}
use Rattle.route_events.specs.WorkedAnswers.{b_example}

-- other origins: of another name, at another port, and of the address
abbrev pub other_at : ℕ → Origin
other_at port = record { scheme = HttpsScheme; host = host.Name (codes "b.example"); port = port }

abbrev pub address_site : Origin
address_site = record { scheme = HttpsScheme; host = host.V4 (192 ∷ 0 ∷ 2 ∷ 1 ∷ []); port = 443 }

-- a connection whose certificate is for all of them
abbrev pub opened_for_all : ℕ → Proto → Fact
opened_for_all attempt proto = Opened attempt proto its_address 443 (Exact (codes "a.example") ∷ Exact (codes "b.example") ∷ Ip its_address ∷ [])

abbrev pub shared : Proto → List (ℕ × Fact)
shared proto = (0, Request 1 site) ∷ (1, opened_for_all 1 proto) ∷ []

-- the other name's addresses, for a minute
abbrev pub resolved : List ℕ → Fact
resolved address = Answer b_example 60 (V4 ((192 ∷ 0 ∷ 2 ∷ 9 ∷ []) ∷ address ∷ []))

-- a certificate alone isn't enough: a connection is opened, and the request waits for it; once an answer has the address of
-- the first connection, it is sent there; when the answer has ended, that carries the origin's requests no more
abbrev pub coalesced : List (ℕ × Fact)
coalesced =
    shared H2 ++ ((2, Request 2 (other_at 443)) ∷ (3, resolved (192 ∷ 0 ∷ 2 ∷ 1 ∷ [])) ∷ (62, Who (other_at 443)) ∷ (63, Who (other_at 443)) ∷ [])

abbrev pub sent_together : List Action
sent_together =
    first_sent ++ (OpenTo 2 (other_at 443) Direct ∷ SendOn 2 1 (Some 3) None ∷ Told (other_at 443) (1 ∷ []) ∷ Told (other_at 443) [] ∷ [])

-- nothing is shared at another port, at another address, with a certificate for another name, or by HTTP/1.1
abbrev pub other_port : List (ℕ × Fact)
other_port = shared H2 ++ ((2, resolved (192 ∷ 0 ∷ 2 ∷ 1 ∷ [])) ∷ (3, Request 2 (other_at 8443)) ∷ (4, Who (other_at 8443)) ∷ [])

abbrev pub opened_apart : ℕ → List Action
opened_apart port = first_sent ++ (OpenTo 2 (other_at port) Direct ∷ Told (other_at port) [] ∷ [])

abbrev pub other_address : List (ℕ × Fact)
other_address = shared H2 ++ ((2, resolved (192 ∷ 0 ∷ 2 ∷ 2 ∷ [])) ∷ (3, Request 2 (other_at 443)) ∷ (4, Who (other_at 443)) ∷ [])

abbrev pub other_certificate : List (ℕ × Fact)
other_certificate =
    (0, Request 1 site) ∷ (1, opened_with 1 H2) ∷ (2, resolved (192 ∷ 0 ∷ 2 ∷ 1 ∷ [])) ∷ (3, Request 2 (other_at 443)) ∷ (4, Who (other_at 443)) ∷ []

abbrev pub other_protocol : List (ℕ × Fact)
other_protocol = shared Http11 ++ ((2, resolved (192 ∷ 0 ∷ 2 ∷ 1 ∷ [])) ∷ (3, Who (other_at 443)) ∷ [])

abbrev pub not_shared : List Action
not_shared = OpenTo 1 site Direct ∷ SendOn 1 1 None None ∷ Told (other_at 443) [] ∷ []

-- an origin of an address needs no answer
abbrev pub by_address : List (ℕ × Fact)
by_address = shared H2 ++ ((2, Request 2 address_site) ∷ [])

abbrev pub sent_by_address : List Action
sent_by_address = first_sent ++ (SendOn 2 1 (Some 3) None ∷ [])

-- an address of IPv6 is one of an answer for IPv6
abbrev pub address6 : List ℕ
address6 = 32 ∷ 1 ∷ 13 ∷ 184 ∷ 0 ∷ 0 ∷ 0 ∷ 0 ∷ 0 ∷ 0 ∷ 0 ∷ 0 ∷ 0 ∷ 0 ∷ 0 ∷ 1 ∷ []

abbrev pub by_address6 : List (ℕ × Fact)
by_address6 =
    (0, Request 1 site) ∷ (1, Opened 1 H2 (address.V6 address6) 443 (Exact (codes "a.example") ∷ Exact (codes "b.example") ∷ []))
    ∷ (2, Answer b_example 60 (V6 (address6 ∷ []))) ∷ (3, Request 2 (other_at 443)) ∷ []

-- two alternatives, one of no supported protocol; two answers, one empty; an open connection. Later the answers have ended, an
-- alternative is broken, and a request waits
abbrev pub counted : List (ℕ × Fact)
counted =
    (0, Request 1 site) ∷ (1, opened_with 1 H2) ∷ (2, answered_with 1 0 (codes "h2=\":8443\", x=\":8443\"")) ∷ (3, Answer b_example 60 (V4 []))
    ∷ (3, Answer b_example 60 (V6 (address6 ∷ []))) ∷ (4, Stats) ∷ (4, Request 2 site) ∷ (5, Failed 2) ∷ (6, Request 3 plain_site) ∷ (63, Stats) ∷ []

abbrev pub of_another : Alternative
of_another = record { key = record { proto = codes "x"; host = None; port = 8443 }; ma = 86400; persist = false }

abbrev pub how_many : List Action
how_many =
    first_sent ++ (taken (for_seconds 8443 86400 false ∷ of_another ∷ []) ∷ Counted 2 2 0 1 0 ∷ SendOn 2 1 (Some 3) None ∷ OpenTo 2 site (Alt (at_port 8443))
    ∷ OpenTo 3 plain_site Direct ∷ Counted 2 0 1 1 1 ∷ [])
