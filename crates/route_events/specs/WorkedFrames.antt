-- Histories with frames (RFC 7838 4, RFC 8336), whose actions are computed.
use Rattle.std.specs.Prelude.{ℕ, false, List, [], ◌∷◌, ◌++◌, Some, None, codes}
use Rattle.origin_values.specs.declared.host.Host.TheVariants.{Name}
use Rattle.origin_values.specs.declared.scheme.Scheme.TheVariants.{Https}
use Rattle.origin_values.specs.declared.origin.Origin.{Origin}
use Rattle.origin_values.specs.declared.proto.Proto.TheVariants.{H2}
use Rattle.altsvc_grammar.specs.declared.alt_svc.AltSvc.TheVariants as value
use Rattle.route_events.specs.declared.fact.Fact.{Fact}
use Rattle.route_events.specs.declared.fact.Fact.TheVariants.{Request, Opened, Response, Input, Delivered, Who}
use Rattle.route_events.specs.declared.action.Action.{Action}
use Rattle.route_events.specs.declared.action.Action.TheVariants.{OpenTo, SendOn, Refuse, Lost, Retry, Close, Alternatives, Ignored, Origins, Who as Told}
use Rattle.route_events.specs.declared.route.Route.TheVariants.{Direct, Alt}
use Rattle.route_events.specs.WorkedHistories.{site, plain_site, its_address, opened_with}
use Rattle.route_events.specs.WorkedAlternatives.{at_port, for_seconds, answered_with, opened_at, first_sent, taken}

-- a request is outstanding on a connection of HTTP/2
abbrev pub one_out : List (ℕ × Fact)
one_out = (0, Request 1 site) ∷ (1, opened_with 1 H2) ∷ []

-- the head of a frame with a short payload (RFC 9113 4.1)
abbrev pub short_head : ℕ → ℕ → ℕ → ℕ → List ℕ
short_head length kind flags stream = 0 ∷ 0 ∷ length ∷ kind ∷ flags ∷ 0 ∷ 0 ∷ 0 ∷ stream ∷ []

-- an ALTSVC frame on stream 0, with an origin of 17 octets and a value of 10
abbrev pub altsvc_on_zero : List ℕ → List ℕ → List ℕ
altsvc_on_zero origin field = short_head 29 10 0 0 ++ (0 ∷ 17 ∷ origin ++ field)

-- an ALTSVC frame on another stream, with the value `clear`
abbrev pub clear_on : ℕ → List ℕ
clear_on stream = short_head 7 10 0 stream ++ (0 ∷ 0 ∷ codes "clear")

-- an ORIGIN frame without entries, and one that lists the site
abbrev pub nothing_listed : List ℕ
nothing_listed = short_head 0 12 0 0

abbrev pub site_listed : List ℕ
site_listed = short_head 19 12 0 0 ++ (0 ∷ 17 ∷ codes "https://a.example")

-- a value for an origin is taken where the connection is authoritative for it, and only there
abbrev pub value_by_frame : List (ℕ × Fact)
value_by_frame = one_out ++ ((2, Input 1 (altsvc_on_zero (codes "https://a.example") (codes "h2=\":8443\""))) ∷ [])

abbrev pub value_is_taken : List Action
value_is_taken = first_sent ++ (taken (for_seconds 8443 86400 false ∷ []) ∷ [])

abbrev pub value_for_other : List (ℕ × Fact)
value_for_other = one_out ++ ((2, Input 1 (altsvc_on_zero (codes "https://b.example") (codes "h2=\":8443\""))) ∷ [])

-- on a request's stream it is for the request's origin, until the response
abbrev pub value_on_stream : List (ℕ × Fact)
value_on_stream = one_out ++ ((2, Input 1 (clear_on 1)) ∷ (3, Response 1 200 0 None) ∷ (4, Input 1 (clear_on 1)) ∷ [])

abbrev pub once_cleared : List Action
once_cleared = first_sent ++ (Alternatives site value.Clear ∷ Ignored 1 10 8 0 ∷ [])

-- frames come in pieces: the first has a flag, and is ignored; the second is accepted
abbrev pub frames_in_pieces : List (ℕ × Fact)
frames_in_pieces = one_out ++ ((2, Input 1 (0 ∷ 0 ∷ 0 ∷ 12 ∷ [])) ∷ (2, Input 1 (4 ∷ 0 ∷ 0 ∷ 0 ∷ 0 ∷ [])) ∷ (3, Input 1 (short_head 0 12 16 0)) ∷ (4, Who site) ∷ [])

abbrev pub second_accepted : List Action
second_accepted = first_sent ++ (Ignored 1 12 2 0 ∷ Origins 1 0 0 ∷ Told site (1 ∷ []) ∷ [])

-- a frame that is handed in stands beside an unfinished one
abbrev pub frame_beside : List (ℕ × Fact)
frame_beside =
    one_out ++ ((2, Input 1 (0 ∷ 0 ∷ 0 ∷ [])) ∷ (2, Delivered 1 (record { length = 7; kind = 10; flags = 0; stream = 1 }) (0 ∷ 0 ∷ codes "clear"))
    ∷ (3, Input 1 (12 ∷ 0 ∷ 0 ∷ 0 ∷ 0 ∷ 0 ∷ [])) ∷ [])

abbrev pub both_delivered : List Action
both_delivered = first_sent ++ (Alternatives site value.Clear ∷ Origins 1 0 0 ∷ [])

-- a head whose length is 16,385 closes the connection, and what follows it isn't read; 16,384 is within the limit
abbrev pub frame_too_large : List (ℕ × Fact)
frame_too_large = one_out ++ ((2, Input 1 ((0 ∷ 64 ∷ 1 ∷ 0 ∷ 0 ∷ 0 ∷ 0 ∷ 0 ∷ 1 ∷ []) ++ nothing_listed)) ∷ (3, Who site) ∷ [])

abbrev pub closed_and_lost : List Action
closed_and_lost = first_sent ++ (Close 1 16385 ∷ Lost 1 ∷ Told site [] ∷ [])

abbrev pub frame_within : List (ℕ × Fact)
frame_within = one_out ++ ((2, Input 1 (0 ∷ 64 ∷ 0 ∷ 0 ∷ 0 ∷ 0 ∷ 0 ∷ 0 ∷ 1 ∷ [])) ∷ (3, Who site) ∷ [])

-- an ORIGIN frame gates a connection that an alternative opened: its set has its initial origin alone, which isn't the
-- origin that it was opened for
abbrev pub site_at_8443 : Origin
site_at_8443 = record { scheme = Https; host = Name (codes "a.example"); port = 8443 }

abbrev pub gated_by_frame : List (ℕ × Fact)
gated_by_frame =
    one_out ++ ((2, answered_with 1 0 (codes "h2=\":8443\"")) ∷ (3, Request 2 site) ∷ (4, opened_at 2 8443) ∷ (5, Request 3 site)
    ∷ (6, Input 2 nothing_listed) ∷ (7, Who site) ∷ (8, Who site_at_8443) ∷ (9, Request 4 site) ∷ [])

abbrev pub sent_beside : List Action
sent_beside =
    first_sent ++ (taken (for_seconds 8443 86400 false ∷ []) ∷ SendOn 2 1 (Some 3) None ∷ OpenTo 2 site (Alt (at_port 8443))
    ∷ SendOn 3 2 (Some 1) (Some (Name (codes "a.example"), 8443)) ∷ Origins 2 0 0 ∷ Told site (1 ∷ []) ∷ Told site_at_8443 (2 ∷ [])
    ∷ SendOn 4 1 (Some 5) None ∷ [])

-- a request that was turned away waits, until an ORIGIN frame that lists its origin lifts the misdirection: then it goes
-- again on the same connection, and its old stream is none of a request any more
abbrev pub misdirection_lifted : List (ℕ × Fact)
misdirection_lifted =
    one_out ++ ((2, Request 2 site) ∷ (3, Response 2 421 0 None) ∷ (4, Input 1 nothing_listed) ∷ (5, Input 1 site_listed)
    ∷ (6, Input 1 (clear_on 3 ++ clear_on 5)) ∷ [])

abbrev pub sent_on_it_again : List Action
sent_on_it_again =
    first_sent ++ (SendOn 2 1 (Some 3) None ∷ Retry 2 ∷ OpenTo 2 site Direct ∷ Origins 1 0 0 ∷ Origins 1 1 0 ∷ SendOn 2 1 (Some 5) None
    ∷ Ignored 1 10 8 0 ∷ Alternatives site value.Clear ∷ [])

-- without TLS no frame is taken
abbrev pub frames_without_tls : List (ℕ × Fact)
frames_without_tls = (0, Request 1 plain_site) ∷ (1, Opened 1 H2 its_address 80 []) ∷ (2, Input 1 (clear_on 1 ++ nothing_listed)) ∷ []

abbrev pub none_taken : List Action
none_taken = OpenTo 1 plain_site Direct ∷ Refuse 1 ∷ Ignored 1 10 10 0 ∷ Ignored 1 12 10 0 ∷ []

-- each reason of payloads with its place: too short; an origin on a request's stream; a value that is none, at its place
-- behind the two octets; then an ORIGIN frame that isn't on stream 0, one whose second entry passes the end, one whose only
-- entry is skipped; and a value for an origin of http
abbrev pub other_payloads : List (ℕ × Fact)
other_payloads =
    one_out
    ++ ((2, Input 1 (short_head 1 10 0 0 ++ (0 ∷ [])))
    ∷ (2, Input 1 (short_head 3 10 0 1 ++ (0 ∷ 1 ∷ 97 ∷ [])))
    ∷ (2, Input 1 (short_head 13 10 0 1 ++ (0 ∷ 0 ∷ codes "h%32=\":443\"")))
    ∷ (3, Input 1 (short_head 0 12 0 3 ++ short_head 4 12 0 0 ++ (0 ∷ 1 ∷ 97 ∷ 0 ∷ [])))
    ∷ (3, Input 1 (short_head 3 12 0 0 ++ (0 ∷ 1 ∷ 97 ∷ [])))
    ∷ (4, Input 1 (short_head 23 10 0 0 ++ (0 ∷ 16 ∷ codes "http://a.example" ++ codes "clear"))) ∷ [])

abbrev pub each_with_its_reason : List Action
each_with_its_reason =
    first_sent ++ (Ignored 1 10 1 1 ∷ Ignored 1 10 4 0 ∷ Ignored 1 10 6 3 ∷ Ignored 1 12 1 0 ∷ Ignored 1 12 3 3 ∷ Origins 1 0 1 ∷ Ignored 1 10 9 0 ∷ [])
