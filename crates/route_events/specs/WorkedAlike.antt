-- Pairs of small histories that are alike: in the second stands something else in place of what the first may forget.
use Rattle.std.specs.Prelude.{ℕ, List, [], ◌∷◌, ◌++◌, None, codes}
use Rattle.coalescing.specs.declared.cert_name.CertName.TheVariants.{Exact}
use Rattle.origin_values.specs.declared.proto.Proto.TheVariants.{H2}
use Rattle.route_events.specs.declared.answer.AnswerBody.TheVariants.{V4}
use Rattle.route_events.specs.declared.fact.Fact.{Fact}
use Rattle.route_events.specs.declared.fact.Fact.TheVariants.{Request, Opened, Closed, Response, Input, Answer, Network, Tick}
use Rattle.route_events.specs.WorkedHistories.{site, its_address}
use Rattle.route_events.specs.WorkedAlternatives.{answered_with, opened_at}
use Rattle.route_events.specs.WorkedFrames.{one_out, site_listed}
use Rattle.route_events.specs.WorkedAnswers.{a_example}

-- a response without a value
abbrev pub answered_without : ℕ → Fact
answered_without request = Response request 200 0 None

-- a value that has ended, and none
abbrev pub ended_value : List (ℕ × Fact)
ended_value = one_out ++ ((2, answered_with 1 0 (codes "h2=\":8443\"; ma=60")) ∷ (62, Tick) ∷ [])

abbrev pub without_value : List (ℕ × Fact)
without_value = one_out ++ ((2, answered_without 1) ∷ (62, Tick) ∷ [])

-- a DNS answer that has ended, and none
abbrev pub ended_answer : List (ℕ × Fact)
ended_answer = (0, Answer a_example 60 (V4 ((192 ∷ 0 ∷ 2 ∷ 1 ∷ []) ∷ []))) ∷ (60, Tick) ∷ []

abbrev pub without_answer : List (ℕ × Fact)
without_answer = (0, Tick) ∷ (60, Tick) ∷ []

-- two requests are outstanding, and both are answered: with a value and then another, or only with the other
abbrev pub two_out : List (ℕ × Fact)
two_out = one_out ++ ((1, Request 2 site) ∷ [])

abbrev pub replaced_by : List ℕ → List (ℕ × Fact)
replaced_by text = two_out ++ ((2, answered_with 1 0 (codes "h2=\":8443\"")) ∷ (3, answered_with 2 0 text) ∷ [])

abbrev pub only_by : List ℕ → List (ℕ × Fact)
only_by text = two_out ++ ((2, answered_without 1) ∷ (3, answered_with 2 0 text) ∷ [])

-- a server that an alternative of so many seconds led to turns a request away
abbrev pub given_up_of : List ℕ → List (ℕ × Fact)
given_up_of text =
    one_out ++ ((2, answered_with 1 0 text) ∷ (3, Request 2 site) ∷ (4, opened_at 2 8443) ∷ (5, Request 3 site) ∷ (6, Response 3 421 0 None) ∷ [])

-- the network changes behind a value and an answer, and behind none
abbrev pub behind_both : List (ℕ × Fact)
behind_both =
    one_out ++ ((2, answered_with 1 0 (codes "h2=\":8443\"")) ∷ (2, Answer a_example 60 (V4 ((192 ∷ 0 ∷ 2 ∷ 1 ∷ []) ∷ []))) ∷ (3, Network) ∷ [])

abbrev pub behind_none : List (ℕ × Fact)
behind_none = one_out ++ ((2, answered_without 1) ∷ (2, Tick) ∷ (3, Network) ∷ [])

-- a connection with an origin set closes, and one with another certificate and without a set
abbrev pub set_closed : List (ℕ × Fact)
set_closed = one_out ++ ((2, Input 1 site_listed) ∷ (3, Closed 1) ∷ [])

abbrev pub other_closed : List (ℕ × Fact)
other_closed =
    (0, Request 1 site) ∷ (1, Opened 1 H2 its_address 443 (Exact (codes "a.example") ∷ Exact (codes "b.example") ∷ [])) ∷ (2, Tick) ∷ (3, Closed 1) ∷ []
