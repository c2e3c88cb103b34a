-- DNS answers: what each brings, and which of them are in force.
use Rattle.std.specs.Prelude.{ℕ, suc, List, [], ◌∷◌, Option, Some, None, Result, Ok, Err, if◌then◌else◌, unwrap_or}
use Rattle.std.specs.Option.{option_map_or}
use Rattle.std.specs.Result.{result_ok}
use Rattle.alt_base.specs.declared.refusal.At.{At}
use Rattle.dns_names.specs.Names.{name_eq}
use Rattle.svcb_wire.specs.declared.svcb.Svcb.{Svcb}
use Rattle.svcb_wire.specs.declared.refusal.WireRefusal.{WireRefusal}
use Rattle.svcb_wire.specs.RecordReading.{read_record}
use Rattle.svcb_wire.specs.RefusalNumbers.{refusal_number}
use Rattle.alias_chain.specs.declared.held.Held.{Held}
use Rattle.alias_chain.specs.Held.{held_at, body_at}
use Rattle.alias_chain.specs.Walk.{NameOf}
use Rattle.route_events.specs.declared.answer.AnswerBody.{AnswerBody}
use Rattle.route_events.specs.declared.answer.AnswerBody.TheVariants.{V4, V6, Https}
use Rattle.route_events.specs.declared.fact.Fact.{Fact}
use Rattle.route_events.specs.declared.fact.Fact.TheVariants as fact
use Rattle.route_events.specs.declared.action.Action.{Action}
use Rattle.route_events.specs.declared.action.Action.TheVariants as action
use Rattle.route_events.specs.Journal.{Happened, Cut, Taken, Journal}

-- the records of an answer, or the first malformed one of them: its number, and why and where it is none
abbrev pub Records : Type 0
Records = Result (List Svcb) (ℕ × At WireRefusal)

abbrev pub in_front : ℕ → Result Svcb (At WireRefusal) → Records → Records
in_front number (Err at) rest = Err (number, at)
in_front number (Ok r) (Err malformed) = Err malformed
in_front number (Ok r) (Ok rs) = Ok (r ∷ rs)

abbrev pub read_records : ℕ → List (List ℕ) → Records
read_records number [] = Ok []
read_records number (octets ∷ rest) = in_front number (read_record octets) (read_records (suc number) rest)

-- what an answer brings of each kind: addresses of IPv4 (RFC 1035 3.4.1), addresses of IPv6 (RFC 3596 2.2), or HTTPS
-- records, which are none where one of them is malformed (RFC 9460 2.2)
abbrev pub addresses4 : AnswerBody → Option (List (List ℕ))
addresses4 (V4 addresses) = Some addresses
addresses4 (V6 addresses) = None
addresses4 (Https rdatas) = None

abbrev pub addresses6 : AnswerBody → Option (List (List ℕ))
addresses6 (V4 addresses) = None
addresses6 (V6 addresses) = Some addresses
addresses6 (Https rdatas) = None

abbrev pub records : AnswerBody → Option (List Svcb)
records (V4 addresses) = None
records (V6 addresses) = None
records (Https rdatas) = Some (unwrap_or (result_ok (read_records 1 rdatas)) [])

module _ {B : Type 0} where
  -- what a fact makes of the newest answer of a name, of one kind: an answer for the name that brings something of the kind
  -- replaces it, a change of the network ends it
  abbrev pub answer_after : (AnswerBody → Option B) → NameOf → ℕ → Fact → Option (Held B) → Option (Held B)
  answer_after brings name moment (fact.Answer own ttl body) before =
      if name_eq own name then option_map_or (λ b. Some (held_at moment ttl b)) (brings body) before else before
  answer_after brings name moment fact.Network before = None
  answer_after brings name moment _ before = before

  -- the newest answer of a name, of one kind, since the newest change of the network
  abbrev pub newest_answer : (AnswerBody → Option B) → Journal → NameOf → Option (Held B)
  newest_answer brings [] name = None
  newest_answer brings (Happened moment fact handed_in ∷ older) name = answer_after brings name moment fact (newest_answer brings older name)
  newest_answer brings (Cut moment conn length ∷ older) name = newest_answer brings older name
  newest_answer brings (Taken action ∷ older) name = newest_answer brings older name

  -- what it brought, while fewer seconds than its TTL have gone (RFC 1035 3.2.1)
  abbrev pub answer_at : (AnswerBody → Option B) → Journal → ℕ → NameOf → Option B
  answer_at brings journal now name = body_at now (newest_answer brings journal name)

-- what the client does for an answer: it names the first malformed record (RFC 9460 2.2)
abbrev pub malformed : NameOf → Records → List Action
malformed name (Ok rs) = []
malformed name (Err first) = action.Malformed name first.0 (refusal_number first.1.reason) first.1.place ∷ []

abbrev pub malformed_effects : NameOf → AnswerBody → List Action
malformed_effects name (Https rdatas) = malformed name (read_records 1 rdatas)
malformed_effects name _ = []
