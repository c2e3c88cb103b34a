-- What is asked of an origin, and by which addresses.
use Rattle.std.specs.Prelude.{ℕ, Bool}
use Rattle.answer_store.specs.declared.store.AnswerStore.{AnswerStore}
use Rattle.origin_values.specs.declared.address.Addr.{Addr}
use Rattle.origin_values.specs.declared.origin.Origin.{Origin}
use Rattle.request_dispatch.specs.declared.origin_addresses.OriginAddresses.{OriginAddresses}
use Rattle.request_dispatch.specs.Looks.{address_at}

-- an origin, and which addresses are an origin's
pub record Asked : Type 0 where
  pub origin : Origin
  pub is_address : Origin → Addr → Bool

abbrev pub asked_of : AnswerStore → ℕ → Origin → Asked
asked_of answers now o = record { origin = o; is_address = address_at answers now }

unfoldable pub asked_by : OriginAddresses → Asked
asked_by known = asked_of known.answers.now known.moment.0 known.origin
