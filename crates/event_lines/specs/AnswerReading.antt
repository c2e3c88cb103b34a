-- Reading what an answer brings: the words that are left of a line, each by the answer's kind.
use Rattle.std.specs.Prelude.{ℕ, ◌+◌, List, [], ◌∷◌, length, Option, Some, None, Result, Ok}
use Rattle.std.specs.List.{slice_split}
use Rattle.alt_base.specs.declared.refusal.At.{At}
use Rattle.origin_values.specs.HostReading.{read_addr}
use Rattle.origin_values.specs.declared.address.Addr.{Addr}
use Rattle.origin_values.specs.declared.address.Addr.TheVariants as address
use Rattle.route_events.specs.declared.answer.AnswerBody.{AnswerBody}
use Rattle.route_events.specs.declared.answer.AnswerBody.TheVariants as answer
use Rattle.event_lines.specs.Fields.{octets_of}
use Rattle.event_lines.specs.Parts.{Part, is_space, Reading, ◌>>=◌, value_or}
use Rattle.event_lines.specs.declared.answer_kind.AnswerKind.{AnswerKind}
use Rattle.event_lines.specs.declared.answer_kind.AnswerKind.TheVariants.{Ipv4, Ipv6, Https}
use Rattle.event_lines.specs.declared.refusal.LineRefusal.{LineRefusal}
use Rattle.event_lines.specs.declared.refusal.LineRefusal.TheVariants.{BadField}

-- the octets of an address of IPv4, or of IPv6
abbrev pub v4_among : Option Addr → Option (List ℕ)
v4_among None = None
v4_among (Some (address.V4 octets)) = Some octets
v4_among (Some (address.V6 octets)) = None

abbrev pub v6_among : Option Addr → Option (List ℕ)
v6_among None = None
v6_among (Some (address.V4 octets)) = None
v6_among (Some (address.V6 octets)) = Some octets

-- an address, or the octets of a record in hex
abbrev pub item_of : AnswerKind → List ℕ → Option (List ℕ)
item_of Ipv4 text = v4_among (read_addr text)
item_of Ipv6 text = v6_among (read_addr text)
item_of Https text = octets_of text

-- what an answer of a kind brings
abbrev pub body_of : AnswerKind → List (List ℕ) → AnswerBody
body_of Ipv4 items = answer.V4 items
body_of Ipv6 items = answer.V6 items
body_of Https items = answer.Https items

-- the words of a text, each behind a space
abbrev pub words_behind : List ℕ → List (List ℕ)
words_behind [] = []
words_behind (space ∷ text) = slice_split is_space text

abbrev pub Items : Type 0
Items = Result (List (List ℕ)) (At LineRefusal)

-- the items of words, of which the first stands behind a space at this place
abbrev pub items_from : (List ℕ → Option (List ℕ)) → ℕ → List (List ℕ) → Items
items_from read place [] = Ok []
items_from read place (word ∷ words) =
    value_or BadField (place + 1) (read word) >>= λ item.
    items_from read (place + 1 + length word) words >>= λ items. Ok (item ∷ items)

-- the items of a text that begins at a place
abbrev pub items_in : AnswerKind → ℕ → List ℕ → Result AnswerBody (At LineRefusal)
items_in kind place text = items_from (item_of kind) place (words_behind text) >>= λ items. Ok (body_of kind items)

-- all that is left
abbrev pub items_reading : AnswerKind → Part → Reading AnswerBody
items_reading kind rest = items_in kind rest.place rest.text >>= λ body. Ok (body, record { text = []; place = rest.place + length rest.text })
