-- The reading of each field against its grammar.
use Rattle.std.proofs.Common.{◌≡◌, ℕ, Bool, true, false, cond, nat_eq, List, [], ◌∷◌, Option, None, Some, Result, Ok, Err, refl, ap, sym, ◌∙◌, arith}
use Rattle.std.specs.Cmp.Lexicographic.{pointwise, same_text}
use Rattle.dns_names.specs.TextGrammar.{SpellsText}
use Rattle.dns_names.specs.TextReading.{read_text}
use Rattle.dns_names.proofs.TextNames.{read_says}
use Rattle.dns_names.proofs.TextSpelled.{spelled_reads}
use Rattle.origin_values.specs.HostReading.{read_addr}
use Rattle.origin_values.specs.OriginReading.{read_origin}
use Rattle.origin_values.specs.OriginGrammar.{SpellsOrigin}
use Rattle.origin_values.specs.declared.origin.Origin.{Origin}
use Rattle.origin_values.specs.declared.proto.Proto.{Proto}
use Rattle.origin_values.specs.declared.proto.Proto.TheVariants.{H2, H3, Http11, Other}
use Rattle.origin_values.proofs.Addresses.{read_addr_complete, read_addr_sound}
use Rattle.origin_values.proofs.Origins.{origin_sound, origin_complete}
use Rattle.coalescing.specs.NamesReading.{read_names}
use Rattle.coalescing.specs.NamesGrammar.{SpellsNames}
use Rattle.coalescing.specs.declared.cert_name.CertName.{CertName}
use Rattle.coalescing.proofs.NamesLemmas.{names_read, names_spelled}
use Rattle.hex.specs.Hex.{decode_of}
use Rattle.hex.proofs.HexLemmas.{decode_of-ok}
use Rattle.hex_text.proofs.HexReading.{hex_read, hex_spelled}
use Rattle.event_lines.specs.EventTexts.{proto_text, answer_kind_text}
use Rattle.event_lines.specs.Fields.{number_of, port_of, proto_of, value_of, origin_of, names_of, octets_of, dns_name_of, answer_kind_of}
use Rattle.event_lines.specs.LineGrammar.{SpellsProto, SpellsOctets, SpellsAnswerKind}
use Rattle.event_lines.specs.LineRefusals.{Form, OfNumber, OfPort, OfProto, OfAddr, OfOrigin, OfNames, OfOctets, OfName, OfAnswerKind, HasForm}
use Rattle.event_lines.specs.declared.answer_kind.AnswerKind.{AnswerKind}
use Rattle.event_lines.specs.declared.answer_kind.AnswerKind.TheVariants.{Ipv4, Ipv6, Https}
use Rattle.event_lines.proofs.NumberTexts.{number_sound, number_complete, port_sound, port_complete}

pub proto_sound : (text : List ℕ) (proto : Proto) → proto_of text ≡ Some proto → text ≡ proto_text proto
proto_sound text proto h = go (pointwise nat_eq text (proto_text H2)) (pointwise nat_eq text (proto_text H3)) (pointwise nat_eq text (proto_text Http11)) (pointwise nat_eq text (proto_text Other)) refl refl refl refl h
  where
    is_it : (own : Proto) → pointwise nat_eq text (proto_text own) ≡ true → Some own ≡ Some proto → text ≡ proto_text proto
    is_it own test e = let same : own ≡ proto = cc in same_text text (proto_text own) (sym test) ∙ ap proto_text same

    go : (a b c d : Bool) → pointwise nat_eq text (proto_text H2) ≡ a → pointwise nat_eq text (proto_text H3) ≡ b → pointwise nat_eq text (proto_text Http11) ≡ c → pointwise nat_eq text (proto_text Other) ≡ d
        → cond a (Some H2) (cond b (Some H3) (cond c (Some Http11) (cond d (Some Other) None))) ≡ Some proto → text ≡ proto_text proto
    go true b c d p q r s e = is_it H2 p e
    go false true c d p q r s e = is_it H3 q e
    go false false true d p q r s e = is_it Http11 r e
    go false false false true p q r s e = is_it Other s e
    go false false false false p q r s e = cc

proto_itself : (proto : Proto) → proto_of (proto_text proto) ≡ Some proto
proto_itself H2 = refl
proto_itself H3 = refl
proto_itself Http11 = refl
proto_itself Other = refl

pub proto_complete : (text : List ℕ) (proto : Proto) → SpellsProto text proto → proto_of text ≡ Some proto
proto_complete text proto h = ap proto_of h ∙ proto_itself proto

value_is : {A E : Type 0} (r : Result A E) (value : A) → value_of r ≡ Some value → r ≡ Ok value
value_is (Ok other) value h = let same : other ≡ value = cc in ap (λ v. Ok v) same
value_is (Err why) value h = cc

pub origin_field_sound : (text : List ℕ) (origin : Origin) → origin_of text ≡ Some origin → SpellsOrigin text origin
origin_field_sound text origin h = origin_sound text origin (value_is (read_origin text) origin h)

pub origin_field_complete : (text : List ℕ) (origin : Origin) → SpellsOrigin text origin → origin_of text ≡ Some origin
origin_field_complete text origin h = ap value_of (origin_complete text origin h)

pub names_field_sound : (text : List ℕ) (names : List CertName) → names_of text ≡ Some names → SpellsNames text names
names_field_sound text names h = names_spelled text names (value_is (read_names text) names h)

pub names_field_complete : (text : List ℕ) (names : List CertName) → SpellsNames text names → names_of text ≡ Some names
names_field_complete text names h = ap value_of (names_read text names h)

pub dns_name_sound : (text : List ℕ) (name : List (List ℕ)) → dns_name_of text ≡ Some name → SpellsText text name
dns_name_sound text name h = read_says text name (value_is (read_text text) name h)

pub dns_name_complete : (text : List ℕ) (name : List (List ℕ)) → SpellsText text name → dns_name_of text ≡ Some name
dns_name_complete text name h = ap value_of (spelled_reads text name h)

pub answer_kind_sound : (text : List ℕ) (kind : AnswerKind) → answer_kind_of text ≡ Some kind → text ≡ answer_kind_text kind
answer_kind_sound text kind h = go (pointwise nat_eq text (answer_kind_text Ipv4)) (pointwise nat_eq text (answer_kind_text Ipv6)) (pointwise nat_eq text (answer_kind_text Https)) refl refl refl h
  where
    is_it : (own : AnswerKind) → pointwise nat_eq text (answer_kind_text own) ≡ true → Some own ≡ Some kind → text ≡ answer_kind_text kind
    is_it own test e = let same : own ≡ kind = cc in same_text text (answer_kind_text own) (sym test) ∙ ap answer_kind_text same

    go : (a b c : Bool) → pointwise nat_eq text (answer_kind_text Ipv4) ≡ a → pointwise nat_eq text (answer_kind_text Ipv6) ≡ b → pointwise nat_eq text (answer_kind_text Https) ≡ c
        → cond a (Some Ipv4) (cond b (Some Ipv6) (cond c (Some Https) None)) ≡ Some kind → text ≡ answer_kind_text kind
    go true b c p q r e = is_it Ipv4 p e
    go false true c p q r e = is_it Ipv6 q e
    go false false true p q r e = is_it Https r e
    go false false false p q r e = cc

pub kind_itself : (kind : AnswerKind) → answer_kind_of (answer_kind_text kind) ≡ Some kind
kind_itself Ipv4 = refl
kind_itself Ipv6 = refl
kind_itself Https = refl

answer_kind_complete : (text : List ℕ) (kind : AnswerKind) → SpellsAnswerKind text kind → answer_kind_of text ≡ Some kind
answer_kind_complete text kind h = ap answer_kind_of h ∙ kind_itself kind

pub octets_sound : (text octets : List ℕ) → octets_of text ≡ Some octets → SpellsOctets text octets
octets_sound [] octets h = cc
octets_sound (b ∷ bs) octets h =
    let read = value_is (decode_of (b ∷ bs)) octets h in
    let ok = decode_of-ok (b ∷ bs) octets read in
    record { some = omega (arith, ok.2); hex = hex_spelled (b ∷ bs) octets read }

pub octets_complete : (text octets : List ℕ) → SpellsOctets text octets → octets_of text ≡ Some octets
octets_complete [] [] s = absurd (omega (arith, s.some))
octets_complete [] (octet ∷ octets) s = absurd s.hex
octets_complete (b ∷ bs) octets s = ap value_of (hex_read (b ∷ bs) octets s.hex)

-- a value was found
abbrev pub is_some : {A : Type 0} → Option A → Bool
is_some None = false
is_some (Some value) = true

-- whether a word is of a form
abbrev pub has_form : Form → List ℕ → Bool
has_form (OfNumber most) word = is_some (number_of most word)
has_form OfPort word = is_some (port_of word)
has_form OfProto word = is_some (proto_of word)
has_form OfAddr word = is_some (read_addr word)
has_form OfOrigin word = is_some (origin_of word)
has_form OfNames word = is_some (names_of word)
has_form OfOctets word = is_some (octets_of word)
has_form OfName word = is_some (dns_name_of word)
has_form OfAnswerKind word = is_some (answer_kind_of word)

found : {A : Type 0} (o : Option A) → is_some o ≡ true → (value : A) × (o ≡ Some value)
found None h = cc
found (Some value) h = (value, refl)

pub form_sound : (form : Form) (word : List ℕ) → has_form form word ≡ true → HasForm form word
form_sound (OfNumber most) word h = let v = found (number_of most word) h in (v.0, number_sound most word v.0 v.1)
form_sound OfPort word h = let v = found (port_of word) h in (v.0, port_sound word v.0 v.1)
form_sound OfProto word h = let v = found (proto_of word) h in (v.0, proto_sound word v.0 v.1)
form_sound OfAddr word h = let v = found (read_addr word) h in (v.0, read_addr_sound word v.0 v.1)
form_sound OfOrigin word h = let v = found (origin_of word) h in (v.0, origin_field_sound word v.0 v.1)
form_sound OfNames word h = let v = found (names_of word) h in (v.0, names_field_sound word v.0 v.1)
form_sound OfOctets word h = let v = found (octets_of word) h in (v.0, octets_sound word v.0 v.1)
form_sound OfName word h = let v = found (dns_name_of word) h in (v.0, dns_name_sound word v.0 v.1)
form_sound OfAnswerKind word h = let v = found (answer_kind_of word) h in (v.0, answer_kind_sound word v.0 v.1)

pub form_complete : (form : Form) (word : List ℕ) → HasForm form word → has_form form word ≡ true
form_complete (OfNumber most) word h = ap is_some (number_complete most word h.0 h.1)
form_complete OfPort word h = ap is_some (port_complete word h.0 h.1)
form_complete OfProto word h = ap is_some (proto_complete word h.0 h.1)
form_complete OfAddr word h = ap is_some (read_addr_complete word h.0 h.1)
form_complete OfOrigin word h = ap is_some (origin_field_complete word h.0 h.1)
form_complete OfNames word h = ap is_some (names_field_complete word h.0 h.1)
form_complete OfOctets word h = ap is_some (octets_complete word h.0 h.1)
form_complete OfName word h = ap is_some (dns_name_complete word h.0 h.1)
form_complete OfAnswerKind word h = ap is_some (answer_kind_complete word h.0 h.1)

pub form_missed : (form : Form) (word : List ℕ) → has_form form word ≡ false → ¬ (HasForm form word)
form_missed form word h k = clash (sym h ∙ form_complete form word k)
  where
    clash : false ≡ true → ⊥
    clash e = cc

pub form_none : (form : Form) (word : List ℕ) → ¬ (HasForm form word) → has_form form word ≡ false
form_none form word h = go (has_form form word) refl
  where
    go : (t : Bool) → has_form form word ≡ t → t ≡ false
    go true is = absurd (h (form_sound form word is))
    go false is = refl
