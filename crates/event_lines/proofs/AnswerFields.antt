-- The fields of an answer against the grammar.
use Rattle.std.proofs.Common.{◌≡◌, ℕ, ◌+◌, List, [], ◌∷◌, ◌++◌, length, codes, Some, Result, Ok, Err, refl, ap, ◌∙◌, subst}
use Rattle.alt_base.specs.declared.refusal.At.{At}
use Rattle.dns_names.specs.TextGrammar.{SpellsText}
use Rattle.route_events.specs.declared.answer.AnswerBody.{AnswerBody}
use Rattle.route_events.specs.declared.fact.Fact.TheVariants.{Answer}
use Rattle.event_lines.specs.AnswerReading.{item_of, body_of, words_behind, Items, items_from, items_reading}
use Rattle.event_lines.specs.EventTexts.{answer_kind_text}
use Rattle.event_lines.specs.Fields.{number_of, dns_name_of, answer_kind_of}
use Rattle.event_lines.specs.Limits.{most_ttl}
use Rattle.event_lines.specs.Parts.{Part, Reading, ◌>>=◌, field}
use Rattle.event_lines.specs.LineReading.{answer_fields}
use Rattle.event_lines.specs.LineGrammar.{SpellItems, SpellsAnswer, SpellsKind}
use Rattle.event_lines.specs.WordGrammar.{SpellsNumber, NoSpace, AreApart, spaced}
use Rattle.event_lines.specs.LineRefusals.{EndsWord, IsNext}
use Rattle.event_lines.specs.declared.answer_kind.AnswerKind.{AnswerKind}
use Rattle.event_lines.specs.declared.answer_kind.AnswerKind.TheVariants.{Ipv4, Ipv6, Https}
use Rattle.event_lines.specs.declared.event.Event.{Event}
use Rattle.event_lines.specs.declared.event.Event.TheVariants.{Client}
use Rattle.event_lines.specs.declared.refusal.LineRefusal.{LineRefusal}
use Rattle.event_lines.proofs.AnswerItems.{items_sound, items_complete}
use Rattle.event_lines.proofs.AnswerWords.{words_all, spaced_of, apart_behind}
use Rattle.event_lines.proofs.FieldReads.{part, got, field_reads, field_found, joined, behind_kind}
use Rattle.event_lines.proofs.FieldTexts.{dns_name_sound, answer_kind_sound, kind_itself}
use Rattle.event_lines.proofs.NumberTexts.{number_sound}
use Rattle.event_lines.proofs.Refusals.{got_parts}
use Rattle.event_lines.proofs.Spaces.{IsInner, no_space_from}

abbrev Name : Type 0
Name = List (List ℕ)

abbrev answer_body : Name → ℕ → AnswerBody × Part → Reading Event
answer_body name ttl b = got (Client (Answer name ttl b.0)) b.1

abbrev answer_ttl : Name → AnswerKind → ℕ × Part → Reading Event
answer_ttl name kind t = items_reading kind t.1 >>= answer_body name t.0

abbrev answer_kind : Name → AnswerKind × Part → Reading Event
answer_kind name k = field (number_of most_ttl) k.1 >>= answer_ttl name k.0

abbrev answer_name : Name × Part → Reading Event
answer_name n = field answer_kind_of n.1 >>= answer_kind n.0

-- the event of items
abbrev made : Name → ℕ → ℕ → AnswerKind → Items → Reading Event
made name ttl end kind r =
    ((r >>= λ (items : List (List ℕ)). let x : Result AnswerBody (At LineRefusal) = Ok (body_of kind items) in x) >>= λ (body : AnswerBody). let x : Reading AnswerBody = Ok (body, part [] end) in x) >>= answer_body name ttl

-- no space stands in the name of a kind
kind_inner : (kind : AnswerKind) → IsInner (answer_kind_text kind)
kind_inner Ipv4 = refl
kind_inner Ipv6 = refl
kind_inner Https = refl

pub kind_apart : (kind : AnswerKind) → NoSpace (answer_kind_text kind)
kind_apart kind = no_space_from (answer_kind_text kind) (kind_inner kind)

-- what is spelled is read
items_read : (name : Name) (ttl : ℕ) (kind : AnswerKind) (texts items : List (List ℕ)) (place : ℕ) → AreApart texts → SpellItems kind texts items
    → (items_reading kind (part (spaced texts) place) >>= answer_body name ttl) ≡ got (Client (Answer name ttl (body_of kind items))) (part [] (place + length (spaced texts)))
items_read name ttl kind texts items place apart spelled =
    ap (λ ws. made name ttl (place + length (spaced texts)) kind (items_from (item_of kind) place ws)) (words_all texts apart)
    ∙ ap (made name ttl (place + length (spaced texts)) kind) (items_complete kind place texts items spelled)

pub answer_complete : (n t : List ℕ) (texts items : List (List ℕ)) (kind : AnswerKind) (name : Name) (ttl place : ℕ) → AreApart (n ∷ t ∷ texts) → dns_name_of n ≡ Some name → number_of most_ttl t ≡ Some ttl → SpellItems kind texts items
    → (end : ℕ) × (answer_fields (part (spaced (n ∷ answer_kind_text kind ∷ t ∷ texts)) place) ≡ got (Client (Answer name ttl (body_of kind items))) (part [] end))
answer_complete n t texts items kind name ttl place apart is_name is_ttl spelled =
    let behind = place + 1 + length n + 1 + length (answer_kind_text kind) in (
      behind + 1 + length t + length (spaced texts),
      field_reads dns_name_of answer_name n (answer_kind_text kind ∷ t ∷ texts) place name apart.0 is_name
          ∙ field_reads answer_kind_of (answer_kind name) (answer_kind_text kind) (t ∷ texts) (place + 1 + length n) kind (kind_apart kind) (kind_itself kind)
          ∙ field_reads (number_of most_ttl) (answer_ttl name kind) t texts behind ttl apart.1.0 is_ttl
          ∙ items_read name ttl kind texts items (behind + 1 + length t) apart.1.1 spelled,
    )

-- what is read is spelled
record ItemsFound (name : Name) (ttl : ℕ) (kind : AnswerKind) (text : List ℕ) (event : Event) : Type 0 where
  texts : List (List ℕ)
  items : List (List ℕ)
  spelled : text ≡ spaced texts
  apart : AreApart texts
  of_items : SpellItems kind texts items
  same : Client (Answer name ttl (body_of kind items)) ≡ event

items_found : (name : Name) (ttl : ℕ) (kind : AnswerKind) (text : List ℕ) (place : ℕ) (event : Event) (left : Part) → EndsWord text → (items_reading kind (part text place) >>= answer_body name ttl) ≡ got event left
    → ItemsFound name ttl kind text event
items_found name ttl kind text place event left ends h = go (items_from (item_of kind) place (words_behind text)) refl h
  where
    go : (r : Items) → items_from (item_of kind) place (words_behind text) ≡ r → made name ttl (place + length text) kind r ≡ got event left → ItemsFound name ttl kind text event
    go (Err why) is e = cc
    go (Ok items) is e = record {
      texts = words_behind text;
      items = items;
      spelled = spaced_of text ends;
      apart = apart_behind text;
      of_items = items_sound kind place (words_behind text) items is;
      same = (got_parts (Client (Answer name ttl (body_of kind items))) event (part [] (place + length text)) left e).0;
    }

answer_made : (kind : AnswerKind) (whole n t : List ℕ) (texts items : List (List ℕ)) (name : Name) (ttl : ℕ) → whole ≡ spaced (codes "answer" ∷ n ∷ answer_kind_text kind ∷ t ∷ texts) → AreApart (n ∷ t ∷ texts) → SpellsText n name
    → SpellsNumber most_ttl t ttl → SpellItems kind texts items → SpellsAnswer whole name ttl (body_of kind items)
answer_made Ipv4 whole n t texts items name ttl spelled apart of_name of_ttl of_items = record { name_text = n; ttl_text = t; item_texts = texts; spelled = spelled; apart = apart; of_name = of_name; of_ttl = of_ttl; of_items = of_items }
answer_made Ipv6 whole n t texts items name ttl spelled apart of_name of_ttl of_items = record { name_text = n; ttl_text = t; item_texts = texts; spelled = spelled; apart = apart; of_name = of_name; of_ttl = of_ttl; of_items = of_items }
answer_made Https whole n t texts items name ttl spelled apart of_name of_ttl of_items = record { name_text = n; ttl_text = t; item_texts = texts; spelled = spelled; apart = apart; of_name = of_name; of_ttl = of_ttl; of_items = of_items }

kind_named : (whole n k t : List ℕ) (texts : List (List ℕ)) (kind : AnswerKind) → whole ≡ spaced (codes "answer" ∷ n ∷ k ∷ t ∷ texts) → k ≡ answer_kind_text kind → whole ≡ spaced (codes "answer" ∷ n ∷ answer_kind_text kind ∷ t ∷ texts)
kind_named whole n k t texts kind spelled is = spelled ∙ ap (λ w. spaced (codes "answer" ∷ n ∷ w ∷ t ∷ texts)) is

words_joined : (text whole n behind k left t rest : List ℕ) (texts : List (List ℕ)) → whole ≡ 32 ∷ (codes "answer" ++ text) → IsNext text n behind → IsNext behind k left → IsNext left t rest → rest ≡ spaced texts
    → whole ≡ spaced (codes "answer" ∷ n ∷ k ∷ t ∷ texts)
words_joined text whole n behind k left t rest texts is next_n next_k next_t more =
    behind_kind (codes "answer") text whole (n ∷ k ∷ t ∷ texts) is (joined text n behind (k ∷ t ∷ texts) next_n (joined behind k left (t ∷ texts) next_k (joined left t rest texts next_t more)))

event_made : (kind : AnswerKind) (whole n k t : List ℕ) (texts items : List (List ℕ)) (name : Name) (ttl : ℕ) (event : Event) → Client (Answer name ttl (body_of kind items)) ≡ event → whole ≡ spaced (codes "answer" ∷ n ∷ k ∷ t ∷ texts) → k ≡ answer_kind_text kind
    → AreApart (n ∷ t ∷ texts) → SpellsText n name → SpellsNumber most_ttl t ttl → SpellItems kind texts items → SpellsKind whole event
event_made kind whole n k t texts items name ttl event same spelled named apart of_name of_ttl of_items =
    subst (SpellsKind whole) same (answer_made kind whole n t texts items name ttl (kind_named whole n k t texts kind spelled named) apart of_name of_ttl of_items)

pub answer_sound : (text whole : List ℕ) (place : ℕ) (event : Event) (left : Part) → whole ≡ 32 ∷ (codes "answer" ++ text) → EndsWord text → answer_fields (part text place) ≡ got event left → left.text ≡ [] → SpellsKind whole event
answer_sound text whole place event left is ends h none =
    let n = field_found dns_name_of answer_name text place (event, left) ends h in
    let k = field_found answer_kind_of (answer_kind n.value) n.behind (place + 1 + length n.word) (event, left) n.is_next.end n.then_is in
    let t = field_found (number_of most_ttl) (answer_ttl n.value k.value) k.behind (place + 1 + length n.word + 1 + length k.word) (event, left) k.is_next.end k.then_is in
    let b = items_found n.value t.value k.value t.behind (place + 1 + length n.word + 1 + length k.word + 1 + length t.word) event left t.is_next.end t.then_is in
    event_made k.value whole n.word k.word t.word b.texts b.items n.value t.value event b.same
    (words_joined text whole n.word n.behind k.word k.behind t.word t.behind b.texts is n.is_next k.is_next t.is_next b.spelled) (answer_kind_sound k.word k.value k.is_read) (n.is_next.apart, (t.is_next.apart, b.apart))
    (dns_name_sound n.word n.value n.is_read) (number_sound most_ttl t.word t.value t.is_read) b.of_items
