-- The items of an answer against their grammar.
use Rattle.std.proofs.Common.{◌≡◌, ℕ, ◌+◌, List, [], ◌∷◌, ◌++◌, length, length-append, Option, Some, None, Ok, Err, refl, ap, sym, ◌∙◌, subst, arith}
use Rattle.alt_base.specs.declared.refusal.At.{At}
use Rattle.origin_values.specs.HostGrammar.{SpellsV4, SpellsV6}
use Rattle.origin_values.specs.HostReading.{read_addr}
use Rattle.origin_values.specs.declared.address.Addr.{Addr}
use Rattle.origin_values.specs.declared.address.Addr.TheVariants as address
use Rattle.origin_values.proofs.Addresses.{read_addr_complete, read_addr_sound}
use Rattle.event_lines.specs.AnswerReading.{v4_among, v6_among, item_of, Items, items_from}
use Rattle.event_lines.specs.Parts.{◌>>=◌, value_or, refused}
use Rattle.event_lines.specs.LineGrammar.{SpellsItem, SpellItems}
use Rattle.event_lines.specs.WordGrammar.{spaced}
use Rattle.event_lines.specs.declared.answer_kind.AnswerKind.{AnswerKind}
use Rattle.event_lines.specs.declared.answer_kind.AnswerKind.TheVariants.{Ipv4, Ipv6, Https}
use Rattle.event_lines.specs.declared.refusal.LineRefusal.{LineRefusal}
use Rattle.event_lines.specs.declared.refusal.LineRefusal.TheVariants.{BadField}
use Rattle.event_lines.proofs.FieldTexts.{octets_sound, octets_complete}

v4_sound : (text octets : List ℕ) → v4_among (read_addr text) ≡ Some octets → SpellsV4 text octets
v4_sound text octets h = go (read_addr text) refl h
  where
    go : (o : Option Addr) → read_addr text ≡ o → v4_among o ≡ Some octets → SpellsV4 text octets
    go None is e = cc
    go (Some (address.V4 own)) is e = let same : own ≡ octets = cc in subst (SpellsV4 text) same (read_addr_sound text (address.V4 own) is)
    go (Some (address.V6 own)) is e = cc

v6_sound : (text octets : List ℕ) → v6_among (read_addr text) ≡ Some octets → SpellsV6 text octets
v6_sound text octets h = go (read_addr text) refl h
  where
    go : (o : Option Addr) → read_addr text ≡ o → v6_among o ≡ Some octets → SpellsV6 text octets
    go None is e = cc
    go (Some (address.V4 own)) is e = cc
    go (Some (address.V6 own)) is e = let same : own ≡ octets = cc in subst (SpellsV6 text) same (read_addr_sound text (address.V6 own) is)

item_sound : (kind : AnswerKind) (text item : List ℕ) → item_of kind text ≡ Some item → SpellsItem kind text item
item_sound Ipv4 text item h = v4_sound text item h
item_sound Ipv6 text item h = v6_sound text item h
item_sound Https text item h = octets_sound text item h

item_complete : (kind : AnswerKind) (text item : List ℕ) → SpellsItem kind text item → item_of kind text ≡ Some item
item_complete Ipv4 text item s = ap v4_among (read_addr_complete text (address.V4 item) s)
item_complete Ipv6 text item s = ap v6_among (read_addr_complete text (address.V6 item) s)
item_complete Https text item s = octets_complete text item s

abbrev got_items : List (List ℕ) → Items
got_items items = Ok items

abbrev bad_items : ℕ → Items
bad_items place = refused place BadField

abbrev one_then : ℕ → Option (List ℕ) → Items → Items
one_then place o rest = value_or BadField (place + 1) o >>= λ (item : List ℕ). rest >>= λ (items : List (List ℕ)). got_items (item ∷ items)

items_same : (a b : List (List ℕ)) → got_items a ≡ got_items b → a ≡ b
items_same a b e = cc

err_same : (a b : At LineRefusal) → ◌≡◌ {A = Items} (Err a) (Err b) → a ≡ b
err_same a b e = cc

-- what is read is spelled
pub items_sound : (kind : AnswerKind) (place : ℕ) (texts items : List (List ℕ)) → items_from (item_of kind) place texts ≡ got_items items → SpellItems kind texts items
items_sound kind place [] items h = subst (SpellItems kind []) (items_same [] items h) tt
items_sound kind place (text ∷ texts) items h =
    go (item_of kind text) refl (items_from (item_of kind) (place + 1 + length text) texts) (λ more e. items_sound kind (place + 1 + length text) texts more e) h
  where
    go : (o : Option (List ℕ)) → item_of kind text ≡ o → (r : Items) → ((more : List (List ℕ)) → r ≡ got_items more → SpellItems kind texts more) → one_then place o r ≡ got_items items → SpellItems kind (text ∷ texts) items
    go None read r later e = cc
    go (Some item) read (Err at) later e = cc
    go (Some item) read (Ok more) later e = subst (SpellItems kind (text ∷ texts)) (items_same (item ∷ more) items e) (item_sound kind text item read, later more refl)

-- what is spelled is read
pub items_complete : (kind : AnswerKind) (place : ℕ) (texts items : List (List ℕ)) → SpellItems kind texts items → items_from (item_of kind) place texts ≡ got_items items
items_complete kind place [] [] h = refl
items_complete kind place [] (item ∷ items) h = absurd h
items_complete kind place (text ∷ texts) [] h = absurd h
items_complete kind place (text ∷ texts) (item ∷ items) h =
    ap (λ o. one_then place o (items_from (item_of kind) (place + 1 + length text) texts)) (item_complete kind text item h.0)
    ∙ ap (λ (r : Items). one_then place (Some item) r) (items_complete kind (place + 1 + length text) texts items h.1)

-- a word that is no item, behind items
pub record BadAmong (kind : AnswerKind) (place : ℕ) (words : List (List ℕ)) (at : At LineRefusal) : Type 0 where
  pub good : List (List ℕ)
  pub items : List (List ℕ)
  pub word : List ℕ
  pub more : List (List ℕ)
  pub split : words ≡ good ++ word ∷ more
  pub of_good : SpellItems kind good items
  pub bad : (item : List ℕ) → ¬ (SpellsItem kind word item)
  pub there : at.place ≡ place + length (spaced good) + 1
  pub why : at.reason ≡ BadField

missed : (kind : AnswerKind) (word : List ℕ) → item_of kind word ≡ None → (item : List ℕ) → ¬ (SpellsItem kind word item)
missed kind word none item s = other (sym none ∙ item_complete kind word item s)
  where
    other : None ≡ Some item → ⊥
    other e = cc

none_of : (kind : AnswerKind) (word : List ℕ) → ((item : List ℕ) → ¬ (SpellsItem kind word item)) → item_of kind word ≡ None
none_of kind word bad = go (item_of kind word) refl
  where
    go : (o : Option (List ℕ)) → item_of kind word ≡ o → o ≡ None
    go None is = refl
    go (Some item) is = absurd (bad item (item_sound kind word item is))

abbrev bad_here : ℕ → At LineRefusal
bad_here place = record { place = place; reason = BadField }

first_place : (place : ℕ) → place + 1 ≡ place + 0 + 1
first_place place = omega arith

further_place : (place : ℕ) (word : List ℕ) (good : List (List ℕ)) → place + 1 + length word + length (spaced good) + 1 ≡ place + length (spaced (word ∷ good)) + 1
further_place place word good = omega (arith, length-append word (spaced good))

pub items_err : (kind : AnswerKind) (place : ℕ) (words : List (List ℕ)) (at : At LineRefusal) → items_from (item_of kind) place words ≡ Err at → BadAmong kind place words at
items_err kind place [] at h = cc
items_err kind place (word ∷ words) at h =
    go (item_of kind word) refl (items_from (item_of kind) (place + 1 + length word) words) (λ e. items_err kind (place + 1 + length word) words at e) h
  where
    go : (o : Option (List ℕ)) → item_of kind word ≡ o → (r : Items) → (r ≡ Err at → BadAmong kind (place + 1 + length word) words at) → one_then place o r ≡ Err at → BadAmong kind place (word ∷ words) at
    go None read r later e =
        let same = err_same (bad_here (place + 1)) at e in
        record {
          good = [];
          items = [];
          word = word;
          more = words;
          split = refl;
          of_good = tt;
          bad = missed kind word read;
          there = ap (λ (a : At LineRefusal). a.place) (sym same) ∙ first_place place;
          why = ap (λ (a : At LineRefusal). a.reason) (sym same);
        }
    go (Some item) read (Ok more) later e = cc
    go (Some item) read (Err why) later e =
        let b = later e in
        record {
          good = word ∷ b.good;
          items = item ∷ b.items;
          word = b.word;
          more = b.more;
          split = ap (λ x. word ∷ x) b.split;
          of_good = (item_sound kind word item read, b.of_good);
          bad = b.bad;
          there = b.there ∙ further_place place word b.good;
          why = b.why;
        }

-- such a word is refused
pub items_bad : (kind : AnswerKind) (place : ℕ) (good items : List (List ℕ)) (word : List ℕ) (more : List (List ℕ)) → SpellItems kind good items → ((item : List ℕ) → ¬ (SpellsItem kind word item))
    → items_from (item_of kind) place (good ++ word ∷ more) ≡ bad_items (place + length (spaced good) + 1)
items_bad kind place [] [] word more h bad =
    ap (λ o. one_then place o (items_from (item_of kind) (place + 1 + length word) more)) (none_of kind word bad) ∙ ap bad_items (first_place place)
items_bad kind place [] (item ∷ items) word more h bad = absurd h
items_bad kind place (text ∷ good) [] word more h bad = absurd h
items_bad kind place (text ∷ good) (item ∷ items) word more h bad =
    ap (λ o. one_then place o (items_from (item_of kind) (place + 1 + length text) (good ++ word ∷ more))) (item_complete kind text item h.0)
    ∙ ap (λ (r : Items). one_then place (Some item) r) (items_bad kind (place + 1 + length text) good items word more h.1 bad)
    ∙ ap bad_items (further_place place text good)
