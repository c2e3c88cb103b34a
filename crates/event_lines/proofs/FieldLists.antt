-- The reading of the fields of a response against their grammar.
use Rattle.std.proofs.Common.{◌≡◌, ◌⊎◌, ℕ, ◌+◌, ◌≤◌, Bool, true, false, cond, not, nat_lt, List, [], ◌∷◌, ◌++◌, length, length-append, Option, Some, None, Result, Ok, Err, append_assoc, refl, ap, sym, ◌∙◌, subst, arith, inl, inr}
use Rattle.alt_base.proofs.Numbers.{false_lt, lt_false, lt_true, true_eq, true_lt}
use Rattle.alt_base.specs.declared.refusal.At.{At}
use Rattle.field_text.specs.Runs.{AllIn, BeginsIn, after_run}
use Rattle.field_text.proofs.RunLemmas.{run_of-append, after_run-append}
use Rattle.event_lines.specs.Parts.{◌>>=◌, value_or, refused}
use Rattle.event_lines.specs.ResponseGrammar.{Field, is_tab, is_field_byte, SpellsField, SpellFields, tabbed, most_fields}
use Rattle.event_lines.specs.ResponseReading.{onto_first, field_texts, field_of, fields_from}
use Rattle.event_lines.specs.declared.refusal.LineRefusal.{LineRefusal}
use Rattle.event_lines.specs.declared.refusal.LineRefusal.TheVariants.{BadField}
use Rattle.event_lines.proofs.FieldSteps.{behind_texts, texts_split}
use Rattle.event_lines.proofs.FieldSpellings.{field_sound, field_complete, field_apart}

clash : false ≡ true → ⊥
clash e = cc

-- texts without tabs
abbrev pub TabFree : List (List ℕ) → Type 0
TabFree [] = Unit {0}
TabFree (text ∷ texts) = AllIn is_field_byte text × TabFree texts

pub texts_free : (x : List ℕ) → TabFree (field_texts x)
texts_free [] = (tt, tt)
texts_free (b ∷ bs) = go (is_tab b) refl (field_texts bs) (texts_free bs)
  where
    go : (t : Bool) → is_tab b ≡ t → (texts : List (List ℕ)) → TabFree texts → TabFree (cond t ([] ∷ texts) (onto_first b texts))
    go true is texts h = (tt, h)
    go false is [] h = ((ap not is, tt), tt)
    go false is (text ∷ texts) h = ((ap not is, h.0), h.1)

pub free_behind : (good : List (List ℕ)) (bad : List ℕ) (more : List (List ℕ)) → TabFree (good ++ bad ∷ more) → AllIn is_field_byte bad
free_behind [] bad more h = h.0
free_behind (text ∷ good) bad more h = free_behind good bad more h.1

pub spelled_free : (texts : List (List ℕ)) (fields : List Field) → SpellFields texts fields → TabFree texts
spelled_free [] [] h = tt
spelled_free [] (field ∷ fields) h = absurd h
spelled_free (text ∷ texts) [] h = absurd h
spelled_free (text ∷ texts) (field ∷ fields) h = (field_apart text field h.0, spelled_free texts fields h.1)

-- a text is its parts, each behind a tab
pub texts_joined : (x : List ℕ) → 9 ∷ x ≡ tabbed (field_texts x)
texts_joined [] = refl
texts_joined (b ∷ bs) = go (is_tab b) refl (field_texts bs) (texts_joined bs)
  where
    go : (t : Bool) → is_tab b ≡ t → (texts : List (List ℕ)) → 9 ∷ bs ≡ tabbed texts → 9 ∷ b ∷ bs ≡ tabbed (cond t ([] ∷ texts) (onto_first b texts))
    go true is texts h = ap (λ c. 9 ∷ c ∷ bs) (true_eq b 9 is) ∙ ap (λ x. 9 ∷ x) h
    go false is [] h = cc
    go false is (text ∷ texts) h = let rest : bs ≡ text ++ tabbed texts = cc in ap (λ x. 9 ∷ b ∷ x) rest

pub tabbed_ends : (texts : List (List ℕ)) → BeginsIn is_field_byte (tabbed texts) → ⊥
tabbed_ends [] h = h
tabbed_ends (text ∷ texts) h = clash h

texts_front : (text behind : List ℕ) → AllIn is_field_byte text → (BeginsIn is_field_byte behind → ⊥) → field_texts (text ++ behind) ≡ text ∷ behind_texts behind
texts_front text behind valid ends =
    texts_split (text ++ behind)
    ∙ ap (λ x. x ∷ behind_texts (after_run is_field_byte (text ++ behind))) (run_of-append is_field_byte text behind valid ends)
    ∙ ap (λ x. text ∷ behind_texts x) (after_run-append is_field_byte text behind valid ends)

tabbed_then_ends : (texts : List (List ℕ)) (rest : List ℕ) → (BeginsIn is_field_byte rest → ⊥) → BeginsIn is_field_byte (tabbed texts ++ rest) → ⊥
tabbed_then_ends [] rest ends h = ends h
tabbed_then_ends (text ∷ texts) rest ends h = clash h

-- the parts of texts behind tabs, and of what follows
pub texts_behind : (texts : List (List ℕ)) (rest : List ℕ) → TabFree texts → (BeginsIn is_field_byte rest → ⊥) → behind_texts (tabbed texts ++ rest) ≡ texts ++ behind_texts rest
texts_behind [] rest free ends = refl
texts_behind (text ∷ texts) rest free ends =
    ap field_texts (append_assoc text (tabbed texts) rest)
    ∙ texts_front text (tabbed texts ++ rest) free.0 (tabbed_then_ends texts rest ends)
    ∙ ap (λ x. text ∷ x) (texts_behind texts rest free.1 ends)

pub bad_behind : (bad behind : List ℕ) → AllIn is_field_byte bad → (BeginsIn is_field_byte behind → ⊥) → behind_texts (9 ∷ (bad ++ behind)) ≡ bad ∷ behind_texts behind
bad_behind bad behind valid ends = texts_front bad behind valid ends

abbrev Fields : Type 0
Fields = Result (List Field) (At LineRefusal)

abbrev pub got_fields : List Field → Fields
got_fields fields = Ok fields

abbrev bad_fields : ℕ → Fields
bad_fields place = refused place BadField

abbrev one_then : ℕ → Option Field → Fields → Fields
one_then place o rest = value_or BadField place o >>= λ (field : Field). rest >>= λ (fields : List Field). got_fields (field ∷ fields)

abbrev within_most : ℕ → List ℕ → Option Field
within_most count text = cond (nat_lt count most_fields) (field_of text) None

fields_same : (a b : List Field) → got_fields a ≡ got_fields b → a ≡ b
fields_same a b e = cc

err_same : (a b : At LineRefusal) → ◌≡◌ {A = Fields} (Err a) (Err b) → a ≡ b
err_same a b e = cc

-- what is read is spelled
pub fields_sound : (count place : ℕ) (texts : List (List ℕ)) (fields : List Field) → count ≤ most_fields → fields_from count place texts ≡ got_fields fields → SpellFields texts fields × (count + length texts ≤ most_fields)
fields_sound count place [] fields few h = (subst (SpellFields []) (fields_same [] fields h) tt, omega arith)
fields_sound count place (text ∷ texts) fields few h =
    go (nat_lt count most_fields) refl (field_of text) refl (fields_from (count + 1) (place + length text + 1) texts) (λ l fs e. fields_sound (count + 1) (place + length text + 1) texts fs l e) h
  where
    go : (t : Bool) → nat_lt count most_fields ≡ t → (o : Option Field) → field_of text ≡ o → (r : Fields) → (count + 1 ≤ most_fields → (fs : List Field) → r ≡ got_fields fs → SpellFields texts fs × (count + 1 + length texts ≤ most_fields))
        → one_then place (cond t o None) r ≡ got_fields fields → SpellFields (text ∷ texts) fields × (count + length (text ∷ texts) ≤ most_fields)
    go false is o read r later e = cc
    go true is None read r later e = cc
    go true is (Some field) read (Err at) later e = cc
    go true is (Some field) read (Ok fs) later e =
        let below = true_lt count most_fields is in
        let rest = later (omega (arith, below)) fs refl in
        (subst (SpellFields (text ∷ texts)) (fields_same (field ∷ fs) fields e) (field_sound text field read, rest.0), omega (arith, rest.1))

-- what is spelled is read
pub fields_complete : (count place : ℕ) (texts : List (List ℕ)) (fields : List Field) → SpellFields texts fields → count + length texts ≤ most_fields → fields_from count place texts ≡ got_fields fields
fields_complete count place [] [] h few = refl
fields_complete count place [] (field ∷ fields) h few = absurd h
fields_complete count place (text ∷ texts) [] h few = absurd h
fields_complete count place (text ∷ texts) (field ∷ fields) h few =
    ap (λ t. one_then place (cond t (field_of text) None) (fields_from (count + 1) (place + length text + 1) texts)) (lt_true count most_fields (omega arith))
    ∙ ap (λ o. one_then place o (fields_from (count + 1) (place + length text + 1) texts)) (field_complete text field h.0)
    ∙ ap (λ (r : Fields). one_then place (Some field) r) (fields_complete (count + 1) (place + length text + 1) texts fields h.1 (omega arith))

-- a text that is no field, or one too many, behind fields
pub record BadAt (count place : ℕ) (texts : List (List ℕ)) (at : At LineRefusal) : Type 0 where
  pub good : List (List ℕ)
  pub fields : List Field
  pub bad : List ℕ
  pub more : List (List ℕ)
  pub split : texts ≡ good ++ bad ∷ more
  pub of_good : SpellFields good fields
  pub within : count + length good ≤ most_fields
  pub wrong : ((field : Field) → ¬ (SpellsField bad field)) ⊎ (count + length good ≡ most_fields)
  pub there : at.place ≡ place + length (tabbed good)
  pub why : at.reason ≡ BadField

abbrev bad_here : ℕ → At LineRefusal
bad_here place = record { place = place; reason = BadField }

missed : (text : List ℕ) → field_of text ≡ None → (field : Field) → ¬ (SpellsField text field)
missed text none field s = other (sym none ∙ field_complete text field s)
  where
    other : None ≡ Some field → ⊥
    other e = cc

pub fields_err : (count place : ℕ) (texts : List (List ℕ)) (at : At LineRefusal) → count ≤ most_fields → fields_from count place texts ≡ Err at → BadAt count place texts at
fields_err count place [] at few h = cc
fields_err count place (text ∷ texts) at few h =
    go (nat_lt count most_fields) refl (field_of text) refl (fields_from (count + 1) (place + length text + 1) texts) (λ l e. fields_err (count + 1) (place + length text + 1) texts at l e) h
  where
    first : ((field : Field) → ¬ (SpellsField text field)) ⊎ (count + 0 ≡ most_fields) → bad_here place ≡ at → BadAt count place (text ∷ texts) at
    first wrong e = record {
      good = [];
      fields = [];
      bad = text;
      more = texts;
      split = refl;
      of_good = tt;
      within = omega arith;
      wrong = wrong;
      there = ap (λ (a : At LineRefusal). a.place) (sym e) ∙ no_more place;
      why = ap (λ (a : At LineRefusal). a.reason) (sym e);
    }
      where
        no_more : (n : ℕ) → n ≡ n + 0
        no_more n = omega arith

    further : (place : ℕ) (good : List (List ℕ)) → place + length text + 1 + length (tabbed good) ≡ place + length (tabbed (text ∷ good))
    further place good = omega (arith, length-append text (tabbed good))

    go : (t : Bool) → nat_lt count most_fields ≡ t → (o : Option Field) → field_of text ≡ o → (r : Fields) → (count + 1 ≤ most_fields → r ≡ Err at → BadAt (count + 1) (place + length text + 1) texts at)
        → one_then place (cond t o None) r ≡ Err at → BadAt count place (text ∷ texts) at
    go false is o read r later e = let full = false_lt count most_fields is in first (inr (omega (arith, full))) (err_same (bad_here place) at e)
    go true is None read r later e = first (inl (missed text read)) (err_same (bad_here place) at e)
    go true is (Some field) read (Ok fs) later e = cc
    go true is (Some field) read (Err why) later e =
        let below = true_lt count most_fields is in
        let b = later (omega (arith, below)) e in
        record {
          good = text ∷ b.good;
          fields = field ∷ b.fields;
          bad = b.bad;
          more = b.more;
          split = ap (λ x. text ∷ x) b.split;
          of_good = (field_sound text field read, b.of_good);
          within = omega (arith, b.within);
          wrong = moved b.good b.bad b.wrong;
          there = b.there ∙ further place b.good;
          why = b.why;
        }
      where
        moved : (good : List (List ℕ)) (bad : List ℕ) → ((field : Field) → ¬ (SpellsField bad field)) ⊎ (count + 1 + length good ≡ most_fields)
            → ((field : Field) → ¬ (SpellsField bad field)) ⊎ (count + length (text ∷ good) ≡ most_fields)
        moved good bad (inl w) = inl w
        moved good bad (inr w) = inr (omega (arith, w))

none_of : (text : List ℕ) → ((field : Field) → ¬ (SpellsField text field)) → field_of text ≡ None
none_of text h = go (field_of text) refl
  where
    go : (o : Option Field) → field_of text ≡ o → o ≡ None
    go None is = refl
    go (Some field) is = absurd (h field (field_sound text field is))

-- such a text is refused
pub bad_read : (count place : ℕ) (good : List (List ℕ)) (fields : List Field) (bad : List ℕ) (more : List (List ℕ)) → SpellFields good fields → count + length good ≤ most_fields
    → ((field : Field) → ¬ (SpellsField bad field)) ⊎ (count + length good ≡ most_fields) → fields_from count place (good ++ bad ∷ more) ≡ bad_fields (place + length (tabbed good))
bad_read count place [] [] bad more h few wrong = go (nat_lt count most_fields) refl wrong ∙ ap bad_fields (no_more place)
  where
    no_more : (n : ℕ) → n ≡ n + 0
    no_more n = omega arith

    go : (t : Bool) → nat_lt count most_fields ≡ t → ((field : Field) → ¬ (SpellsField bad field)) ⊎ (count + 0 ≡ most_fields)
        → one_then place (cond t (field_of bad) None) (fields_from (count + 1) (place + length bad + 1) more) ≡ bad_fields place
    go false is w = refl
    go true is (inl w) = ap (λ o. one_then place o (fields_from (count + 1) (place + length bad + 1) more)) (none_of bad w)
    go true is (inr w) = absurd (clash (sym (lt_false count most_fields (omega (arith, w))) ∙ is))
bad_read count place [] (field ∷ fields) bad more h few wrong = absurd h
bad_read count place (text ∷ good) [] bad more h few wrong = absurd h
bad_read count place (text ∷ good) (field ∷ fields) bad more h few wrong =
    ap (λ t. one_then place (cond t (field_of text) None) (fields_from (count + 1) (place + length text + 1) (good ++ bad ∷ more))) (lt_true count most_fields (omega arith))
    ∙ ap (λ o. one_then place o (fields_from (count + 1) (place + length text + 1) (good ++ bad ∷ more))) (field_complete text field h.0)
    ∙ ap (λ (r : Fields). one_then place (Some field) r) (bad_read (count + 1) (place + length text + 1) good fields bad more h.1 (omega arith) (moved wrong))
    ∙ ap bad_fields (further place)
  where
    moved : ((field : Field) → ¬ (SpellsField bad field)) ⊎ (count + length (text ∷ good) ≡ most_fields) → ((field : Field) → ¬ (SpellsField bad field)) ⊎ (count + 1 + length good ≡ most_fields)
    moved (inl w) = inl w
    moved (inr w) = inr (omega (arith, w))

    further : (place : ℕ) → place + length text + 1 + length (tabbed good) ≡ place + length (tabbed (text ∷ good))
    further place = omega (arith, length-append text (tabbed good))
