-- The reading of names against their grammar.
use Rattle.std.proofs.Common.{◌≡◌, ◌≢◌, ◌⊎◌, ℕ, ◌+◌, Bool, true, false, cond, nat_eq, List, [], ◌∷◌, ◌++◌, length, Option, None, Some, Result, Ok, Err, IfOk, length-append, refl, ap, sym, ◌∙◌, subst, arith, inl, inr}
use Rattle.std.specs.Cmp.Lexicographic.{pointwise, same_text}
use Rattle.std.specs.List.{join_with_byte}
use Rattle.std.proofs.lemmas.List.Splits.{join_with_byte-slice_split, length-slice_split}
use Rattle.alt_base.specs.declared.refusal.At.{At}
use Rattle.alt_base.specs.declared.refusal.Refused.{Refused}
use Rattle.alt_base.specs.declared.refusal.Refused.TheVariants as refused
use Rattle.alt_base.specs.Answers.{Answers, IfRefused}
use Rattle.origin_values.specs.HostGrammar.{SpellsName}
use Rattle.coalescing.specs.declared.cert_name.CertName.{CertName}
use Rattle.coalescing.specs.declared.cert_name.CertName.TheVariants.{Exact}
use Rattle.coalescing.specs.declared.refusal.CertRefusal.{CertRefusal}
use Rattle.coalescing.specs.declared.refusal.CertRefusal.TheVariants.{BadName}
use Rattle.coalescing.specs.NamesGrammar.{SpellsItem, SpellEach, SpellsNames, with_commas, IsBadName, NamesRefusedAt, OneNames}
use Rattle.coalescing.specs.NamesReading.{read_item, Answer, name_onto, read_items, items_of, read_names}
use Rattle.coalescing.proofs.Items.{item_read, item_spelled, item_none, item_bad}
use Rattle.coalescing.proofs.Commas.{AllApart, items_apart, apart_at, item_in_front, items_behind, items_joined, behind_item, behind_ends, joined_at}

abbrev bad_at : ℕ → Answer
bad_at place = Err (record { place = place; reason = BadName })

abbrev ok_of : List CertName → Answer
ok_of names = Ok names

abbrev err_of : At CertRefusal → Answer
err_of at = Err at

same_names : (a b : List CertName) → ok_of a ≡ ok_of b → a ≡ b
same_names a b e = cc

same_at : (a b : At CertRefusal) → err_of a ≡ err_of b → (a.place ≡ b.place) × (a.reason ≡ b.reason)
same_at a b e = let h : a ≡ b = cc in (ap (λ (x : At CertRefusal). x.place) h, ap (λ (x : At CertRefusal). x.reason) h)

each_read : (items : List (List ℕ)) (names : List CertName) (place : ℕ) → SpellEach items names → read_items place items ≡ Ok names
each_read [] [] place h = refl
each_read [] (name ∷ names) place h = absurd h
each_read (item ∷ items) [] place h = absurd h
each_read (item ∷ items) (name ∷ names) place h =
    ap (λ o. name_onto place o (read_items (place + length item + 1) items)) (item_read item name h.0)
    ∙ ap (name_onto place (Some name)) (each_read items names (place + length item + 1) h.1)

each_spelled : (items : List (List ℕ)) (names : List CertName) (place : ℕ) → read_items place items ≡ Ok names → SpellEach items names
each_spelled [] [] place h = tt
each_spelled [] (name ∷ names) place h = cc
each_spelled (item ∷ items) names place h =
    go (λ more. each_spelled items more (place + length item + 1)) (read_item item) (read_items (place + length item + 1) items) refl refl h
  where
    go : ((more : List CertName) → read_items (place + length item + 1) items ≡ Ok more → SpellEach items more) → (o : Option CertName) (rest : Answer)
        → read_item item ≡ o → read_items (place + length item + 1) items ≡ rest → name_onto place o rest ≡ Ok names → SpellEach (item ∷ items) names
    go later None rest is_item is_rest e = cc
    go later (Some name) (Err at) is_item is_rest e = cc
    go later (Some name) (Ok more) is_item is_rest e =
        let same : name ∷ more ≡ names = cc in
        subst (SpellEach (item ∷ items)) same (item_spelled item name is_item, later more is_rest)

-- the first bad item among items
record FirstBad (items : List (List ℕ)) (place : ℕ) (at : At CertRefusal) : Type 0 where
  before : List (List ℕ)
  names : List CertName
  item : List ℕ
  after : List (List ℕ)
  split : items ≡ before ++ item ∷ after
  each : SpellEach before names
  bad : (name : CertName) → ¬ (SpellsItem item name)
  is : at.place ≡ place + length (with_commas before)

one_further : (place n : ℕ) (item commas : List ℕ) → n ≡ place + length item + 1 + length commas → n ≡ place + length (item ++ 44 ∷ commas)
one_further place n item commas h = omega (arith, length-append item (44 ∷ commas))

first_bad : (items : List (List ℕ)) (place : ℕ) (at : At CertRefusal) → read_items place items ≡ Err at → FirstBad items place at
first_bad [] place at h = cc
first_bad (item ∷ items) place at h =
    go (λ rest. first_bad items (place + length item + 1) rest) (read_item item) (read_items (place + length item + 1) items) refl refl h
  where
    go : ((rest : At CertRefusal) → read_items (place + length item + 1) items ≡ Err rest → FirstBad items (place + length item + 1) rest) → (o : Option CertName) (rest : Answer)
        → read_item item ≡ o → read_items (place + length item + 1) items ≡ rest → name_onto place o rest ≡ Err at → FirstBad (item ∷ items) place at
    go later None rest is_item is_rest e = record {
      before = [];
      names = [];
      item = item;
      after = items;
      split = refl;
      each = tt;
      bad = item_bad item is_item;
      is = sym (same_at (record { place = place; reason = BadName }) at e).0 ∙ omega arith;
    }
    go later (Some name) (Ok more) is_item is_rest e = cc
    go later (Some name) (Err there) is_item is_rest e =
        let s = later at (is_rest ∙ e) in
        record {
          before = item ∷ s.before;
          names = name ∷ s.names;
          item = s.item;
          after = s.after;
          split = ap (λ xs. item ∷ xs) s.split;
          each = (item_spelled item name is_item, s.each);
          bad = s.bad;
          is = one_further place at.place item (with_commas s.before) s.is;
        }

bad_read : (before after : List (List ℕ)) (names : List CertName) (item : List ℕ) (place : ℕ) → SpellEach before names → read_item item ≡ None
    → read_items place (before ++ item ∷ after) ≡ bad_at (place + length (with_commas before))
bad_read [] after names item place h none = ap (λ o. name_onto place o (read_items (place + length item + 1) after)) none ∙ ap bad_at (omega arith)
bad_read (first ∷ before) after [] item place h none = absurd h
bad_read (first ∷ before) after (name ∷ names) item place h none =
    ap (λ o. name_onto place o (read_items (place + length first + 1) (before ++ item ∷ after))) (item_read first name h.0)
    ∙ ap (name_onto place (Some name)) (bad_read before after names item (place + length first + 1) h.1 none)
    ∙ ap bad_at (one_further place _ first (with_commas before) refl)

text_from_test : (text : List ℕ) → pointwise nat_eq text (45 ∷ []) ≡ true → text ≡ 45 ∷ []
text_from_test text h = same_text text (45 ∷ []) (sym h)

other_test : (text : List ℕ) → text ≢ 45 ∷ [] → pointwise nat_eq text (45 ∷ []) ≡ false
other_test text other = go (pointwise nat_eq text (45 ∷ [])) refl
  where
    go : (t : Bool) → pointwise nat_eq text (45 ∷ []) ≡ t → t ≡ false
    go false is = refl
    go true is = absurd (other (text_from_test text is))

read_other : (text : List ℕ) → text ≢ 45 ∷ [] → read_names text ≡ read_items 0 (items_of text)
read_other text other = ap (λ t. cond t (Ok []) (read_items 0 (items_of text))) (other_test text other)

pub names_read : (text : List ℕ) (names : List CertName) → SpellsNames text names → read_names text ≡ Ok names
names_read text [] h = ap read_names h
names_read text (name ∷ names) h =
    let s = h.1 in
    read_other text h.0
    ∙ ap (λ xs. read_items 0 (items_of xs)) s.spelled
    ∙ ap (read_items 0) (items_joined s.items name names s.each)
    ∙ each_read s.items (name ∷ names) 0 s.each

items_spell : (text : List ℕ) (names : List CertName) → text ≢ 45 ∷ [] → read_items 0 (items_of text) ≡ Ok names → SpellsNames text names
items_spell text [] other h = go (items_of text) _ (length-slice_split (λ b. nat_eq b 44) text) (each_spelled (items_of text) [] 0 h)
  where
    go : (items : List (List ℕ)) (n : ℕ) → length items ≡ n + 1 → SpellEach items [] → SpellsNames text []
    go [] n long each = absurd (omega arith)
    go (item ∷ items) n long each = absurd each
items_spell text (name ∷ names) other h =
    (other, record { items = items_of text; each = each_spelled (items_of text) (name ∷ names) 0 h; spelled = sym (join_with_byte-slice_split 44 text) })

pub names_spelled : (text : List ℕ) (names : List CertName) → read_names text ≡ Ok names → SpellsNames text names
names_spelled text names h = go (pointwise nat_eq text (45 ∷ [])) refl h
  where
    false_true : false ≡ true → ⊥
    false_true e = cc

    go : (t : Bool) → pointwise nat_eq text (45 ∷ []) ≡ t → cond t (Ok []) (read_items 0 (items_of text)) ≡ Ok names → SpellsNames text names
    go true is e = let none : [] ≡ names = cc in subst (SpellsNames text) none (text_from_test text is)
    go false is e = items_spell text names (λ same. false_true (sym is ∙ ap (λ xs. pointwise nat_eq xs (45 ∷ [])) same)) e

pub names_bad : (text : List ℕ) (at : At CertRefusal) → read_names text ≡ Err at → IsBadName text at.place
names_bad text at h = go (pointwise nat_eq text (45 ∷ [])) h
  where
    go : (t : Bool) → cond t (Ok []) (read_items 0 (items_of text)) ≡ Err at → IsBadName text at.place
    go true e = cc
    go false e =
        let s = first_bad (items_of text) 0 at e in
        record {
          before = s.before;
          names = s.names;
          item = s.item;
          behind = behind_item s.after;
          spelled = sym (join_with_byte-slice_split 44 text) ∙ ap (join_with_byte 44) s.split ∙ joined_at s.before s.after s.item;
          each = s.each;
          no_comma = apart_at s.before s.after s.item (subst (λ xs. AllApart xs) s.split (items_apart text));
          end = behind_ends s.after;
          bad = s.bad;
          at = s.is ∙ omega arith;
        }

pub names_refusal : (text : List ℕ) (at : At CertRefusal) → read_names text ≡ Err at → NamesRefusedAt text at.place at.reason
names_refusal text at h = go at.reason (names_bad text at h)
  where
    go : (reason : CertRefusal) → IsBadName text at.place → NamesRefusedAt text at.place reason
    go BadName bad = bad

bad_items : (text : List ℕ) (place : ℕ) (s : IsBadName text place) → read_items 0 (items_of text) ≡ bad_at place
bad_items text place s =
    let front = item_in_front s.item s.behind s.no_comma s.end in
    ap (λ xs. read_items 0 (items_of xs)) s.spelled
    ∙ ap (read_items 0) (items_behind s.before s.names (s.item ++ s.behind) s.each ∙ ap (λ xs. s.before ++ xs) front.1)
    ∙ bad_read s.before front.0 s.names s.item 0 s.each (item_none s.item s.bad)
    ∙ ap bad_at (omega (arith, s.at))

-- `-` is a host's name among other items
pub hyphen_spelled : SpellsName (45 ∷ []) (45 ∷ [])
hyphen_spelled = record {
  labels = (45 ∷ []) ∷ [];
  are_labels = (record { some = omega arith; short = omega arith; allowed = refl }, refl);
  spelled = refl;
  short = omega arith;
  value = refl;
}

hyphen_read : read_items 0 (items_of (45 ∷ [])) ≡ Ok (Exact (45 ∷ []) ∷ [])
hyphen_read =
    each_read ((45 ∷ []) ∷ []) (Exact (45 ∷ []) ∷ []) 0 (hyphen_spelled, tt)

bad_is_other : (text : List ℕ) (place : ℕ) → IsBadName text place → text ≢ 45 ∷ []
bad_is_other text place s same = clash (sym hyphen_read ∙ ap (λ xs. read_items 0 (items_of xs)) (sym same) ∙ bad_items text place s)
  where
    clash : Ok (Exact (45 ∷ []) ∷ []) ≡ bad_at place → ⊥
    clash e = cc

pub names_refused : (text : List ℕ) (place : ℕ) (reason : CertRefusal) → NamesRefusedAt text place reason → read_names text ≡ Err (record { place = place; reason = reason })
names_refused text place BadName s = read_other text (bad_is_other text place s) ∙ bad_items text place s

pub one_names_of : (text : List ℕ) → OneNames text
one_names_of text = record {
  some = some_of (read_names text) refl;
  one_list = λ a b h k. same_names a b (sym (names_read text a h) ∙ names_read text b k);
  one_refusal = λ p q r s h k. same_at (record { place = p; reason = r }) (record { place = q; reason = s }) (sym (names_refused text p r h) ∙ names_refused text q s k);
  not_both = λ names place reason h k. clash names (record { place = place; reason = reason }) (sym (names_read text names h) ∙ names_refused text place reason k);
}
  where
    some_of : (answer : Answer) → read_names text ≡ answer → ((names : List CertName) × SpellsNames text names) ⊎ ((place : ℕ) × (reason : CertRefusal) × NamesRefusedAt text place reason)
    some_of (Ok names) is = inl (names, names_spelled text names is)
    some_of (Err at) is = inr (at.place, at.reason, names_refusal text at is)

    clash : (names : List CertName) (at : At CertRefusal) → Ok names ≡ Err at → ⊥
    clash names at e = cc

-- what a call answers, in the grammar's words
pub answer_says : (text : List ℕ) (r : Result (List CertName) (Refused CertRefusal)) → Answers r (read_names text)
    → IfOk r (λ names. SpellsNames text names) × IfRefused r (λ place reason. NamesRefusedAt text place reason)
answer_says text (Ok names) h = (names_spelled text names h, tt)
answer_says text (Err refused.NoMemory) h = (tt, tt)
answer_says text (Err (refused.At place reason)) h = (tt, names_refusal text (record { place = place; reason = reason }) h)
