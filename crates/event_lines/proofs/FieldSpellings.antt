-- The reading of a field of a response against its grammar.
use Rattle.std.proofs.Common.{◌≡◌, ℕ, Bool, true, false, cond, not, ◌&&◌, nat_eq, List, [], ◌∷◌, ◌++◌, Option, Some, None, append-nil, refl, ap, sym, ◌∙◌, subst}
use Rattle.std.specs.List.{list_all}
use Rattle.std.proofs.lemmas.Bool.{and_from}
use Rattle.alt_base.proofs.Numbers.{eq_false, true_eq}
use Rattle.alt_base.proofs.Conjunctions.{both}
use Rattle.field_text.specs.Runs.{AllIn, BeginsIn, IsLongestRun, run_of, after_run}
use Rattle.field_text.proofs.RunLemmas.{longest_run, run_of-append, after_run-append, AllIn-append}
use Rattle.http_header.specs.Token.{token_test, lowercase}
use Rattle.http_header.specs.FieldName.{IsFieldName}
use Rattle.event_lines.specs.Parts.{is_space}
use Rattle.event_lines.specs.ResponseGrammar.{Field, is_value_byte, is_field_byte, EndsInSpace, IsValue, SpellsField}
use Rattle.event_lines.specs.ResponseReading.{onto_trimmed, without_last_spaces, trimmed, is_name, is_before_colon, field_from, field_behind, field_of}
use Rattle.event_lines.proofs.FieldNames.{name_sound, name_complete, all_test}

clash : false ≡ true → ⊥
clash e = cc

-- runs of a class
pub all_in : (class : ℕ → Bool) (xs : List ℕ) → list_all class xs ≡ true → AllIn class xs
all_in class [] h = tt
all_in class (b ∷ bs) h = let t = both (class b) (list_all class bs) h in (t.0, all_in class bs t.1)

pub all_from : (class : ℕ → Bool) (xs : List ℕ) → AllIn class xs → list_all class xs ≡ true
all_from class [] h = refl
all_from class (b ∷ bs) h = and_from (class b) (list_all class bs) h.0 (all_from class bs h.1)

pub one_other : (test : ℕ → Bool) (other b : ℕ) → test other ≡ false → test b ≡ true → not (nat_eq b other) ≡ true
one_other test other b missing is = go (nat_eq b other) refl
  where
    go : (t : Bool) → nat_eq b other ≡ t → not t ≡ true
    go false e = refl
    go true e = absurd (clash (sym missing ∙ ap test (sym (true_eq b other e)) ∙ is))

-- bytes of a class that misses a byte are other ones
pub all_other : (test : ℕ → Bool) (other : ℕ) (xs : List ℕ) → test other ≡ false → AllIn test xs → AllIn (λ b. not (nat_eq b other)) xs
all_other test other [] missing h = tt
all_other test other (b ∷ bs) missing h = (one_other test other b missing h.0, all_other test other bs missing h.1)

name_bytes : (name : List ℕ) → IsFieldName name → AllIn token_test name
name_bytes name h = all_in token_test name (all_test name h.0.1)

-- spaces at the end
record Trimmed (text : List ℕ) : Type 0 where
  spaces : List ℕ
  split : text ≡ without_last_spaces text ++ spaces
  all : AllIn is_space spaces

trim_split : (text : List ℕ) → Trimmed text
trim_split [] = record { spaces = []; split = refl; all = tt }
trim_split (b ∷ bs) = let rest = trim_split bs in let left = go (without_last_spaces bs) rest.spaces rest.split rest.all in record { spaces = left.0; split = left.1; all = left.2 }
  where
    at_space : (t : Bool) → is_space b ≡ t → (spaces : List ℕ) → bs ≡ spaces → AllIn is_space spaces → (left : List ℕ) × (b ∷ bs ≡ cond t [] (b ∷ []) ++ left) × AllIn is_space left
    at_space true is spaces split all = (b ∷ spaces, ap (λ x. b ∷ x) split, (is, all))
    at_space false is spaces split all = (spaces, ap (λ x. b ∷ x) split, all)

    go : (t spaces : List ℕ) → bs ≡ t ++ spaces → AllIn is_space spaces → (left : List ℕ) × (b ∷ bs ≡ onto_trimmed b t ++ left) × AllIn is_space left
    go [] spaces split all = at_space (is_space b) refl spaces split all
    go (c ∷ cs) spaces split all = (spaces, ap (λ x. b ∷ x) split, all)

trim_ends : (text : List ℕ) → ¬ (EndsInSpace (without_last_spaces text))
trim_ends [] = λ h. h
trim_ends (b ∷ bs) = go (without_last_spaces bs) (trim_ends bs)
  where
    at_space : (t : Bool) → is_space b ≡ t → ¬ (EndsInSpace (cond t [] (b ∷ [])))
    at_space true is = λ h. h
    at_space false is = λ h. clash (sym is ∙ ap is_space h)

    go : (t : List ℕ) → ¬ (EndsInSpace t) → ¬ (EndsInSpace (onto_trimmed b t))
    go [] rest = at_space (is_space b) refl
    go (c ∷ cs) rest = rest

trim_begins : (text : List ℕ) → BeginsIn is_space (without_last_spaces text) → BeginsIn is_space text
trim_begins [] h = h
trim_begins (b ∷ bs) h = go (without_last_spaces bs) h
  where
    at_space : (t : Bool) → BeginsIn is_space (cond t [] (b ∷ [])) → is_space b ≡ true
    at_space true k = absurd k
    at_space false k = k

    go : (t : List ℕ) → BeginsIn is_space (onto_trimmed b t) → is_space b ≡ true
    go [] k = at_space (is_space b) k
    go (c ∷ cs) k = k

spaces_trimmed : (spaces : List ℕ) → AllIn is_space spaces → without_last_spaces spaces ≡ []
spaces_trimmed [] h = refl
spaces_trimmed (b ∷ bs) h = ap (onto_trimmed b) (spaces_trimmed bs h.1) ∙ ap (λ t. cond t [] (b ∷ [])) h.0

value_trimmed : (value after : List ℕ) → AllIn is_space after → ¬ (EndsInSpace value) → without_last_spaces (value ++ after) ≡ value
value_trimmed [] after spaces end = spaces_trimmed after spaces
value_trimmed (b ∷ []) after spaces end = ap (onto_trimmed b) (spaces_trimmed after spaces) ∙ ap (λ t. cond t [] (b ∷ [])) (eq_false b 32 end)
value_trimmed (b ∷ c ∷ cs) after spaces end = ap (onto_trimmed b) (value_trimmed (c ∷ cs) after spaces end)

value_between : (before value after : List ℕ) → AllIn is_space before → AllIn is_space after → IsValue value → trimmed (before ++ (value ++ after)) ≡ value
value_between before [] after h k v =
    ap (λ x. without_last_spaces (after_run is_space x)) (sym (append-nil (before ++ after)))
    ∙ ap without_last_spaces (after_run-append is_space (before ++ after) [] (AllIn-append is_space before after h k) (λ e. e))
value_between before (b ∷ bs) after h k v =
    ap without_last_spaces (after_run-append is_space before ((b ∷ bs) ++ after) h v.begin) ∙ value_trimmed (b ∷ bs) after k v.end

abbrev field : List ℕ → List ℕ → Field
field name value = record { name = name; value = value }

abbrev chosen : Bool → List ℕ → List ℕ → Option Field
chosen t name value = cond t (Some (field (lowercase name) value)) None

-- what is read is spelled
record Made (name value : List ℕ) (made : Field) : Type 0 where
  named : is_name name ≡ true
  valued : list_all is_value_byte value ≡ true
  same : field (lowercase name) value ≡ made

made_of : (name value : List ℕ) (made : Field) → field_from name value ≡ Some made → Made name value made
made_of name value made h = go (is_name name && list_all is_value_byte value) refl h
  where
    go : (t : Bool) → (is_name name && list_all is_value_byte value) ≡ t → chosen t name value ≡ Some made → Made name value made
    go true is e = let b = both (is_name name) (list_all is_value_byte value) is in record { named = b.0; valued = b.1; same = cc }
    go false is e = cc

colon_of : (b : ℕ) → ¬ (is_before_colon b ≡ true) → b ≡ 58
colon_of b h = go (nat_eq b 58) refl
  where
    go : (t : Bool) → nat_eq b 58 ≡ t → b ≡ 58
    go true is = true_eq b 58 is
    go false is = absurd (h (ap not is))

pub field_sound : (text : List ℕ) (made : Field) → field_of text ≡ Some made → SpellsField text made
field_sound text made h = go (after_run is_before_colon text) refl h
  where
    run : IsLongestRun is_before_colon text (run_of is_before_colon text) (after_run is_before_colon text)
    run = longest_run is_before_colon text

    colon : (b : ℕ) (rest : List ℕ) → after_run is_before_colon text ≡ b ∷ rest → b ≡ 58
    colon b rest is = colon_of b λ e. run.longest (rw is e)

    go : (behind : List ℕ) → after_run is_before_colon text ≡ behind → field_behind (run_of is_before_colon text) behind ≡ Some made → SpellsField text made
    go [] is e = cc
    go (b ∷ rest) is e =
        let m = made_of (run_of is_before_colon text) (trimmed rest) made e in
        let spaces = longest_run is_space rest in
        let trim = trim_split (after_run is_space rest) in
        let value : trimmed rest ≡ made.value = ap (λ (f : Field). f.value) m.same in
        let whole : rest ≡ run_of is_space rest ++ (trimmed rest ++ trim.spaces) = spaces.text ∙ ap (λ x. run_of is_space rest ++ x) trim.split in
        let valid : IsValue (trimmed rest) = record {
          bytes = all_in is_value_byte (trimmed rest) m.valued;
          begin = λ k. spaces.longest (trim_begins (after_run is_space rest) k);
          end = trim_ends (after_run is_space rest);
        } in
        record {
          name = run_of is_before_colon text;
          before = run_of is_space rest;
          after = trim.spaces;
          spelled = run.text ∙ ap (λ x. run_of is_before_colon text ++ x) (is ∙ ap (λ c. c ∷ rest) (colon b rest is) ∙ ap (λ x. 58 ∷ x) (whole ∙ ap (λ v. run_of is_space rest ++ (v ++ trim.spaces)) value));
          of_name = name_sound (run_of is_before_colon text) m.named;
          lower = sym (ap (λ (f : Field). f.name) m.same);
          of_before = spaces.valid;
          of_after = trim.all;
          of_value = subst IsValue value valid;
        }

-- what is spelled is read
pub field_complete : (text : List ℕ) (made : Field) → SpellsField text made → field_of text ≡ Some made
field_complete text made s =
    let behind = s.before ++ (made.value ++ s.after) in
    let valid = all_other token_test 58 s.name refl (name_bytes s.name s.of_name) in
    let ends = λ (e : false ≡ true). clash e in
    ap field_of s.spelled
    ∙ ap (λ n. field_behind n (after_run is_before_colon (s.name ++ 58 ∷ behind))) (run_of-append is_before_colon s.name (58 ∷ behind) valid ends)
    ∙ ap (field_behind s.name) (after_run-append is_before_colon s.name (58 ∷ behind) valid ends)
    ∙ ap (field_from s.name) (value_between s.before made.value s.after s.of_before s.of_after s.of_value)
    ∙ ap (λ t. chosen t s.name made.value) (and_from (is_name s.name) (list_all is_value_byte made.value) (name_complete s.name s.of_name) (all_from is_value_byte made.value s.of_value.bytes))
    ∙ ap (λ n. Some (field n made.value)) (sym s.lower)

-- no tab stands in the text of a field
pub field_apart : (text : List ℕ) (made : Field) → SpellsField text made → AllIn is_field_byte text
field_apart text made s =
    subst (AllIn is_field_byte) (sym s.spelled)
    (AllIn-append is_field_byte s.name (58 ∷ (s.before ++ (made.value ++ s.after))) (all_other token_test 9 s.name refl (name_bytes s.name s.of_name)) (
      refl,
      AllIn-append is_field_byte s.before (made.value ++ s.after) (all_other is_space 9 s.before refl s.of_before)
          (AllIn-append is_field_byte made.value s.after (all_other is_value_byte 9 made.value refl s.of_value.bytes) (all_other is_space 9 s.after refl s.of_after)),
    ))
