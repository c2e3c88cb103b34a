-- The name and the value of a field of a response.
use Rattle.std.proofs.Common.{◌≡◌, ℕ, ◌-◌, ◌<◌, ◌≤◌, Bool, true, false, cond, ◌&&◌, List, [], ◌∷◌, length, take, drop, Option, Some, None, Result, Ok, Err, IsTrue, refl, ap, sym, ◌∙◌, arith}
use Rattle.std.specs.List.{list_all}
use Rattle.std.specs.Result.{IfOk}
use Rattle.std.proofs.lemmas.Bool.Decides.{Decides-by_and}
use Rattle.std.proofs.lemmas.List.{take_all, nil_from_length}
use Rattle.std.proofs.lemmas.Bool.{and_from}
use Rattle.alt_base.proofs.Numbers.{le_true, lt_true}
use Rattle.alt_base.specs.declared.refusal.NoMemory.{NoMemory}
use Rattle.field_text.specs.Runs.{run_of, after_run}
use Rattle.http_header.specs.Token.{token_test, is_token_byte, AllPass, lowercase}
use Rattle.http_header.specs.FieldName.{IsFieldName}
use Rattle.http_header.proofs.TokenLemmas.{IsFieldName-from_test}
use Rattle.event_lines.specs.ResponseGrammar.{Field, is_value_byte}
use Rattle.event_lines.specs.ResponseReading.{is_name, is_before_colon, trimmed, field_from, field_behind, field_of}
use Rattle.field_text.proofs.RunLemmas.{taken_by}
use Rattle.event_lines.proofs.FieldParts.{dropped_by}

-- what the test of a name says
pub name_sound : (text : List ℕ) → is_name text ≡ true → IsFieldName text
unfolding is_name
name_sound text h = IsFieldName-from_test text h

pub all_test : (text : List ℕ) → AllPass is_token_byte text → list_all token_test text ≡ true
unfolding is_token_byte
all_test text h = (Decides-by_and token_test (λ b. IsTrue (token_test b)) (list_all token_test) (λ b. (λ h. h, λ h. h)) refl (λ _ _. refl) text).1 h

pub name_complete : (text : List ℕ) → IsFieldName text → is_name text ≡ true
unfolding is_name
name_complete text h =
    and_from _ _ (and_from _ _ (lt_true 0 (length text) h.0.0) (all_test text h.0.1)) (le_true (length text) 65535 h.1)

clash : false ≡ true → ⊥
clash e = cc

pub name_found : (text : List ℕ) → ((IsFieldName text → ⊥) → ⊥) → is_name text ≡ true
name_found text h = go (is_name text) refl
  where
    go : (t : Bool) → is_name text ≡ t → t ≡ true
    go true is = refl
    go false is = absurd (h λ k. clash (sym is ∙ name_complete text k))

pub name_missed : (text : List ℕ) → (IsFieldName text → ⊥) → is_name text ≡ false
name_missed text h = go (is_name text) refl
  where
    go : (t : Bool) → is_name text ≡ t → t ≡ false
    go true is = absurd (h (name_sound text is))
    go false is = refl

abbrev field : List ℕ → List ℕ → Field
field name value = record { name = name; value = value }

abbrev chosen : Bool → List ℕ → List ℕ → Option Field
chosen t name value = cond t (Some (field (lowercase name) value)) None

-- a field of a name and a value
pub field_made : (name lower value : List ℕ) → is_name name ≡ true → true ≡ list_all is_value_byte value → lower ≡ lowercase name → Some (field lower value) ≡ field_from name value
field_made name lower value named valued is =
    ap (λ n. Some (field n value)) is ∙ ap (λ t. chosen t name value) (sym (and_from (is_name name) (list_all is_value_byte value) named (sym valued)))

pub field_unnamed : (name value : List ℕ) → is_name name ≡ false → None ≡ field_from name value
field_unnamed name value other = ap (λ t. chosen (t && list_all is_value_byte value) name value) (sym other)

-- a text without a colon is no field
pub no_colon : (text : List ℕ) (n : ℕ) → n ≡ length (run_of is_before_colon text) → n ≤ length text → length (take (length text - n) (drop n text)) < 1 → None ≡ field_of text
no_colon text n is within short =
    let none : after_run is_before_colon text ≡ [] = sym (dropped_by is_before_colon text n is within) ∙ nil_from_length (take (length text - n) (drop n text)) (omega (arith, short)) in
    ap (field_behind (run_of is_before_colon text)) (sym none)

behind_first : (name rest : List ℕ) → 1 ≤ length rest → field_from name (trimmed (take (length rest - 1) (drop 1 rest))) ≡ field_behind name rest
behind_first name [] h = absurd (omega arith)
behind_first name (b ∷ bs) h = ap (λ t. field_from name (trimmed t)) (take_all (length (b ∷ bs) - 1) bs (omega arith))

-- the field of a text with a colon
pub with_colon : (text : List ℕ) (n : ℕ) → n ≡ length (run_of is_before_colon text) → n ≤ length text → 1 ≤ length (take (length text - n) (drop n text))
    → (value : List ℕ) → value ≡ trimmed (take (length (take (length text - n) (drop n text)) - 1) (drop 1 (take (length text - n) (drop n text))))
    → field_from (take n text) value ≡ field_of text
with_colon text n is within some value trims =
    let rest = take (length text - n) (drop n text) in
    ap (field_from (take n text)) trims
    ∙ behind_first (take n text) rest some
    ∙ ap (λ t. field_behind t rest) (taken_by is_before_colon text n is)
    ∙ ap (field_behind (run_of is_before_colon text)) (dropped_by is_before_colon text n is within)

pub same_on_ok : (r : Result (Option Field) NoMemory) (a b : Option Field) → a ≡ b → IfOk r (λ x. x ≡ a) → IfOk r (λ x. x ≡ b)
same_on_ok (Ok x) a b is h = h ∙ is
same_on_ok (Err e) a b is h = h
