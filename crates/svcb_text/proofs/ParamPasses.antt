-- The parameters of a text: what the grammar says is what is read.
use Rattle.std.proofs.Common.{◌≡◌, ◌≢◌, ℕ, zero, suc, ◌+◌, ◌<◌, ◌≤◌, false, List, [], ◌∷◌, ◌++◌, length, drop, Ok, Err, refl, ap, sym, ◌∙◌, subst, arith, inr}
use Rattle.std.proofs.lemmas.List.{append_assoc, append-nil, length-append}
use Rattle.alt_base.specs.declared.refusal.At.{At}
use Rattle.field_text.specs.BlanksGrammar.{is_blank}
use Rattle.field_text.specs.BlanksReading.{read_blanks, after_blanks}
use Rattle.field_text.specs.Runs.{AllIn, BeginsIn, run_of, after_run}
use Rattle.field_text.proofs.RunLemmas.{run_of-append, after_run-append}
use Rattle.svcb_wire.specs.declared.param.Param.{Param}
use Rattle.svcb_wire.specs.Octets.{key_of}
use Rattle.svcb_wire.specs.Usable.{has_key}
use Rattle.svcb_text.specs.declared.refusal.RecordTextRefusal.{RecordTextRefusal}
use Rattle.svcb_values.specs.KeyNames.{is_key_byte, key_name}
use Rattle.svcb_text.specs.Placing.{placed}
use Rattle.svcb_values.specs.StringGrammar.{EndsItem}
use Rattle.svcb_text.specs.TextGrammar.{GivenParam, Alone, Valued, given_key, given_head, given_string, given_value, IsGiven, Spaced, spaced_texts, SpellEach}
use Rattle.svcb_text.specs.TextReading.{ParamsAnswer, first_param, by_param, params_from, params_behind}
use Rattle.svcb_values.proofs.KeyLaws.{name_bytes, name_some}
use Rattle.svcb_values.proofs.ValueLaws.{value_of_key}
use Rattle.svcb_text.proofs.ParamKeys.{all_placed, AreFresh}
use Rattle.svcb_text.proofs.Items.{ends_with_blanks, no_key_byte}
use Rattle.svcb_text.proofs.FirstParam.{IsFirstParam}
use Rattle.svcb_text.proofs.FirstRead.{param_reads}
use Rattle.svcb_text.proofs.ParamLists.{rest_of, param_length}
use Rattle.alt_base.proofs.Booleans.{contradicts}

-- blanks and a byte that is none
pub record GoesOnBehind (x blanks y : List ℕ) : Type 0 where
  pub text : x ≡ blanks ++ y
  pub all : AllIn is_blank blanks
  pub some : y ≢ []
  pub no_blank : BeginsIn is_blank y → ⊥

behind_reads : (k : ℕ) (before : List Param) (place : ℕ) (x blanks y : List ℕ) → GoesOnBehind x blanks y → params_behind (suc k) before place x ≡ params_from (params_behind k) before (place + length blanks) y
behind_reads k before place x blanks y h =
    let run : run_of is_blank x ≡ blanks = ap (run_of is_blank) h.text ∙ run_of-append is_blank blanks y h.all h.no_blank in
    let rest : after_blanks x ≡ y = ap (after_run is_blank) h.text ∙ after_run-append is_blank blanks y h.all h.no_blank in
    ap (λ xs. params_from (params_behind k) before (place + length xs) (after_blanks x)) run ∙ ap (λ xs. params_from (params_behind k) before (place + length blanks) xs) rest

from_some : (next : List Param → ℕ → List ℕ → ParamsAnswer) (before : List Param) (place : ℕ) (y : List ℕ) → y ≢ [] → params_from next before place y ≡ by_param (first_param before place y) before place y next
from_some next before place [] some = absurd (some refl)
from_some next before place (b ∷ bs) some = refl

-- one parameter on
pub param_on : (k : ℕ) (before : List Param) (place : ℕ) (x blanks y : List ℕ) (param : Param) (count : ℕ) → GoesOnBehind x blanks y → first_param before (place + length blanks) y ≡ Ok (param, count)
    → params_behind (suc k) before place x ≡ params_behind k (placed param before) (place + length blanks + count) (drop count y)
param_on k before place x blanks y param count h is =
    behind_reads k before place x blanks y h ∙ from_some (params_behind k) before (place + length blanks) y h.some ∙ ap (λ r. by_param r before (place + length blanks) y (params_behind k)) is

pub stop_on : (k : ℕ) (before : List Param) (place : ℕ) (x blanks y : List ℕ) (at : At RecordTextRefusal) → GoesOnBehind x blanks y → first_param before (place + length blanks) y ≡ Err at → params_behind (suc k) before place x ≡ Err at
stop_on k before place x blanks y at h is =
    behind_reads k before place x blanks y h ∙ from_some (params_behind k) before (place + length blanks) y h.some ∙ ap (λ r. by_param r before (place + length blanks) y (params_behind k)) is

pub end_on : (k : ℕ) (before : List Param) (place : ℕ) (x : List ℕ) → AllIn is_blank x → params_behind (suc k) before place x ≡ Ok before
end_on k before place x all =
    let rest : after_blanks x ≡ [] = ap (after_run is_blank) (sym (append-nil x)) ∙ after_run-append is_blank x [] all (λ h. h) in
    ap (params_from (params_behind k) before (read_blanks place x)) rest

-- a parameter begins with a byte of its key
record Begins (x : List ℕ) : Type 0 where
  pub some : x ≢ []
  pub no_blank : BeginsIn is_blank x → ⊥

name_begins : (name more : List ℕ) → name ≢ [] → AllIn is_key_byte name → Begins (name ++ more)
name_begins [] more some all = absurd (some refl)
name_begins (b ∷ bs) more some all = record { some = λ e. no_cons e; no_blank = λ h. contradicts (is_key_byte b) all.0 (no_key_byte b (inr h)) }
  where
    no_cons : b ∷ (bs ++ more) ≡ [] → ⊥
    no_cons e = cc

given_begins : (given : GivenParam) (more : List ℕ) → IsGiven given → Begins (given_head given ++ more)
given_begins (Alone key) more is = name_begins (key_name key) more (name_some key is.key) (name_bytes key is.key)
given_begins (Valued key style parts) more is =
    let b = name_begins (key_name key) (61 ∷ more) (name_some key is.key) (name_bytes key is.key) in
    let e : (key_name key ++ 61 ∷ []) ++ more ≡ key_name key ++ 61 ∷ more = append_assoc (key_name key) (61 ∷ []) more in
    subst Begins (sym e) b

pub spaced_split : (s : Spaced) (ss : List Spaced) (tail : List ℕ) → spaced_texts (s ∷ ss) ++ tail ≡ s.blanks ++ (given_head s.given ++ (given_string s.given ++ (spaced_texts ss ++ tail)))
spaced_split s ss tail = simp append_assoc

-- a blank or the end stands behind each parameter
pub ends_before : (ss : List Spaced) (params : List Param) (tail : List ℕ) → SpellEach ss params → EndsItem tail → EndsItem (spaced_texts ss ++ tail)
ends_before [] params tail each ends = ends
ends_before (s ∷ ss) [] tail each ends = absurd each
ends_before (s ∷ ss) (p ∷ ps) tail each ends =
    let e : spaced_texts (s ∷ ss) ++ tail ≡ s.blanks ++ ((given_head s.given ++ given_string s.given) ++ (spaced_texts ss ++ tail)) = simp append_assoc in
    subst EndsItem (sym e) (ends_with_blanks s.blanks ((given_head s.given ++ given_string s.given) ++ (spaced_texts ss ++ tail)) each.0.blanks)

-- with a count that is enough for what is left, the parameters in front are passed over
pub record Passes (k : ℕ) (before : List Param) (place : ℕ) (x : List ℕ) (ss : List Spaced) (params : List Param) (tail : List ℕ) : Type 0 where
  pub left : ℕ
  pub enough : length tail < left
  pub reads : params_behind k before place x ≡ params_behind left (all_placed before params) (place + length (spaced_texts ss)) tail

same_behind : (k : ℕ) (before : List Param) (p p' : ℕ) (x x' : List ℕ) → p ≡ p' → x ≡ x' → params_behind k before p x ≡ params_behind k before p' x'
same_behind k before p p' x x' e f = ap (λ n. params_behind k before n x) e ∙ ap (params_behind k before p') f

-- the first of some parameters
pub first_of_them : (s : Spaced) (ss : List Spaced) (p : Param) (ps before : List Param) (tail : List ℕ) → SpellEach (s ∷ ss) (p ∷ ps) → has_key (key_of p) before ≡ false → EndsItem tail
    → IsFirstParam before (given_head s.given ++ (given_string s.given ++ (spaced_texts ss ++ tail))) p (length (given_head s.given) + length (given_string s.given))
first_of_them s ss p ps before tail each new ends = record {
  given = s.given;
  rest = spaced_texts ss ++ tail;
  first = record {
    text = refl;
    is_given = each.0.given;
    ends = ends_before ss ps tail each.1 ends;
    is_new = subst (λ k. has_key k before ≡ false) (value_of_key (given_key s.given) (given_value s.given) p each.0.value) new;
  };
  value = each.0.value;
  size = refl;
}

blanks_count : (xs : List ℕ) → xs ≢ [] → 1 ≤ length xs
blanks_count [] n = absurd (n refl)
blanks_count (b ∷ bs) n = omega arith

pub passes : (ss : List Spaced) (params : List Param) (k : ℕ) (before : List Param) (place : ℕ) (x tail : List ℕ) → x ≡ spaced_texts ss ++ tail → SpellEach ss params → AreFresh before params → EndsItem tail → length x < k → Passes k before place x ss params tail
unfolding first_of_them
passes [] [] k before place x tail e each fresh ends within = record { left = k; enough = omega (arith, ap length e, within); reads = same_behind k before place (place + 0) x tail (omega arith) e }
passes [] (p ∷ ps) k before place x tail e each fresh ends within = absurd each
passes (s ∷ ss) [] k before place x tail e each fresh ends within = absurd each
passes (s ∷ ss) (p ∷ ps) zero before place x tail e each fresh ends within = absurd (omega arith)
passes (s ∷ ss) (p ∷ ps) (suc k) before place x tail e each fresh ends within =
    let y = given_head s.given ++ (given_string s.given ++ (spaced_texts ss ++ tail)) in
    let count = length (given_head s.given) + length (given_string s.given) in
    let f : IsFirstParam before y p count = first_of_them s ss p ps before tail each fresh.0 ends in
    let b = given_begins s.given (given_string s.given ++ (spaced_texts ss ++ tail)) each.0.given in
    let text : x ≡ s.blanks ++ y = e ∙ spaced_split s ss tail in
    let h : GoesOnBehind x s.blanks y = record { text = text; all = each.0.blanks.all; some = b.some; no_blank = b.no_blank } in
    let size : length x ≡ length s.blanks + length y = ap length text ∙ length-append s.blanks y in
    let rest_size : length y ≡ count + length (spaced_texts ss ++ tail) = param_length before y p count f in
    let some : 1 ≤ length s.blanks = blanks_count s.blanks each.0.blanks.some in
    let rec = passes ss ps k (placed p before) (place + length s.blanks + count) (spaced_texts ss ++ tail) tail refl each.1 fresh.1 ends (omega (arith, size, rest_size, some, within)) in
    let whole : length (spaced_texts (s ∷ ss)) ≡ length s.blanks + count + length (spaced_texts ss) = simp length-append refl in
    record {
      left = rec.left;
      enough = rec.enough;
      reads =
          param_on k before place x s.blanks y p count h (param_reads before (place + length s.blanks) y p count f)
          ∙ ap (params_behind k (placed p before) (place + length s.blanks + count)) (rest_of before y p count f)
          ∙ rec.reads
          ∙ ap (λ n. params_behind rec.left (all_placed (placed p before) ps) n tail) (omega (arith, whole));
    }
