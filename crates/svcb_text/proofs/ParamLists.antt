-- The parameters of a text: what is read, against the grammar.
use Rattle.std.proofs.Common.{◌≡◌, ◌≢◌, ℕ, zero, suc, ◌+◌, ◌<◌, ◌≤◌, false, List, [], ◌∷◌, ◌++◌, length, drop, Ok, Err, refl, ap, sym, ◌∙◌, subst, arith}
use Rattle.std.proofs.lemmas.List.{append_assoc, append-nil, length-append, drop_at}
use Rattle.dns_names.specs.Names.{AreBytes}
use Rattle.field_text.specs.BlanksGrammar.{is_blank}
use Rattle.field_text.specs.BlanksReading.{after_blanks}
use Rattle.field_text.specs.Runs.{AllIn, BeginsIn, run_of}
use Rattle.field_text.proofs.RunLemmas.{longest_run}
use Rattle.svcb_wire.specs.declared.param.Param.{Param}
use Rattle.svcb_wire.specs.Usable.{has_key}
use Rattle.dns_names.proofs.Bytes.{bytes_back}
use Rattle.svcb_text.specs.declared.refusal.RecordTextRefusal.{RecordTextRefusal}
use Rattle.svcb_text.specs.Placing.{placed}
use Rattle.svcb_values.specs.StringGrammar.{EndsItem}
use Rattle.svcb_text.specs.TextGrammar.{given_key, given_head, given_string, given_value, AreBlanks, Spaced, spaced_texts, SpellEach}
use Rattle.svcb_text.specs.TextReading.{ParamAnswer, ParamsAnswer, first_param, by_param, params_from, params_behind}
use Rattle.svcb_values.proofs.ValueLaws.{value_of_key}
use Rattle.svcb_text.proofs.ParamKeys.{all_placed, AreFresh}
use Rattle.svcb_text.proofs.Items.{blanks_between}
use Rattle.svcb_text.proofs.FirstParam.{IsFirstParam, ParamStops, ParamSays, first_says}
use Rattle.alt_base.proofs.Lists.{cons_not_nil}

-- the parameters that were read to the end, beside some
pub record ParamsAre (before : List Param) (x : List ℕ) (found : List Param) : Type 0 where
  pub spaced : List Spaced
  pub params : List Param
  pub behind : List ℕ
  pub text : x ≡ spaced_texts spaced ++ behind
  pub each : SpellEach spaced params
  pub blanks : AllIn is_blank behind
  pub fresh : AreFresh before params
  pub are : found ≡ all_placed before params

-- where the reading stops, behind whole parameters
pub record ParamsStop (before : List Param) (place : ℕ) (x : List ℕ) (q : ℕ) (reason : RecordTextRefusal) : Type 0 where
  pub spaced : List Spaced
  pub params : List Param
  pub blanks : List ℕ
  pub rest : List ℕ
  pub text : x ≡ spaced_texts spaced ++ (blanks ++ rest)
  pub each : SpellEach spaced params
  pub fresh : AreFresh before params
  pub are_blanks : AreBlanks blanks
  pub some : rest ≢ []
  pub no_blank : BeginsIn is_blank rest → ⊥
  pub stops : ParamStops (all_placed before params) (place + length (spaced_texts spaced) + length blanks) rest q reason

abbrev pub ParamsSays : List Param → ℕ → List ℕ → ParamsAnswer → Type 0
ParamsSays before place x (Ok found) = ParamsAre before x found
ParamsSays before place x (Err at) = ParamsStop before place x at.place at.reason

-- blanks in front of a rest
record IsBehind (x blanks rest : List ℕ) : Type 0 where
  pub text : x ≡ blanks ++ rest
  pub all : AllIn is_blank blanks
  pub longest : BeginsIn is_blank rest → ⊥

no_params : (before : List Param) (place : ℕ) (x blanks : List ℕ) → IsBehind x blanks [] → ParamsSays before place x (Ok before)
no_params before place x blanks h = record {
  spaced = [];
  params = [];
  behind = x;
  text = refl;
  each = tt;
  blanks = subst (AllIn is_blank) (sym (h.text ∙ append-nil blanks)) h.all;
  fresh = tt;
  are = refl;
}

regroup : (a b c d e : List ℕ) → a ++ (b ++ (c ++ (d ++ e))) ≡ ((a ++ (b ++ c)) ++ d) ++ e
regroup a b c d e = simp append_assoc

-- a parameter in front of those behind it
push_text : (s : Spaced) (ss : List Spaced) (x y tail rest : List ℕ) → x ≡ s.blanks ++ y → y ≡ given_head s.given ++ (given_string s.given ++ rest) → rest ≡ spaced_texts ss ++ tail → x ≡ spaced_texts (s ∷ ss) ++ tail
push_text s ss x y tail rest e f g =
    e ∙ ap (λ xs. s.blanks ++ xs) (f ∙ ap (λ xs. given_head s.given ++ (given_string s.given ++ xs)) g) ∙ regroup s.blanks (given_head s.given) (given_string s.given) (spaced_texts ss) tail

spaced_length : (s : Spaced) (ss : List Spaced) → length (spaced_texts (s ∷ ss)) ≡ length s.blanks + (length (given_head s.given) + length (given_string s.given)) + length (spaced_texts ss)
spaced_length s ss = simp length-append refl

push_says : (a : ParamsAnswer) (before : List Param) (place count : ℕ) (param : Param) (x blanks y : List ℕ) → IsBehind x blanks y → AreBlanks blanks → (f : IsFirstParam before y param count)
    → ParamsSays (placed param before) (place + length blanks + count) f.rest a → ParamsSays before place x a
push_says (Ok found) before place count param x blanks y h some f behind =
    let s : Spaced = record { blanks = blanks; given = f.given } in
    record {
      spaced = s ∷ behind.spaced;
      params = param ∷ behind.params;
      behind = behind.behind;
      text = push_text s behind.spaced x y behind.behind f.rest h.text f.first.text behind.text;
      each = (record { blanks = some; given = f.first.is_given; value = f.value }, behind.each);
      blanks = behind.blanks;
      fresh = (subst (λ k. has_key k before ≡ false) (sym (value_of_key (given_key f.given) (given_value f.given) param f.value)) f.first.is_new, behind.fresh);
      are = behind.are;
    }
push_says (Err at) before place count param x blanks y h some f behind =
    let s : Spaced = record { blanks = blanks; given = f.given } in
    let size : length (spaced_texts (s ∷ behind.spaced)) ≡ length blanks + (length (given_head f.given) + length (given_string f.given)) + length (spaced_texts behind.spaced) = spaced_length s behind.spaced in
    record {
      spaced = s ∷ behind.spaced;
      params = param ∷ behind.params;
      blanks = behind.blanks;
      rest = behind.rest;
      text = push_text s behind.spaced x y (behind.blanks ++ behind.rest) f.rest h.text f.first.text behind.text;
      each = (record { blanks = some; given = f.first.is_given; value = f.value }, behind.each);
      fresh = (subst (λ k. has_key k before ≡ false) (sym (value_of_key (given_key f.given) (given_value f.given) param f.value)) f.first.is_new, behind.fresh);
      are_blanks = behind.are_blanks;
      some = behind.some;
      no_blank = behind.no_blank;
      stops = subst (λ p. ParamStops (all_placed (placed param before) behind.params) p behind.rest at.place at.reason) (omega (arith, size, f.size)) behind.stops;
    }

abbrev Later : ℕ → Type 0
Later k = (before : List Param) (place : ℕ) (x : List ℕ) → AreBytes x → EndsItem x → length x < k → ParamsSays before place x (params_behind k before place x)

-- what is behind a parameter
pub rest_of : (before : List Param) (y : List ℕ) (param : Param) (count : ℕ) → (f : IsFirstParam before y param count) → drop count y ≡ f.rest
rest_of before y param count f =
    let text : y ≡ (given_head f.given ++ given_string f.given) ++ f.rest = f.first.text ∙ sym (append_assoc (given_head f.given) (given_string f.given) f.rest) in
    let size : count ≡ length (given_head f.given ++ given_string f.given) = f.size ∙ sym (length-append (given_head f.given) (given_string f.given)) in
    ap (drop count) text ∙ drop_at (given_head f.given ++ given_string f.given) f.rest count (sym size)

pub param_length : (before : List Param) (y : List ℕ) (param : Param) (count : ℕ) → (f : IsFirstParam before y param count) → length y ≡ count + length f.rest
param_length before y param count f = omega (arith, ap length f.first.text, length-append (given_head f.given) (given_string f.given ++ f.rest), length-append (given_string f.given) f.rest, f.size)

param_bytes : (before : List Param) (y : List ℕ) (param : Param) (count : ℕ) → (f : IsFirstParam before y param count) → AreBytes y → AreBytes f.rest
param_bytes before y param count f bytes = bytes_back (given_string f.given) f.rest (bytes_back (given_head f.given) (given_string f.given ++ f.rest) (subst AreBytes f.first.text bytes))

step_says : (r : ParamAnswer) (k : ℕ) (before : List Param) (place : ℕ) (x blanks y : List ℕ) → AreBytes y → IsBehind x blanks y → AreBlanks blanks → y ≢ [] → length x < suc k → ParamSays before (place + length blanks) y r → Later k
    → ParamsSays before place x (by_param r before (place + length blanks) y (params_behind k))
step_says (Err at) k before place x blanks y bytes h some is_some within says later = record {
  spaced = [];
  params = [];
  blanks = blanks;
  rest = y;
  text = h.text;
  each = tt;
  fresh = tt;
  are_blanks = some;
  some = is_some;
  no_blank = h.longest;
  stops = subst (λ p. ParamStops before p y at.place at.reason) (omega arith) says;
}
step_says (Ok found) k before place x blanks y bytes h some is_some within says later =
    let rest : drop found.1 y ≡ says.rest = rest_of before y found.0 found.1 says in
    let less : 1 ≤ length blanks = above blanks some.some in
    let size : length x ≡ length blanks + length y = ap length h.text ∙ length-append blanks y in
    subst (λ xs. ParamsSays before place x (params_behind k (placed found.0 before) (place + length blanks + found.1) xs)) (sym rest)
    (push_says (params_behind k (placed found.0 before) (place + length blanks + found.1) says.rest) before place found.1 found.0 x blanks y h some says
    (later (placed found.0 before) (place + length blanks + found.1) says.rest (param_bytes before y found.0 found.1 says bytes) says.first.ends (omega (arith, param_length before y found.0 found.1 says, size, less, within))))
  where
    above : (xs : List ℕ) → xs ≢ [] → 1 ≤ length xs
    above [] n = absurd (n refl)
    above (b ∷ bs) n = omega arith

from_says : (k : ℕ) (before : List Param) (place : ℕ) (x blanks y : List ℕ) → AreBytes y → EndsItem x → IsBehind x blanks y → length x < suc k → Later k → ParamsSays before place x (params_from (params_behind k) before (place + length blanks) y)
from_says k before place x blanks [] bytes ends h within later = no_params before place x blanks h
from_says k before place x blanks (b ∷ bs) bytes ends h within later =
    step_says (first_param before (place + length blanks) (b ∷ bs)) k before place x blanks (b ∷ bs) bytes h (record { some = blanks_between x blanks (b ∷ bs) ends h.text h.longest (cons_not_nil b bs); all = h.all }) (cons_not_nil b bs) within
    (first_says before (place + length blanks) (b ∷ bs) bytes) later

pub params_say : (k : ℕ) → Later k
params_say zero before place x bytes ends within = absurd (omega arith)
params_say (suc k) before place x bytes ends within =
    let s = longest_run is_blank x in
    from_says k before place x (run_of is_blank x) (after_blanks x) (bytes_back (run_of is_blank x) (after_blanks x) (subst AreBytes s.text bytes)) ends (record { text = s.text; all = s.valid; longest = s.longest }) within (params_say k)
