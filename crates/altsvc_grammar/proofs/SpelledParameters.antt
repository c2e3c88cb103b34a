-- Reading parameters that are spelled so.
use Rattle.std.proofs.Common.{◌≡◌, ℕ, suc, ◌+◌, ◌-◌, ◌≤◌, Bool, true, false, cond, List, [], ◌∷◌, ◌++◌, length, codes, Option, Some, None, Result, Ok, refl, ap, ◌∙◌, subst, arith, length-append, inl, inr}
use Rattle.altsvc_grammar.proofs.ParameterLemmas.{no_parameter}
use Rattle.alt_base.specs.declared.refusal.At.{At}
use Rattle.field_text.specs.declared.text_refusal.TextRefusal.{TextRefusal}
use Rattle.field_text.specs.declared.text_refusal.TextRefusal.TheVariants.{Empty}
use Rattle.field_text.specs.Runs.{AllIn, BeginsIn}
use Rattle.field_text.specs.BlanksGrammar.{is_blank}
use Rattle.field_text.specs.BlanksReading.{read_blanks, after_blanks}
use Rattle.field_text.specs.TokenGrammar.{is_token}
use Rattle.field_text.specs.QuotedGrammar.{parts_text, QuotedRefusedAt}
use Rattle.field_text.proofs.TokenLemmas.{token_refused}
use Rattle.field_text.proofs.QuotedLemmas.{quoted_refused}
use Rattle.altsvc_grammar.specs.declared.refusal.AltRefusal.{AltRefusal}
use Rattle.altsvc_grammar.specs.declared.refusal.AltRefusal.TheVariants.{BadParameter}
use Rattle.altsvc_grammar.specs.declared.given.Given.{Given}
use Rattle.altsvc_grammar.specs.Steps.{Step, begins_with, refused}
use Rattle.altsvc_grammar.specs.ParameterReading.{is_named, is_one, ma_value, or_else, noted, note, nothing_given, terms_of, value_by_token, value_by_quoted, read_parameter_value, noted_value, after_parameter_name, parameter_by_token, read_parameter, then_parameters, parameters_from, read_parameters}
use Rattle.altsvc_grammar.specs.ParameterGrammar.{ParameterValue, Token, Quoted, value_then, value_bytes, IsToken, IsParameterValue, EndsValue, Parameter, parameters_then, AreParameters, EndsParameters, ParameterRefused}
use Rattle.altsvc_grammar.specs.TermsGrammar.{SaysMa, SaysPersist}
use Rattle.altsvc_grammar.proofs.ParameterTerms.{first_named, ma_of, ma_said, ma_is, persist_of, persist_said, persist_is}
use Rattle.altsvc_grammar.proofs.Fronts.{front_false}
use Rattle.altsvc_grammar.proofs.Spelling.{blanks_end, blanks_place, no_blank_front, no_token_front, token_read, token_is, token_after, quoted_then, quoted_read, quoted_is, quoted_after}

-- a value
pub value_read : (n p : ℕ) (v : ParameterValue) (w : List ℕ) → IsParameterValue v → EndsValue v w → p + length (value_then v w) ≡ n
    → read_parameter_value p (value_then v w) ≡ Ok (record { value = value_bytes v; place = n - length w; rest = w })
value_read n p (Token t) w valid ends place =
    ap (value_by_token p (t ++ w)) (token_read n p t w valid ends place) ∙ rw (token_is t w valid ends, token_after t w valid ends) refl
value_read n p (Quoted parts) w valid ends place =
    ap (value_by_quoted (quoted_then parts w)) (quoted_read n p parts w valid place) ∙ rw (quoted_is parts w valid, quoted_after parts w valid) refl

pub no_equals_front : (y : List ℕ) → BeginsIn is_token (61 ∷ y) → ⊥
no_equals_front y h = cc

-- a name, `=` and what follows it
pub name_read : (n p : ℕ) (given : Given) (t y : List ℕ) → IsToken t → p + length (t ++ 61 ∷ y) ≡ n
    → read_parameter given p (t ++ 61 ∷ y) ≡ noted_value given t (read_parameter_value (n - length (61 ∷ y) + 1) y)
name_read n p given t y valid place =
    ap (parameter_by_token given p (t ++ 61 ∷ y)) (token_read n p t (61 ∷ y) valid (no_equals_front y) place)
    ∙ rw (token_is t (61 ∷ y) valid (no_equals_front y), token_after t (61 ∷ y) valid (no_equals_front y)) refl

pub parameter_read : (n p : ℕ) (given : Given) (t : List ℕ) (v : ParameterValue) (w : List ℕ) → IsToken t → IsParameterValue v → EndsValue v w → p + length (t ++ 61 ∷ value_then v w) ≡ n
    → read_parameter given p (t ++ 61 ∷ value_then v w) ≡ Ok (record { value = note given t (value_bytes v); place = n - length w; rest = w })
parameter_read n p given t v w is_name valid ends place =
    let from : n - length (61 ∷ value_then v w) + 1 + length (value_then v w) ≡ n = omega (arith, length-append t (61 ∷ value_then v w)) in
    name_read n p given t (value_then v w) is_name place ∙ ap (noted_value given t) (value_read n (n - length (61 ∷ value_then v w) + 1) v w valid ends from)

-- one more for each item
abbrev pub more_than : {A : Type 0} → List A → ℕ → ℕ
more_than [] k = k
more_than (x ∷ xs) k = suc (more_than xs k)

abbrev pub noted_all : Given → List Parameter → Given
noted_all given [] = given
noted_all given (p ∷ ps) = noted_all (note given p.name (value_bytes p.value)) ps

no_semicolon_blank : (y : List ℕ) → BeginsIn is_blank (59 ∷ y) → ⊥
no_semicolon_blank y h = cc

-- blanks, a `;`, and what follows the blanks behind it
pub semicolon_read : (n p : ℕ) (given : Given) (more : Given → ℕ → List ℕ → Result (Step Given) (At AltRefusal)) (before after z : List ℕ) → AllIn is_blank before → AllIn is_blank after → (BeginsIn is_blank z → ⊥) → p + length (before ++ 59 ∷ (after ++ z)) ≡ n
    → parameters_from more given (read_blanks p (before ++ 59 ∷ (after ++ z))) (after_blanks (before ++ 59 ∷ (after ++ z))) ≡ then_parameters more (read_parameter given (n - length z) z)
semicolon_read n p given more before after z blanks blanks' ends place =
    let y = after ++ z in
    let behind = blanks_end before (59 ∷ y) blanks (no_semicolon_blank y) in
    let here : read_blanks p (before ++ 59 ∷ y) ≡ n - length (59 ∷ y) = blanks_place n p (before ++ 59 ∷ y) place ∙ ap (λ xs. n - length xs) behind in
    let inside : length (59 ∷ y) ≤ n = omega (arith, length-append before (59 ∷ y)) in
    let next : n - length (59 ∷ y) + 1 + length y ≡ n = omega arith in
    let behind' = blanks_end after z blanks' ends in
    let there : read_blanks (n - length (59 ∷ y) + 1) y ≡ n - length z = blanks_place n (n - length (59 ∷ y) + 1) y next ∙ ap (λ xs. n - length xs) behind' in
    rw (behind, here) (rw (behind', there) refl)

pub value_length : (v : ParameterValue) (w : List ℕ) → length w ≤ length (value_then v w)
value_length (Token bytes) w = omega (arith, length-append bytes w)
value_length (Quoted parts) w = omega (arith, length-append (parts_text parts) (34 ∷ w))

ends_front : (p : Parameter) (ps : List Parameter) (w : List ℕ) → AreParameters ps → EndsParameters (p ∷ ps) w → EndsValue p.value (parameters_then ps w)
ends_front p [] w are ends = ends
ends_front p (q ∷ ps) w are ends = go p.value
  where
    go : (v : ParameterValue) → EndsValue v (parameters_then (q ∷ ps) w)
    go (Token t) = no_token_front q.before (59 ∷ (q.after ++ (q.name ++ 61 ∷ value_then q.value (parameters_then ps w)))) are.0.before (λ h. cc)
    go (Quoted parts) = tt

ends_tail : (p : Parameter) (ps : List Parameter) (w : List ℕ) → EndsParameters (p ∷ ps) w → EndsParameters ps w
ends_tail p [] w ends = tt
ends_tail p (q ∷ ps) w ends = ends

-- the parameters in front are read
pub parameters_prefix : (ps : List Parameter) (n p k : ℕ) (given : Given) (w : List ℕ) → AreParameters ps → EndsParameters ps w → p + length (parameters_then ps w) ≡ n
    → read_parameters (more_than ps k) given p (parameters_then ps w) ≡ read_parameters k (noted_all given ps) (n - length w) w
parameters_prefix [] n p k given w are ends place =
    let here : p ≡ n - length w = omega arith in
    ap (λ q. read_parameters k given q w) here
parameters_prefix (q ∷ ps) n p k given w are ends place =
    let rest = parameters_then ps w in
    let z = q.name ++ 61 ∷ value_then q.value rest in
    let more = read_parameters (more_than ps k) in
    let inside : length z ≤ n = omega (arith, length-append q.before (59 ∷ (q.after ++ z)), length-append q.after z) in
    let from : n - length z + length z ≡ n = omega arith in
    let from' : n - length rest + length rest ≡ n = omega (arith, length-append q.name (61 ∷ value_then q.value rest), value_length q.value rest) in
    semicolon_read n p given more q.before q.after z are.0.before are.0.after (no_blank_front q.name (61 ∷ value_then q.value rest) are.0.name) place
    ∙ ap (then_parameters more) (parameter_read n (n - length z) given q.name q.value rest are.0.name are.0.value (ends_front q ps w are.1 ends) from)
    ∙ parameters_prefix ps n (n - length rest) k (note given q.name (value_bytes q.value)) w are.1 (ends_tail q ps w ends) from'

-- and no more of them
pub parameters_done : (n p k : ℕ) (given : Given) (blanks tail : List ℕ) → AllIn is_blank blanks → (BeginsIn is_blank tail → ⊥) → begins_with 59 tail ≡ false → p + length (blanks ++ tail) ≡ n
    → read_parameters (suc k) given p (blanks ++ tail) ≡ Ok (record { value = given; place = n - length tail; rest = tail })
parameters_done n p k given blanks tail valid ends none place =
    let behind = blanks_end blanks tail valid ends in
    let here : read_blanks p (blanks ++ tail) ≡ n - length tail = blanks_place n p (blanks ++ tail) place ∙ ap (λ xs. n - length xs) behind in
    rw (behind, here) (no_parameter (read_parameters k) given (n - length tail) tail none)

-- what they mean
abbrev ma_after : Option ℕ → List Parameter → ℕ
ma_after (Some first) ps = first
ma_after None ps = ma_of ps

ma_step : (first : Option ℕ) (p : Parameter) (ps : List Parameter) → ma_after (noted first (is_named (codes "ma") p.name) (ma_value (value_bytes p.value))) ps ≡ ma_after first (p ∷ ps)
ma_step (Some first) p ps = refl
ma_step None p ps = go (is_named (codes "ma") p.name)
  where
    go : (t : Bool) → ma_after (cond t (Some (ma_value (value_bytes p.value))) None) ps ≡ ma_said (cond t (Some (value_bytes p.value)) (first_named (codes "ma") ps))
    go true = refl
    go false = refl

ma_none : (first : Option ℕ) → or_else 86400 first ≡ ma_after first []
ma_none (Some first) = refl
ma_none None = refl

ma_noted : (ps : List Parameter) (given : Given) → or_else 86400 (noted_all given ps).ma ≡ ma_after given.ma ps
ma_noted [] given = ma_none given.ma
ma_noted (p ∷ ps) given = ma_noted ps (note given p.name (value_bytes p.value)) ∙ ma_step given.ma p ps

abbrev persist_after : Option Bool → List Parameter → Bool
persist_after (Some first) ps = first
persist_after None ps = persist_of ps

persist_step : (first : Option Bool) (p : Parameter) (ps : List Parameter) → persist_after (noted first (is_named (codes "persist") p.name) (is_one (value_bytes p.value))) ps ≡ persist_after first (p ∷ ps)
persist_step (Some first) p ps = refl
persist_step None p ps = go (is_named (codes "persist") p.name)
  where
    go : (t : Bool) → persist_after (cond t (Some (is_one (value_bytes p.value))) None) ps ≡ persist_said (cond t (Some (value_bytes p.value)) (first_named (codes "persist") ps))
    go true = refl
    go false = refl

persist_none : (first : Option Bool) → or_else false first ≡ persist_after first []
persist_none (Some first) = refl
persist_none None = refl

persist_noted : (ps : List Parameter) (given : Given) → or_else false (noted_all given ps).persist ≡ persist_after given.persist ps
persist_noted [] given = persist_none given.persist
persist_noted (p ∷ ps) given = persist_noted ps (note given p.name (value_bytes p.value)) ∙ persist_step given.persist p ps

-- what they say
pub terms_meant : (ps : List Parameter) (ma : ℕ) (persist : Bool) → SaysMa ps ma → SaysPersist ps persist → terms_of (noted_all nothing_given ps) ≡ record { ma = ma; persist = persist }
terms_meant ps ma persist h k = rw (ma_noted ps nothing_given, persist_noted ps nothing_given, ma_is ps ma h, persist_is ps persist k) refl

no_equals_after : (given : Given) (name : List ℕ) (p : ℕ) (rest : List ℕ) → begins_with 61 rest ≡ false → after_parameter_name given name p rest ≡ refused p BadParameter
no_equals_after given name p [] h = refl
no_equals_after given name p (b ∷ bs) h = rw h refl

no_value_read : (n p q : ℕ) (given : Given) (name rest : List ℕ) → IsToken name → (BeginsIn is_token rest → ⊥) → begins_with 61 rest ≡ false → q + length rest ≡ n → p + length (name ++ rest) ≡ n
    → read_parameter given p (name ++ rest) ≡ refused q BadParameter
no_value_read n p q given name rest valid ends none at place =
    let here : n - length rest ≡ q = omega arith in
    ap (parameter_by_token given p (name ++ rest)) (token_read n p name rest valid ends place)
    ∙ rw (token_is name rest valid ends, token_after name rest valid ends, here) (no_equals_after given name q rest none)

bad_value_read : (n p q r : ℕ) (reason : TextRefusal) (given : Given) (name rest : List ℕ) → IsToken name → (BeginsIn is_token rest → ⊥) → r + length rest ≡ n → QuotedRefusedAt r rest q reason → p + length (name ++ 61 ∷ rest) ≡ n
    → read_parameter given p (name ++ 61 ∷ rest) ≡ refused q BadParameter
bad_value_read n p q r reason given name rest valid ends at bad place =
    let here : n - length (61 ∷ rest) + 1 ≡ r = omega (arith, length-append name (61 ∷ rest)) in
    let value : read_parameter_value r rest ≡ refused q BadParameter =
    ap (value_by_token r rest) (token_refused r r Empty rest (refl, ends)) ∙ ap (value_by_quoted rest) (quoted_refused r q reason rest bad) in
    name_read n p given name rest valid place ∙ rw here (ap (noted_value given name) value)

-- a parameter that is refused
pub refusal_read : (n p q : ℕ) (given : Given) (z : List ℕ) → p + length z ≡ n → ParameterRefused n z q → read_parameter given p z ≡ refused q BadParameter
refusal_read n p q given z place (inl r) =
    let here : q ≡ p = omega (arith, r.place) in
    ap (parameter_by_token given p z) (token_refused p p Empty z (refl, r.no_token)) ∙ rw here refl
refusal_read n p q given z place (inr (inl r)) =
    let e : p + length (r.name ++ r.rest) ≡ n = subst (λ xs. p + length xs ≡ n) r.text place in
    rw r.text (no_value_read n p q given r.name r.rest r.is_name r.no_token (front_false 61 r.rest r.no_equals) r.place e)
refusal_read n p q given z place (inr (inr r)) =
    let e : p + length (r.name ++ 61 ∷ r.rest) ≡ n = subst (λ xs. p + length xs ≡ n) r.text place in
    rw r.text (bad_value_read n p q r.p r.reason given r.name r.rest r.is_name r.no_token r.from r.refused e)

-- no blank stands in front of a parameter that is refused
pub refusal_front : (n q : ℕ) (z : List ℕ) → ParameterRefused n z q → BeginsIn is_blank z → ⊥
refusal_front n q z (inl r) = r.no_blank
refusal_front n q z (inr (inl r)) = λ h. no_blank_front r.name r.rest r.is_name (subst (BeginsIn is_blank) r.text h)
refusal_front n q z (inr (inr r)) = λ h. no_blank_front r.name (61 ∷ r.rest) r.is_name (subst (BeginsIn is_blank) r.text h)
