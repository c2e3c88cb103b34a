-- Each text behind an authority is parameters and what follows them, or is refused.
use Rattle.std.proofs.Common.{◌≡◌, ◌⊎◌, ℕ, zero, suc, ◌+◌, ◌-◌, ◌≤◌, ◌<◌, Bool, true, false, List, [], ◌∷◌, ◌++◌, length, refl, ap, ◌∙◌, subst, arith, length-append, inl, inr}
use Rattle.field_text.specs.declared.text_refusal.TextRefusal.{TextRefusal}
use Rattle.field_text.specs.Runs.{AllIn, BeginsIn, IsLongestRun, run_of, after_run}
use Rattle.field_text.specs.BlanksGrammar.{is_blank}
use Rattle.field_text.specs.TokenGrammar.{is_token}
use Rattle.field_text.specs.QuotedGrammar.{Part, AreParts, SpellsQuoted, QuotedRefusedAt}
use Rattle.field_text.proofs.RunLemmas.{longest_run}
use Rattle.field_text.proofs.QuotedLemmas.{one_quoted_of}
use Rattle.altsvc_grammar.specs.Steps.{begins_with}
use Rattle.altsvc_grammar.specs.ParameterGrammar.{IsToken, ParameterValue, Token, Quoted, value_then, IsParameterValue, EndsValue, Parameter, parameters_then, AreParameters, EndsParameters, ParameterRefused}
use Rattle.altsvc_grammar.proofs.Fronts.{true_front, false_front}
use Rattle.altsvc_grammar.proofs.Spelling.{quoted_then}
use Rattle.altsvc_grammar.proofs.SpelledParameters.{value_length}

-- a run of token bytes, which isn't empty, or none
pub record TokenFront (z : List ℕ) : Type 0 where
  pub token : List ℕ
  pub rest : List ℕ
  pub text : z ≡ token ++ rest
  pub valid : IsToken token
  pub longest : BeginsIn is_token rest → ⊥

pub token_front : (z : List ℕ) → TokenFront z ⊎ (BeginsIn is_token z → ⊥)
token_front z = go (run_of is_token z) (after_run is_token z) (longest_run is_token z)
  where
    go : (t rest : List ℕ) → IsLongestRun is_token z t rest → TokenFront z ⊎ (BeginsIn is_token z → ⊥)
    go [] rest r = inr (λ h. r.longest (subst (BeginsIn is_token) r.text h))
    go (b ∷ bs) rest r = inl (record { token = b ∷ bs; rest = rest; text = r.text; valid = record { some = λ e. cc; valid = r.valid }; longest = r.longest })

-- a quoted string, or its refusal
pub record QuotedFront (z : List ℕ) : Type 0 where
  pub parts : List Part
  pub rest : List ℕ
  pub valid : AreParts parts
  pub text : z ≡ quoted_then parts rest

pub record QuotedRefused (n : ℕ) (z : List ℕ) : Type 0 where
  pub p : ℕ
  pub q : ℕ
  pub reason : TextRefusal
  pub from : p + length z ≡ n
  pub refused : QuotedRefusedAt p z q reason

pub quoted_front : (n : ℕ) (z : List ℕ) → length z ≤ n → QuotedFront z ⊎ QuotedRefused n z
quoted_front n z short = go (one_quoted_of (n - length z) z).some
  where
    go : ((q : ℕ) × SpellsQuoted (n - length z) z q) ⊎ ((q : ℕ) × (r : TextRefusal) × QuotedRefusedAt (n - length z) z q r) → QuotedFront z ⊎ QuotedRefused n z
    go (inl s) = let t = s.1 in inl (record { parts = t.parts; rest = t.rest; valid = t.valid; text = t.text })
    go (inr s) = inr (record { p = n - length z; q = s.0; reason = s.1; from = omega arith; refused = s.2 })

-- a parameter, or its refusal
pub record ParameterFront (z : List ℕ) : Type 0 where
  pub name : List ℕ
  pub value : ParameterValue
  pub rest : List ℕ
  pub text : z ≡ name ++ 61 ∷ value_then value rest
  pub is_name : IsToken name
  pub valid : IsParameterValue value
  pub ends : EndsValue value rest

abbrev pub ParameterOutcome : ℕ → List ℕ → Type 0
ParameterOutcome n z = ParameterFront z ⊎ ((q : ℕ) × ParameterRefused n z q)

value_outcome : (n : ℕ) (z name w : List ℕ) → z ≡ name ++ 61 ∷ w → IsToken name → length z ≤ n → ParameterOutcome n z
value_outcome n z name w text valid short = go (token_front w)
  where
    inside : length w ≤ n
    inside = omega (arith, ap length text, length-append name (61 ∷ w))

    quoted : (BeginsIn is_token w → ⊥) → QuotedFront w ⊎ QuotedRefused n w → ParameterOutcome n z
    quoted none (inl t) = inl (record { name = name; value = Quoted t.parts; rest = t.rest; text = text ∙ ap (λ xs. name ++ 61 ∷ xs) t.text; is_name = valid; valid = t.valid; ends = tt })
    quoted none (inr t) = inr (t.q, inr (inr (record { name = name; rest = w; p = t.p; reason = t.reason; text = text; is_name = valid; no_token = none; from = t.from; refused = t.refused })))

    go : TokenFront w ⊎ (BeginsIn is_token w → ⊥) → ParameterOutcome n z
    go (inl t) = inl (record { name = name; value = Token t.token; rest = t.rest; text = text ∙ ap (λ xs. name ++ 61 ∷ xs) t.text; is_name = valid; valid = t.valid; ends = t.longest })
    go (inr none) = quoted none (quoted_front n w inside)

pub parameter_outcome : (n : ℕ) (z : List ℕ) → length z ≤ n → (BeginsIn is_blank z → ⊥) → ParameterOutcome n z
parameter_outcome n z short blank = go (token_front z)
  where
    named : (t : TokenFront z) → (b : Bool) → begins_with 61 t.rest ≡ b → ParameterOutcome n z
    named t true is = let e = true_front 61 t.rest is in value_outcome n z t.token e.0 (t.text ∙ ap (λ xs. t.token ++ xs) e.1) t.valid short
    named t false is = inr (n - length t.rest, inr (inl (record { name = t.token; rest = t.rest; text = t.text; is_name = t.valid; no_token = t.longest; no_equals = false_front 61 t.rest is; place = omega (arith, ap length t.text, length-append t.token t.rest) })))

    go : TokenFront z ⊎ (BeginsIn is_token z → ⊥) → ParameterOutcome n z
    go (inl t) = named t (begins_with 61 t.rest) refl
    go (inr none) = inr (n - length z, inl (record { no_token = none; no_blank = blank; place = omega arith }))

-- blanks in front
pub record BlanksFront (w : List ℕ) : Type 0 where
  pub blanks : List ℕ
  pub rest : List ℕ
  pub text : w ≡ blanks ++ rest
  pub valid : AllIn is_blank blanks
  pub longest : BeginsIn is_blank rest → ⊥

pub blanks_front : (w : List ℕ) → BlanksFront w
blanks_front w = let r = longest_run is_blank w in record { blanks = run_of is_blank w; rest = after_run is_blank w; text = r.text; valid = r.valid; longest = r.longest }

-- parameters and what follows them, or the refusal of one
pub record ParametersFront (w : List ℕ) : Type 0 where
  pub ps : List Parameter
  pub back : List ℕ
  pub tail : List ℕ
  pub text : w ≡ parameters_then ps (back ++ tail)
  pub valid : AreParameters ps
  pub blanks : AllIn is_blank back
  pub no_blank : BeginsIn is_blank tail → ⊥
  pub no_semicolon : begins_with 59 tail ≡ false
  pub ends : EndsParameters ps (back ++ tail)

pub record ParametersRefused (n : ℕ) (w : List ℕ) : Type 0 where
  pub ps : List Parameter
  pub before : List ℕ
  pub after : List ℕ
  pub z : List ℕ
  pub q : ℕ
  pub text : w ≡ parameters_then ps (before ++ 59 ∷ (after ++ z))
  pub valid : AreParameters ps
  pub blanks_before : AllIn is_blank before
  pub blanks_after : AllIn is_blank after
  pub refused : ParameterRefused n z q

ends_more : (p : Parameter) (ps : List Parameter) (v w : List ℕ) → v ≡ parameters_then ps w → EndsValue p.value v → EndsParameters ps w → EndsParameters (p ∷ ps) w
ends_more p [] v w text last ends = subst (EndsValue p.value) text last
ends_more p (q ∷ ps) v w text last ends = ends

pub parameters_outcome : (k n : ℕ) (w : List ℕ) → length w < k → length w ≤ n → ParametersFront w ⊎ ParametersRefused n w
parameters_outcome zero n w small short = absurd (omega arith)
parameters_outcome (suc k) n w small short = go (blanks_front w) (λ v less within. parameters_outcome k n v less within)
  where
    Rest : Type 0
    Rest = (v : List ℕ) → length v < k → length v ≤ n → ParametersFront v ⊎ ParametersRefused n v

    further : (b : BlanksFront w) (y : List ℕ) → b.rest ≡ 59 ∷ y → (c : BlanksFront y) (f : ParameterFront c.rest) → ParametersFront f.rest ⊎ ParametersRefused n f.rest → ParametersFront w ⊎ ParametersRefused n w
    further b y e c f (inl r) =
        let p : Parameter = record { before = b.blanks; after = c.blanks; name = f.name; value = f.value } in
        inl (record {
          ps = p ∷ r.ps;
          back = r.back;
          tail = r.tail;
          text = b.text ∙ ap (λ xs. b.blanks ++ xs) (e ∙ ap (λ xs. 59 ∷ xs) (c.text ∙ ap (λ xs. c.blanks ++ xs) (f.text ∙ ap (λ xs. f.name ++ 61 ∷ value_then f.value xs) r.text)));
          valid = (record { before = b.valid; after = c.valid; name = f.is_name; value = f.valid }, r.valid);
          blanks = r.blanks;
          no_blank = r.no_blank;
          no_semicolon = r.no_semicolon;
          ends = ends_more p r.ps f.rest (r.back ++ r.tail) r.text f.ends r.ends;
        })
    further b y e c f (inr r) =
        let p : Parameter = record { before = b.blanks; after = c.blanks; name = f.name; value = f.value } in
        inr (record {
          ps = p ∷ r.ps;
          before = r.before;
          after = r.after;
          z = r.z;
          q = r.q;
          text = b.text ∙ ap (λ xs. b.blanks ++ xs) (e ∙ ap (λ xs. 59 ∷ xs) (c.text ∙ ap (λ xs. c.blanks ++ xs) (f.text ∙ ap (λ xs. f.name ++ 61 ∷ value_then f.value xs) r.text)));
          valid = (record { before = b.valid; after = c.valid; name = f.is_name; value = f.valid }, r.valid);
          blanks_before = r.blanks_before;
          blanks_after = r.blanks_after;
          refused = r.refused;
        })

    one : (b : BlanksFront w) (y : List ℕ) → b.rest ≡ 59 ∷ y → (c : BlanksFront y) → ParameterOutcome n c.rest → Rest → ParametersFront w ⊎ ParametersRefused n w
    one b y e c (inl f) rest =
        let smaller : length f.rest < length w = omega (arith, ap length b.text, length-append b.blanks b.rest, ap length e, ap length c.text, length-append c.blanks c.rest, ap length f.text, length-append f.name (61 ∷ value_then f.value f.rest), value_length f.value f.rest) in
        let less : length f.rest < k = omega arith in
        let within : length f.rest ≤ n = omega arith in
        further b y e c f (rest f.rest less within)
    one b y e c (inr f) rest = inr (record {
      ps = [];
      before = b.blanks;
      after = c.blanks;
      z = c.rest;
      q = f.0;
      text = b.text ∙ ap (λ xs. b.blanks ++ xs) (e ∙ ap (λ xs. 59 ∷ xs) c.text);
      valid = tt;
      blanks_before = b.valid;
      blanks_after = c.valid;
      refused = f.1;
    })

    semicolon : (b : BlanksFront w) → (t : Bool) → begins_with 59 b.rest ≡ t → Rest → ParametersFront w ⊎ ParametersRefused n w
    semicolon b false is rest = inl (record { ps = []; back = b.blanks; tail = b.rest; text = b.text; valid = tt; blanks = b.valid; no_blank = b.longest; no_semicolon = is; ends = tt })
    semicolon b true is rest =
        let e = true_front 59 b.rest is in
        let c = blanks_front e.0 in
        let inside : length c.rest ≤ n = omega (arith, ap length b.text, length-append b.blanks b.rest, ap length e.1, ap length c.text, length-append c.blanks c.rest) in
        one b e.0 e.1 c (parameter_outcome n c.rest inside c.longest) rest

    go : BlanksFront w → Rest → ParametersFront w ⊎ ParametersRefused n w
    go b rest = semicolon b (begins_with 59 b.rest) refl rest
