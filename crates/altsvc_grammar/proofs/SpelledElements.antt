-- Reading an element that is spelled so, or that is refused.
use Rattle.std.proofs.Common.{◌≡◌, ◌≢◌, ℕ, suc, ◌+◌, ◌-◌, ◌≤◌, ◌<◌, Bool, true, false, nat_eq, List, [], ◌∷◌, ◌++◌, length, codes, All, Option, Ok, refl, ap, sym, ◌∙◌, subst, arith, length-append, append_assoc}
use Rattle.std.specs.Cmp.Lexicographic.{pointwise}
use Rattle.alt_base.proofs.Lists.{true_text}
use Rattle.altsvc_grammar.proofs.ElementLemmas.{no_equals}
use Rattle.field_text.specs.declared.text_refusal.TextRefusal.{TextRefusal}
use Rattle.field_text.specs.declared.text_refusal.TextRefusal.TheVariants.{Empty}
use Rattle.field_text.specs.Runs.{AllIn, BeginsIn}
use Rattle.field_text.specs.BlanksGrammar.{is_blank}
use Rattle.field_text.specs.BlanksReading.{read_blanks}
use Rattle.field_text.specs.TokenGrammar.{is_token}
use Rattle.field_text.specs.QuotedGrammar.{Part, parts_text, parts_bytes, AreParts, QuotedRefusedAt}
use Rattle.field_text.specs.QuotedReading.{read_quoted}
use Rattle.field_text.proofs.TokenLemmas.{token_refused}
use Rattle.field_text.proofs.QuotedLemmas.{quoted_refused}
use Rattle.origin_values.specs.declared.host.Host.{Host}
use Rattle.altsvc_grammar.specs.declared.refusal.AltRefusal.TheVariants.{BadToken, BadPercent, NoEquals, BadQuoted, BadAuthority, BadParameter}
use Rattle.altsvc_grammar.specs.declared.alt_key.AltKey.{AltKey}
use Rattle.altsvc_grammar.specs.declared.element.Element as code
use Rattle.altsvc_grammar.specs.declared.element.Element.TheVariants as code_element
use Rattle.altsvc_grammar.specs.Steps.{begins_with, refused}
use Rattle.altsvc_grammar.specs.Written.{encoded_byte, encoded}
use Rattle.altsvc_grammar.specs.ProtocolReading.{read_protocol}
use Rattle.altsvc_grammar.specs.AuthorityReading.{read_authority}
use Rattle.altsvc_grammar.specs.AuthorityGrammar.{IsProtocol, SpellsAuthority}
use Rattle.altsvc_grammar.specs.ParameterReading.{read_parameters, nothing_given, then_parameters}
use Rattle.altsvc_grammar.specs.ParameterGrammar.{IsToken, ParameterValue, Token, Quoted, value_then, EndsValue, Parameter, parameters_then, EndsParameters, ParameterRefused}
use Rattle.altsvc_grammar.specs.ValueReading.{read_element, element_by_token, after_element_token, lone_token, with_protocol, authority_by_quoted, with_authority, with_terms}
use Rattle.altsvc_grammar.specs.ValueGrammar.{Alternative, alternative_then, IsAlternative, Element, Clear, Offered, element_then, IsElement}
use Rattle.altsvc_grammar.proofs.Spelling.{blanks_end, blanks_place, no_token_front, token_read, token_is, token_after, quoted_then, quoted_read, quoted_is, quoted_after}
use Rattle.altsvc_grammar.proofs.Percents.{protocol_read, long_protocol_read, bad_percent_read, encoded_token, bad_token}
use Rattle.altsvc_grammar.proofs.Authorities.{authority_read, no_authority}
use Rattle.altsvc_grammar.proofs.SpelledParameters.{no_equals_front, value_length, more_than, noted_all, parameters_prefix, parameters_done, semicolon_read, terms_meant, refusal_read, refusal_front}

-- a token in front
pub by_token : (most n p : ℕ) (t y : List ℕ) → IsToken t → (BeginsIn is_token y → ⊥) → p + length (t ++ y) ≡ n
    → read_element most p (t ++ y) ≡ after_element_token most p t (n - length y) y
by_token most n p t y valid ends place =
    ap (element_by_token most p (t ++ y)) (token_read n p t y valid ends place) ∙ rw (token_is t y valid ends, token_after t y valid ends) refl

-- a token and `=`
pub by_equals : (most n p : ℕ) (t y : List ℕ) → IsToken t → p + length (t ++ 61 ∷ y) ≡ n
    → read_element most p (t ++ 61 ∷ y) ≡ with_protocol most (n - length (61 ∷ y) + 1) y (read_protocol p t)
by_equals most n p t y valid place = by_token most n p t (61 ∷ y) valid (no_equals_front y) place

pub clear_token : IsToken (codes "clear")
clear_token = record { some = λ e. cc; valid = (refl, (refl, (refl, (refl, (refl, tt))))) }

pub clear_read : (most n p : ℕ) (blanks tail : List ℕ) → AllIn is_blank blanks → (BeginsIn is_blank tail → ⊥) → (BeginsIn is_token (blanks ++ tail) → ⊥) → begins_with 61 (blanks ++ tail) ≡ false → p + length (codes "clear" ++ (blanks ++ tail)) ≡ n
    → read_element most p (codes "clear" ++ (blanks ++ tail)) ≡ Ok (record { value = code_element.Clear; place = n - length tail; rest = tail })
clear_read most n p blanks tail valid ends no_token none place =
    let w = blanks ++ tail in
    let inside : n - length w + length w ≡ n = omega (arith, length-append (codes "clear") w) in
    let behind = blanks_end blanks tail valid ends in
    let there : read_blanks (n - length w) w ≡ n - length tail = blanks_place n (n - length w) w inside ∙ ap (λ xs. n - length xs) behind in
    by_token most n p (codes "clear") w clear_token no_token place ∙ no_equals most p (n - length w) (codes "clear") w none ∙ rw (there, behind) refl

not_clear : (t : List ℕ) (place : ℕ) (rest : List ℕ) → t ≢ codes "clear" → lone_token t place rest ≡ refused place NoEquals
not_clear t place rest other = go (pointwise nat_eq t (codes "clear")) refl
  where
    go : (b : Bool) → pointwise nat_eq t (codes "clear") ≡ b → lone_token t place rest ≡ refused place NoEquals
    go true is = absurd (other (true_text t (codes "clear") is))
    go false is = rw is refl

pub no_equals_read : (most n p q : ℕ) (t y : List ℕ) → IsToken t → t ≢ codes "clear" → (BeginsIn is_token y → ⊥) → begins_with 61 y ≡ false → q + length y ≡ n → p + length (t ++ y) ≡ n
    → read_element most p (t ++ y) ≡ refused q NoEquals
no_equals_read most n p q t y valid other ends none at place =
    let here : n - length y ≡ q = omega arith in
    by_token most n p t y valid ends place ∙ no_equals most p (n - length y) t y none ∙ not_clear t (n - length y) y other ∙ rw here refl

-- a protocol and `=`
pub by_protocol : (most n p : ℕ) (proto y : List ℕ) → IsProtocol proto → p + length (encoded proto ++ 61 ∷ y) ≡ n
    → read_element most p (encoded proto ++ 61 ∷ y) ≡ authority_by_quoted most proto (n - length (61 ∷ y) + 1) y (read_quoted (n - length (61 ∷ y) + 1) y)
by_protocol most n p proto y valid place =
    by_equals most n p (encoded proto) y (encoded_token proto valid.some) place ∙ ap (with_protocol most (n - length (61 ∷ y) + 1) y) (protocol_read p proto valid)

-- a quoted string behind it
pub by_authority : (most n p : ℕ) (proto : List ℕ) (parts : List Part) (y : List ℕ) → IsProtocol proto → AreParts parts → p + length (encoded proto ++ 61 ∷ quoted_then parts y) ≡ n
    → read_element most p (encoded proto ++ 61 ∷ quoted_then parts y) ≡ with_authority most proto (n - length (quoted_then parts y)) (n - length y) y (read_authority (parts_bytes parts))
by_authority most n p proto parts y valid are place =
    let x = quoted_then parts y in
    let opening : n - length (61 ∷ x) + 1 ≡ n - length x = omega (arith, length-append (encoded proto) (61 ∷ x)) in
    let from : n - length x + length x ≡ n = omega (arith, length-append (encoded proto) (61 ∷ x)) in
    by_protocol most n p proto x valid place
    ∙ rw opening (ap (authority_by_quoted most proto (n - length x) x) (quoted_read n (n - length x) parts y are from) ∙ rw (quoted_is parts y are, quoted_after parts y are) refl)

abbrev pub element_meant : Element → code.Element
element_meant Clear = code_element.Clear
element_meant (Offered a) = code_element.Alternative (record { proto = a.proto; host = a.host; port = a.port }) (record { ma = a.ma; persist = a.persist })

-- an authority behind it
pub by_parameters : (most n p : ℕ) (a : Alternative) (w : List ℕ) → IsAlternative a → p + length (alternative_then a w) ≡ n
    → read_element most p (alternative_then a w) ≡ with_terms (record { proto = a.proto; host = a.host; port = a.port }) (read_parameters most nothing_given (n - length (parameters_then a.parameters w)) (parameters_then a.parameters w))
by_parameters most n p a w valid place =
    by_authority most n p a.proto a.parts (parameters_then a.parameters w) valid.proto valid.parts place
    ∙ rw (authority_read (parts_bytes a.parts) a.host a.port valid.authority) refl

parameters_inside : (n p : ℕ) (a : Alternative) (w : List ℕ) → p + length (alternative_then a w) ≡ n → length (parameters_then a.parameters w) ≤ n
parameters_inside n p a w place =
    let y = parameters_then a.parameters w in
    omega (arith, length-append (encoded a.proto) (61 ∷ quoted_then a.parts y), length-append (parts_text a.parts) (34 ∷ y))

-- the parameters in front
pub by_prefix : (n p k : ℕ) (a : Alternative) (w : List ℕ) → IsAlternative a → EndsParameters a.parameters w → p + length (alternative_then a w) ≡ n
    → read_element (more_than a.parameters k) p (alternative_then a w) ≡ with_terms (record { proto = a.proto; host = a.host; port = a.port }) (read_parameters k (noted_all nothing_given a.parameters) (n - length w) w)
by_prefix n p k a w valid ends place =
    let y = parameters_then a.parameters w in
    let inside = parameters_inside n p a w place in
    let from : n - length y + length y ≡ n = omega arith in
    by_parameters (more_than a.parameters k) n p a w valid place
    ∙ ap (with_terms (record { proto = a.proto; host = a.host; port = a.port })) (parameters_prefix a.parameters n (n - length y) k nothing_given w valid.parameters ends from)

-- each parameter has bytes
pub parameters_count : (ps : List Parameter) (w : List ℕ) → length ps + length w ≤ length (parameters_then ps w)
parameters_count [] w = omega arith
parameters_count (q ∷ ps) w =
    let rest = parameters_then ps w in
    let z = q.name ++ 61 ∷ value_then q.value rest in
    omega (arith, parameters_count ps w, value_length q.value rest, length-append q.before (59 ∷ (q.after ++ z)), length-append q.after z, length-append q.name (61 ∷ value_then q.value rest))

pub alternative_count : (a : Alternative) (w : List ℕ) → length a.parameters + length w ≤ length (alternative_then a w)
alternative_count a w =
    let y = parameters_then a.parameters w in
    omega (arith, parameters_count a.parameters w, length-append (encoded a.proto) (61 ∷ quoted_then a.parts y), length-append (parts_text a.parts) (34 ∷ y))

pub more_than_is : {A : Type 0} (xs : List A) (k : ℕ) → more_than xs k ≡ length xs + k
more_than_is [] k = omega arith
more_than_is (x ∷ xs) k = omega (arith, more_than_is xs k)

enough : {A : Type 0} (xs : List A) (most : ℕ) → length xs < most → more_than xs (suc (most - 1 - length xs)) ≡ most
enough xs most h = omega (arith, more_than_is xs (suc (most - 1 - length xs)))

-- where an element ends
abbrev pub Ends : Element → List ℕ → List ℕ → Type 0
Ends Clear w tail = (BeginsIn is_token w → ⊥) × (begins_with 61 w ≡ false)
Ends (Offered a) w tail = EndsParameters a.parameters w × (begins_with 59 tail ≡ false)

offered_read : (n p k : ℕ) (a : Alternative) (blanks tail : List ℕ) → IsAlternative a → AllIn is_blank blanks → (BeginsIn is_blank tail → ⊥) → EndsParameters a.parameters (blanks ++ tail) → begins_with 59 tail ≡ false
    → p + length (alternative_then a (blanks ++ tail)) ≡ n
    → read_element (more_than a.parameters (suc k)) p (alternative_then a (blanks ++ tail)) ≡ Ok (record { value = element_meant (Offered a); place = n - length tail; rest = tail })
offered_read n p k a blanks tail valid are front ends none place =
    let w = blanks ++ tail in
    let from : n - length w + length w ≡ n = omega (arith, alternative_count a w) in
    by_prefix n p (suc k) a w valid ends place
    ∙ ap (with_terms (record { proto = a.proto; host = a.host; port = a.port })) (parameters_done n (n - length w) k (noted_all nothing_given a.parameters) blanks tail are front none from)
    ∙ rw (terms_meant a.parameters a.ma a.persist valid.ma valid.persist) refl

pub element_read : (most n p : ℕ) (e : Element) (blanks tail : List ℕ) → IsElement e → AllIn is_blank blanks → (BeginsIn is_blank tail → ⊥) → Ends e (blanks ++ tail) tail → length (element_then e (blanks ++ tail)) < most
    → p + length (element_then e (blanks ++ tail)) ≡ n
    → read_element most p (element_then e (blanks ++ tail)) ≡ Ok (record { value = element_meant e; place = n - length tail; rest = tail })
element_read most n p Clear blanks tail valid are front ends long place = clear_read most n p blanks tail are front ends.0 ends.1 place
element_read most n p (Offered a) blanks tail valid are front ends long place =
    let few : length a.parameters < most = omega (arith, alternative_count a (blanks ++ tail)) in
    let P : ℕ → Type 0 = λ m. read_element m p (alternative_then a (blanks ++ tail)) ≡ Ok (record { value = element_meant (Offered a); place = n - length tail; rest = tail }) in
    subst P (enough a.parameters most few) (offered_read n p (most - 1 - length a.parameters) a blanks tail valid are front ends.0 ends.1 place)

-- the refusals of an element
ends_before_semicolon : (ps : List Parameter) (before y : List ℕ) → AllIn is_blank before → EndsParameters ps (before ++ 59 ∷ y)
ends_before_semicolon [] before y are = tt
ends_before_semicolon (q ∷ []) before y are = go q.value
  where
    go : (v : ParameterValue) → EndsValue v (before ++ 59 ∷ y)
    go (Token t) = no_token_front before (59 ∷ y) are (λ h. cc)
    go (Quoted parts) = tt
ends_before_semicolon (q ∷ r ∷ ps) before y are = ends_before_semicolon (r ∷ ps) before y are

parameter_refused : (n p k q : ℕ) (a : Alternative) (before after z : List ℕ) → IsAlternative a → AllIn is_blank before → AllIn is_blank after → ParameterRefused n z q
    → p + length (alternative_then a (before ++ 59 ∷ (after ++ z))) ≡ n
    → read_element (more_than a.parameters (suc k)) p (alternative_then a (before ++ 59 ∷ (after ++ z))) ≡ refused q BadParameter
parameter_refused n p k q a before after z valid are are' bad place =
    let w = before ++ 59 ∷ (after ++ z) in
    let key : AltKey = record { proto = a.proto; host = a.host; port = a.port } in
    let given = noted_all nothing_given a.parameters in
    let from : n - length w + length w ≡ n = omega (arith, alternative_count a w) in
    let there : n - length z + length z ≡ n = omega (arith, alternative_count a w, length-append before (59 ∷ (after ++ z)), length-append after z) in
    by_prefix n p (suc k) a w valid (ends_before_semicolon a.parameters before (after ++ z) are) place
    ∙ ap (with_terms key) (semicolon_read n (n - length w) given (read_parameters k) before after z are are' (refusal_front n q z bad) from)
    ∙ ap (λ r. with_terms key (then_parameters (read_parameters k) r)) (refusal_read n (n - length z) q given z there bad)

pub bad_parameter_read : (most n p q : ℕ) (a : Alternative) (before after z : List ℕ) → IsAlternative a → AllIn is_blank before → AllIn is_blank after → ParameterRefused n z q
    → length (alternative_then a (before ++ 59 ∷ (after ++ z))) < most → p + length (alternative_then a (before ++ 59 ∷ (after ++ z))) ≡ n
    → read_element most p (alternative_then a (before ++ 59 ∷ (after ++ z))) ≡ refused q BadParameter
bad_parameter_read most n p q a before after z valid are are' bad long place =
    let w = before ++ 59 ∷ (after ++ z) in
    let few : length a.parameters < most = omega (arith, alternative_count a w) in
    let P : ℕ → Type 0 = λ m. read_element m p (alternative_then a w) ≡ refused q BadParameter in
    subst P (enough a.parameters most few) (parameter_refused n p (most - 1 - length a.parameters) q a before after z valid are are' bad place)

pub bad_quoted_read : (most n p q r : ℕ) (reason : TextRefusal) (proto rest : List ℕ) → IsProtocol proto → r + length rest ≡ n → QuotedRefusedAt r rest q reason → p + length (encoded proto ++ 61 ∷ rest) ≡ n
    → read_element most p (encoded proto ++ 61 ∷ rest) ≡ refused q BadQuoted
bad_quoted_read most n p q r reason proto rest valid from bad place =
    let here : n - length (61 ∷ rest) + 1 ≡ r = omega (arith, length-append (encoded proto) (61 ∷ rest)) in
    by_protocol most n p proto rest valid place ∙ rw here (ap (authority_by_quoted most proto r rest) (quoted_refused r q reason rest bad))

pub bad_authority_read : (most n p q : ℕ) (proto : List ℕ) (parts : List Part) (y : List ℕ) → IsProtocol proto → AreParts parts → ((host : Option Host) (port : ℕ) → SpellsAuthority (parts_bytes parts) host port → ⊥)
    → q + length (quoted_then parts y) ≡ n → p + length (encoded proto ++ 61 ∷ quoted_then parts y) ≡ n
    → read_element most p (encoded proto ++ 61 ∷ quoted_then parts y) ≡ refused q BadAuthority
bad_authority_read most n p q proto parts y valid are bad at place =
    let here : n - length (quoted_then parts y) ≡ q = omega arith in
    by_authority most n p proto parts y valid are place ∙ rw (no_authority (parts_bytes parts) bad, here) refl

pub long_read : (most n p q : ℕ) (proto y : List ℕ) → All (λ b. b < 256) proto → 255 < length proto → q + length (encoded proto ++ 61 ∷ y) ≡ n → p + length (encoded proto ++ 61 ∷ y) ≡ n
    → read_element most p (encoded proto ++ 61 ∷ y) ≡ refused q BadToken
long_read most n p q proto y small long at place =
    let here : p ≡ q = omega arith in
    let some : 0 < length proto = omega arith in
    by_equals most n p (encoded proto) y (encoded_token proto some) place
    ∙ ap (with_protocol most (n - length (61 ∷ y) + 1) y) (long_protocol_read p proto small long) ∙ rw here refl

pub bad_percent_element : (most n p q : ℕ) (good more rest : List ℕ) → All (λ b. b < 256) good → AllIn is_token more → ((byte : ℕ) (after : List ℕ) → byte < 256 → 37 ∷ more ≡ encoded_byte byte ++ after → ⊥)
    → q + length (37 ∷ (more ++ 61 ∷ rest)) ≡ n → p + length (encoded good ++ 37 ∷ (more ++ 61 ∷ rest)) ≡ n
    → read_element most p (encoded good ++ 37 ∷ (more ++ 61 ∷ rest)) ≡ refused q BadPercent
bad_percent_element most n p q good more rest small valid bad at place =
    let t = encoded good ++ 37 ∷ more in
    let together : t ++ 61 ∷ rest ≡ encoded good ++ 37 ∷ (more ++ 61 ∷ rest) = append_assoc (encoded good) (37 ∷ more) (61 ∷ rest) in
    let whole : p + length (t ++ 61 ∷ rest) ≡ n = subst (λ xs. p + length xs ≡ n) (sym together) place in
    let here : p + length (encoded good) ≡ q = omega (arith, length-append (encoded good) (37 ∷ (more ++ 61 ∷ rest))) in
    ap (read_element most p) (sym together)
    ∙ by_equals most n p t rest (bad_token good more valid) whole
    ∙ ap (with_protocol most (n - length (61 ∷ rest) + 1) rest) (bad_percent_read p good more small bad) ∙ rw here refl

pub no_token_read : (most n p q byte : ℕ) (rest : List ℕ) → is_token byte ≡ false → q + length (byte ∷ rest) ≡ n → p + length (byte ∷ rest) ≡ n
    → read_element most p (byte ∷ rest) ≡ refused q BadToken
no_token_read most n p q byte rest none at place =
    let here : p ≡ q = omega arith in
    ap (element_by_token most p (byte ∷ rest)) (token_refused p p Empty (byte ∷ rest) (refl, λ h. cc)) ∙ rw here refl
