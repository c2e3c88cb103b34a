-- The steps of reading parameters, in an input from a place on.
use Rattle.std.proofs.Common.{◌≡◌, ℕ, ◌+◌, ◌-◌, ◌<◌, true, false, List, [], ◌∷◌, length, take, drop, Result, Ok, refl, ap, sym, ◌∙◌}
use Rattle.alt_base.proofs.Numbers.{one_fewer}
use Rattle.alt_base.specs.declared.refusal.At.{At}
use Rattle.field_text.specs.BlanksReading.{read_blanks, after_blanks}
use Rattle.field_text.specs.TokenGrammar.{SpellsToken}
use Rattle.field_text.specs.TokenReading.{after_token, token_of}
use Rattle.field_text.proofs.TokenLemmas.{token_spelled, token_taken, token_rest}
use Rattle.altsvc_grammar.specs.declared.refusal.AltRefusal.{AltRefusal}
use Rattle.altsvc_grammar.specs.declared.given.Given.{Given}
use Rattle.altsvc_grammar.specs.Steps.{Step, begins_with}
use Rattle.altsvc_grammar.specs.ParameterReading.{read_parameter_value, read_parameter, noted_value, parameters_from, then_parameters, read_parameters, value_by_token, parameter_by_token, after_parameter_name}
use Rattle.altsvc_grammar.proofs.Slices.{front_byte}

-- a token is a value
pub value_of_token : (p q : ℕ) (x : List ℕ) → SpellsToken p (drop p x) q → read_parameter_value p (drop p x) ≡ Ok (record { value = take (q - p) (drop p x); place = q; rest = drop q x })
value_of_token p q x s =
    let said : read_parameter_value p (drop p x) ≡ Ok (record { value = token_of (drop p x); place = q; rest = after_token (drop p x) }) = ap (value_by_token p (drop p x)) (token_spelled p q (drop p x) s) in
    let taken = token_taken p q (drop p x) s in
    let rest = token_rest p q x s in
    rw (taken, rest) said

-- a name and `=`
pub named_value : (given : Given) (p q : ℕ) (x : List ℕ) → SpellsToken p (drop p x) q → q < length x → begins_with 61 (drop q x) ≡ true
    → read_parameter given p (drop p x) ≡ noted_value given (take (q - p) (drop p x)) (read_parameter_value (q + 1) (drop (q + 1) x))
named_value given p q x s inside equals =
    let said : read_parameter given p (drop p x) ≡ after_parameter_name given (token_of (drop p x)) q (after_token (drop p x)) = ap (parameter_by_token given p (drop p x)) (token_spelled p q (drop p x) s) in
    let rest : after_token (drop p x) ≡ 61 ∷ drop (q + 1) x = sym (token_rest p q x s) ∙ front_byte 61 q x inside equals in
    let taken : take (q - p) (drop p x) ≡ token_of (drop p x) = token_taken p q (drop p x) s in
    said ∙ rw (rest, taken) refl

pub no_parameter : (more : Given → ℕ → List ℕ → Result (Step Given) (At AltRefusal)) (given : Given) (p : ℕ) (x : List ℕ) → begins_with 59 x ≡ false
    → parameters_from more given p x ≡ Ok (record { value = given; place = p; rest = x })
no_parameter more given p [] h = refl
no_parameter more given p (b ∷ bs) h = rw h refl

-- no `;` follows the blanks
pub parameters_end : (n i : ℕ) (given : Given) (p q : ℕ) (x : List ℕ) → i < n → q ≡ read_blanks p (drop p x) → drop q x ≡ after_blanks (drop p x) → begins_with 59 (drop q x) ≡ false
    → read_parameters (n - i) given p (drop p x) ≡ Ok (record { value = given; place = q; rest = drop q x })
parameters_end n i given p q x h is rest none =
    rw (one_fewer n i h, ← is, ← rest) (no_parameter (read_parameters (n - (i + 1))) given q (drop q x) none)

-- a `;` follows the blanks
pub parameters_go_on : (n i : ℕ) (given : Given) (p q r : ℕ) (x : List ℕ) → i < n → q ≡ read_blanks p (drop p x) → drop q x ≡ after_blanks (drop p x) → q < length x → begins_with 59 (drop q x) ≡ true
    → r ≡ read_blanks (q + 1) (drop (q + 1) x) → drop r x ≡ after_blanks (drop (q + 1) x)
    → read_parameters (n - i) given p (drop p x) ≡ then_parameters (read_parameters (n - (i + 1))) (read_parameter given r (drop r x))
parameters_go_on n i given p q r x h is rest inside some is_r rest_r =
    let said : read_parameters (n - i) given p (drop p x) ≡ parameters_from (read_parameters (n - (i + 1))) given q (drop q x) = rw (one_fewer n i h, ← is, ← rest) refl in
    let front = front_byte 59 q x inside some in
    said ∙ rw (front, ← is_r, ← rest_r) refl
