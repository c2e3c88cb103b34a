-- The reading of a value that the table refuses.
use Rattle.std.proofs.Common.{◌≡◌, ◌≢◌, ◌⊎◌, ℕ, ◌+◌, ◌-◌, ◌≤◌, ◌<◌, false, List, [], ◌∷◌, ◌++◌, length, Result, refl, ap, sym, ◌∙◌, subst, arith, append_assoc, inl, inr}
use Rattle.alt_base.proofs.Numbers.{eq_false}
use Rattle.alt_base.specs.declared.refusal.At.{At}
use Rattle.field_text.specs.Runs.{BeginsIn}
use Rattle.field_text.specs.BlanksGrammar.{is_blank}
use Rattle.altsvc_grammar.specs.declared.refusal.AltRefusal.{AltRefusal}
use Rattle.altsvc_grammar.specs.declared.refusal.AltRefusal.TheVariants.{Empty, BadToken, BadPercent, NoEquals, BadQuoted, BadAuthority, BadParameter, Trailing, TooLong}
use Rattle.altsvc_grammar.specs.Written.{encoded}
use Rattle.altsvc_grammar.specs.Steps.{begins_with, refused}
use Rattle.altsvc_grammar.specs.ParameterGrammar.{IsToken}
use Rattle.altsvc_grammar.specs.ValueReading.{Seen, read_element, element_seen, after_element, then_elements, value_of_seen, read_value, most_bytes}
use Rattle.altsvc_grammar.specs.ValueGrammar.{slots_before, Element, Clear, Offered, element_then}
use Rattle.altsvc_grammar.specs.ValueRefusals.{Begins, IsNoToken, IsLongProtocol, IsNoEquals, IsBadPercent, IsBadQuoted, IsBadAuthority, IsBadParameter, IsTrailing, EndsElement, ValueRefusedAt}
use Rattle.altsvc_grammar.proofs.Fronts.{front_false}
use Rattle.altsvc_grammar.proofs.Spelling.{no_blank_front, no_comma_front, quoted_then}
use Rattle.altsvc_grammar.proofs.Percents.{encoded_token, bad_token}
use Rattle.altsvc_grammar.proofs.SpelledElements.{Ends, element_read, no_token_read, no_equals_read, bad_percent_element, bad_quoted_read, bad_authority_read, bad_parameter_read}
use Rattle.altsvc_grammar.proofs.SpelledElements as element
use Rattle.altsvc_grammar.proofs.SpelledValues.{element_no_blank, element_no_comma, element_some, refused_element_read}
use Rattle.altsvc_grammar.proofs.Meanings.{short_read, long_read, empty_read}

-- what an element begins with
pub record Front (y : List ℕ) : Type 0 where
  pub no_blank : BeginsIn is_blank y → ⊥
  pub some : 0 < length y
  pub no_comma : begins_with 44 y ≡ false

token_some : (t rest : List ℕ) → IsToken t → 0 < length (t ++ rest)
token_some [] rest h = absurd (h.some refl)
token_some (b ∷ bs) rest h = omega arith

token_front : (t rest : List ℕ) → IsToken t → Front (t ++ rest)
token_front t rest h = record { no_blank = no_blank_front t rest h; some = token_some t rest h; no_comma = no_comma_front t rest h }

byte_front : (b : ℕ) (rest : List ℕ) → is_blank b ≡ false → b ≢ 44 → Front (b ∷ rest)
byte_front b rest blank comma = record { no_blank = λ h. cc; some = omega arith; no_comma = eq_false b 44 comma }

-- what such an element does to the whole
Says : List ℕ → List ℕ → ℕ → AltRefusal → Type 0
Says x y q r = (most p : ℕ) → length y < most → p + length y ≡ length x → (more : Seen → ℕ → List ℕ → Result Seen (At AltRefusal)) (seen : Seen) → then_elements more (element_seen seen (read_element most p y)) ≡ refused q r

whole_refused : (x y : List ℕ) (q : ℕ) (r : AltRefusal) → Begins x y → Front y → Says x y q r → length x ≤ most_bytes → read_value x ≡ refused q r
unfolding Says
whole_refused x y q r b front says short =
    let x' = slots_before b.before (b.blanks ++ y) in
    let short' : length x' ≤ most_bytes = subst (λ xs. length xs ≤ most_bytes) b.text short in
    ap read_value b.text ∙ short_read x' short'
    ∙ ap (value_of_seen (length x')) (refused_element_read b.before b.blanks y q r b.are_slots b.are_blanks front.no_blank front.some front.no_comma (λ most p long place more seen. says most p long (place ∙ sym (ap length b.text)) more seen))

-- an element that is refused itself
element_says : (x y : List ℕ) (q : ℕ) (r : AltRefusal) → ((most p : ℕ) → length y < most → p + length y ≡ length x → read_element most p y ≡ refused q r) → Says x y q r
unfolding Says
element_says x y q r err = λ most p long place more seen. ap (λ s. then_elements more (element_seen seen s)) (err most p long place)

-- something behind an element
other_behind : (more : Seen → ℕ → List ℕ → Result Seen (At AltRefusal)) (seen : Seen) (p byte : ℕ) (rest : List ℕ) → byte ≢ 44 → after_element more seen p (byte ∷ rest) ≡ refused p Trailing
other_behind more seen p byte rest other = rw (eq_false byte 44 other) refl

ends_there : (e : Element) (w rest : List ℕ) (byte : ℕ) → EndsElement e w byte → Ends e w (byte ∷ rest)
ends_there Clear w rest byte h = (h.0, front_false 61 w h.1)
ends_there (Offered a) w rest byte h = (h.0, eq_false byte 59 h.1)

trailing_says : (x y : List ℕ) (q : ℕ) → IsTrailing (length x) y q → Says x y q Trailing
unfolding Says
trailing_says x y q t = λ most p long place more seen.
    let tail = t.byte ∷ t.rest in
    let long' : length (element_then t.e (t.blanks ++ tail)) < most = subst (λ xs. length xs < most) t.text long in
    let place' : p + length (element_then t.e (t.blanks ++ tail)) ≡ length x = subst (λ xs. p + length xs ≡ length x) t.text place in
    let here : length x - length tail ≡ q = omega (arith, t.place) in
    rw t.text
    (ap (λ s. then_elements more (element_seen seen s)) (element_read most (length x) p t.e t.blanks tail t.is_element t.are_blanks (λ h. cc) (ends_there t.e (t.blanks ++ tail) t.rest t.byte t.ends) long' place')
    ∙ other_behind more _ (length x - length tail) t.byte t.rest t.no_comma ∙ ap (λ k. refused k Trailing) here)

front_of : (y z : List ℕ) → y ≡ z → Front z → Front y
front_of y z e f = subst Front (sym e) f

no_token_refused : (x y : List ℕ) (q : ℕ) → Begins x y → IsNoToken (length x) y q → length x ≤ most_bytes → read_value x ≡ refused q BadToken
no_token_refused x y q b t short =
    whole_refused x y q BadToken b (front_of y (t.byte ∷ t.rest) t.text (byte_front t.byte t.rest t.no_blank t.no_comma))
    (element_says x y q BadToken (λ most p long place. rw t.text (no_token_read most (length x) p q t.byte t.rest t.no_token (subst (λ xs. q + length xs ≡ length x) t.text t.place) (subst (λ xs. p + length xs ≡ length x) t.text place)))) short

long_refused : (x y : List ℕ) (q : ℕ) → Begins x y → IsLongProtocol (length x) y q → length x ≤ most_bytes → read_value x ≡ refused q BadToken
long_refused x y q b t short =
    let some : 0 < length t.proto = omega (arith, t.long) in
    whole_refused x y q BadToken b (front_of y (encoded t.proto ++ 61 ∷ t.rest) t.text (token_front (encoded t.proto) (61 ∷ t.rest) (encoded_token t.proto some)))
    (element_says x y q BadToken (λ most p long place. rw t.text (element.long_read most (length x) p q t.proto t.rest t.bytes t.long (subst (λ xs. q + length xs ≡ length x) t.text t.place) (subst (λ xs. p + length xs ≡ length x) t.text place)))) short

no_equals_refused : (x y : List ℕ) (q : ℕ) → Begins x y → IsNoEquals (length x) y q → length x ≤ most_bytes → read_value x ≡ refused q NoEquals
no_equals_refused x y q b t short =
    whole_refused x y q NoEquals b (front_of y (t.token ++ t.rest) t.text (token_front t.token t.rest t.valid))
    (element_says x y q NoEquals (λ most p long place. rw t.text (no_equals_read most (length x) p q t.token t.rest t.valid t.no_clear t.longest (front_false 61 t.rest t.no_equals) t.place (subst (λ xs. p + length xs ≡ length x) t.text place)))) short

bad_percent_refused : (x y : List ℕ) (q : ℕ) → Begins x y → IsBadPercent (length x) y q → length x ≤ most_bytes → read_value x ≡ refused q BadPercent
bad_percent_refused x y q b t short =
    let together : y ≡ (encoded t.good ++ 37 ∷ t.more) ++ 61 ∷ t.rest = t.text ∙ sym (append_assoc (encoded t.good) (37 ∷ t.more) (61 ∷ t.rest)) in
    whole_refused x y q BadPercent b (front_of y ((encoded t.good ++ 37 ∷ t.more) ++ 61 ∷ t.rest) together (token_front (encoded t.good ++ 37 ∷ t.more) (61 ∷ t.rest) (bad_token t.good t.more t.in_token)))
    (element_says x y q BadPercent (λ most p long place. rw t.text (bad_percent_element most (length x) p q t.good t.more t.rest t.bytes t.in_token t.bad t.place (subst (λ xs. p + length xs ≡ length x) t.text place)))) short

bad_quoted_refused : (x y : List ℕ) (q : ℕ) → Begins x y → IsBadQuoted (length x) y q → length x ≤ most_bytes → read_value x ≡ refused q BadQuoted
bad_quoted_refused x y q b t short =
    whole_refused x y q BadQuoted b (front_of y (encoded t.proto ++ 61 ∷ t.rest) t.text (token_front (encoded t.proto) (61 ∷ t.rest) (encoded_token t.proto t.is_proto.some)))
    (element_says x y q BadQuoted (λ most p long place. rw t.text (bad_quoted_read most (length x) p q t.p t.reason t.proto t.rest t.is_proto t.from t.refused (subst (λ xs. p + length xs ≡ length x) t.text place)))) short

bad_authority_refused : (x y : List ℕ) (q : ℕ) → Begins x y → IsBadAuthority (length x) y q → length x ≤ most_bytes → read_value x ≡ refused q BadAuthority
bad_authority_refused x y q b t short =
    whole_refused x y q BadAuthority b (front_of y (encoded t.proto ++ 61 ∷ quoted_then t.parts t.rest) t.text (token_front (encoded t.proto) (61 ∷ quoted_then t.parts t.rest) (encoded_token t.proto t.is_proto.some)))
    (element_says x y q BadAuthority (λ most p long place. rw t.text (bad_authority_read most (length x) p q t.proto t.parts t.rest t.is_proto t.are_parts t.bad t.place (subst (λ xs. p + length xs ≡ length x) t.text place)))) short

bad_parameter_refused : (x y : List ℕ) (q : ℕ) → Begins x y → IsBadParameter (length x) y q → length x ≤ most_bytes → read_value x ≡ refused q BadParameter
bad_parameter_refused x y q b t short =
    let w = t.before ++ 59 ∷ (t.after ++ t.z) in
    let front : Front (element_then (Offered t.a) w) = record { no_blank = element_no_blank (Offered t.a) w t.is_alternative; some = element_some (Offered t.a) w t.is_alternative; no_comma = element_no_comma (Offered t.a) w t.is_alternative } in
    whole_refused x y q BadParameter b (front_of y (element_then (Offered t.a) w) t.text front)
    (element_says x y q BadParameter (λ most p long place. rw t.text (bad_parameter_read most (length x) p q t.a t.before t.after t.z t.is_alternative t.blanks_before t.blanks_after t.refused (subst (λ xs. length xs < most) t.text long) (subst (λ xs. p + length xs ≡ length x) t.text place)))) short

trailing_refused : (x y : List ℕ) (q : ℕ) → Begins x y → IsTrailing (length x) y q → length x ≤ most_bytes → read_value x ≡ refused q Trailing
trailing_refused x y q b t short =
    let w = t.blanks ++ t.byte ∷ t.rest in
    let front : Front (element_then t.e w) = record { no_blank = element_no_blank t.e w t.is_element; some = element_some t.e w t.is_element; no_comma = element_no_comma t.e w t.is_element } in
    whole_refused x y q Trailing b (front_of y (element_then t.e w) t.text front) (trailing_says x y q t) short

-- what the table refuses is refused
pub value_refused : (x : List ℕ) (q : ℕ) (r : AltRefusal) → ValueRefusedAt x q r → read_value x ≡ refused q r
value_refused x q Empty h = empty_read x q h.0 h.1
value_refused x q BadToken h = go h.0.refused
  where
    go : IsNoToken (length x) h.0.y q ⊎ IsLongProtocol (length x) h.0.y q → read_value x ≡ refused q BadToken
    go (inl t) = no_token_refused x h.0.y q h.0.begins t h.1
    go (inr t) = long_refused x h.0.y q h.0.begins t h.1
value_refused x q BadPercent h = bad_percent_refused x h.0.y q h.0.begins h.0.refused h.1
value_refused x q NoEquals h = no_equals_refused x h.0.y q h.0.begins h.0.refused h.1
value_refused x q BadQuoted h = bad_quoted_refused x h.0.y q h.0.begins h.0.refused h.1
value_refused x q BadAuthority h = bad_authority_refused x h.0.y q h.0.begins h.0.refused h.1
value_refused x q BadParameter h = bad_parameter_refused x h.0.y q h.0.begins h.0.refused h.1
value_refused x q Trailing h = trailing_refused x h.0.y q h.0.begins h.0.refused h.1
value_refused x q TooLong h = long_read x h.1 ∙ ap (λ k. refused k TooLong) (sym h.0)
