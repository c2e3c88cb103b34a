-- What a token of a name's text says, and which token a part is.
use Rattle.std.proofs.Common.{◌≡◌, ℕ, Bool, true, false, cond, ◌&&◌, nat_eq, nat_le, List, [], ◌∷◌, ◌++◌, length, refl, ap, sym, subst}
use Rattle.std.specs.Char.{is_ascii_digit, is_ascii_graphic}
use Rattle.dns_names.specs.declared.refusal.NameRefusal.{NameRefusal}
use Rattle.dns_names.specs.declared.refusal.NameRefusal.TheVariants.{LabelTooLong, NameTooLong, Compressed, Short, EmptyLabel, BadEscape, BadByte}
use Rattle.dns_names.specs.declared.token.Token.{Token}
use Rattle.dns_names.specs.declared.token.Token.TheVariants.{End, Dot, Byte, Stop}
use Rattle.dns_names.specs.TextParts.{Part, Raw, Quoted, Decimal, part_text, part_byte, decimal_value, IsPart}
use Rattle.dns_names.specs.TextReading.{is_decimal, decimal_at, escape_at, token_at}
use Rattle.alt_base.proofs.Numbers.{eq_false, true_eq, false_eq, le_true, true_le}
use Rattle.alt_base.proofs.Booleans.{contradicts}
use Rattle.std.proofs.lemmas.Bool.{and_parts}

-- a backslash with this rest begins no part
abbrev pub NoPart : List ℕ → Type 0
NoPart rest = (part : Part) (more : List ℕ) → IsPart part → 92 ∷ rest ≡ part_text part ++ more → ⊥

abbrev pub StopSays : List ℕ → NameRefusal → Type 0
StopSays x BadByte = (b : ℕ) × (rest : List ℕ) × (x ≡ b ∷ rest) × (is_ascii_graphic b ≡ false)
StopSays x BadEscape = (rest : List ℕ) × (x ≡ 92 ∷ rest) × NoPart rest
StopSays x LabelTooLong = ⊥
StopSays x NameTooLong = ⊥
StopSays x Compressed = ⊥
StopSays x Short = ⊥
StopSays x EmptyLabel = ⊥

pub record BeginsPart (x : List ℕ) (byte count : ℕ) : Type 0 where
  pub part : Part
  pub more : List ℕ
  pub valid : IsPart part
  pub text : x ≡ part_text part ++ more
  pub byte_is : byte ≡ part_byte part
  pub count_is : count ≡ length (part_text part)

abbrev pub TokenSays : List ℕ → Token → Type 0
TokenSays x End = x ≡ []
TokenSays x Dot = (more : List ℕ) × (x ≡ 46 ∷ more)
TokenSays x (Byte byte count) = BeginsPart x byte count
TokenSays x (Stop reason) = StopSays x reason

-- what the test of three digits says
pub decimal_holds : (a b c : ℕ) → is_decimal a b c ≡ true → (is_ascii_digit b ≡ true) × (is_ascii_digit c ≡ true) × (nat_le (decimal_value a b c) 255 ≡ true)
decimal_holds a b c h =
    let one = and_parts (is_ascii_digit b) _ h in
    let two = and_parts (is_ascii_digit c) _ one.1 in
    (one.0, two.0, two.1)

true_all : (a b c : ℕ) → IsPart (Decimal a b c) → is_decimal a b c ≡ true
true_all a b c valid = all (is_ascii_digit b) (is_ascii_digit c) (nat_le (decimal_value a b c) 255) valid.1 valid.2 (le_true _ _ valid.3)
  where
    all : (p q r : Bool) → p ≡ true → q ≡ true → r ≡ true → (p && (q && r)) ≡ true
    all p q r f g h = rw (f, g, h) refl

no_part : (rest : List ℕ) → ((b : ℕ) (more : List ℕ) → rest ≡ b ∷ more → IsPart (Quoted b) → ⊥) → ((a b c : ℕ) (more : List ℕ) → rest ≡ a ∷ b ∷ c ∷ more → IsPart (Decimal a b c) → ⊥) → NoPart rest
no_part rest quoted decimal (Raw b) more valid e = let same : b ≡ 92 = cc in valid.2 same
no_part rest quoted decimal (Quoted b) more valid e = let same : rest ≡ b ∷ more = cc in quoted b more same valid
no_part rest quoted decimal (Decimal a b c) more valid e = let same : rest ≡ a ∷ b ∷ c ∷ more = cc in decimal a b c more same valid

-- a digit isn't behind a backslash alone
no_quoted : (a b : ℕ) (rest more : List ℕ) → is_ascii_digit a ≡ true → a ∷ rest ≡ b ∷ more → IsPart (Quoted b) → ⊥
no_quoted a b rest more digit e valid = let same : a ≡ b = cc in contradicts (is_ascii_digit b) (subst (λ n. is_ascii_digit n ≡ true) same digit) valid.1

three_says : (a b c : ℕ) (rest : List ℕ) (t : Bool) → is_ascii_digit a ≡ true → is_decimal a b c ≡ t → TokenSays (92 ∷ a ∷ b ∷ c ∷ rest) (cond t (Byte (decimal_value a b c) 4) (Stop BadEscape))
three_says a b c rest true digit is =
    let all = decimal_holds a b c is in
    record { part = Decimal a b c; more = rest; valid = (digit, all.0, all.1, true_le _ _ all.2); text = refl; byte_is = refl; count_is = refl }
three_says a b c rest false digit is =
    (b_rest, refl, no_part b_rest (λ n more e valid. no_quoted a n (b ∷ c ∷ rest) more digit e valid) (λ a' b' c' more e valid. contradicts (is_decimal a b c) (same a' b' c' more e valid) is))
  where
    b_rest : List ℕ
    b_rest = a ∷ b ∷ c ∷ rest

    same : (a' b' c' : ℕ) (more : List ℕ) → a ∷ b ∷ c ∷ rest ≡ a' ∷ b' ∷ c' ∷ more → IsPart (Decimal a' b' c') → is_decimal a b c ≡ true
    same a' b' c' more e valid =
        let p : a ≡ a' = cc in
        let q : b ≡ b' = cc in
        let r : c ≡ c' = cc in
        rw (p, q, r) (true_all a' b' c' valid)

digit_says : (a : ℕ) (rest : List ℕ) → is_ascii_digit a ≡ true → TokenSays (92 ∷ a ∷ rest) (decimal_at a rest)
digit_says a [] digit = (a ∷ [], refl, no_part (a ∷ []) (λ n more e valid. no_quoted a n [] more digit e valid) (λ a' b' c' more e valid. cc))
digit_says a (b ∷ []) digit = (a ∷ b ∷ [], refl, no_part (a ∷ b ∷ []) (λ n more e valid. no_quoted a n (b ∷ []) more digit e valid) (λ a' b' c' more e valid. cc))
digit_says a (b ∷ c ∷ rest) digit = three_says a b c rest (is_decimal a b c) digit refl

other_says : (b : ℕ) (rest : List ℕ) (shown : Bool) → is_ascii_digit b ≡ false → is_ascii_graphic b ≡ shown → TokenSays (92 ∷ b ∷ rest) (cond shown (Byte b 2) (Stop BadEscape))
other_says b rest true digit is = record { part = Quoted b; more = rest; valid = (is, digit); text = refl; byte_is = refl; count_is = refl }
other_says b rest false digit is =
    (b ∷ rest, refl, no_part (b ∷ rest) (λ n more e valid. let same : b ≡ n = cc in contradicts (is_ascii_graphic n) valid.0 (subst (λ m. is_ascii_graphic m ≡ false) same is)) (λ a' b' c' more e valid. let same : b ≡ a' = cc in contradicts (is_ascii_digit a') valid.0 (subst (λ m. is_ascii_digit m ≡ false) same digit)))

behind_says : (b : ℕ) (rest : List ℕ) (digit : Bool) → is_ascii_digit b ≡ digit → TokenSays (92 ∷ b ∷ rest) (cond digit (decimal_at b rest) (cond (is_ascii_graphic b) (Byte b 2) (Stop BadEscape)))
behind_says b rest true is = digit_says b rest is
behind_says b rest false is = other_says b rest (is_ascii_graphic b) is refl

escape_says : (rest : List ℕ) → TokenSays (92 ∷ rest) (escape_at rest)
escape_says [] = ([], refl, no_part [] (λ b more e valid. cc) (λ a b c more e valid. cc))
escape_says (b ∷ rest) = behind_says b rest (is_ascii_digit b) refl

first_says : (b : ℕ) (rest : List ℕ) (dot slash shown : Bool) → nat_eq b 46 ≡ dot → nat_eq b 92 ≡ slash → is_ascii_graphic b ≡ shown
    → TokenSays (b ∷ rest) (cond dot Dot (cond slash (escape_at rest) (cond shown (Byte b 1) (Stop BadByte))))
first_says b rest true slash shown p q r = (rest, ap (λ n. n ∷ rest) (true_eq _ _ p))
first_says b rest false true shown p q r = subst (λ n. TokenSays (n ∷ rest) (escape_at rest)) (sym (true_eq b 92 q)) (escape_says rest)
first_says b rest false false true p q r = record { part = Raw b; more = rest; valid = (r, false_eq _ _ p, false_eq _ _ q); text = refl; byte_is = refl; count_is = refl }
first_says b rest false false false p q r = (b, rest, refl, r)

pub token_says : (x : List ℕ) → TokenSays x (token_at x)
token_says [] = refl
token_says (b ∷ rest) = first_says b rest _ _ _ refl refl refl

pub token_part : (part : Part) (more : List ℕ) → IsPart part → token_at (part_text part ++ more) ≡ Byte (part_byte part) (length (part_text part))
token_part (Raw b) more valid =
    let p : nat_eq b 46 ≡ false = eq_false _ _ valid.1 in
    let q : nat_eq b 92 ≡ false = eq_false _ _ valid.2 in
    let r : is_ascii_graphic b ≡ true = valid.0 in
    rw (p, q, r) refl
token_part (Quoted b) more valid =
    let p : is_ascii_digit b ≡ false = valid.1 in
    let q : is_ascii_graphic b ≡ true = valid.0 in
    rw (p, q) refl
token_part (Decimal a b c) more valid =
    let p : is_ascii_digit a ≡ true = valid.0 in
    let q : is_decimal a b c ≡ true = true_all a b c valid in
    rw (p, q) refl

pub token_bad_byte : (b : ℕ) (rest : List ℕ) → is_ascii_graphic b ≡ false → token_at (b ∷ rest) ≡ Stop BadByte
token_bad_byte b rest bad =
    let p : nat_eq b 46 ≡ false = eq_false _ _ (λ e. contradicts (is_ascii_graphic 46) refl (subst (λ n. is_ascii_graphic n ≡ false) e bad)) in
    let q : nat_eq b 92 ≡ false = eq_false _ _ (λ e. contradicts (is_ascii_graphic 92) refl (subst (λ n. is_ascii_graphic n ≡ false) e bad)) in
    rw (p, q, bad) refl

pub no_dot_slash : {P : Type 0} (xs ys : List ℕ) → 92 ∷ xs ≡ 46 ∷ ys → P
no_dot_slash xs ys e = absurd (apart (heads e))
  where
    heads : 92 ∷ xs ≡ 46 ∷ ys → nat_eq 92 46 ≡ true
    heads e = let h : 92 ≡ 46 = cc in subst (λ n. nat_eq 92 n ≡ true) h refl

    apart : nat_eq 92 46 ≡ true → ⊥
    apart h = cc

pub token_bad_escape : (rest : List ℕ) → NoPart rest → token_at (92 ∷ rest) ≡ Stop BadEscape
token_bad_escape rest none = by_token (escape_at rest) (escape_says rest)
  where
    by_stop : (reason : NameRefusal) → StopSays (92 ∷ rest) reason → Stop reason ≡ Stop BadEscape
    by_stop BadByte s = let same : 92 ≡ s.0 = cc in contradicts (is_ascii_graphic 92) refl (subst (λ n. is_ascii_graphic n ≡ false) (sym same) s.3)
    by_stop BadEscape s = refl
    by_stop LabelTooLong s = absurd s
    by_stop NameTooLong s = absurd s
    by_stop Compressed s = absurd s
    by_stop Short s = absurd s
    by_stop EmptyLabel s = absurd s

    by_token : (t : Token) → TokenSays (92 ∷ rest) t → t ≡ Stop BadEscape
    by_token End s = cc
    by_token Dot s = no_dot_slash rest s.0 s.1
    by_token (Byte byte count) s = absurd (none s.part s.more s.valid s.text)
    by_token (Stop reason) s = by_stop reason s
