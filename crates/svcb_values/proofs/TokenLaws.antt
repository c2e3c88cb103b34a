-- What a token of a string says, and which token a part is.
use Rattle.std.proofs.Common.{◌≡◌, ◌≢◌, ℕ, Bool, true, false, cond, ◌&&◌, nat_eq, nat_le, List, [], ◌∷◌, ◌++◌, length, refl, sym, ◌∙◌, subst}
use Rattle.std.specs.Char.{is_ascii_digit}
use Rattle.dns_names.specs.TextParts.{Part, Raw, Quoted, Decimal, part_text, part_byte, decimal_value}
use Rattle.alt_base.proofs.Numbers.{eq_false, true_eq, false_eq, le_true, true_le}
use Rattle.svcb_values.specs.declared.token.Style.{Style}
use Rattle.svcb_values.specs.declared.token.Style.TheVariants.{Contiguous, InQuotes}
use Rattle.svcb_values.specs.declared.token.Token.{Token}
use Rattle.svcb_values.specs.declared.token.Token.TheVariants as token
use Rattle.svcb_values.specs.StringGrammar.{is_raw, is_escapable, IsPart, is_raw_part}
use Rattle.svcb_values.specs.StringReading.{decimal_at, escape_at, is_end, token_at_end, token_at}
use Rattle.svcb_values.proofs.ClassLaws.{raw_no_backslash, raw_no_end}
use Rattle.alt_base.proofs.Booleans.{contradicts}
use Rattle.dns_names.specs.TextReading.{is_decimal}
use Rattle.dns_names.proofs.TextTokens.{decimal_holds}

-- a backslash with this rest begins no part
abbrev pub NoPart : Style → List ℕ → Type 0
NoPart style rest = (part : Part) (more : List ℕ) → IsPart style part → 92 ∷ rest ≡ part_text part ++ more → ⊥

-- the text begins with what ends a string
abbrev pub EndSays : Style → List ℕ → Type 0
EndSays style [] = style ≡ Contiguous
EndSays style (b ∷ bs) = is_end style b ≡ true

-- a byte that can't stand there
pub record IsBadByte (style : Style) (x : List ℕ) : Type 0 where
  pub byte : ℕ
  pub rest : List ℕ
  pub text : x ≡ byte ∷ rest
  pub no_backslash : byte ≢ 92
  pub no_end : is_end style byte ≡ false
  pub bad : is_raw style byte ≡ false

-- a backslash that begins no part
pub record IsBadEscape (style : Style) (x : List ℕ) : Type 0 where
  pub rest : List ℕ
  pub text : x ≡ 92 ∷ rest
  pub bad : NoPart style rest

-- no text where a closing quote is missing
pub record IsOpen (style : Style) (x : List ℕ) : Type 0 where
  pub style_is : style ≡ InQuotes
  pub text : x ≡ []

pub data WrongSays (style : Style) (x : List ℕ) : Type 0 where
  BadByte : IsBadByte style x → WrongSays style x
  BadEscape : IsBadEscape style x → WrongSays style x
  Open : IsOpen style x → WrongSays style x

-- a part that spells a byte in so many bytes, by a backslash or without
pub record BeginsPart (style : Style) (x : List ℕ) (byte count : ℕ) (raw : Bool) : Type 0 where
  pub part : Part
  pub more : List ℕ
  pub valid : IsPart style part
  pub text : x ≡ part_text part ++ more
  pub byte_is : byte ≡ part_byte part
  pub count_is : count ≡ length (part_text part)
  pub raw_is : raw ≡ is_raw_part part

abbrev pub TokenSays : Style → List ℕ → Token → Type 0
TokenSays style x token.End = EndSays style x
TokenSays style x (token.Raw byte) = BeginsPart style x byte 1 true
TokenSays style x (token.Escaped byte count) = BeginsPart style x byte count false
TokenSays style x token.Wrong = WrongSays style x

true_all : (style : Style) (a b c : ℕ) → IsPart style (Decimal a b c) → is_decimal a b c ≡ true
true_all style a b c valid = all (is_ascii_digit b) (is_ascii_digit c) (nat_le (decimal_value a b c) 255) valid.1 valid.2 (le_true _ _ valid.3)
  where
    all : (p q r : Bool) → p ≡ true → q ≡ true → r ≡ true → (p && (q && r)) ≡ true
    all p q r f g h = rw (f, g, h) refl

no_part : (style : Style) (rest : List ℕ) → ((b : ℕ) (more : List ℕ) → rest ≡ b ∷ more → IsPart style (Quoted b) → ⊥) → ((a b c : ℕ) (more : List ℕ) → rest ≡ a ∷ b ∷ c ∷ more → IsPart style (Decimal a b c) → ⊥) → NoPart style rest
no_part style rest quoted decimal (Raw b) more valid e = let same : b ≡ 92 = cc in raw_no_backslash style b valid same
no_part style rest quoted decimal (Quoted b) more valid e = let same : rest ≡ b ∷ more = cc in quoted b more same valid
no_part style rest quoted decimal (Decimal a b c) more valid e = let same : rest ≡ a ∷ b ∷ c ∷ more = cc in decimal a b c more same valid

-- a digit isn't behind a backslash alone
no_quoted : (style : Style) (a b : ℕ) (rest more : List ℕ) → is_ascii_digit a ≡ true → a ∷ rest ≡ b ∷ more → IsPart style (Quoted b) → ⊥
no_quoted style a b rest more digit e valid = let same : a ≡ b = cc in contradicts (is_ascii_digit b) (subst (λ n. is_ascii_digit n ≡ true) same digit) valid.1

wrong_escape : (style : Style) (rest : List ℕ) → ((b : ℕ) (more : List ℕ) → rest ≡ b ∷ more → IsPart style (Quoted b) → ⊥) → ((a b c : ℕ) (more : List ℕ) → rest ≡ a ∷ b ∷ c ∷ more → IsPart style (Decimal a b c) → ⊥) → WrongSays style (92 ∷ rest)
wrong_escape style rest quoted decimal = BadEscape (record { rest = rest; text = refl; bad = no_part style rest quoted decimal })

three_says : (style : Style) (a b c : ℕ) (rest : List ℕ) (t : Bool) → is_ascii_digit a ≡ true → is_decimal a b c ≡ t → TokenSays style (92 ∷ a ∷ b ∷ c ∷ rest) (cond t (token.Escaped (decimal_value a b c) 4) token.Wrong)
three_says style a b c rest true digit is =
    let all = decimal_holds a b c is in
    record { part = Decimal a b c; more = rest; valid = (digit, all.0, all.1, true_le _ _ all.2); text = refl; byte_is = refl; count_is = refl; raw_is = refl }
three_says style a b c rest false digit is =
    wrong_escape style (a ∷ b ∷ c ∷ rest) (λ n more e valid. no_quoted style a n (b ∷ c ∷ rest) more digit e valid) (λ a' b' c' more e valid. contradicts (is_decimal a b c) (same a' b' c' more e valid) is)
  where
    same : (a' b' c' : ℕ) (more : List ℕ) → a ∷ b ∷ c ∷ rest ≡ a' ∷ b' ∷ c' ∷ more → IsPart style (Decimal a' b' c') → is_decimal a b c ≡ true
    same a' b' c' more e valid =
        let p : a ≡ a' = cc in
        let q : b ≡ b' = cc in
        let r : c ≡ c' = cc in
        rw (p, q, r) (true_all style a' b' c' valid)

digit_says : (style : Style) (a : ℕ) (rest : List ℕ) → is_ascii_digit a ≡ true → TokenSays style (92 ∷ a ∷ rest) (decimal_at a rest)
digit_says style a [] digit = wrong_escape style (a ∷ []) (λ n more e valid. no_quoted style a n [] more digit e valid) (λ a' b' c' more e valid. cc)
digit_says style a (b ∷ []) digit = wrong_escape style (a ∷ b ∷ []) (λ n more e valid. no_quoted style a n (b ∷ []) more digit e valid) (λ a' b' c' more e valid. cc)
digit_says style a (b ∷ c ∷ rest) digit = three_says style a b c rest (is_decimal a b c) digit refl

other_says : (style : Style) (b : ℕ) (rest : List ℕ) (shown : Bool) → is_ascii_digit b ≡ false → is_escapable style b ≡ shown → TokenSays style (92 ∷ b ∷ rest) (cond shown (token.Escaped b 2) token.Wrong)
other_says style b rest true digit is = record { part = Quoted b; more = rest; valid = (is, digit); text = refl; byte_is = refl; count_is = refl; raw_is = refl }
other_says style b rest false digit is =
    wrong_escape style (b ∷ rest) (λ n more e valid. let same : b ≡ n = cc in contradicts (is_escapable style n) valid.0 (subst (λ m. is_escapable style m ≡ false) same is))
    (λ a' b' c' more e valid. let same : b ≡ a' = cc in contradicts (is_ascii_digit a') valid.0 (subst (λ m. is_ascii_digit m ≡ false) same digit))

behind_says : (style : Style) (b : ℕ) (rest : List ℕ) (digit : Bool) → is_ascii_digit b ≡ digit → TokenSays style (92 ∷ b ∷ rest) (cond digit (decimal_at b rest) (cond (is_escapable style b) (token.Escaped b 2) token.Wrong))
behind_says style b rest true is = digit_says style b rest is
behind_says style b rest false is = other_says style b rest (is_escapable style b) is refl

escape_says : (style : Style) (rest : List ℕ) → TokenSays style (92 ∷ rest) (escape_at style rest)
escape_says style [] = wrong_escape style [] (λ b more e valid. cc) (λ a b c more e valid. cc)
escape_says style (b ∷ rest) = behind_says style b rest (is_ascii_digit b) refl

first_says : (style : Style) (b : ℕ) (rest : List ℕ) (ends slash raw : Bool) → is_end style b ≡ ends → nat_eq b 92 ≡ slash → is_raw style b ≡ raw
    → TokenSays style (b ∷ rest) (cond ends token.End (cond slash (escape_at style rest) (cond raw (token.Raw b) token.Wrong)))
first_says style b rest true slash raw p q r = p
first_says style b rest false true raw p q r = subst (λ n. TokenSays style (n ∷ rest) (escape_at style rest)) (sym (true_eq b 92 q)) (escape_says style rest)
first_says style b rest false false true p q r = record { part = Raw b; more = rest; valid = r; text = refl; byte_is = refl; count_is = refl; raw_is = refl }
first_says style b rest false false false p q r = BadByte (record { byte = b; rest = rest; text = refl; no_backslash = false_eq _ _ q; no_end = p; bad = r })

end_says : (style : Style) → TokenSays style [] (token_at_end style)
end_says Contiguous = refl
end_says InQuotes = Open (record { style_is = refl; text = refl })

pub token_says : (style : Style) (x : List ℕ) → TokenSays style x (token_at style x)
token_says style [] = end_says style
token_says style (b ∷ rest) = first_says style b rest _ _ _ refl refl refl

-- a backslash ends no string
slash_no_end : (style : Style) → is_end style 92 ≡ false
slash_no_end Contiguous = refl
slash_no_end InQuotes = refl

pub token_slash : (style : Style) (rest : List ℕ) → token_at style (92 ∷ rest) ≡ escape_at style rest
token_slash style rest = rw (slash_no_end style) refl

-- the token of a part
abbrev pub part_token : Part → Token
part_token (Raw b) = token.Raw b
part_token (Quoted b) = token.Escaped b 2
part_token (Decimal a b c) = token.Escaped (decimal_value a b c) 4

pub token_part : (style : Style) (part : Part) (more : List ℕ) → IsPart style part → token_at style (part_text part ++ more) ≡ part_token part
token_part style (Raw b) more valid =
    let p : is_end style b ≡ false = raw_no_end style b valid in
    let q : nat_eq b 92 ≡ false = eq_false _ _ (raw_no_backslash style b valid) in
    let r : is_raw style b ≡ true = valid in
    rw (p, q, r) refl
token_part style (Quoted b) more valid =
    let p : is_ascii_digit b ≡ false = valid.1 in
    let q : is_escapable style b ≡ true = valid.0 in
    token_slash style (b ∷ more) ∙ rw (p, q) refl
token_part style (Decimal a b c) more valid =
    let p : is_ascii_digit a ≡ true = valid.0 in
    let q : is_decimal a b c ≡ true = true_all style a b c valid in
    token_slash style (a ∷ b ∷ c ∷ more) ∙ rw (p, q) refl

pub token_bad_byte : (style : Style) (b : ℕ) (rest : List ℕ) → b ≢ 92 → is_end style b ≡ false → is_raw style b ≡ false → token_at style (b ∷ rest) ≡ token.Wrong
token_bad_byte style b rest slash ends bad =
    let q : nat_eq b 92 ≡ false = eq_false _ _ slash in
    rw (ends, q, bad) refl

pub token_bad_escape : (style : Style) (rest : List ℕ) → NoPart style rest → token_at style (92 ∷ rest) ≡ token.Wrong
token_bad_escape style rest none = token_slash style rest ∙ by_token (escape_at style rest) (escape_says style rest)
  where
    by_token : (t : Token) → TokenSays style (92 ∷ rest) t → t ≡ token.Wrong
    by_token token.End s = contradicts (is_end style 92) s (slash_no_end style)
    by_token (token.Raw byte) s = absurd (none s.part s.more s.valid s.text)
    by_token (token.Escaped byte count) s = absurd (none s.part s.more s.valid s.text)
    by_token token.Wrong s = refl
