-- One step of the reading of a string.
use Rattle.std.proofs.Common.{◌≡◌, ℕ, zero, suc, ◌+◌, ◌<◌, ◌≤◌, Bool, List, length, drop, refl, ap, ◌∙◌, arith}
use Rattle.std.proofs.lemmas.List.{length-drop, length-append}
use Rattle.dns_names.specs.TextParts.{part_text}
use Rattle.dns_names.proofs.TextSteps.{part_some}
use Rattle.svcb_values.specs.declared.token.Style.{Style}
use Rattle.svcb_values.specs.declared.token.Token.{Token}
use Rattle.svcb_values.specs.declared.token.Token.TheVariants as token
use Rattle.svcb_values.specs.declared.unescaped.Unescaped.{Unescaped}
use Rattle.svcb_values.specs.StringReading.{StringAnswer, token_at, read_by, read_tokens}
use Rattle.svcb_values.proofs.TokenLaws.{BeginsPart, TokenSays, token_says}

-- how far a part reaches
pub part_size : (style : Style) (x : List ℕ) (byte count : ℕ) (raw : Bool) → BeginsPart style x byte count raw → (1 ≤ count) × (count ≤ length x)
part_size style x byte count raw says =
    let some = part_some says.part in
    let size : length x ≡ length (part_text says.part) + length says.more = ap length says.text ∙ length-append (part_text says.part) says.more in
    (omega (arith, some, says.count_is), omega (arith, size, says.count_is))

abbrev Next : Type 0
Next = Unescaped → ℕ → List ℕ → StringAnswer

same_next : (t : Token) (style : Style) (k m : ℕ) (value : Unescaped) (count : ℕ) (x : List ℕ) (f g : Next) → TokenSays style x t → length x < suc k → length x < suc m
    → ((v : Unescaped) (n : ℕ) (y : List ℕ) → length y < k → length y < m → f v n y ≡ g v n y) → read_by t style value count x f ≡ read_by t style value count x g
same_next token.End style k m value count x f g says h i next = refl
same_next (token.Raw byte) style k m value count x f g says h i next =
    let size = part_size style x _ _ _ says in
    next _ _ (drop 1 x) (omega (arith, length-drop 1 x, h, size.1)) (omega (arith, length-drop 1 x, i, size.1))
same_next (token.Escaped byte many) style k m value count x f g says h i next =
    let size = part_size style x _ _ _ says in
    next _ _ (drop many x) (omega (arith, length-drop many x, h, size.0, size.1)) (omega (arith, length-drop many x, i, size.0, size.1))
same_next token.Wrong style k m value count x f g says h i next = refl

pub enough : (k m : ℕ) (style : Style) (value : Unescaped) (count : ℕ) (x : List ℕ) → length x < k → length x < m → read_tokens k style value count x ≡ read_tokens m style value count x
enough zero m style value count x h i = absurd (omega arith)
enough (suc k) zero style value count x h i = absurd (omega arith)
enough (suc k) (suc m) style value count x h i =
    same_next (token_at style x) style k m value count x (read_tokens k style) (read_tokens m style) (token_says style x) h i (λ v n y p q. enough k m style v n y p q)

-- what is left is read
abbrev pub reads : Style → Unescaped → ℕ → List ℕ → StringAnswer
reads style value count x = read_tokens (suc (length x)) style value count x

pub reads_token : (t : Token) (style : Style) (value : Unescaped) (count : ℕ) (x : List ℕ) → token_at style x ≡ t → reads style value count x ≡ read_by t style value count x (reads style)
reads_token t style value count x is =
    same_next (token_at style x) style (length x) (length x) value count x (read_tokens (length x) style) (reads style) (token_says style x) (omega arith) (omega arith) (λ v n y p q. enough (length x) (suc (length y)) style v n y p (omega arith))
    ∙ ap (λ u. read_by u style value count x (reads style)) is
