-- Reading a quoted string in the bytes from a place on, byte by byte.
use Rattle.std.specs.Prelude.{ℕ, ◌+◌, Bool, true, false, nat_eq, List, [], ◌∷◌, Result, Ok, if◌then◌else◌}
use Rattle.alt_base.specs.declared.refusal.At.{At}
use Rattle.field_text.specs.declared.text_refusal.TextRefusal.{TextRefusal}
use Rattle.field_text.specs.declared.text_refusal.TextRefusal.TheVariants.{Empty, BadByte, Unclosed}
use Rattle.field_text.specs.Refusals.{refused}
use Rattle.field_text.specs.QuotedGrammar.{is_quoted_text, is_after_backslash}

-- the text behind the opening quote; escaped says that a backslash stands just before
abbrev pub read_body : Bool → ℕ → List ℕ → Result ℕ (At TextRefusal)
read_body escaped place [] = refused place Unclosed
read_body true place (b ∷ bs) = if is_after_backslash b then read_body false (place + 1) bs else refused place BadByte
read_body false place (b ∷ bs) =
    if nat_eq b 34 then Ok (place + 1)
    else (if nat_eq b 92 then read_body true (place + 1) bs
    else (if is_quoted_text b then read_body false (place + 1) bs else refused place BadByte))

abbrev pub read_quoted : ℕ → List ℕ → Result ℕ (At TextRefusal)
read_quoted place [] = refused place Empty
read_quoted place (b ∷ bs) = if nat_eq b 34 then read_body false (place + 1) bs else refused place Empty

-- the bytes that the text behind the opening quote stands for, up to the closing one
abbrev pub unquoted_body : Bool → List ℕ → List ℕ
unquoted_body escaped [] = []
unquoted_body true (b ∷ bs) = b ∷ unquoted_body false bs
unquoted_body false (b ∷ bs) =
    if nat_eq b 34 then [] else (if nat_eq b 92 then unquoted_body true bs else b ∷ unquoted_body false bs)

-- the unquoted text of the quoted string in front
abbrev pub unquoted : List ℕ → List ℕ
unquoted [] = []
unquoted (b ∷ bs) = unquoted_body false bs

-- the bytes behind the closing quote
abbrev pub after_body : Bool → List ℕ → List ℕ
after_body escaped [] = []
after_body true (b ∷ bs) = after_body false bs
after_body false (b ∷ bs) = if nat_eq b 34 then bs else (if nat_eq b 92 then after_body true bs else after_body false bs)

abbrev pub after_quoted : List ℕ → List ℕ
after_quoted [] = []
after_quoted (b ∷ bs) = after_body false bs
