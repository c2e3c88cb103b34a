-- What is written for the values of parameters (RFC 9460 appendix A).
use Rattle.std.specs.Prelude.{ℕ, ◌+◌, ◌/◌, ◌%◌, ◌&&◌, ◌||◌, nat_eq, nat_le, if◌then◌else◌, List, [], ◌∷◌, ◌++◌, map}
use Rattle.dns_names.specs.TextParts.{Part, Raw, Quoted, Decimal, parts_text}
use Rattle.svcb_values.specs.ValueReading.{is_escaped}

-- between quotes a quote and a backslash stand behind a backslash, shown bytes and the space for themselves, and any
-- other as three digits
abbrev pub written_part : ℕ → Part
written_part b =
    if nat_eq b 34 || nat_eq b 92 then Quoted b
    else (if nat_le 32 b && nat_le b 126 then Raw b
    else Decimal (48 + b / 100) (48 + b / 10 % 10) (48 + b % 10))

abbrev pub in_quotes : List ℕ → List ℕ
in_quotes bytes = 34 ∷ (parts_text (map written_part bytes) ++ 34 ∷ [])

-- an id's commas and backslashes stand behind a backslash
abbrev pub id_written : List ℕ → List ℕ
id_written [] = []
id_written (b ∷ bs) = if is_escaped b then 92 ∷ b ∷ id_written bs else b ∷ id_written bs
