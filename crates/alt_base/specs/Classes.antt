-- Classes of bytes, each as the list of its ranges, and what it is to be in one.
use Rattle.std.specs.Prelude.{ℕ, Bool, ◌&&◌, nat_le, List, [], ◌∷◌}
use Rattle.std.specs.List.{list_any}

-- the bytes from the first to the last of a range, both of them
abbrev pub is_between : ℕ → (ℕ × ℕ) → Bool
is_between byte range = nat_le range.0 byte && nat_le byte range.1

-- some range holds the byte
abbrev pub in_ranges : List (ℕ × ℕ) → ℕ → Bool
in_ranges ranges byte = list_any (is_between byte) ranges

-- RFC 9110 5.6.2: tchar
abbrev pub token_class : List (ℕ × ℕ)
token_class = (33, 33) ∷ (35, 39) ∷ (42, 43) ∷ (45, 46) ∷ (48, 57) ∷ (65, 90) ∷ (94, 122) ∷ (124, 124) ∷ (126, 126) ∷ []

-- RFC 9110 5.6.4: qdtext
abbrev pub quoted_text_class : List (ℕ × ℕ)
quoted_text_class = (9, 9) ∷ (32, 33) ∷ (35, 91) ∷ (93, 126) ∷ (128, 255) ∷ []

-- RFC 9110 5.6.4: what a quoted-pair may have behind its backslash
abbrev pub after_backslash_class : List (ℕ × ℕ)
after_backslash_class = (9, 9) ∷ (32, 126) ∷ (128, 255) ∷ []

-- letters, digits, `-` and `_`: the bytes of a label of a host's name
abbrev pub host_name_class : List (ℕ × ℕ)
host_name_class = (45, 45) ∷ (48, 57) ∷ (65, 90) ∷ (95, 95) ∷ (97, 122) ∷ []

-- RFC 9460 2.1: the bytes of a SvcParamKey
abbrev pub record_key_class : List (ℕ × ℕ)
record_key_class = (45, 45) ∷ (48, 57) ∷ (97, 122) ∷ []

-- RFC 9460 appendix A: non-special
abbrev pub contiguous_value_class : List (ℕ × ℕ)
contiguous_value_class = (33, 33) ∷ (35, 39) ∷ (42, 58) ∷ (60, 91) ∷ (93, 126) ∷ []

-- RFC 9460 appendix A: what stands for itself between quotes
abbrev pub quoted_value_class : List (ℕ × ℕ)
quoted_value_class = (9, 9) ∷ (32, 33) ∷ (35, 91) ∷ (93, 126) ∷ []
