-- The names of keys in text (RFC 9460 2.1 and 14.3.2).
use Rattle.std.specs.Prelude.{ℕ, ◌&&◌, nat_eq, nat_le, Bool, List, [], ◌∷◌, ◌++◌, length, take, drop, codes, decimal, Option, Some, None, if◌then◌else◌}
use Rattle.std.specs.List.{list_all}
use Rattle.std.specs.Char.{is_ascii_digit}
use Rattle.std.specs.Str.Parse.{digits_value}
use Rattle.std.specs.Cmp.Lexicographic.{pointwise}
use Rattle.alt_base.specs.Classes.{in_ranges, record_key_class}

-- a key with a form of its own has a name; any other is `key` and its number, without leading zeros
unfoldable pub key_name : ℕ → List ℕ
key_name key =
    if nat_eq key 0 then codes "mandatory"
    else (if nat_eq key 1 then codes "alpn"
    else (if nat_eq key 2 then codes "no-default-alpn"
    else (if nat_eq key 3 then codes "port"
    else (if nat_eq key 4 then codes "ipv4hint"
    else (if nat_eq key 6 then codes "ipv6hint"
    else codes "key" ++ decimal key)))))

abbrev pub is_key_byte : ℕ → Bool
is_key_byte b = in_ranges record_key_class b

-- a text is this one
abbrev pub is_text : List ℕ → List ℕ → Bool
is_text text this = pointwise nat_eq text this

-- digits of a number of at most 65535, without leading zeros
abbrev pub number_of : List ℕ → Option ℕ
number_of [] = None
number_of (b ∷ bs) =
    if (list_all is_ascii_digit (b ∷ bs) && nat_le (length (b ∷ bs)) 5) && (nat_le (digits_value 10 (b ∷ bs)) 65535 && is_text (b ∷ bs) (decimal (digits_value 10 (b ∷ bs))))
    then Some (digits_value 10 (b ∷ bs)) else None

-- a key that has a form of its own isn't named by its number
abbrev pub unnamed : Option ℕ → Option ℕ
unnamed None = None
unnamed (Some key) = if nat_le key 4 then None else (if nat_eq key 6 then None else Some key)

abbrev pub numbered_key : List ℕ → Option ℕ
numbered_key text = if is_text (take 3 text) (codes "key") then unnamed (number_of (drop 3 text)) else None

-- the key that a text names
abbrev pub key_named : List ℕ → Option ℕ
key_named text =
    if is_text text (codes "mandatory") then Some 0
    else (if is_text text (codes "alpn") then Some 1
    else (if is_text text (codes "no-default-alpn") then Some 2
    else (if is_text text (codes "port") then Some 3
    else (if is_text text (codes "ipv4hint") then Some 4
    else (if is_text text (codes "ipv6hint") then Some 6
    else numbered_key text)))))
