-- Reading the digits of a port that stand alone.
use Rattle.std.specs.Prelude.{ℕ, ◌&&◌, nat_le, List, [], ◌∷◌, length, Option, None, Some, if◌then◌else◌}
use Rattle.std.specs.List.{list_all}
use Rattle.std.specs.Char.{is_ascii_digit}
use Rattle.std.specs.Str.Parse.{digits_value}

-- the number that one to five digits write, of at most 65535
abbrev pub read_port_digits : List ℕ → Option ℕ
read_port_digits [] = None
read_port_digits (b ∷ bs) =
    if list_all is_ascii_digit (b ∷ bs) && (nat_le (length (b ∷ bs)) 5 && nat_le (digits_value 10 (b ∷ bs)) 65535) then Some (digits_value 10 (b ∷ bs)) else None
