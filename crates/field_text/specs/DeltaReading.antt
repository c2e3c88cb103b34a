-- Reading a number of seconds.
use Rattle.std.specs.Prelude.{ℕ, min, List, [], ◌∷◌, Option, Some, None, if◌then◌else◌}
use Rattle.std.specs.List.{list_all}
use Rattle.std.specs.Char.{is_ascii_digit}
use Rattle.std.specs.Str.Parse.{digits_value}
use Rattle.field_text.specs.DeltaGrammar.{greatest_delta_seconds}

abbrev pub read_delta_seconds : List ℕ → Option ℕ
read_delta_seconds [] = None
read_delta_seconds (b ∷ bs) =
    if list_all is_ascii_digit (b ∷ bs) then Some (min (digits_value 10 (b ∷ bs)) greatest_delta_seconds) else None
