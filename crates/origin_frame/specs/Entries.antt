-- The steps of reading entries: the one in front, and what is listed with one more behind.
use Rattle.std.specs.Prelude.{ℕ, ◌+◌, ◌*◌, nat_lt, List, [], ◌∷◌, ◌++◌, length, take, Option, None, Some, if◌then◌else◌}
use Rattle.origin_values.specs.declared.origin.Origin.{Origin}
use Rattle.origin_frame.specs.declared.listed.Listed.{Listed}

abbrev pub entry_of : List ℕ → Option (List ℕ)
entry_of [] = None
entry_of (high ∷ []) = None
entry_of (high ∷ low ∷ octets) = if nat_lt (length octets) (high * 256 + low) then None else Some (take (high * 256 + low) octets)

-- what is listed with one entry more behind
abbrev pub with_last : Option Origin → Listed → Listed
with_last (Some origin) listed = record { origins = listed.origins ++ origin ∷ []; skipped = listed.skipped }
with_last None listed = record { origins = listed.origins; skipped = listed.skipped + 1 }
