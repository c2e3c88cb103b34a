-- Reading the ASCII text of an origin (RFC 6454 6.2).
use Rattle.std.specs.Prelude.{ℕ, nat_eq, List, Option, None, Some, Result, Ok, Err, if◌then◌else◌}
use Rattle.std.specs.Cmp.Lexicographic.{pointwise}
use Rattle.alt_base.specs.declared.refusal.At.{At}
use Rattle.origin_values.specs.OriginReading.{read_origin}
use Rattle.origin_values.specs.Written.{origin_text}
use Rattle.origin_values.specs.declared.origin.Origin.{Origin}
use Rattle.origin_values.specs.declared.refusal.OriginRefusal.{OriginRefusal}

-- the origin that was read, where it is written as the text
abbrev pub if_written_as : List ℕ → Result Origin (At OriginRefusal) → Option Origin
if_written_as text (Ok origin) = if pointwise nat_eq (origin_text origin) text then Some origin else None
if_written_as text (Err at) = None

-- the origin whose ASCII text this is
unfoldable pub ascii_origin : List ℕ → Option Origin
ascii_origin text = if_written_as text (read_origin text)
