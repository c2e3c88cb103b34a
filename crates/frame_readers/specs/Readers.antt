-- What a table of readers holds of each connection.
use Rattle.std.specs.Prelude.{◌≡◌, ◌≤◌, ℕ, Bool, not, nat_eq, List, [], Option, None, Some, find, filter, length}
use Rattle.h2_framing.specs.declared.frame.Frame.{Frame}
use Rattle.h2_framing.specs.declared.frame.Frame.TheVariants.{Kept, Passed}
use Rattle.h2_framing.specs.Streams.{rest_of, too_large_of}
use Rattle.h2_framing.specs.Reading.{buffer_of, Keeps, StandsFor}
use Rattle.frame_readers.specs.declared.readers.ReaderOf.{ReaderOf}

abbrev pub is_of : ℕ → ReaderOf → Bool
is_of conn r = nat_eq r.conn conn

-- the first of a connection, and those of the others
abbrev pub reader_among : List ReaderOf → ℕ → Option ReaderOf
reader_among rs conn = find (is_of conn) rs

abbrev pub other_readers : List ReaderOf → ℕ → List ReaderOf
other_readers rs conn = filter (λ r. not (is_of conn r)) rs

-- the octets that are held of an unfinished frame, and the number of those that are only counted
abbrev pub held_of : Option ReaderOf → List ℕ
held_of None = []
held_of (Some r) = buffer_of r.reader

abbrev pub skipped_of : Option ReaderOf → ℕ
skipped_of None = 0
skipped_of (Some r) = r.reader.skipped

-- the octets of the connection so far are the stream x, in which no length is above the limit
pub record Reads (rs : List ReaderOf) (conn : ℕ) (x : List ℕ) : Type 0 where
  pub keeps : Keeps (held_of (reader_among rs conn)) (skipped_of (reader_among rs conn)) (rest_of x)
  pub going : too_large_of x ≡ None

-- there is a stream for which it stands
abbrev pub Stands : ReaderOf → Type 0
Stands r = (x : List ℕ) × StandsFor r.reader x

-- a payload that is kept has at most 16,384 octets (RFC 9113 4.2)
abbrev pub Fits : Frame → Type 0
Fits (Kept head payload) = length payload ≤ 16384
Fits (Passed head) = Unit {0}
