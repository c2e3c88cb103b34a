-- The greatest numbers that a line may have, or what it says.
use Rattle.std.specs.Prelude.{ℕ}

-- of a moment, and of a request's number
abbrev pub most_short : ℕ
most_short = 4294967295

-- of an attempt's or a connection's number
abbrev pub most_long : ℕ
most_long = 18446744073709551615

abbrev pub most_port : ℕ
most_port = 65535

abbrev pub most_status : ℕ
most_status = 599

-- of the seconds for which an answer is in force (RFC 2181 8)
abbrev pub most_ttl : ℕ
most_ttl = 2147483647

-- of octets that come at once, or that a record has
abbrev pub most_octets : ℕ
most_octets = 65536
