-- How many failures are told apart: the backoff doesn't grow after the eleventh.
use Rattle.std.specs.Prelude.{min}
use Rattle.route_events.specs.Backoff.{Failures}

-- more failures than 11 count as 11
abbrev pub capped : Failures → Failures
capped f = record { count = min 11 f.count; last = f.last }
