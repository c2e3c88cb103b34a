-- Only a candidate is authoritative.
use Rattle.std.proofs.Common.{◌≡◌, Bool, true, false, cond, not, ◌&&◌, ◌||◌, nat_eq}
use Rattle.coalescing.specs.Covers.{covers}
use Rattle.origin_values.specs.Equality.{origin_eq}
use Rattle.origin_values.specs.declared.origin.Origin.{Origin}
use Rattle.route_events.specs.declared.reach.Reach.{Reach}
use Rattle.route_events.specs.Records.{ConnectionRecord}
use Rattle.route_events.specs.Authority.{is_https, is_tls, is_h2, rests_on, may_coalesce, authorises_https, authorises_http, authorises, is_candidate}
use Rattle.std.proofs.lemmas.Bool.{and_right, and_left, or_from}
use Rattle.alt_base.proofs.Booleans.{first_of_neither, second_of_neither}

pub no_candidate : (c : ConnectionRecord) (o : Origin) (reach : Reach) → is_candidate c o reach ≡ false → authorises c o reach ≡ false
no_candidate c o reach none = and_right (not (c.misdirected o)) _ (by_scheme (is_https o.scheme))
  where
    other : origin_eq c.made.origin o ≡ false
    other = first_of_neither (origin_eq c.made.origin o) ((c.gated && c.holds o) || (nat_eq c.made.port o.port && reach.address)) none

    ways : ((c.gated && c.holds o) || (nat_eq c.made.port o.port && reach.address)) ≡ false
    ways = second_of_neither (origin_eq c.made.origin o) ((c.gated && c.holds o) || (nat_eq c.made.port o.port && reach.address)) none

    no_basis : rests_on c o ≡ false
    no_basis = and_left (origin_eq c.made.origin o) c.bound other

    not_there : may_coalesce c.made o reach ≡ false
    not_there = and_right (is_h2 c.made.proto) (nat_eq c.made.port o.port && reach.address) (second_of_neither (c.gated && c.holds o) (nat_eq c.made.port o.port && reach.address) ways)

    by_set : (b : Bool) → (b && c.holds o) ≡ false → cond b (c.holds o) (rests_on c o || may_coalesce c.made o reach) ≡ false
    by_set true e = e
    by_set false e = or_from (rests_on c o) (may_coalesce c.made o reach) no_basis not_there

    by_scheme : (b : Bool) → cond b (authorises_https c o reach) (authorises_http c o) ≡ false
    by_scheme true = and_right (is_tls c.made) _ (and_right (covers c.made.names o.host) _ (by_set c.gated (first_of_neither (c.gated && c.holds o) (nat_eq c.made.port o.port && reach.address) ways)))
    by_scheme false = and_right (not (is_tls c.made)) (rests_on c o) no_basis
