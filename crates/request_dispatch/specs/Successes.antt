-- When an attempt succeeds.
use Rattle.std.specs.Prelude.{Bool, not, ◌&&◌, ◌||◌, List}
use Rattle.coalescing.specs.Covers.{covers}
use Rattle.coalescing.specs.declared.cert_name.CertName.{CertName}
use Rattle.origin_values.specs.declared.origin.Origin.{Origin}
use Rattle.origin_values.specs.declared.proto.Proto.{Proto}
use Rattle.route_events.specs.declared.route.Route.{Route}
use Rattle.route_events.specs.Authority.{is_https, is_among, protocols}

-- an opening is a success of an attempt for an origin by a route: the protocol is one of the route's and, for https, the
-- names cover the origin's host (RFC 9110 4.3.4)
abbrev pub succeeds : Origin → Route → Proto → List CertName → Bool
succeeds o r proto names = is_among (protocols o.scheme r) proto && (not (is_https o.scheme) || covers names o.host)
