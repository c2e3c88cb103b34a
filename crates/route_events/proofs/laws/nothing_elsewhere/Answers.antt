use Rattle.route_events.proofs.Elsewhere.{not_advertised, not_attempted, origins_apart, routes_apart}
use Rattle.route_events.proofs.laws.nothing_elsewhere.Goals as goal

pub returns-clause-live : goal.returns-clause-live
returns-clause-live c = λ j o now none. not_advertised j o now none

pub returns-clause-failures : goal.returns-clause-failures
returns-clause-failures c = λ j o r none. not_attempted j o r none

pub returns-clause-origins : goal.returns-clause-origins
returns-clause-origins c = λ j. origins_apart j

pub returns-clause-routes : goal.returns-clause-routes
returns-clause-routes c = λ j. routes_apart j
