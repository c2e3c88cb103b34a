use Rattle.route_choice.proofs.Backoffs.{capped_backing_off, capped_barred}
use Rattle.route_choice.proofs.laws.capping_changes_no_backoff.Goals as goal

pub returns-clause-backing_off : goal.returns-clause-backing_off
returns-clause-backing_off c = capped_backing_off

pub returns-clause-barred : goal.returns-clause-barred
returns-clause-barred c = capped_barred
