use Rattle.route_choice.proofs.Backoffs.{doubled, at_most}
use Rattle.route_choice.proofs.failed_route.backoff.Goals as goal

pub returns-then-count-lt-MOST_FAILURES : goal.returns-then-count-lt-MOST_FAILURES
returns-then-count-lt-MOST_FAILURES c = doubled c.args.count c.saturating_sub.result c.if-count-lt-MOST_FAILURES.true c.saturating_sub.ensures

pub returns-else-count-lt-MOST_FAILURES : goal.returns-else-count-lt-MOST_FAILURES
returns-else-count-lt-MOST_FAILURES c = at_most c.args.count c.if-count-lt-MOST_FAILURES.false
