use Rattle.std.proofs.Common.{◌≡◌, ◌≤◌, ℕ, [], subst, arith}
use Rattle.network_cache.specs.Contents.{newest_moment as newest_value}
use Rattle.route_choice.specs.Contents.{newest_moment as newest_failure}
use Rattle.altroute_program.proofs.lent_table_tests.lent_tables.Goals as goal

-- the router stands for a history whose newest step was at 2, and what it lends isn't above that

pub live-requires : goal.live-requires
live-requires g c =
    let asked = c.in_ok-router-2.ensures.stands _ (c.in_ok-router.ensures.stands [] c.new.ensures) in
    subst (λ n. newest_value c.alternatives.result.now ≤ n) (c.in_ok-router-3.ensures.moment _ asked) (c.alternatives.ensures.moment _ (c.in_ok-router-3.ensures.stands _ asked))

pub count-requires : goal.count-requires
count-requires g c =
    let asked = c.in_ok-router-2.ensures.stands _ (c.in_ok-router.ensures.stands [] c.new.ensures) in
    omega (arith, subst (λ n. newest_value c.alternatives-2.result.now ≤ n) (c.in_ok-router-3.ensures.moment _ asked) (c.alternatives-2.ensures.moment _ (c.in_ok-router-3.ensures.stands _ asked)))

pub count-requires-2 : goal.count-requires-2
count-requires-2 g c =
    let asked = c.in_ok-router-2.ensures.stands _ (c.in_ok-router.ensures.stands [] c.new.ensures) in
    omega (arith, subst (λ n. newest_value c.alternatives-3.result.now ≤ n) (c.in_ok-router-3.ensures.moment _ asked) (c.alternatives-3.ensures.moment _ (c.in_ok-router-3.ensures.stands _ asked)))

pub count-requires-3 : goal.count-requires-3
count-requires-3 g c =
    let asked = c.in_ok-router-2.ensures.stands _ (c.in_ok-router.ensures.stands [] c.new.ensures) in
    subst (λ n. newest_failure c.broken.result.now ≤ n) (c.in_ok-router-3.ensures.moment _ asked) (c.broken.ensures.moment _ (c.in_ok-router-3.ensures.stands _ asked))

pub is_broken-requires : goal.is_broken-requires
is_broken-requires g c =
    let asked = c.in_ok-router-2.ensures.stands _ (c.in_ok-router.ensures.stands [] c.new.ensures) in
    subst (λ n. newest_failure c.broken-2.result.now ≤ n) (c.in_ok-router-3.ensures.moment _ asked) (c.broken-2.ensures.moment _ (c.in_ok-router-3.ensures.stands _ asked))
