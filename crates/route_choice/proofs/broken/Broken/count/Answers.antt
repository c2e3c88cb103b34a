use Rattle.std.proofs.Common.{◌≡◌, ℕ, ◌<◌, ap, ◌∙◌, arith}
use Rattle.std.specs.Prelude.{count_by, min}
use Rattle.route_choice.specs.Contents.{kept_failures}
use Rattle.route_choice.specs.FailedRoutes.{pairs_of, is_barred}
use Rattle.route_choice.proofs.Totals.{none_elsewhere, count_of_pairs}
use Rattle.route_choice.proofs.broken.Broken.count.Goals as goal

at_most : (x n : ℕ) → x ≡ n → x < 18446744073709551616 → x ≡ min n 18446744073709551615
at_most x n same fits = omega arith

pub returns : goal.returns
unfolding kept_failures
returns c =
    let fs = c.args.self.now.failed.items in
    let now = c.args.now.0 in
    let counted = c.count_barred.ensures ∙ ap (count_by (is_barred now)) c.as_slice.ensures.value in (
      count_by (is_barred now) fs,
      (
        record {
          pairs = pairs_of fs;
          distinct = c.args.self.now.distinct;
          elsewhere = none_elsewhere now fs;
          count = count_of_pairs now fs c.args.self.now.distinct;
        },
        at_most c.count_barred.result (count_by (is_barred now) fs) counted c.count_barred.type_inv,
      ),
    )
