use Rattle.std.proofs.Common.{refl}
use Rattle.route_events.specs.Backoff.{is_barred_by}
use Rattle.route_choice.specs.Contents.{kept_failures}
use Rattle.route_choice.proofs.PairLists.{one_number_of}
use Rattle.route_choice.proofs.laws.one_total.Goals as goal

pub returns-clause-number : goal.returns-clause-number
returns-clause-number c = one_number_of

pub returns-clause-total : goal.returns-clause-total
returns-clause-total c = λ broken now m n. one_number_of (λ o r. is_barred_by (kept_failures broken o r) r now) (λ o r. is_barred_by (kept_failures broken o r) r now) m n (λ o r. refl)
