use Rattle.std.proofs.Common.{◌≡◌, true, false, cond, sym, ap, ◌∙◌}
use Rattle.advertiser_core.specs.declared.answer.Answer.TheVariants.{Serve, Misdirected}
use Rattle.advertiser_core.specs.ServedList.{is_served}
use Rattle.advertiser_core.proofs.Standing.{found_where_served}
use Rattle.advertiser_core.proofs.advertiser.Advertiser.ask.Goals as goal

pub returns-then-contains : goal.returns-then-contains
returns-then-contains c = λ acts s.
    let served : is_served acts c.args.origin.now ≡ true = sym (found_where_served c.args.self.now acts c.args.origin.now s) ∙ sym c.contains.ensures ∙ c.if-contains.true in
    sym (ap (λ t. cond t Serve Misdirected) served)

pub returns-else-contains : goal.returns-else-contains
returns-else-contains c = λ acts s.
    let served : is_served acts c.args.origin.now ≡ false = sym (found_where_served c.args.self.now acts c.args.origin.now s) ∙ sym c.contains.ensures ∙ c.if-contains.false in
    sym (ap (λ t. cond t Serve Misdirected) served)
