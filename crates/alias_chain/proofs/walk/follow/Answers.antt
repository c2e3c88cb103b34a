use Rattle.std.proofs.Common.{◌≡◌, ◌∙◌, ◌+◌, ◌-◌, ◌++◌, ◌∷◌, [], ◌||◌, Some, None, true, false, cond, ap, sym, arith}
use Rattle.alias_chain.specs.Held.{body_at}
use Rattle.alias_chain.specs.Walk.{AnswerMap, alias_of}
use Rattle.alias_chain.specs.Following.{is_root, is_among, go_on, follow}
use Rattle.alias_chain.proofs.Walks.{follow_once, follow_none}
use Rattle.alias_chain.proofs.walk.follow.Goals as goal

pub returns-in_default : goal.returns-in_default
returns-in_default g c =
    let m : AnswerMap = λ name. body_at c.args.now.0 (g.A.Answers.held c.args.answers.now name) in
    let left = 9 - (c.loop.counter + 1) in
    let ended : alias_of (m c.loop.name) ≡ None = sym c.in_ok-target.ensures ∙ c.in_default.is in
    sym (follow_once m (9 - c.loop.counter) left c.loop.before c.loop.name (omega arith) ∙ ap (go_on (follow m left) c.loop.before c.loop.name) ended) ∙ c.loop.invariant

pub returns-then-is_barred : goal.returns-then-is_barred
returns-then-is_barred g c =
    let m : AnswerMap = λ name. body_at c.args.now.0 (g.A.Answers.held c.args.answers.now name) in
    let left = 9 - (c.loop.counter + 1) in
    let target = c.in-Some.target in
    let names = c.loop.before ++ c.loop.name ∷ [] in
    let leads : alias_of (m c.loop.name) ≡ Some target = sym c.in_ok-target.ensures ∙ c.in-Some.is in
    let barred : (is_root target || is_among target names) ≡ true = ap (λ n. is_root target || is_among target n) (sym (c.as_slice.ensures ∙ c.in_ok-push.ensures.ok)) ∙ sym c.is_barred.ensures ∙ c.if-is_barred.true in
    sym (follow_once m (9 - c.loop.counter) left c.loop.before c.loop.name (omega arith) ∙ ap (go_on (follow m left) c.loop.before c.loop.name) leads ∙ ap (λ b. cond b None (follow m left names target)) barred) ∙ c.loop.invariant

pub loop-preserved : goal.loop-preserved
loop-preserved g c =
    let m : AnswerMap = λ name. body_at c.args.now.0 (g.A.Answers.held c.args.answers.now name) in
    let left = 9 - (c.loop.counter + 1) in
    let target = c.in-Some.target in
    let names = c.loop.before ++ c.loop.name ∷ [] in
    let leads : alias_of (m c.loop.name) ≡ Some target = sym c.in_ok-target.ensures ∙ c.in-Some.is in
    let free : (is_root target || is_among target names) ≡ false = ap (λ n. is_root target || is_among target n) (sym (c.as_slice.ensures ∙ c.in_ok-push.ensures.ok)) ∙ sym c.is_barred.ensures ∙ c.if-is_barred.false in
    sym (follow_once m (9 - c.loop.counter) left c.loop.before c.loop.name (omega arith) ∙ ap (go_on (follow m left) c.loop.before c.loop.name) leads ∙ ap (λ b. cond b None (follow m left names target)) free ∙ ap (λ ns. follow m left ns target) (sym c.in_ok-push.ensures.ok)) ∙ c.loop.invariant

pub returns : goal.returns
returns g c =
    let m : AnswerMap = λ name. body_at c.args.now.0 (g.A.Answers.held c.args.answers.now name) in
    sym (ap (λ n. follow m n c.loop.before c.loop.name) (omega arith) ∙ follow_none m c.loop.before c.loop.name) ∙ c.loop.invariant
