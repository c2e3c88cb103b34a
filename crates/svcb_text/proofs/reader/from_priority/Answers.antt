use Rattle.std.proofs.Common.{ℕ, ◌-◌, List, length, take, drop, sym, ◌∙◌, subst, arith}
use Rattle.std.proofs.lemmas.List.{take_rest}
use Rattle.alt_base.specs.Answers.{Answers}
use Rattle.svcb_text.proofs.ReaderSteps.{no_priority, priority_read}
use Rattle.svcb_text.proofs.reader.from_priority.Goals as goal

-- what stands behind so many bytes
abbrev behind : List ℕ → ℕ → List ℕ
behind x count = take (length x - count) (drop count x)

pub returns-in_default : goal.returns-in_default
returns-in_default c = no_priority c.args.size c.args.place c.item_len-count.result c.args.rest.now c.item_len-count.ensures.run c.in_default.ensures

pub returns : goal.returns
returns c =
    let x = c.args.rest.now in
    let count = c.item_len-count.result in
    let blanks = c.ows-blanks.result in
    let y = behind x count in
    subst (Answers c.behind_priority.result)
    (sym (priority_read c.args.size c.args.place c.in-Some.priority count blanks x y (behind y blanks) c.item_len-count.ensures.run c.in-Some.ensures (take_rest x count) (omega (arith, c.ows-blanks.ensures.reading)) (take_rest y blanks ∙ c.ows-blanks.ensures.rest)))
    c.behind_priority.ensures
