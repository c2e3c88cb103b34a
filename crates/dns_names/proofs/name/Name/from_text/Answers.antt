use Rattle.std.proofs.Common.{ℕ, List, Result, Err}
use Rattle.std.proofs.lemmas.Result.{err_from_is_err_and}
use Rattle.alt_base.specs.declared.refusal.Refused.{Refused}
use Rattle.dns_names.specs.declared.refusal.NameRefusal.{NameRefusal}
use Rattle.dns_names.proofs.Bounds.{text_refused_within}
use Rattle.dns_names.proofs.TextNames.{read_says, refused_by, read_name}
use Rattle.dns_names.proofs.name.Name.from_text.Goals as goal

pub invariant_of-result : goal.invariant_of-result
invariant_of-result c = read_name c.args.text.now c.in_ok-labels.labels c.in_ok-labels.ensures

pub returns-clause-name : goal.returns-clause-name
returns-clause-name c = read_name c.args.text.now c.in_ok-labels.labels c.in_ok-labels.ensures

pub returns-clause-spelled : goal.returns-clause-spelled
returns-clause-spelled c = read_says c.args.text.now c.in_ok-labels.labels c.in_ok-labels.ensures

pub returns-in_err-labels-clause-refused : goal.returns-in_err-labels-clause-refused
returns-in_err-labels-clause-refused c =
    let p = err_from_is_err_and c.from_residual.result c.from_residual.ensures.1 in
    let failed : Result (List (List ℕ)) (Refused NameRefusal) = Err c.in_err-labels.field-0.0 in
    rw (p.1, p.2) (refused_by failed c.args.text.now c.in_err-labels.ensures)

pub returns-in_err-labels-clause-refused_within : goal.returns-in_err-labels-clause-refused_within
returns-in_err-labels-clause-refused_within c = text_refused_within c.from_residual.result c.args.text.now (returns-in_err-labels-clause-refused c)
