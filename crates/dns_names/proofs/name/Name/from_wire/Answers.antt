use Rattle.std.proofs.Common.{◌≡◌, ℕ, List, Result, Ok, Err, drop, subst}
use Rattle.std.proofs.lemmas.List.{take_rest}
use Rattle.std.proofs.lemmas.Result.{err_from_is_err_and}
use Rattle.alt_base.specs.declared.refusal.Refused.{Refused}
use Rattle.dns_names.specs.declared.refusal.NameRefusal.{NameRefusal}
use Rattle.alt_base.specs.Answers.{Answers}
use Rattle.dns_names.specs.WireReading.{read_wire}
use Rattle.dns_names.proofs.Bounds.{end_within, wire_refused_within}
use Rattle.dns_names.proofs.Bytes.{bytes_of, bytes_drop}
use Rattle.dns_names.proofs.WireNames.{read_says, refused_by, read_name}
use Rattle.dns_names.proofs.name.Name.from_wire.Goals as goal

pub invariant_of-result : goal.invariant_of-result
invariant_of-result c =
    read_name c.args.place c.in_ok-labels.end (drop c.args.place c.args.input.now) c.in_ok-labels.labels (bytes_drop c.args.place c.args.input.now (bytes_of c.args.input.now c.type_inv.input))
    (subst (λ xs. read_wire c.args.place xs ≡ Ok (c.in_ok-labels.labels, c.in_ok-labels.end)) (take_rest c.args.input.now c.args.place) c.in_ok-labels.ensures)

pub returns-clause-name : goal.returns-clause-name
returns-clause-name c =
    read_name c.args.place c.in_ok-labels.end (drop c.args.place c.args.input.now) c.in_ok-labels.labels (bytes_drop c.args.place c.args.input.now (bytes_of c.args.input.now c.type_inv.input))
    (subst (λ xs. read_wire c.args.place xs ≡ Ok (c.in_ok-labels.labels, c.in_ok-labels.end)) (take_rest c.args.input.now c.args.place) c.in_ok-labels.ensures)

pub returns-clause-spelled : goal.returns-clause-spelled
returns-clause-spelled c =
    read_says c.args.place c.in_ok-labels.end (drop c.args.place c.args.input.now) c.in_ok-labels.labels
    (subst (λ xs. read_wire c.args.place xs ≡ Ok (c.in_ok-labels.labels, c.in_ok-labels.end)) (take_rest c.args.input.now c.args.place) c.in_ok-labels.ensures)

pub returns-in_err-labels-clause-refused : goal.returns-in_err-labels-clause-refused
returns-in_err-labels-clause-refused c =
    let p = err_from_is_err_and c.from_residual.result c.from_residual.ensures.1 in
    let failed : Result (List (List ℕ) × ℕ) (Refused NameRefusal) = Err c.in_err-labels.field-0.0 in
    rw (p.1, p.2) (refused_by failed c.args.place (drop c.args.place c.args.input.now) (subst (λ xs. Answers failed (read_wire c.args.place xs)) (take_rest c.args.input.now c.args.place) c.in_err-labels.ensures))

pub returns-clause-after : goal.returns-clause-after
returns-clause-after c =
    end_within c.args.place c.in_ok-labels.end c.args.input.now c.in_ok-labels.labels c.requires.within (read_says c.args.place c.in_ok-labels.end (drop c.args.place c.args.input.now) c.in_ok-labels.labels
    (subst (λ xs. read_wire c.args.place xs ≡ Ok (c.in_ok-labels.labels, c.in_ok-labels.end)) (take_rest c.args.input.now c.args.place) c.in_ok-labels.ensures))

pub returns-in_err-labels-clause-refused_within : goal.returns-in_err-labels-clause-refused_within
returns-in_err-labels-clause-refused_within c = wire_refused_within c.from_residual.result c.args.place c.args.input.now c.requires.within (returns-in_err-labels-clause-refused c)
