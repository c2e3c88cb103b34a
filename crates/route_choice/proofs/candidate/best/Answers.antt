use Rattle.std.proofs.Common.{ap, sym, ◌∙◌}
use Rattle.std.specs.Prelude.{find}
use Rattle.std.specs.Option.{option_copied}
use Rattle.route_events.specs.Dispatch.{first_of}
use Rattle.route_choice.specs.declared.candidate.Candidate.{Candidate}
use Rattle.route_choice.specs.Candidates.{is_by_alt, is_basis, number_of}
use Rattle.route_choice.proofs.Bests.{best_by_alt, best_with_basis, best_first}
use Rattle.route_choice.proofs.candidate.best.Goals as goal

pub returns-in-Some : goal.returns-in-Some
returns-in-Some c =
    let cs = c.args.candidates.now in
    best_by_alt cs c.in-Some.candidate.now (ap (find (λ (x : Candidate). is_by_alt x.basis)) (sym c.as_slice-candidates.ensures) ∙ sym c.first_by_alt.ensures ∙ ap option_copied c.in-Some.is)

pub returns-in-Some-first_with_basis : goal.returns-in-Some-first_with_basis
returns-in-Some-first_with_basis c =
    let cs = c.args.candidates.now in
    best_with_basis cs c.in-Some-first_with_basis.candidate.now (ap (find (λ (x : Candidate). is_by_alt x.basis)) (sym c.as_slice-candidates.ensures) ∙ sym c.first_by_alt.ensures ∙ ap option_copied c.in_default.is)
    (ap (find (λ (x : Candidate). is_basis x.basis)) (sym c.as_slice-candidates.ensures) ∙ sym c.first_with_basis.ensures ∙ ap option_copied c.in-Some-first_with_basis.is)

pub returns : goal.returns
returns c =
    let cs = c.args.candidates.now in
    c.first_number.ensures ∙ ap (λ xs. number_of (first_of xs)) c.as_slice-candidates.ensures
    ∙ best_first cs (ap (find (λ (x : Candidate). is_by_alt x.basis)) (sym c.as_slice-candidates.ensures) ∙ sym c.first_by_alt.ensures ∙ ap option_copied c.in_default.is)
    (ap (find (λ (x : Candidate). is_basis x.basis)) (sym c.as_slice-candidates.ensures) ∙ sym c.first_with_basis.ensures ∙ ap option_copied c.in_default-first_with_basis.is)
