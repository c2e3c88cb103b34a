-- The best candidate by what is found.
use Rattle.std.proofs.Common.{◌≡◌, Bool, List, Some, None, filter, refl, sym, ◌∙◌}
use Rattle.std.specs.Prelude.{find}
use Rattle.route_events.specs.Dispatch.{first_of}
use Rattle.route_choice.specs.declared.candidate.Candidate.{Candidate}
use Rattle.route_choice.specs.Candidates.{is_by_alt, is_basis, best_of, number_of}
use Rattle.route_events.proofs.Lists.{first_found}

abbrev by_alt : Candidate → Bool
by_alt c = is_by_alt c.basis

abbrev with_basis : Candidate → Bool
with_basis c = is_basis c.basis

pub best_by_alt : (cs : List Candidate) (x : Candidate) → find by_alt cs ≡ Some x → Some x.conn ≡ number_of (best_of cs)
best_by_alt cs x h =
    let first : first_of (filter by_alt cs) ≡ Some x = sym (first_found by_alt cs) ∙ h in
    rw first refl

pub best_with_basis : (cs : List Candidate) (x : Candidate) → find by_alt cs ≡ None → find with_basis cs ≡ Some x → Some x.conn ≡ number_of (best_of cs)
best_with_basis cs x none h =
    let no_first : first_of (filter by_alt cs) ≡ None = sym (first_found by_alt cs) ∙ none in
    let first : first_of (filter with_basis cs) ≡ Some x = sym (first_found with_basis cs) ∙ h in
    rw (no_first, first) refl

pub best_first : (cs : List Candidate) → find by_alt cs ≡ None → find with_basis cs ≡ None → number_of (first_of cs) ≡ number_of (best_of cs)
best_first cs none neither =
    let no_first : first_of (filter by_alt cs) ≡ None = sym (first_found by_alt cs) ∙ none in
    let no_second : first_of (filter with_basis cs) ≡ None = sym (first_found with_basis cs) ∙ neither in
    rw (no_first, no_second) refl
