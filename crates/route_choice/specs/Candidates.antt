-- Which connection of some is the best.
use Rattle.std.specs.Prelude.{ℕ, Bool, true, false, List, Option, filter}
use Rattle.std.specs.Option.{option_map}
use Rattle.route_events.specs.Dispatch.{first_of, or_else}
use Rattle.route_choice.specs.declared.candidate.BasisKind.{BasisKind}
use Rattle.route_choice.specs.declared.candidate.BasisKind.TheVariants.{ByAlt, ByOther, Without}
use Rattle.route_choice.specs.declared.candidate.Candidate.{Candidate}

abbrev pub is_by_alt : BasisKind → Bool
is_by_alt ByAlt = true
is_by_alt ByOther = false
is_by_alt Without = false

abbrev pub is_basis : BasisKind → Bool
is_basis ByAlt = true
is_basis ByOther = true
is_basis Without = false

-- the first with a basis by an alternative, else the first with another basis, else the first
abbrev pub best_of : List Candidate → Option Candidate
best_of cs =
    or_else (first_of (filter (λ (c : Candidate). is_by_alt c.basis) cs))
    (or_else (first_of (filter (λ (c : Candidate). is_basis c.basis) cs)) (first_of cs))

abbrev pub number_of : Option Candidate → Option ℕ
number_of c = option_map (λ (c : Candidate). c.conn) c
