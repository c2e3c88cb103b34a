-- The keys of parameters, which stand in a record in rising order (RFC 9460 2.2).
use Rattle.std.specs.Prelude.{◌≡◌, ℕ, List, [], ◌∷◌, map}
use Rattle.svcb_wire.specs.declared.param.Param.{Param}
use Rattle.svcb_wire.specs.Octets.{key_of}

abbrev pub keys_of : List Param → List ℕ
keys_of params = map key_of params

-- parameters, each beside its key
abbrev pub AreKeyed : List (ℕ × Param) → Type 0
AreKeyed [] = Unit {0}
AreKeyed (entry ∷ entries) = (entry.0 ≡ key_of entry.1) × AreKeyed entries
