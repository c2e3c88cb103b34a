use Rattle.std.proofs.Common.{◌≡◌, ℕ, ◌*◌, List, [], ◌∷◌, length, refl, arith}
use Rattle.svcb_wire.specs.Octets.{keys_octets}
use Rattle.svcb_text.proofs.sizes.value_len.Goals as goal

keys_length : (keys : List ℕ) → length (keys_octets keys) ≡ 2 * length keys
keys_length [] = refl
keys_length (key ∷ keys) = omega (arith, keys_length keys)

pub returns-in-Mandatory : goal.returns-in-Mandatory
returns-in-Mandatory c = rw c.in-Mandatory.is (omega (arith, keys_length c.in-Mandatory.keys, c.len.ensures, c.min.ensures))
