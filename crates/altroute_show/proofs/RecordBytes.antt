-- The wire form of a record is bytes, so that its hex digits spell it.
use Rattle.std.proofs.Common.{ℕ, zero, suc, ◌<◌, ◌≤◌, List, [], ◌∷◌, ◌++◌, length, arith}
use Rattle.byteorder.specs.Endian.{big_bytes}
use Rattle.hex.specs.Hex.{IsBytes, encode_lower}
use Rattle.hex.proofs.HexLemmas.{decode_of-encode_lower}
use Rattle.hex_text.specs.HexGrammar.{SpellsHex}
use Rattle.hex_text.proofs.HexReading.{hex_spelled}
use Rattle.dns_names.specs.Names.{AreBytes, AreNameBytes, AreLabels, IsSized, labels_octets, wire_form}
use Rattle.dns_names.proofs.Bytes.{bytes_both}
use Rattle.svcb_wire.specs.declared.param.Param.{Param}
use Rattle.svcb_wire.specs.declared.param.Param.TheVariants.{Mandatory, Alpn, NoDefaultAlpn, Port, V4Hint, Other, V6Hint}
use Rattle.svcb_wire.specs.declared.svcb.Svcb.{Svcb}
use Rattle.svcb_wire.specs.Forms.{HasForm, AreParams, AreIds, AreAddresses}
use Rattle.svcb_wire.specs.Octets.{keys_octets, ids_octets, addresses_octets, key_of, value_of, param_octets, params_octets}
use Rattle.svcb_wire.specs.Records.{IsRecord, record_octets}

pair_bytes : (n : ℕ) → AreBytes (big_bytes 2 n)
pair_bytes n = (omega arith, (omega arith, tt))

label_bytes : (label : List ℕ) → AreNameBytes label → AreBytes label
label_bytes [] are = tt
label_bytes (b ∷ bs) are = (are.0.byte, label_bytes bs are.1)

small : (label : List ℕ) → IsSized label → length label < 256
small label sized = let most : length label ≤ 63 = sized.most in omega (arith, most)

labels_bytes : (labels : List (List ℕ)) → AreLabels labels → AreBytes (labels_octets labels)
labels_bytes [] are = tt
labels_bytes (label ∷ labels) are = (small label are.0.sized, bytes_both label (labels_octets labels) (label_bytes label are.0.bytes) (labels_bytes labels are.1))

keys_bytes : (keys : List ℕ) → AreBytes (keys_octets keys)
keys_bytes [] = tt
keys_bytes (key ∷ keys) = bytes_both (big_bytes 2 key) (keys_octets keys) (pair_bytes key) (keys_bytes keys)

ids_bytes : (ids : List (List ℕ)) → AreIds ids → AreBytes (ids_octets ids)
ids_bytes [] are = tt
ids_bytes (id ∷ ids) are =
    let most : length id ≤ 255 = are.0.most in
    (omega (arith, most), bytes_both id (ids_octets ids) are.0.bytes (ids_bytes ids are.1))

addresses_bytes : (size : ℕ) (addresses : List (List ℕ)) → AreAddresses size addresses → AreBytes (addresses_octets addresses)
addresses_bytes size [] are = tt
addresses_bytes size (address ∷ addresses) are = bytes_both address (addresses_octets addresses) are.0.bytes (addresses_bytes size addresses are.1)

value_bytes : (param : Param) → HasForm param → AreBytes (value_of param)
value_bytes (Mandatory keys) form = keys_bytes keys
value_bytes (Alpn ids) form = ids_bytes ids form.1
value_bytes NoDefaultAlpn form = tt
value_bytes (Port port) form = pair_bytes port
value_bytes (V4Hint addresses) form = addresses_bytes 4 addresses form.1
value_bytes (Other key value) form = form.1
value_bytes (V6Hint addresses) form = addresses_bytes 16 addresses form.1

param_bytes : (param : Param) → HasForm param → AreBytes (param_octets param)
param_bytes param form =
    bytes_both (big_bytes 2 (key_of param)) (big_bytes 2 (length (value_of param)) ++ value_of param) (pair_bytes (key_of param))
    (bytes_both (big_bytes 2 (length (value_of param))) (value_of param) (pair_bytes (length (value_of param))) (value_bytes param form))

params_bytes : (least : ℕ) (params : List Param) → AreParams least params → AreBytes (params_octets params)
params_bytes least [] are = tt
params_bytes least (param ∷ params) are = bytes_both (param_octets param) (params_octets params) (param_bytes param are.1.form) (params_bytes (suc (key_of param)) params are.2)

record_bytes : (value : Svcb) → IsRecord value → AreBytes (record_octets value)
record_bytes value is =
    bytes_both (big_bytes 2 value.priority) (wire_form value.target ++ params_octets value.params) (pair_bytes value.priority)
    (bytes_both (wire_form value.target) (params_octets value.params)
    (bytes_both (labels_octets value.target) (0 ∷ []) (labels_bytes value.target is.target.labels_are) (omega arith, tt))
    (params_bytes 0 value.params is.params))

at_each : (xs : List ℕ) → AreBytes xs → IsBytes xs
at_each [] are i = omega arith
at_each (x ∷ xs) are zero = are.0
at_each (x ∷ xs) are (suc i) = at_each xs are.1 i

-- the hex digits that are written for a record spell its octets
pub digits_spell : (value : Svcb) → IsRecord value → SpellsHex (encode_lower (record_octets value)) (record_octets value)
digits_spell value is = hex_spelled (encode_lower (record_octets value)) (record_octets value) (decode_of-encode_lower (record_octets value) (at_each (record_octets value) (record_bytes value is)))
