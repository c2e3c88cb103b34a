-- A SVCB or HTTPS record as one line of JSON, compact, with the members in the order of their keys.
use Rattle.std.specs.Prelude.{ℕ, List, ◌++◌, map, codes}
use Rattle.hex.specs.Hex.{encode_lower}
use Rattle.serde_json.specs.Data.{Data, unsigned, number, string, array, object, Items, no_members, member}
use Rattle.serde_json.specs.View.{items_of}
use Rattle.serde_json.specs.Written.{compact_text}
use Rattle.dns_names.specs.TextParts.{text_form}
use Rattle.svcb_wire.specs.Octets.{key_of, value_of}
use Rattle.svcb_wire.specs.declared.param.Param.{Param}
use Rattle.svcb_wire.specs.declared.svcb.Svcb.{Svcb}

-- the value's octets in lower-case hex, and the key
abbrev pub param_data : Param → Data
param_data param = object (member (codes "hex") (string (encode_lower (value_of param))) (member (codes "key") (number (unsigned (key_of param))) no_members))

abbrev pub params_data : List Param → Items
params_data params = items_of (map param_data params)

-- the parameters, the priority, and the target's text
abbrev pub members_data : Data → ℕ → List ℕ → Data
members_data params priority target =
    object (member (codes "params") params (member (codes "priority") (number (unsigned priority)) (member (codes "target") (string target) no_members)))

abbrev pub record_data : Svcb → Data
record_data value = members_data (array (params_data value.params)) value.priority (text_form value.target)

abbrev pub record_line : Svcb → List ℕ
record_line value = compact_text (record_data value) ++ codes "\n"
