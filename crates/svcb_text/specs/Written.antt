-- What is written for a record (RFC 9460 2.1 and appendix A).
use Rattle.std.specs.Prelude.{ℕ, List, [], ◌∷◌, ◌++◌, map, codes, decimal}
use Rattle.std.specs.List.{join_with_byte}
use Rattle.std.specs.Net.Text.{ipv4_text}
use Rattle.origin_values.specs.Written.{v6_text}
use Rattle.dns_names.specs.TextParts.{text_form}
use Rattle.svcb_wire.specs.declared.param.Param.{Param}
use Rattle.svcb_wire.specs.declared.param.Param.TheVariants.{Mandatory, Alpn, NoDefaultAlpn, Port, V4Hint, Other, V6Hint}
use Rattle.svcb_wire.specs.declared.svcb.Svcb.{Svcb}
use Rattle.svcb_values.specs.KeyNames.{key_name}
use Rattle.svcb_values.specs.Written.{in_quotes, id_written}

abbrev pub other_written : List ℕ → List ℕ
other_written [] = []
other_written (b ∷ bs) = 61 ∷ in_quotes (b ∷ bs)

abbrev pub param_written : Param → List ℕ
param_written (Mandatory keys) = codes "mandatory=" ++ join_with_byte 44 (map key_name keys)
param_written (Alpn ids) = codes "alpn=" ++ in_quotes (join_with_byte 44 (map id_written ids))
param_written NoDefaultAlpn = codes "no-default-alpn"
param_written (Port port) = codes "port=" ++ decimal port
param_written (V4Hint addresses) = codes "ipv4hint=" ++ join_with_byte 44 (map ipv4_text addresses)
param_written (Other key value) = key_name key ++ other_written value
param_written (V6Hint addresses) = codes "ipv6hint=" ++ join_with_byte 44 (map v6_text addresses)

-- parameters, each behind a space
abbrev pub params_written : List Param → List ℕ
params_written [] = []
params_written (param ∷ params) = 32 ∷ (param_written param ++ params_written params)

-- the priority, the target and the parameters
abbrev pub record_text : Svcb → List ℕ
record_text value = decimal value.priority ++ 32 ∷ (text_form value.target ++ params_written value.params)
