-- The texts that values of Alt-Svc and Alt-Used are written as (RFC 7838 3 and 5).
use Rattle.std.specs.Prelude.{ℕ, ◌==◌, Bool, true, false, ◌&&◌, not, nat_eq, List, [], ◌∷◌, ◌++◌, codes, decimal, Option, None, Some, if◌then◌else◌}
use Rattle.percent_encoding.specs.Percent.{percent_encode_byte}
use Rattle.field_text.specs.TokenGrammar.{is_token}
use Rattle.origin_values.specs.Written.{host_text}
use Rattle.origin_values.specs.declared.host.Host.{Host}
use Rattle.altsvc_grammar.specs.declared.alt_key.AltKey.{AltKey}
use Rattle.altsvc_grammar.specs.declared.alt.Alt.{Alt}
use Rattle.altsvc_grammar.specs.declared.alt_svc.AltSvc.{AltSvc}
use Rattle.altsvc_grammar.specs.declared.alt_svc.AltSvc.TheVariants as value

-- a byte that stands for itself in the name of a protocol: a token's byte other than `%`
abbrev pub is_plain : ℕ → Bool
is_plain byte = is_token byte && not (nat_eq byte 37)

-- as it is, or `%` and its two upper-case hex digits
abbrev pub encoded_byte : ℕ → List ℕ
encoded_byte byte = if is_plain byte then byte ∷ [] else percent_encode_byte byte

-- the encoded form of a protocol: each byte in its one spelling
abbrev pub encoded : List ℕ → List ℕ
encoded [] = []
encoded (byte ∷ bytes) = encoded_byte byte ++ encoded bytes

abbrev pub optional_host_text : Option Host → List ℕ
optional_host_text None = []
optional_host_text (Some host) = host_text host

-- the encoded protocol, `=`, and the authority in quotes
abbrev pub key_text : AltKey → List ℕ
key_text key = encoded key.proto ++ codes "=\"" ++ optional_host_text key.host ++ codes ":" ++ decimal key.port ++ codes "\""

abbrev pub ma_text : ℕ → List ℕ
ma_text ma = if ma == 86400 then [] else codes "; ma=" ++ decimal ma

abbrev pub persist_text : Bool → List ℕ
persist_text true = codes "; persist=1"
persist_text false = []

-- one alternative, with those parameters alone that differ from what they are without a parameter
abbrev pub alt_text : Alt → List ℕ
alt_text alt = key_text alt.key ++ ma_text alt.ma ++ persist_text alt.persist

-- the alternatives joined by a comma and a space
abbrev pub more_alts_text : List Alt → List ℕ
more_alts_text [] = []
more_alts_text (alt ∷ alts) = codes ", " ++ alt_text alt ++ more_alts_text alts

abbrev pub alts_text : List Alt → List ℕ
alts_text [] = []
alts_text (alt ∷ alts) = alt_text alt ++ more_alts_text alts

abbrev pub value_text : AltSvc → List ℕ
value_text value.Clear = codes "clear"
value_text (value.List alts) = alts_text alts

-- the host, and a colon and the port where it isn't 443
abbrev pub used_text : Host → ℕ → List ℕ
used_text host port = host_text host ++ (if port == 443 then [] else codes ":" ++ decimal port)
