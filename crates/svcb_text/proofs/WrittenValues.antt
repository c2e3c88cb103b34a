-- What is written for a parameter is a key, maybe with a string, that spells it.
use Rattle.std.proofs.Common.{◌≡◌, ◌≢◌, ℕ, ◌<◌, ◌≤◌, List, [], ◌∷◌, ◌++◌, length, map, codes, decimal, refl, ap, sym, ◌∙◌, subst, arith, inl, inr, append_assoc}
use Rattle.std.proofs.lemmas.Fmt.{decimal_is_IsNumeral, length-decimal-le}
use Rattle.std.specs.List.{join_with_byte}
use Rattle.std.specs.Net.Text.{ipv4_text}
use Rattle.dns_names.specs.Names.{AreBytes}
use Rattle.dns_names.specs.TextParts.{Raw, part_byte}
use Rattle.origin_values.specs.HostGrammar.{SpellsV4, SpellsV6}
use Rattle.origin_values.specs.Written.{v6_text}
use Rattle.svcb_wire.specs.declared.param.Param.{Param}
use Rattle.svcb_wire.specs.declared.param.Param.TheVariants.{Mandatory, Alpn, NoDefaultAlpn, Port, V4Hint, Other, V6Hint}
use Rattle.svcb_wire.specs.Forms.{AreRising, AreAddresses, IsOtherKey, HasForm}
use Rattle.svcb_values.specs.declared.token.Style.TheVariants.{Contiguous, InQuotes}
use Rattle.svcb_values.specs.KeyNames.{key_name}
use Rattle.svcb_values.specs.ValueGrammar.{SpellsKeys, SpellsIds, SpellEach, SpellsAddresses, SpellsPort, SpellsValue}
use Rattle.svcb_text.specs.TextGrammar.{GivenParam, Alone, Valued, given_key, given_head, given_string, given_value, IsGiven}
use Rattle.svcb_values.specs.Written.{written_part, in_quotes, id_written}
use Rattle.svcb_text.specs.Written.{param_written}
use Rattle.svcb_values.proofs.QuotingLaws.{quoted_parts_valid, quoted_parts_mean}
use Rattle.svcb_values.proofs.ValueTexts.{AreContiguous, AreAllContiguous, raw_parts, raw_text, raw_bytes, raw_plain, joined_contiguous, name_contiguous, decimal_contiguous, v4_spelled, v6_spelled, v4_contiguous, v6_contiguous}
use Rattle.svcb_values.proofs.WrittenIds.{ids_spelled, ids_bytes}
use Rattle.svcb_values.proofs.RisingKeys.{rising_order, rising_mandatory}

abbrev keys_text : List ℕ → List ℕ
keys_text keys = join_with_byte 44 (map key_name keys)

abbrev ids_text : List (List ℕ) → List ℕ
ids_text ids = join_with_byte 44 (map id_written ids)

abbrev v4s_text : List (List ℕ) → List ℕ
v4s_text addresses = join_with_byte 44 (map ipv4_text addresses)

abbrev v6s_text : List (List ℕ) → List ℕ
v6s_text addresses = join_with_byte 44 (map v6_text addresses)

-- a value without quotes, and one between them
abbrev plainly : ℕ → List ℕ → GivenParam
plainly key x = Valued key Contiguous (map Raw x)

abbrev quoted : ℕ → List ℕ → GivenParam
quoted key bytes = Valued key InQuotes (map written_part bytes)

-- the key and the string that are written for a parameter
abbrev pub given_of : Param → GivenParam
given_of (Mandatory keys) = plainly 0 (keys_text keys)
given_of (Alpn ids) = quoted 1 (ids_text ids)
given_of NoDefaultAlpn = Alone 2
given_of (Port port) = plainly 3 (decimal port)
given_of (V4Hint addresses) = plainly 4 (v4s_text addresses)
given_of (Other key []) = Alone key
given_of (Other key (b ∷ bs)) = quoted key (b ∷ bs)
given_of (V6Hint addresses) = plainly 6 (v6s_text addresses)

-- the text
mandatory_name : key_name 0 ≡ codes "mandatory"
unfolding key_name
mandatory_name = refl

alpn_name : key_name 1 ≡ codes "alpn"
unfolding key_name
alpn_name = refl

no_default_name : key_name 2 ≡ codes "no-default-alpn"
unfolding key_name
no_default_name = refl

port_name : key_name 3 ≡ codes "port"
unfolding key_name
port_name = refl

v4_name : key_name 4 ≡ codes "ipv4hint"
unfolding key_name
v4_name = refl

v6_name : key_name 6 ≡ codes "ipv6hint"
unfolding key_name
v6_name = refl

plain_text : (key : ℕ) (name x : List ℕ) → key_name key ≡ name → given_head (plainly key x) ++ given_string (plainly key x) ≡ (name ++ 61 ∷ []) ++ x
plain_text key name x e = ap (λ n. (n ++ 61 ∷ []) ++ given_string (plainly key x)) e ∙ ap (λ xs. (name ++ 61 ∷ []) ++ xs) (raw_text x)

pub given_text : (param : Param) → given_head (given_of param) ++ given_string (given_of param) ≡ param_written param
given_text (Mandatory keys) = plain_text 0 (codes "mandatory") (keys_text keys) mandatory_name
given_text (Alpn ids) = ap (λ n. (n ++ 61 ∷ []) ++ in_quotes (ids_text ids)) alpn_name
given_text NoDefaultAlpn = ap (λ n. n ++ []) no_default_name
given_text (Port port) = plain_text 3 (codes "port") (decimal port) port_name
given_text (V4Hint addresses) = plain_text 4 (codes "ipv4hint") (v4s_text addresses) v4_name
given_text (Other key []) = refl
given_text (Other key (b ∷ bs)) = append_assoc (key_name key) (61 ∷ []) (in_quotes (b ∷ bs))
given_text (V6Hint addresses) = plain_text 6 (codes "ipv6hint") (v6s_text addresses) v6_name

-- the parts
names_contiguous : (last : ℕ) (keys : List ℕ) → AreRising last keys → AreAllContiguous (map key_name keys)
names_contiguous last [] h = tt
names_contiguous last (key ∷ keys) h = (name_contiguous key h.1, names_contiguous key keys h.2)

v4s_contiguous : (addresses : List (List ℕ)) → AreAddresses 4 addresses → AreAllContiguous (map ipv4_text addresses)
v4s_contiguous [] h = tt
v4s_contiguous (address ∷ addresses) h = (v4_contiguous address h.0, v4s_contiguous addresses h.1)

v6s_contiguous : (addresses : List (List ℕ)) → AreAddresses 16 addresses → AreAllContiguous (map v6_text addresses)
v6s_contiguous [] h = tt
v6s_contiguous (address ∷ addresses) h = (v6_contiguous address h.0, v6s_contiguous addresses h.1)

plain_given : (key : ℕ) (x : List ℕ) → key < 65536 → AreContiguous x → IsGiven (plainly key x)
plain_given key x fits h = record { key = fits; parts = raw_parts x h }

quoted_given : (key : ℕ) (bytes : List ℕ) → key < 65536 → AreBytes bytes → IsGiven (quoted key bytes)
quoted_given key bytes fits h = record { key = fits; parts = quoted_parts_valid bytes h }

alone_given : (key : ℕ) → key < 65536 → IsGiven (Alone key)
alone_given key fits = record { key = fits; parts = tt }

other_fits : (key : ℕ) → IsOtherKey key → key < 65536
other_fits key (inl e) = omega arith
other_fits key (inr h) = h.1

pub is_given : (param : Param) → HasForm param → IsGiven (given_of param)
is_given (Mandatory keys) h = plain_given 0 (keys_text keys) (omega arith) (joined_contiguous (map key_name keys) (names_contiguous 0 keys h.1))
is_given (Alpn ids) h = quoted_given 1 (ids_text ids) (omega arith) (ids_bytes ids h.1)
is_given NoDefaultAlpn h = alone_given 2 (omega arith)
is_given (Port port) h = plain_given 3 (decimal port) (omega arith) (decimal_contiguous port (omega arith))
is_given (V4Hint addresses) h = plain_given 4 (v4s_text addresses) (omega arith) (joined_contiguous (map ipv4_text addresses) (v4s_contiguous addresses h.1))
is_given (Other key []) h = alone_given key (other_fits key h.0)
is_given (Other key (b ∷ bs)) h = quoted_given key (b ∷ bs) (other_fits key h.0) h.1
is_given (V6Hint addresses) h = plain_given 6 (v6s_text addresses) (omega arith) (joined_contiguous (map v6_text addresses) (v6s_contiguous addresses h.1))

-- the value
some_mapped : {A : Type 0} (f : A → List ℕ) (items : List A) → 1 ≤ length items → map f items ≢ []
some_mapped f [] h e = absurd (omega arith)
some_mapped f (x ∷ xs) h e = cc

some_keys : (keys : List ℕ) → 1 ≤ length keys → keys ≢ []
some_keys [] h e = absurd (omega arith)
some_keys (x ∷ xs) h e = cc

each_v4 : (addresses : List (List ℕ)) → AreAddresses 4 addresses → SpellEach SpellsV4 (map ipv4_text addresses) addresses
each_v4 [] h = tt
each_v4 (address ∷ addresses) h = (v4_spelled address h.0, each_v4 addresses h.1)

each_v6 : (addresses : List (List ℕ)) → AreAddresses 16 addresses → SpellEach SpellsV6 (map v6_text addresses) addresses
each_v6 [] h = tt
each_v6 (address ∷ addresses) h = (v6_spelled address h.0, each_v6 addresses h.1)

keys_spelled : (keys : List ℕ) → 1 ≤ length keys → AreRising 0 keys → SpellsKeys (keys_text keys) keys
keys_spelled keys some rising = record {
  named = keys;
  some = some_keys keys some;
  are_mandatory = rising_mandatory 0 keys rising;
  spelled = refl;
  order = rising_order keys rising;
}

v4s_spelled : (addresses : List (List ℕ)) → 1 ≤ length addresses → AreAddresses 4 addresses → SpellsAddresses SpellsV4 (v4s_text addresses) addresses
v4s_spelled addresses some are = record { items = map ipv4_text addresses; some = some_mapped ipv4_text addresses some; each = each_v4 addresses are; spelled = refl }

v6s_spelled : (addresses : List (List ℕ)) → 1 ≤ length addresses → AreAddresses 16 addresses → SpellsAddresses SpellsV6 (v6s_text addresses) addresses
v6s_spelled addresses some are = record { items = map v6_text addresses; some = some_mapped v6_text addresses some; each = each_v6 addresses are; spelled = refl }

port_spelled : (port : ℕ) → port < 65536 → SpellsPort (decimal port) port
port_spelled port h =
    let digits = decimal_is_IsNumeral port (omega arith) in
    record { numeral = digits.0; short = length-decimal-le 5 port (omega arith) (omega arith) (omega arith); value = sym digits.1; most = omega arith }

-- what the parts mean is what was written
abbrev bytes_of_raw : List ℕ → List ℕ
bytes_of_raw x = map part_byte (map Raw x)

from_raw : (P : List ℕ → Type 0) (x : List ℕ) → P x → P (bytes_of_raw x)
from_raw P x h = subst P (sym (raw_bytes x)) h

pub value_spelled : (param : Param) → HasForm param → SpellsValue (given_key (given_of param)) (given_value (given_of param)) param
value_spelled (Mandatory keys) h = (refl, raw_plain (keys_text keys), from_raw (λ x. SpellsKeys x keys) (keys_text keys) (keys_spelled keys h.0 h.1))
value_spelled (Alpn ids) h = (refl, subst (λ x. SpellsIds x ids) (sym (quoted_parts_mean (ids_text ids) (ids_bytes ids h.1))) (ids_spelled ids h.0 h.1))
value_spelled NoDefaultAlpn h = (refl, refl)
value_spelled (Port port) h = (refl, raw_plain (decimal port), from_raw (λ x. SpellsPort x port) (decimal port) (port_spelled port h))
value_spelled (V4Hint addresses) h = (refl, raw_plain (v4s_text addresses), from_raw (λ x. SpellsAddresses SpellsV4 x addresses) (v4s_text addresses) (v4s_spelled addresses h.0 h.1))
value_spelled (Other key []) h = (refl, h.0, refl)
value_spelled (Other key (b ∷ bs)) h = (refl, h.0, sym (quoted_parts_mean (b ∷ bs) h.1))
value_spelled (V6Hint addresses) h = (refl, raw_plain (v6s_text addresses), from_raw (λ x. SpellsAddresses SpellsV6 x addresses) (v6s_text addresses) (v6s_spelled addresses h.0 h.1))
