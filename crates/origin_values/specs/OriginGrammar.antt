-- The texts of origins, each beside what it stands for, by how the text splits; and the table of refusals.
use Rattle.std.specs.Prelude.{◌≡◌, ◌≢◌, ◌⊎◌, ℕ, ◌+◌, ◌<◌, ◌≤◌, Bool, true, false, ◌||◌, List, [], ◌∷◌, ◌++◌, length, map, nat_eq, Some}
use Rattle.std.specs.List.{list_all, list_any}
use Rattle.std.specs.Char.{is_ascii, is_ascii_digit, to_ascii_lowercase}
use Rattle.std.specs.Str.Parse.{IsNumeral, digits_value}
use Rattle.std.specs.Net.Grammar.{IsPortText}
use Rattle.idna.specs.Uts46.{domain_to_ascii}
use Rattle.idna.specs.declared.deny_list.TheConstants.AsciiDenyList.{URL}
use Rattle.origin_values.specs.DefaultPort.{default_port_of}
use Rattle.origin_values.specs.HostGrammar.{SpellsHost}
use Rattle.origin_values.specs.Written.{scheme_text}
use Rattle.origin_values.specs.declared.scheme.Scheme.{Scheme}
use Rattle.origin_values.specs.declared.host.Host.{Host}
use Rattle.origin_values.specs.declared.origin.Origin.{Origin}
use Rattle.origin_values.specs.declared.refusal.OriginRefusal.{OriginRefusal}
use Rattle.origin_values.specs.declared.refusal.OriginRefusal.TheVariants.{BadScheme, BadHost, BadPort, Trailing}

-- the scheme and `://`, in any case of letters (RFC 3986 3.1)
abbrev pub SpellsScheme : List ℕ → Scheme → Type 0
SpellsScheme letters scheme = map to_ascii_lowercase letters ≡ scheme_text scheme

-- `[` and everything up to and with the first `]`
pub record IsBracketed (run : List ℕ) : Type 0 where
  pub inner : List ℕ
  pub spelled : run ≡ 91 ∷ (inner ++ 93 ∷ [])
  pub first : list_any (λ b. nat_eq b 93) inner ≡ false

-- a byte that ends a host without brackets: `:`, `/`, `?` or `#`
abbrev pub ends_host : ℕ → Bool
ends_host b = nat_eq b 58 || (nat_eq b 47 || (nat_eq b 63 || nat_eq b 35))

abbrev pub BeginsWith : (ℕ → Type 0) → List ℕ → Type 0
BeginsWith P [] = ⊥
BeginsWith P (b ∷ bs) = P b

-- what may follow a host without brackets: nothing, or what begins with a byte that ends one
abbrev pub FollowsHost : List ℕ → Type 0
FollowsHost [] = Unit {0}
FollowsHost (b ∷ bs) = ends_host b ≡ true

-- the longest run of bytes that don't end a host, which doesn't begin with `[`
pub record IsLongestRun (run tail : List ℕ) : Type 0 where
  pub inside : list_any ends_host run ≡ false
  pub no_bracket : BeginsWith (λ b. b ≡ 91) run → ⊥
  pub longest : FollowsHost tail

-- the bytes of the host, before this tail
abbrev pub IsRun : List ℕ → List ℕ → Type 0
IsRun run tail = IsBracketed run ⊎ IsLongestRun run tail

-- ToASCII of UTS 46, with the deny list of URLs, gives a host's text without `_`
pub record SpellsMapped (run : List ℕ) (host : Host) : Type 0 where
  pub mapped : List ℕ
  pub value : domain_to_ascii URL run ≡ Some mapped
  pub no_underscore : list_any (λ b. nat_eq b 95) mapped ≡ false
  pub spelled : SpellsHost mapped host

-- a run of ASCII bytes is a host's text itself, and any other is mapped
abbrev pub SpellsRun : List ℕ → Host → Type 0
SpellsRun run host =
    ((list_all is_ascii run ≡ true) × SpellsHost run host)
    ⊎ ((list_all is_ascii run ≡ false) × SpellsMapped run host)

-- nothing or a lone colon, which stand for the scheme's default; or a colon and digits, maybe with leading zeros, of
-- a value from 1 to 65535 (RFC 3986 3.2.3)
abbrev pub SpellsPort : Scheme → List ℕ → ℕ → Type 0
SpellsPort scheme text port =
    (((text ≡ []) ⊎ (text ≡ 58 ∷ [])) × (port ≡ default_port_of scheme))
    ⊎ (IsPortText text port × (1 ≤ port))

-- a scheme, a host, and maybe a port
pub record SpellsOrigin (text : List ℕ) (origin : Origin) : Type 0 where
  pub letters : List ℕ
  pub run : List ℕ
  pub end : List ℕ
  pub spelled : text ≡ letters ++ (run ++ end)
  pub of_scheme : SpellsScheme letters origin.scheme
  pub is_run : IsRun run end
  pub of_host : SpellsRun run origin.host
  pub of_port : SpellsPort origin.scheme end origin.port

-- the text doesn't begin with a scheme
pub record IsBadScheme (text : List ℕ) (place : ℕ) : Type 0 where
  pub none : (letters rest : List ℕ) (scheme : Scheme) → text ≡ letters ++ rest → SpellsScheme letters scheme → ⊥
  pub at : place ≡ 0

-- no host follows the scheme: its bytes spell none, its bracket isn't closed, ToASCII gives nothing for them, or what
-- it gives holds `_`
pub record IsBadHost (text : List ℕ) (place : ℕ) : Type 0 where
  pub letters : List ℕ
  pub rest : List ℕ
  pub scheme : Scheme
  pub spelled : text ≡ letters ++ rest
  pub of_scheme : SpellsScheme letters scheme
  pub none : (run tail : List ℕ) (host : Host) → rest ≡ run ++ tail → IsRun run tail → SpellsRun run host → ⊥
  pub at : place ≡ length letters

-- what doesn't go on with digits
abbrev pub NoDigit : List ℕ → Type 0
NoDigit [] = Unit {0}
NoDigit (b ∷ bs) = is_ascii_digit b ≡ false

-- the digits behind the host and a colon have the value 0, or one above 65535
pub record IsBadPort (text : List ℕ) (place : ℕ) : Type 0 where
  pub letters : List ℕ
  pub run : List ℕ
  pub digits : List ℕ
  pub rest : List ℕ
  pub scheme : Scheme
  pub host : Host
  pub spelled : text ≡ letters ++ (run ++ 58 ∷ (digits ++ rest))
  pub of_scheme : SpellsScheme letters scheme
  pub is_run : IsRun run (58 ∷ (digits ++ rest))
  pub of_host : SpellsRun run host
  pub numeral : IsNumeral 10 digits
  pub longest : NoDigit rest
  pub value : (digits_value 10 digits ≡ 0) ⊎ (65535 < digits_value 10 digits)
  pub at : place ≡ length letters + length run + 1

-- what a port's text doesn't go on with: a colon where there is none, and a digit else
abbrev pub IsLeft : List ℕ → List ℕ → Type 0
IsLeft port [] = ⊥
IsLeft [] (b ∷ bs) = b ≢ 58
IsLeft (c ∷ port) (b ∷ bs) = is_ascii_digit b ≡ false

-- something follows the port
pub record IsTrailing (text : List ℕ) (place : ℕ) : Type 0 where
  pub letters : List ℕ
  pub run : List ℕ
  pub port : List ℕ
  pub rest : List ℕ
  pub scheme : Scheme
  pub host : Host
  pub number : ℕ
  pub spelled : text ≡ letters ++ (run ++ (port ++ rest))
  pub of_scheme : SpellsScheme letters scheme
  pub is_run : IsRun run (port ++ rest)
  pub of_host : SpellsRun run host
  pub of_port : SpellsPort scheme port number
  pub left : IsLeft port rest
  pub at : place ≡ length letters + length run + length port

-- the table of refusals
abbrev pub OriginRefusedAt : List ℕ → ℕ → OriginRefusal → Type 0
OriginRefusedAt text place BadScheme = IsBadScheme text place
OriginRefusedAt text place BadHost = IsBadHost text place
OriginRefusedAt text place BadPort = IsBadPort text place
OriginRefusedAt text place Trailing = IsTrailing text place

-- exactly one origin or exactly one refusal, and never both
pub record OneOrigin (text : List ℕ) : Type 0 where
  pub some : ((origin : Origin) × SpellsOrigin text origin) ⊎ ((place : ℕ) × (reason : OriginRefusal) × OriginRefusedAt text place reason)
  pub one_origin : (a b : Origin) → SpellsOrigin text a → SpellsOrigin text b → a ≡ b
  pub one_refusal : (p q : ℕ) (r s : OriginRefusal) → OriginRefusedAt text p r → OriginRefusedAt text q s → (p ≡ q) × (r ≡ s)
  pub not_both : (origin : Origin) (place : ℕ) (reason : OriginRefusal) → SpellsOrigin text origin → OriginRefusedAt text place reason → ⊥
