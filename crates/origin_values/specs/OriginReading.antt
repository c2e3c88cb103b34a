-- Reading an origin.
use Rattle.std.specs.Prelude.{ℕ, ◌+◌, Bool, true, false, ◌&&◌, not, nat_eq, nat_lt, List, [], ◌∷◌, take, drop, codes, Option, None, Some, option_map, Result, Ok, Err, if◌then◌else◌}
use Rattle.std.specs.List.{list_all, list_any}
use Rattle.std.specs.Char.{is_ascii, is_ascii_digit, to_ascii_lowercase}
use Rattle.std.specs.Str.Parse.{digits_value}
use Rattle.idna.specs.Uts46.{domain_to_ascii}
use Rattle.idna.specs.declared.deny_list.TheConstants.AsciiDenyList.{URL}
use Rattle.alt_base.specs.declared.refusal.At.{At}
use Rattle.origin_values.specs.DefaultPort.{default_port_of}
use Rattle.origin_values.specs.HostReading.{read_host}
use Rattle.origin_values.specs.OriginGrammar.{ends_host}
use Rattle.origin_values.specs.declared.scheme.Scheme.{Scheme}
use Rattle.origin_values.specs.declared.scheme.Scheme.TheVariants.{Http, Https}
use Rattle.origin_values.specs.declared.host.Host.{Host}
use Rattle.origin_values.specs.declared.origin.Origin.{Origin}
use Rattle.origin_values.specs.declared.refusal.OriginRefusal.{OriginRefusal}
use Rattle.origin_values.specs.declared.refusal.OriginRefusal.TheVariants.{BadScheme, BadHost, BadPort, Trailing}

-- how many bytes stand before the first that passes a test
abbrev pub count_before : (ℕ → Bool) → List ℕ → ℕ
count_before test [] = 0
count_before test (b ∷ bs) = if test b then 0 else count_before test bs + 1

-- the number of bytes up to and with the first closing bracket
abbrev pub bracket_end : List ℕ → Option ℕ
bracket_end [] = None
bracket_end (b ∷ bs) = if nat_eq b 93 then Some 1 else option_map (λ n. n + 1) (bracket_end bs)

-- the number of bytes of a host at the front, where its brackets are closed
abbrev pub host_end : List ℕ → Option ℕ
host_end [] = Some 0
host_end (b ∷ bs) = if nat_eq b 91 then option_map (λ n. n + 1) (bracket_end bs) else Some (count_before ends_host (b ∷ bs))

-- the host of what ToASCII gives, where it gives something without `_`
abbrev pub read_mapped : Option (List ℕ) → Option Host
read_mapped None = None
read_mapped (Some mapped) = if list_any (λ b. nat_eq b 95) mapped then None else read_host mapped

-- a run of ASCII bytes is a host's text itself, and any other is mapped
abbrev pub read_run : List ℕ → Option Host
read_run run = if list_all is_ascii run then read_host run else read_mapped (domain_to_ascii URL run)

-- whether a text begins with these letters, in any case
abbrev pub begins : List ℕ → List ℕ → Bool
begins [] text = true
begins (c ∷ letters) [] = false
begins (c ∷ letters) (b ∷ bs) = nat_eq (to_ascii_lowercase b) c && begins letters bs

abbrev pub refusal_at : ℕ → OriginRefusal → Result Origin (At OriginRefusal)
refusal_at place reason = Err (record { place = place; reason = reason })

-- the origin, where nothing is left
abbrev pub at_end : Origin → ℕ → List ℕ → Result Origin (At OriginRefusal)
at_end origin place [] = Ok origin
at_end origin place (b ∷ bs) = refusal_at place Trailing

-- the port that digits write
abbrev pub port_of : List ℕ → Option ℕ
port_of digits =
    if nat_lt 0 (digits_value 10 digits) && nat_lt (digits_value 10 digits) 65536 then Some (digits_value 10 digits) else None

-- the end, or what follows the port that was read
abbrev pub port_then_end : Scheme → Host → ℕ → ℕ → List ℕ → Option ℕ → Result Origin (At OriginRefusal)
port_then_end scheme host place count bs None = refusal_at place BadPort
port_then_end scheme host place count bs (Some port) = at_end (record { scheme = scheme; host = host; port = port }) (place + count) (drop count bs)

-- what follows a colon, where this many digits stand at its front
abbrev pub read_digits : Scheme → Host → ℕ → ℕ → List ℕ → Result Origin (At OriginRefusal)
read_digits scheme host place count bs =
    if nat_eq count 0 then at_end (record { scheme = scheme; host = host; port = default_port_of scheme }) place bs
    else port_then_end scheme host place count bs (port_of (take count bs))

-- how many digits stand at the front
abbrev pub digits_before : List ℕ → ℕ
digits_before text = count_before (λ b. not (is_ascii_digit b)) text

-- what follows the host
abbrev pub read_port : Scheme → Host → ℕ → List ℕ → Result Origin (At OriginRefusal)
read_port scheme host place [] = Ok (record { scheme = scheme; host = host; port = default_port_of scheme })
read_port scheme host place (b ∷ bs) =
    if nat_eq b 58 then read_digits scheme host (place + 1) (digits_before bs) bs else refusal_at place Trailing

-- the host that was read in this many bytes, and what follows it
abbrev pub host_then_port : Scheme → ℕ → List ℕ → ℕ → Option Host → Result Origin (At OriginRefusal)
host_then_port scheme place rest end None = refusal_at place BadHost
host_then_port scheme place rest end (Some host) = read_port scheme host (place + end) (drop end rest)

-- a host of this many bytes
abbrev pub read_run_of : Scheme → ℕ → List ℕ → Option ℕ → Result Origin (At OriginRefusal)
read_run_of scheme place rest None = refusal_at place BadHost
read_run_of scheme place rest (Some end) = host_then_port scheme place rest end (read_run (take end rest))

-- what follows the scheme
abbrev pub read_rest : Scheme → ℕ → List ℕ → Result Origin (At OriginRefusal)
read_rest scheme place rest = read_run_of scheme place rest (host_end rest)

unfoldable pub read_origin : List ℕ → Result Origin (At OriginRefusal)
read_origin text =
    if begins (codes "http://") text then read_rest Http 7 (drop 7 text)
    else (if begins (codes "https://") text then read_rest Https 8 (drop 8 text) else refusal_at 0 BadScheme)
