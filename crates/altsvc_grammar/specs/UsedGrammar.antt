-- The value of an Alt-Used field (RFC 7838 5), by how its text splits, and its refusals with their places.
use Rattle.std.specs.Prelude.{◌≡◌, ◌≢◌, ◌⊎◌, ℕ, ◌+◌, false, nat_eq, List, [], ◌∷◌, ◌++◌, length}
use Rattle.std.specs.List.{list_any}
use Rattle.std.specs.Char.{is_ascii_digit}
use Rattle.field_text.specs.OneReading.{OneReading}
use Rattle.field_text.specs.Runs.{AllIn, BeginsIn}
use Rattle.origin_values.specs.HostGrammar.{SpellsHost}
use Rattle.origin_values.specs.declared.host.Host.{Host}
use Rattle.altsvc_grammar.specs.AuthorityGrammar.{SpellsPort}
use Rattle.altsvc_grammar.specs.declared.refusal.UsedRefusal.{UsedRefusal}
use Rattle.altsvc_grammar.specs.declared.refusal.UsedRefusal.TheVariants.{BadHost, BadPort, Trailing}

-- `[` and everything up to and with the first `]`
pub record IsBracketed (run : List ℕ) : Type 0 where
  pub inner : List ℕ
  pub spelled : run ≡ 91 ∷ (inner ++ 93 ∷ [])
  pub first : list_any (λ b. nat_eq b 93) inner ≡ false

-- what stands before the first colon, and doesn't begin with `[`
pub record IsPlain (run tail : List ℕ) : Type 0 where
  pub inside : list_any (λ b. nat_eq b 58) run ≡ false
  pub no_bracket : (more : List ℕ) → run ≢ 91 ∷ more
  pub longest : (tail ≡ []) ⊎ ((more : List ℕ) × (tail ≡ 58 ∷ more))

-- the bytes of the host, before this tail
abbrev pub IsHostRun : List ℕ → List ℕ → Type 0
IsHostRun run tail = IsBracketed run ⊎ IsPlain run tail

-- nothing, which stands for 443; or a colon and a port
abbrev pub SpellsUsedPort : List ℕ → ℕ → Type 0
SpellsUsedPort tail port = ((tail ≡ []) × (port ≡ 443)) ⊎ ((digits : List ℕ) × (tail ≡ 58 ∷ digits) × SpellsPort digits port)

-- a host, and maybe a port
pub record SpellsUsed (x : List ℕ) (used : Host × ℕ) : Type 0 where
  pub run : List ℕ
  pub tail : List ℕ
  pub text : x ≡ run ++ tail
  pub is_run : IsHostRun run tail
  pub of_host : SpellsHost run used.0
  pub of_port : SpellsUsedPort tail used.1

-- no host stands in front
pub record IsBadHost (x : List ℕ) (q : ℕ) : Type 0 where
  pub none : (run tail : List ℕ) (host : Host) → x ≡ run ++ tail → IsHostRun run tail → SpellsHost run host → ⊥
  pub place : q ≡ 0

-- behind a host and a colon no port stands: the run of digits, which is as long as can be, is none
pub record IsBadPort (x : List ℕ) (q : ℕ) : Type 0 where
  pub run : List ℕ
  pub digits : List ℕ
  pub rest : List ℕ
  pub host : Host
  pub text : x ≡ run ++ 58 ∷ (digits ++ rest)
  pub is_run : IsHostRun run (58 ∷ (digits ++ rest))
  pub of_host : SpellsHost run host
  pub are_digits : AllIn is_ascii_digit digits
  pub longest : BeginsIn is_ascii_digit rest → ⊥
  pub none : (port : ℕ) → SpellsPort digits port → ⊥
  pub place : q + length (digits ++ rest) ≡ length x

-- what a host's or a port's text doesn't go on with: a colon where there is none, and a digit else
abbrev pub IsLeft : List ℕ → List ℕ → Type 0
IsLeft port [] = ⊥
IsLeft [] (b ∷ bs) = b ≢ 58
IsLeft (c ∷ port) (b ∷ bs) = is_ascii_digit b ≡ false

-- something follows
pub record IsUsedTrailing (x : List ℕ) (q : ℕ) : Type 0 where
  pub run : List ℕ
  pub port_text : List ℕ
  pub rest : List ℕ
  pub host : Host
  pub port : ℕ
  pub text : x ≡ run ++ (port_text ++ rest)
  pub is_run : IsHostRun run (port_text ++ rest)
  pub of_host : SpellsHost run host
  pub of_port : SpellsUsedPort port_text port
  pub left : IsLeft port_text rest
  pub place : q + length rest ≡ length x

-- the table of refusals
abbrev pub UsedRefusedAt : List ℕ → ℕ → UsedRefusal → Type 0
UsedRefusedAt x q BadHost = IsBadHost x q
UsedRefusedAt x q BadPort = IsBadPort x q
UsedRefusedAt x q Trailing = IsUsedTrailing x q

-- exactly one value or exactly one refusal, and never both
abbrev pub OneUsed : List ℕ → Type 0
OneUsed x = OneReading (Host × ℕ) UsedRefusal (SpellsUsed x) (UsedRefusedAt x)
