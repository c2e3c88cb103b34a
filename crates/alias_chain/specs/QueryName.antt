-- The name whose HTTPS records are asked for (RFC 9460 2.3 and 9.1).
use Rattle.std.specs.Prelude.{◌≡◌, ℕ, nat_eq, List, ◌++◌, codes, decimal, if◌then◌else◌}
use Rattle.dns_names.specs.TextGrammar.{SpellsText}
use Rattle.origin_values.specs.declared.scheme.Scheme.TheVariants.{Https}
use Rattle.origin_values.specs.declared.host.Host.TheVariants.{Name}
use Rattle.origin_values.specs.declared.origin.Origin.{Origin}

-- the host alone for port 443, else behind the port and the scheme
abbrev pub query_text : ℕ → List ℕ → List ℕ
query_text port host = if nat_eq port 443 then host else codes "_" ++ decimal port ++ codes "._https." ++ host

-- only an https origin whose host is a name has one, and only where that text spells a name: it may be too long
pub record IsQueryName (origin : Origin) (name : List (List ℕ)) : Type 0 where
  pub host : List ℕ
  pub https : origin.scheme ≡ Https
  pub named : origin.host ≡ Name host
  pub spelled : SpellsText (query_text origin.port host) name
