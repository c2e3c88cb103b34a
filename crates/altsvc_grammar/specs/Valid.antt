-- What holds of the values of Alt-Svc and Alt-Used.
use Rattle.std.specs.Prelude.{◌≡◌, ◌≢◌, ℕ, ◌≤◌, false, List, [], ◌∷◌, ◌++◌, Option, None, Some}
use Rattle.field_text.specs.DeltaGrammar.{greatest_delta_seconds}
use Rattle.origin_values.specs.Valid.{IsHost}
use Rattle.origin_values.specs.declared.host.Host.{Host}
use Rattle.altsvc_grammar.specs.AuthorityGrammar.{IsProtocol}
use Rattle.altsvc_grammar.specs.ValueGrammar.{key_in}
use Rattle.altsvc_grammar.specs.declared.alt_key.AltKey.{AltKey}
use Rattle.altsvc_grammar.specs.declared.alt.Alt.{Alt}
use Rattle.altsvc_grammar.specs.declared.alt_svc.AltSvc.{AltSvc}
use Rattle.altsvc_grammar.specs.declared.alt_svc.AltSvc.TheVariants as value

abbrev pub IsOptionalHost : Option Host → Type 0
IsOptionalHost None = Unit {0}
IsOptionalHost (Some host) = IsHost host

-- a protocol of 1 to 255 bytes, and a port from 1 to 65535
pub record IsKey (key : AltKey) : Type 0 where
  pub proto : IsProtocol key.proto
  pub host : IsOptionalHost key.host
  pub some : 1 ≤ key.port
  pub fits : key.port ≤ 65535

-- at most 2,147,483,648 seconds
pub record IsAlt (alt : Alt) : Type 0 where
  pub key : IsKey alt.key
  pub seconds : alt.ma ≤ greatest_delta_seconds

abbrev pub AreAlts : List Alt → Type 0
AreAlts [] = Unit {0}
AreAlts (alt ∷ alts) = IsAlt alt × AreAlts alts

-- no two have one key, and none a key that stands before
abbrev pub AreDistinct : List AltKey → List Alt → Type 0
AreDistinct before [] = Unit {0}
AreDistinct before (alt ∷ alts) = (key_in alt.key before ≡ false) × AreDistinct (before ++ alt.key ∷ []) alts

-- at least one alternative, and no two of one key
pub record AreListed (alts : List Alt) : Type 0 where
  pub some : alts ≢ []
  pub valid : AreAlts alts
  pub distinct : AreDistinct [] alts

abbrev pub IsAltSvc : AltSvc → Type 0
IsAltSvc value.Clear = Unit {0}
IsAltSvc (value.List alts) = AreListed alts

-- a host in its form, and a port from 1 to 65535
pub record IsUsed (used : Host × ℕ) : Type 0 where
  pub host : IsHost used.0
  pub some : 1 ≤ used.1
  pub fits : used.1 ≤ 65535
