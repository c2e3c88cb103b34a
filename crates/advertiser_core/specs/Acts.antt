-- What a server is told to do, once it is accepted. A list of acts has the newest first.
use Rattle.std.specs.Prelude.{List}
use Rattle.origin_values.specs.Valid.{IsOrigin}
use Rattle.origin_values.specs.declared.origin.Origin.{Origin}
use Rattle.altsvc_grammar.specs.Valid.{IsAltSvc}
use Rattle.altsvc_grammar.specs.declared.alt.Alt.{Alt}
use Rattle.altsvc_grammar.specs.declared.alt_svc.AltSvc.{AltSvc}
use Rattle.altsvc_grammar.specs.declared.alt_svc.AltSvc.TheVariants as value

-- serve an origin, or no longer; announce what is served (RFC 8336); advertise an origin's value of Alt-Svc (RFC 7838 4)
pub data Act : Type 0 where
  Serve : Origin → Act
  Unserve : Origin → Act
  Announce : Act
  Advertise : Origin → AltSvc → Act

-- these alternatives (RFC 7838 3)
abbrev pub offer_of : Origin → List Alt → Act
offer_of origin alts = Advertise origin (value.List alts)

-- none any more: `clear` (RFC 7838 3)
abbrev pub withdrawal_of : Origin → Act
withdrawal_of origin = Advertise origin value.Clear

-- the values of an act are in their forms
abbrev pub IsAct : Act → Type 0
IsAct (Serve origin) = IsOrigin origin
IsAct (Unserve origin) = Unit {0}
IsAct Announce = Unit {0}
IsAct (Advertise origin value) = IsOrigin origin × IsAltSvc value
