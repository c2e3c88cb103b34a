-- The text that a certificate's names are written as, and which names have one.
use Rattle.std.specs.Prelude.{◌≢◌, ℕ, List, [], ◌∷◌, ◌++◌, codes}
use Rattle.origin_values.specs.HostGrammar.{SpellsName}
use Rattle.origin_values.specs.Valid.{IsAddr}
use Rattle.origin_values.specs.Written.{addr_text}
use Rattle.coalescing.specs.declared.cert_name.CertName.{CertName}
use Rattle.coalescing.specs.declared.cert_name.CertName.TheVariants.{Exact, Wild, Ip}

-- the name itself, `*.` and the base, or the address without brackets
abbrev pub name_text : CertName → List ℕ
name_text (Exact name) = name
name_text (Wild base) = codes "*." ++ base
name_text (Ip addr) = addr_text addr

-- names behind another, each after a comma
abbrev pub further_text : List CertName → List ℕ
further_text [] = []
further_text (name ∷ names) = 44 ∷ (name_text name ++ further_text names)

-- `-` for none
abbrev pub names_text : List CertName → List ℕ
names_text [] = codes "-"
names_text (name ∷ names) = name_text name ++ further_text names

-- a host's name in lower case, which spells itself, or the bytes of an address
abbrev pub IsCertName : CertName → Type 0
IsCertName (Exact name) = SpellsName name name
IsCertName (Wild base) = SpellsName base base
IsCertName (Ip addr) = IsAddr addr

abbrev pub AreCertNames : List CertName → Type 0
AreCertNames [] = Unit {0}
AreCertNames (name ∷ names) = IsCertName name × AreCertNames names

-- names that a text spells: all but the one name `-` alone
pub record HaveText (names : List CertName) : Type 0 where
  pub each : AreCertNames names
  pub unlike_none : names ≢ Exact (codes "-") ∷ []
