-- The lines that show a value: `clear`, or a line for each alternative.
use Rattle.std.specs.Prelude.{ℕ, Bool, true, false, List, [], ◌∷◌, ◌++◌, codes, decimal, Option, None, Some}
use Rattle.origin_values.specs.Written.{host_text}
use Rattle.origin_values.specs.declared.host.Host.{Host}
use Rattle.altsvc_grammar.specs.Written.{encoded}
use Rattle.altsvc_grammar.specs.declared.alt_key.AltKey.{AltKey}
use Rattle.altsvc_grammar.specs.declared.alt.Alt.{Alt}
use Rattle.altsvc_grammar.specs.declared.alt_svc.AltSvc.{AltSvc}
use Rattle.altsvc_grammar.specs.declared.alt_svc.AltSvc.TheVariants as value

-- `-` where there is no host
abbrev pub shown_host : Option Host → List ℕ
shown_host None = codes "-"
shown_host (Some host) = host_text host

-- the encoded protocol, the host and the port
abbrev pub shown_key : AltKey → List ℕ
shown_key key = encoded key.proto ++ codes " " ++ shown_host key.host ++ codes " " ++ decimal key.port

-- 1 or 0, and the end of the line
abbrev pub shown_persist : Bool → List ℕ
shown_persist true = codes "1\n"
shown_persist false = codes "0\n"

-- the key, the seconds and whether it persists
abbrev pub alt_line : Alt → List ℕ
alt_line alt = shown_key alt.key ++ codes " ma " ++ decimal alt.ma ++ codes " persist " ++ shown_persist alt.persist

abbrev pub alt_lines : List Alt → List ℕ
alt_lines [] = []
alt_lines (alt ∷ alts) = alt_line alt ++ alt_lines alts

-- each line ends with a newline
abbrev pub show_lines : AltSvc → List ℕ
show_lines value.Clear = codes "clear\n"
show_lines (value.List alts) = alt_lines alts
