-- Reading the value of an Alt-Svc field (RFC 7838 3), from left to right.
use Rattle.std.specs.Prelude.{ℕ, ◌+◌, Bool, true, false, nat_eq, nat_lt, zero, suc, List, [], ◌∷◌, ◌++◌, length, map, codes, Option, None, Some, Result, Ok, Err, if◌then◌else◌}
use Rattle.std.specs.List.{list_any}
use Rattle.std.specs.Cmp.Lexicographic.{pointwise}
use Rattle.alt_base.specs.declared.refusal.At.{At}
use Rattle.field_text.specs.declared.text_refusal.TextRefusal.{TextRefusal}
use Rattle.field_text.specs.BlanksReading.{read_blanks, after_blanks}
use Rattle.field_text.specs.TokenReading.{read_token, token_of, after_token}
use Rattle.field_text.specs.QuotedReading.{read_quoted, unquoted, after_quoted}
use Rattle.origin_values.specs.declared.host.Host.{Host}
use Rattle.altsvc_grammar.specs.Steps.{Step, refused}
use Rattle.altsvc_grammar.specs.Keys.{key_eq}
use Rattle.altsvc_grammar.specs.ProtocolReading.{read_protocol}
use Rattle.altsvc_grammar.specs.AuthorityReading.{read_authority}
use Rattle.altsvc_grammar.specs.ParameterReading.{read_parameters, nothing_given, terms_of}
use Rattle.altsvc_grammar.specs.declared.alt_key.AltKey.{AltKey}
use Rattle.altsvc_grammar.specs.declared.alt.Alt.{Alt}
use Rattle.altsvc_grammar.specs.declared.alt_svc.AltSvc.{AltSvc}
use Rattle.altsvc_grammar.specs.declared.alt_svc.AltSvc.TheVariants as value
use Rattle.altsvc_grammar.specs.declared.element.Element.{Element}
use Rattle.altsvc_grammar.specs.declared.element.Element.TheVariants as element
use Rattle.altsvc_grammar.specs.declared.given.Given.{Given}
use Rattle.altsvc_grammar.specs.declared.terms.Terms.{Terms}
use Rattle.altsvc_grammar.specs.declared.refusal.AltRefusal.{AltRefusal}
use Rattle.altsvc_grammar.specs.declared.refusal.AltRefusal.TheVariants.{Empty, BadToken, NoEquals, BadQuoted, BadAuthority, Trailing, TooLong}

-- the most bytes of a value
abbrev pub most_bytes : ℕ
most_bytes = 16384

abbrev pub with_terms : AltKey → Result (Step Given) (At AltRefusal) → Result (Step Element) (At AltRefusal)
with_terms key (Ok step) = Ok (record { value = element.Alternative key (terms_of step.value); place = step.place; rest = step.rest })
with_terms key (Err at) = Err at

-- the parameters behind an authority that was read
abbrev pub with_authority : ℕ → List ℕ → ℕ → ℕ → List ℕ → Option (Option Host × ℕ) → Result (Step Element) (At AltRefusal)
with_authority most proto opening place rest None = refused opening BadAuthority
with_authority most proto opening place rest (Some authority) =
    with_terms (record { proto = proto; host = authority.0; port = authority.1 }) (read_parameters most nothing_given place rest)

abbrev pub authority_by_quoted : ℕ → List ℕ → ℕ → List ℕ → Result ℕ (At TextRefusal) → Result (Step Element) (At AltRefusal)
authority_by_quoted most proto opening x (Ok end) = with_authority most proto opening end (after_quoted x) (read_authority (unquoted x))
authority_by_quoted most proto opening x (Err at) = refused at.place BadQuoted

-- the authority and the parameters of this protocol
abbrev pub with_protocol : ℕ → ℕ → List ℕ → Result (List ℕ) (At AltRefusal) → Result (Step Element) (At AltRefusal)
with_protocol most place x (Ok proto) = authority_by_quoted most proto place x (read_quoted place x)
with_protocol most place x (Err at) = Err at

-- a token that no `=` follows
abbrev pub lone_token : List ℕ → ℕ → List ℕ → Result (Step Element) (At AltRefusal)
lone_token token place rest =
    if pointwise nat_eq token (codes "clear") then Ok (record { value = element.Clear; place = read_blanks place rest; rest = after_blanks rest })
    else refused place NoEquals

-- what follows the token of an element, which begins at a place before
abbrev pub after_element_token : ℕ → ℕ → List ℕ → ℕ → List ℕ → Result (Step Element) (At AltRefusal)
after_element_token most start token place [] = lone_token token place []
after_element_token most start token place (b ∷ bs) =
    if nat_eq b 61 then with_protocol most (place + 1) bs (read_protocol start token) else lone_token token place (b ∷ bs)

abbrev pub element_by_token : ℕ → ℕ → List ℕ → Result ℕ (At TextRefusal) → Result (Step Element) (At AltRefusal)
element_by_token most place x (Ok end) = after_element_token most place (token_of x) end (after_token x)
element_by_token most place x (Err at) = refused place BadToken

-- an element, and the blanks behind it; it has fewer parameters than this number
abbrev pub read_element : ℕ → ℕ → List ℕ → Result (Step Element) (At AltRefusal)
read_element most place x = element_by_token most place x (read_token place x)

-- what the elements so far give: whether one of them is `clear`, and the alternatives, each key once
pub record Seen : Type 0 where
  pub clear : Bool
  pub kept : List (AltKey × Terms)

abbrev pub nothing_seen : Seen
nothing_seen = record { clear = false; kept = [] }

-- an alternative of a key that was there before is left out
abbrev pub keep : List (AltKey × Terms) → AltKey → Terms → List (AltKey × Terms)
keep kept key terms = if list_any (λ (e : AltKey × Terms). key_eq key e.0) kept then kept else kept ++ (key, terms) ∷ []

abbrev pub see : Seen → Element → Seen
see seen element.Clear = record { clear = true; kept = seen.kept }
see seen (element.Alternative key terms) = record { clear = seen.clear; kept = keep seen.kept key terms }

abbrev pub element_seen : Seen → Result (Step Element) (At AltRefusal) → Result (Step Seen) (At AltRefusal)
element_seen seen (Ok step) = Ok (record { value = see seen step.value; place = step.place; rest = step.rest })
element_seen seen (Err at) = Err at

-- what stands before the next comma or the end: nothing, or an element
abbrev pub seen_element : ℕ → Seen → ℕ → List ℕ → Result (Step Seen) (At AltRefusal)
seen_element most seen place [] = Ok (record { value = seen; place = place; rest = [] })
seen_element most seen place (b ∷ bs) =
    if nat_eq b 44 then Ok (record { value = seen; place = place; rest = b ∷ bs })
    else element_seen seen (read_element most place (b ∷ bs))

-- the end, or a comma and more
abbrev pub after_element : (Seen → ℕ → List ℕ → Result Seen (At AltRefusal)) → Seen → ℕ → List ℕ → Result Seen (At AltRefusal)
after_element more seen place [] = Ok seen
after_element more seen place (b ∷ bs) = if nat_eq b 44 then more seen (place + 1) bs else refused place Trailing

abbrev pub then_elements : (Seen → ℕ → List ℕ → Result Seen (At AltRefusal)) → Result (Step Seen) (At AltRefusal) → Result Seen (At AltRefusal)
then_elements more (Ok step) = after_element more step.value step.place step.rest
then_elements more (Err at) = Err at

-- the elements; fewer commas than this number stand between them
abbrev pub read_elements : ℕ → ℕ → Seen → ℕ → List ℕ → Result Seen (At AltRefusal)
read_elements most zero seen place x = Ok seen
read_elements most (suc fewer) seen place x = then_elements (read_elements most fewer) (seen_element most seen (read_blanks place x) (after_blanks x))

abbrev pub alt_of : AltKey × Terms → Alt
alt_of e = record { key = e.0; ma = e.1.ma; persist = e.1.persist }

-- the value of what was seen in a text of this length
abbrev pub listed : ℕ → List (AltKey × Terms) → Result AltSvc (At AltRefusal)
listed length [] = refused length Empty
listed length (e ∷ kept) = Ok (value.List (map alt_of (e ∷ kept)))

abbrev pub value_of : ℕ → Seen → Result AltSvc (At AltRefusal)
value_of length seen = if seen.clear then Ok value.Clear else listed length seen.kept

abbrev pub value_of_seen : ℕ → Result Seen (At AltRefusal) → Result AltSvc (At AltRefusal)
value_of_seen length (Ok seen) = value_of length seen
value_of_seen length (Err at) = Err at

-- `clear` counts wherever it stands, and the first of equal keys stays
abbrev pub read_value : List ℕ → Result AltSvc (At AltRefusal)
read_value x =
    if nat_lt most_bytes (length x) then refused most_bytes TooLong
    else value_of_seen (length x) (read_elements (length x + 1) (length x + 1) nothing_seen 0 x)
