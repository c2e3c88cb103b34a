-- The value of an Alt-Svc field (RFC 7838 3), by how its text splits.
use Rattle.std.specs.Prelude.{◌≡◌, ◌≢◌, ℕ, ◌≤◌, Bool, true, false, List, [], ◌∷◌, ◌++◌, length, codes, Option, None, Some, if◌then◌else◌}
use Rattle.std.specs.List.{list_any}
use Rattle.origin_values.specs.declared.host.Host.{Host}
use Rattle.field_text.specs.Runs.{AllIn}
use Rattle.field_text.specs.BlanksGrammar.{is_blank}
use Rattle.field_text.specs.QuotedGrammar.{Part, parts_text, parts_bytes, AreParts}
use Rattle.altsvc_grammar.specs.Keys.{key_eq}
use Rattle.altsvc_grammar.specs.Written.{encoded}
use Rattle.altsvc_grammar.specs.AuthorityGrammar.{IsProtocol, SpellsAuthority}
use Rattle.altsvc_grammar.specs.ParameterGrammar.{Parameter, parameters_then, AreParameters}
use Rattle.altsvc_grammar.specs.TermsGrammar.{SaysMa, SaysPersist}
use Rattle.altsvc_grammar.specs.declared.alt_key.AltKey.{AltKey}
use Rattle.altsvc_grammar.specs.declared.alt.Alt.{Alt}
use Rattle.altsvc_grammar.specs.declared.alt_svc.AltSvc.{AltSvc}
use Rattle.altsvc_grammar.specs.declared.alt_svc.AltSvc.TheVariants as value

-- the most bytes of a value
abbrev pub most_value_bytes : ℕ
most_value_bytes = 16384

-- a protocol, a quoted string that holds this host and port, and parameters, with what they mean
pub record Alternative : Type 0 where
  pub proto : List ℕ
  pub parts : List Part
  pub host : Option Host
  pub port : ℕ
  pub parameters : List Parameter
  pub ma : ℕ
  pub persist : Bool

-- its text, before what follows it
abbrev pub alternative_then : Alternative → List ℕ → List ℕ
alternative_then a w = encoded a.proto ++ 61 ∷ 34 ∷ (parts_text a.parts ++ 34 ∷ parameters_then a.parameters w)

pub record IsAlternative (a : Alternative) : Type 0 where
  pub proto : IsProtocol a.proto
  pub parts : AreParts a.parts
  pub authority : SpellsAuthority (parts_bytes a.parts) a.host a.port
  pub parameters : AreParameters a.parameters
  pub ma : SaysMa a.parameters a.ma
  pub persist : SaysPersist a.parameters a.persist

abbrev pub alt_meant : Alternative → Alt
alt_meant a = record { key = record { proto = a.proto; host = a.host; port = a.port }; ma = a.ma; persist = a.persist }

-- `clear`, or an alternative
pub data Element : Type 0 where
  Clear : Element
  Offered : (a : Alternative) → Element

abbrev pub element_then : Element → List ℕ → List ℕ
element_then Clear w = codes "clear" ++ w
element_then (Offered a) w = alternative_then a w

abbrev pub IsElement : Element → Type 0
IsElement Clear = Unit {0}
IsElement (Offered a) = IsAlternative a

-- between two commas: blanks, maybe an element, and blanks
pub record Slot : Type 0 where
  pub front : List ℕ
  pub element : Option Element
  pub back : List ℕ

abbrev pub optional_then : Option Element → List ℕ → List ℕ
optional_then None w = w
optional_then (Some e) w = element_then e w

abbrev pub slot_then : Slot → List ℕ → List ℕ
slot_then s w = s.front ++ optional_then s.element (s.back ++ w)

abbrev pub IsOptionalElement : Option Element → Type 0
IsOptionalElement None = Unit {0}
IsOptionalElement (Some e) = IsElement e

pub record IsSlot (s : Slot) : Type 0 where
  pub front : AllIn is_blank s.front
  pub element : IsOptionalElement s.element
  pub back : AllIn is_blank s.back

-- slots, a comma behind each
abbrev pub slots_before : List Slot → List ℕ → List ℕ
slots_before [] w = w
slots_before (s ∷ ss) w = slot_then s (44 ∷ slots_before ss w)

abbrev pub AreSlots : List Slot → Type 0
AreSlots [] = Unit {0}
AreSlots (s ∷ ss) = IsSlot s × AreSlots ss

-- the elements, in order
abbrev pub with_element : Option Element → List Element → List Element
with_element None es = es
with_element (Some e) es = e ∷ es

abbrev pub elements_of : List Slot → List Element
elements_of [] = []
elements_of (s ∷ ss) = with_element s.element (elements_of ss)

abbrev pub is_clear : Element → Bool
is_clear Clear = true
is_clear (Offered a) = false

abbrev pub alternatives_of : List Element → List Alt
alternatives_of [] = []
alternatives_of (Clear ∷ es) = alternatives_of es
alternatives_of (Offered a ∷ es) = alt_meant a ∷ alternatives_of es

-- whether a key is one of these
abbrev pub key_in : AltKey → List AltKey → Bool
key_in key keys = list_any (λ other. key_eq key other) keys

-- an alternative whose key stands before is left out
abbrev pub firsts : List AltKey → List Alt → List Alt
firsts before [] = []
firsts before (alt ∷ alts) = if key_in alt.key before then firsts before alts else alt ∷ firsts (before ++ alt.key ∷ []) alts

-- `clear` where an element is `clear`, and else the alternatives in order, each key once
abbrev pub meaning : List Element → AltSvc
meaning es = if list_any is_clear es then value.Clear else value.List (firsts [] (alternatives_of es))

-- at most 16,384 bytes: slots with a comma between, at least one of them with an element
pub record SpellsValue (x : List ℕ) (v : AltSvc) : Type 0 where
  pub before : List Slot
  pub last : Slot
  pub are_slots : AreSlots before
  pub is_slot : IsSlot last
  pub text : x ≡ slots_before before (slot_then last [])
  pub short : length x ≤ most_value_bytes
  pub some : elements_of (before ++ last ∷ []) ≢ []
  pub means : v ≡ meaning (elements_of (before ++ last ∷ []))
