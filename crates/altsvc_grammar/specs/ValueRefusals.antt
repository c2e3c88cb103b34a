-- The refusals of a value of Alt-Svc, with their places.
use Rattle.std.specs.Prelude.{◌≡◌, ◌≢◌, ◌⊎◌, ℕ, ◌+◌, ◌<◌, ◌≤◌, false, List, [], ◌∷◌, ◌++◌, length, All, codes, Option}
use Rattle.origin_values.specs.declared.host.Host.{Host}
use Rattle.field_text.specs.declared.text_refusal.TextRefusal.{TextRefusal}
use Rattle.field_text.specs.OneReading.{OneReading}
use Rattle.field_text.specs.Runs.{AllIn, BeginsIn}
use Rattle.field_text.specs.BlanksGrammar.{is_blank}
use Rattle.field_text.specs.TokenGrammar.{is_token}
use Rattle.field_text.specs.QuotedGrammar.{Part, parts_text, parts_bytes, AreParts, QuotedRefusedAt}
use Rattle.altsvc_grammar.specs.Written.{encoded_byte, encoded}
use Rattle.altsvc_grammar.specs.AuthorityGrammar.{IsProtocol, SpellsAuthority}
use Rattle.altsvc_grammar.specs.ParameterGrammar.{IsToken, EndsParameters, ParameterRefused}
use Rattle.altsvc_grammar.specs.ValueGrammar.{most_value_bytes, Slot, AreSlots, IsSlot, slots_before, slot_then, elements_of, Alternative, alternative_then, IsAlternative, Element, Clear, Offered, element_then, IsElement, SpellsValue}
use Rattle.altsvc_grammar.specs.declared.alt_svc.AltSvc.{AltSvc}
use Rattle.altsvc_grammar.specs.declared.refusal.AltRefusal.{AltRefusal}
use Rattle.altsvc_grammar.specs.declared.refusal.AltRefusal.TheVariants.{Empty, BadToken, BadPercent, NoEquals, BadQuoted, BadAuthority, BadParameter, Trailing, TooLong}

-- there is no element
pub record IsEmpty (x : List ℕ) (q : ℕ) : Type 0 where
  pub before : List Slot
  pub last : Slot
  pub are_slots : AreSlots before
  pub is_slot : IsSlot last
  pub text : x ≡ slots_before before (slot_then last [])
  pub none : elements_of (before ++ last ∷ []) ≡ []
  pub place : q ≡ length x

-- behind slots with their commas, and blanks, this text begins
pub record Begins (x y : List ℕ) : Type 0 where
  pub before : List Slot
  pub blanks : List ℕ
  pub are_slots : AreSlots before
  pub are_blanks : AllIn is_blank blanks
  pub text : x ≡ slots_before before (blanks ++ y)

-- neither a blank, nor a comma, nor a token's byte
pub record IsNoToken (n : ℕ) (y : List ℕ) (q : ℕ) : Type 0 where
  pub byte : ℕ
  pub rest : List ℕ
  pub text : y ≡ byte ∷ rest
  pub no_blank : is_blank byte ≡ false
  pub no_comma : byte ≢ 44
  pub no_token : is_token byte ≡ false
  pub place : q + length y ≡ n

-- a protocol of more than 255 bytes
pub record IsLongProtocol (n : ℕ) (y : List ℕ) (q : ℕ) : Type 0 where
  pub proto : List ℕ
  pub rest : List ℕ
  pub text : y ≡ encoded proto ++ 61 ∷ rest
  pub bytes : All (λ b. b < 256) proto
  pub long : 255 < length proto
  pub place : q + length y ≡ n

-- a token other than `clear`, which no `=` follows
pub record IsNoEquals (n : ℕ) (y : List ℕ) (q : ℕ) : Type 0 where
  pub token : List ℕ
  pub rest : List ℕ
  pub text : y ≡ token ++ rest
  pub valid : IsToken token
  pub no_clear : token ≢ codes "clear"
  pub longest : BeginsIn is_token rest → ⊥
  pub no_equals : (more : List ℕ) → rest ≢ 61 ∷ more
  pub place : q + length rest ≡ n

-- the first `%` of a token with `=` that isn't the encoded form of a byte
pub record IsBadPercent (n : ℕ) (y : List ℕ) (q : ℕ) : Type 0 where
  pub good : List ℕ
  pub more : List ℕ
  pub rest : List ℕ
  pub text : y ≡ encoded good ++ 37 ∷ (more ++ 61 ∷ rest)
  pub bytes : All (λ b. b < 256) good
  pub in_token : AllIn is_token more
  pub bad : (byte : ℕ) (after : List ℕ) → byte < 256 → 37 ∷ more ≡ encoded_byte byte ++ after → ⊥
  pub place : q + length (37 ∷ (more ++ 61 ∷ rest)) ≡ n

-- no quoted string behind the `=` of a protocol
pub record IsBadQuoted (n : ℕ) (y : List ℕ) (q : ℕ) : Type 0 where
  pub proto : List ℕ
  pub rest : List ℕ
  pub p : ℕ
  pub reason : TextRefusal
  pub text : y ≡ encoded proto ++ 61 ∷ rest
  pub is_proto : IsProtocol proto
  pub from : p + length rest ≡ n
  pub refused : QuotedRefusedAt p rest q reason

-- the quoted string holds no authority
pub record IsBadAuthority (n : ℕ) (y : List ℕ) (q : ℕ) : Type 0 where
  pub proto : List ℕ
  pub parts : List Part
  pub rest : List ℕ
  pub text : y ≡ encoded proto ++ 61 ∷ 34 ∷ (parts_text parts ++ 34 ∷ rest)
  pub is_proto : IsProtocol proto
  pub are_parts : AreParts parts
  pub bad : (host : Option Host) (port : ℕ) → SpellsAuthority (parts_bytes parts) host port → ⊥
  pub place : q + length (34 ∷ (parts_text parts ++ 34 ∷ rest)) ≡ n

-- an alternative, blanks, a `;`, blanks, and no parameter
pub record IsBadParameter (n : ℕ) (y : List ℕ) (q : ℕ) : Type 0 where
  pub a : Alternative
  pub before : List ℕ
  pub after : List ℕ
  pub z : List ℕ
  pub text : y ≡ alternative_then a (before ++ 59 ∷ (after ++ z))
  pub is_alternative : IsAlternative a
  pub blanks_before : AllIn is_blank before
  pub blanks_after : AllIn is_blank after
  pub refused : ParameterRefused n z q

-- where an element may end: behind `clear` no token's byte and no `=` stands, behind an alternative nothing that its
-- last parameter goes on with, and no further parameter
abbrev pub EndsElement : Element → List ℕ → ℕ → Type 0
EndsElement Clear w byte = (BeginsIn is_token w → ⊥) × ((more : List ℕ) → w ≢ 61 ∷ more)
EndsElement (Offered a) w byte = EndsParameters a.parameters w × (byte ≢ 59)

-- an element, blanks, and neither a comma nor the end
pub record IsTrailing (n : ℕ) (y : List ℕ) (q : ℕ) : Type 0 where
  pub e : Element
  pub blanks : List ℕ
  pub byte : ℕ
  pub rest : List ℕ
  pub text : y ≡ element_then e (blanks ++ byte ∷ rest)
  pub is_element : IsElement e
  pub are_blanks : AllIn is_blank blanks
  pub no_blank : is_blank byte ≡ false
  pub no_comma : byte ≢ 44
  pub ends : EndsElement e (blanks ++ byte ∷ rest) byte
  pub place : q + length (byte ∷ rest) ≡ n

-- the refusals of the element that this text begins; n is the length of the whole text
abbrev pub ElementRefused : ℕ → List ℕ → ℕ → AltRefusal → Type 0
ElementRefused n y q Empty = ⊥
ElementRefused n y q BadToken = IsNoToken n y q ⊎ IsLongProtocol n y q
ElementRefused n y q BadPercent = IsBadPercent n y q
ElementRefused n y q NoEquals = IsNoEquals n y q
ElementRefused n y q BadQuoted = IsBadQuoted n y q
ElementRefused n y q BadAuthority = IsBadAuthority n y q
ElementRefused n y q BadParameter = IsBadParameter n y q
ElementRefused n y q Trailing = IsTrailing n y q
ElementRefused n y q TooLong = ⊥

-- an element that is refused begins behind those that are read
pub record IsRefusedElement (x : List ℕ) (q : ℕ) (r : AltRefusal) : Type 0 where
  pub y : List ℕ
  pub begins : Begins x y
  pub refused : ElementRefused (length x) y q r

-- the table of refusals: more than 16,384 bytes; else an element that is refused; and last no element
abbrev pub ValueRefusedAt : List ℕ → ℕ → AltRefusal → Type 0
ValueRefusedAt x q TooLong = (q ≡ most_value_bytes) × (most_value_bytes < length x)
ValueRefusedAt x q Empty = IsEmpty x q × (length x ≤ most_value_bytes)
ValueRefusedAt x q r = IsRefusedElement x q r × (length x ≤ most_value_bytes)

-- exactly one value or exactly one refusal, and never both
abbrev pub OneAltSvc : List ℕ → Type 0
OneAltSvc x = OneReading AltSvc AltRefusal (SpellsValue x) (ValueRefusedAt x)
