-- The payload of an ALTSVC frame (RFC 7838 4), beside what it says, by how it splits; and the table of refusals.
use Rattle.std.specs.Prelude.{◌≡◌, ◌≢◌, ◌⊎◌, ℕ, ◌+◌, ◌*◌, ◌<◌, List, [], ◌∷◌, ◌++◌, length, Option, None, Some}
use Rattle.origin_values.specs.AsciiOrigin.{SpellsAscii, IsNoOrigin}
use Rattle.origin_values.specs.declared.origin.Origin.{Origin}
use Rattle.altsvc_grammar.specs.ValueGrammar.{SpellsValue}
use Rattle.altsvc_grammar.specs.ValueRefusals.{ValueRefusedAt}
use Rattle.altsvc_grammar.specs.declared.refusal.AltRefusal.{AltRefusal}
use Rattle.altsvc_frame.specs.declared.frame.AltFrame.{AltFrame}
use Rattle.altsvc_frame.specs.declared.refusal.AltFrameRefusal.{AltFrameRefusal}
use Rattle.altsvc_frame.specs.declared.refusal.AltFrameRefusal.TheVariants.{Short, OriginPast, EmptyOnZero, OriginOnStream, BadOrigin, BadField}

-- the origin's length in two octets, that many octets of the origin, and the field's value
pub record IsSplit (payload origin field : List ℕ) : Type 0 where
  pub high : ℕ
  pub low : ℕ
  pub spelled : payload ≡ high ∷ low ∷ (origin ++ field)
  pub long : length origin ≡ high * 256 + low

-- on stream 0 an origin's ASCII text (RFC 6454 6.2); on another stream nothing, since there it is the origin of the
-- stream's request
abbrev pub SpellsFrameOrigin : ℕ → List ℕ → Option Origin → Type 0
SpellsFrameOrigin stream text None = (stream ≢ 0) × (text ≡ [])
SpellsFrameOrigin stream text (Some origin) = (stream ≡ 0) × SpellsAscii text origin

-- the origin that this stream asks for, and a value of an Alt-Svc field
pub record SpellsFrame (stream : ℕ) (payload : List ℕ) (frame : AltFrame) : Type 0 where
  pub text : List ℕ
  pub field : List ℕ
  pub split : IsSplit payload text field
  pub of_origin : SpellsFrameOrigin stream text frame.origin
  pub of_field : SpellsValue field frame.value

-- the origin's length passes the end
pub record IsOriginPast (payload : List ℕ) : Type 0 where
  pub high : ℕ
  pub low : ℕ
  pub rest : List ℕ
  pub spelled : payload ≡ high ∷ low ∷ rest
  pub past : length rest < high * 256 + low

-- the payload splits, and this holds of its origin's text
abbrev pub OriginIs : (List ℕ → Type 0) → List ℕ → Type 0
OriginIs P payload = (text : List ℕ) × (field : List ℕ) × IsSplit payload text field × P text

-- the origin is as this stream asks for, and the field's value is refused; the field stands behind two octets and the
-- origin
pub record IsBadField (stream : ℕ) (payload : List ℕ) (place : ℕ) : Type 0 where
  pub text : List ℕ
  pub field : List ℕ
  pub origin : Option Origin
  pub inside : ℕ
  pub reason : AltRefusal
  pub split : IsSplit payload text field
  pub of_origin : SpellsFrameOrigin stream text origin
  pub refused : ValueRefusedAt field inside reason
  pub at : place ≡ 2 + length text + inside

-- the table of refusals, in the order in which they are tried (RFC 7838 4)
abbrev pub FrameRefusedAt : ℕ → List ℕ → ℕ → AltFrameRefusal → Type 0
FrameRefusedAt stream payload place Short = (length payload < 2) × (place ≡ length payload)
FrameRefusedAt stream payload place OriginPast = IsOriginPast payload × (place ≡ 0)
FrameRefusedAt stream payload place EmptyOnZero = (stream ≡ 0) × OriginIs (λ text. text ≡ []) payload × (place ≡ 0)
FrameRefusedAt stream payload place OriginOnStream = (stream ≢ 0) × OriginIs (λ text. text ≢ []) payload × (place ≡ 0)
FrameRefusedAt stream payload place BadOrigin =
    (stream ≡ 0) × OriginIs (λ text. (text ≢ []) × IsNoOrigin text) payload × (place ≡ 2)
FrameRefusedAt stream payload place BadField = IsBadField stream payload place

-- exactly one frame or exactly one refusal, and never both
pub record OneFrame (stream : ℕ) (payload : List ℕ) : Type 0 where
  pub some : ((frame : AltFrame) × SpellsFrame stream payload frame)
      ⊎ ((place : ℕ) × (reason : AltFrameRefusal) × FrameRefusedAt stream payload place reason)
  pub one_frame : (a b : AltFrame) → SpellsFrame stream payload a → SpellsFrame stream payload b → a ≡ b
  pub one_refusal : (p q : ℕ) (r s : AltFrameRefusal) → FrameRefusedAt stream payload p r
      → FrameRefusedAt stream payload q s → (p ≡ q) × (r ≡ s)
  pub not_both : (frame : AltFrame) (place : ℕ) (reason : AltFrameRefusal) → SpellsFrame stream payload frame
      → FrameRefusedAt stream payload place reason → ⊥
