-- The grammar of a token (RFC 9110 5.6.2) at the front of a text, and its refusal.
use Rattle.std.specs.Prelude.{◌≡◌, ◌≢◌, ℕ, ◌+◌, Bool, List, [], length}
use Rattle.alt_base.specs.Classes.{in_ranges, token_class}
use Rattle.field_text.specs.declared.text_refusal.TextRefusal.{TextRefusal}
use Rattle.field_text.specs.declared.text_refusal.TextRefusal.TheVariants.{Empty, BadByte, Unclosed}
use Rattle.field_text.specs.Runs.{BeginsIn, IsLongestRun}
use Rattle.field_text.specs.OneReading.{OneReading}

abbrev pub is_token : ℕ → Bool
is_token byte = in_ranges token_class byte

-- at place p the text begins with a token, the longest one, which ends before place q
pub record SpellsToken (p : ℕ) (x : List ℕ) (q : ℕ) : Type 0 where
  pub token : List ℕ
  pub rest : List ℕ
  pub run : IsLongestRun is_token x token rest
  pub some : token ≢ []
  pub end : q ≡ p + length token

-- the table of refusals
abbrev pub TokenRefusedAt : ℕ → List ℕ → ℕ → TextRefusal → Type 0
TokenRefusedAt p x q Empty = (q ≡ p) × (BeginsIn is_token x → ⊥)
TokenRefusedAt p x q BadByte = ⊥
TokenRefusedAt p x q Unclosed = ⊥

abbrev pub OneToken : ℕ → List ℕ → Type 0
OneToken p x = OneReading ℕ TextRefusal (SpellsToken p x) (TokenRefusedAt p x)
