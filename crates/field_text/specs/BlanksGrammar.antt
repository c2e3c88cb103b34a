-- The grammar of blanks (RFC 9110 5.6.3, `OWS`) at the front of a text: a run of spaces and tabs, maybe empty.
use Rattle.std.specs.Prelude.{◌≡◌, ℕ, ◌+◌, Bool, ◌||◌, nat_eq, List, length}
use Rattle.field_text.specs.Runs.{IsLongestRun}

abbrev pub is_blank : ℕ → Bool
is_blank byte = nat_eq byte 32 || nat_eq byte 9

-- at place p the text begins with blanks, as many as can be, which end before place q
pub record SpellsBlanks (p : ℕ) (x : List ℕ) (q : ℕ) : Type 0 where
  pub blanks : List ℕ
  pub rest : List ℕ
  pub run : IsLongestRun is_blank x blanks rest
  pub end : q ≡ p + length blanks

-- blanks have no refusal
pub record OneBlanks (p : ℕ) (x : List ℕ) : Type 0 where
  pub some : (q : ℕ) × SpellsBlanks p x q
  pub one_end : (q q' : ℕ) → SpellsBlanks p x q → SpellsBlanks p x q' → q ≡ q'
