-- The age that is read is the one that the Age fields tell, and no other.
use Rattle.std.proofs.Common.{◌≡◌, ℕ, ◌≤◌, List, [], ◌∷◌, codes, Option, Some, None, unwrap_or, refl, ap, sym, ◌∙◌, arith, inl, inr}
use Rattle.field_text.specs.DeltaGrammar.{greatest_delta_seconds}
use Rattle.field_text.specs.DeltaReading.{read_delta_seconds}
use Rattle.field_text.proofs.DeltaLemmas.{DeltaSays, delta_says, delta_spelled, delta_refused}
use Rattle.event_lines.specs.ResponseGrammar.{Field, values_of, TellsAge, TellAge, HaveAge}
use Rattle.event_lines.specs.ResponseReading.{seconds_of, first_seconds, age_of}

abbrev or_none : Option ℕ → ℕ
or_none o = unwrap_or o 0

-- what is read is told

read_tells : (value : List ℕ) (o : Option ℕ) → DeltaSays value o → TellsAge value (or_none o)
read_tells value (Some n) says = inl says
read_tells value None says = inr (says, refl)

first_tells : (values : List (List ℕ)) → TellAge values (or_none (first_seconds values))
first_tells [] = refl
first_tells (value ∷ values) = read_tells value (read_delta_seconds value) (delta_says value)

pub age_told : (fields : List Field) → HaveAge fields (age_of fields)
age_told fields = first_tells (values_of (codes "age") fields)

-- what is told is read

tells_read : (value : List ℕ) (age : ℕ) → TellsAge value age → age ≡ seconds_of value
tells_read value age (inl spelled) = sym (ap or_none (delta_spelled age value spelled))
tells_read value age (inr none) = none.1 ∙ sym (ap or_none (delta_refused value none.0))

tell_first : (values : List (List ℕ)) (age : ℕ) → TellAge values age → age ≡ or_none (first_seconds values)
tell_first [] age told = told
tell_first (value ∷ values) age told = tells_read value age told

pub age_read : (fields : List Field) (age : ℕ) → HaveAge fields age → age ≡ age_of fields
age_read fields age told = tell_first (values_of (codes "age") fields) age told

-- and it is within the largest number

told_within : (value : List ℕ) (age : ℕ) → TellsAge value age → age ≤ greatest_delta_seconds
told_within value age (inl spelled) = omega (arith, spelled.value)
told_within value age (inr none) = omega (arith, none.1)

all_within : (values : List (List ℕ)) (age : ℕ) → TellAge values age → age ≤ greatest_delta_seconds
all_within [] age told = omega (arith, told)
all_within (value ∷ values) age told = told_within value age told

pub age_within : (fields : List Field) (age : ℕ) → HaveAge fields age → age ≤ greatest_delta_seconds
age_within fields age told = all_within (values_of (codes "age") fields) age told
