-- What the reader of a string answers, memory aside.
use Rattle.std.specs.Prelude.{◌≡◌, ◌≤◌, ℕ, Result, Ok, Err}
use Rattle.svcb_values.specs.declared.string_fault.StringFault.{StringFault}
use Rattle.svcb_values.specs.declared.string_fault.StringFault.TheVariants.{NoMemory, At}
use Rattle.svcb_values.specs.declared.unescaped.Unescaped.{Unescaped}
use Rattle.svcb_values.specs.StringReading.{StringAnswer}

abbrev pub FoundString : Type 0
FoundString = Result (Unescaped × ℕ) StringFault

-- the answer is what the reading gives, where memory was found
abbrev pub AnswersString : FoundString → StringAnswer → Type 0
AnswersString (Ok found) reading = reading ≡ Ok found
AnswersString (Err NoMemory) reading = Unit {0}
AnswersString (Err (At place)) reading = reading ≡ Err place

-- neither the string nor the place of its fault goes past so many bytes
abbrev pub IsWithin : FoundString → ℕ → Type 0
IsWithin (Ok found) most = found.1 ≤ most
IsWithin (Err NoMemory) most = Unit {0}
IsWithin (Err (At place)) most = place ≤ most
