-- Reading a whole input, and what each status of a command says that does.
use Rattle.std.specs.Prelude.{◌≡◌, ◌⊎◌, ℕ, ◌≤◌, ◌<◌, Bool, true, List, [], take, length, Option, Some, None, Result, Ok, Err}
use Rattle.alt_base.specs.Devices.{Took, Grew, IsAtEnd}
use Rattle.alt_base.specs.Faults.{Rose}
use Rattle.altroute_show.specs.declared.status.Status.{Status}
use Rattle.altroute_show.specs.declared.status.Status.TheVariants.{Done, Refused, Usage, ReadFault, WriteFault, NoMemory, TooLong}
use Rattle.altroute_show.specs.declared.given.Given.{Given}
use Rattle.altroute_show.specs.declared.given.Given.TheVariants as given
use Rattle.altroute_show.specs.Seen.{Seen, AnsweredEnd, NoFault, Moves}
use Rattle.altroute_show.specs.Given.{given_text}

-- what a source tells, whether it has answered its end, and its count of faults
pub record SourceSeen : Type 0 where
  pub left : Option (List ℕ)
  pub ended : Bool
  pub faults : ℕ

-- these bytes were taken, without a fault
pub record Taken (old new : SourceSeen) (bytes : List ℕ) : Type 0 where
  pub took : Took old.left new.left bytes
  pub same : new.faults ≡ old.faults

-- all bytes were taken, which aren't too many
pub record TakenAll (old new : SourceSeen) (bytes : List ℕ) : Type 0 where
  pub taken : Taken old new bytes
  pub ended : new.ended ≡ true
  pub at_end : IsAtEnd new.left
  pub fits : length bytes ≤ 67108864

-- a read failed behind some bytes
pub record TakenToFault (old new : SourceSeen) (bytes : List ℕ) : Type 0 where
  pub took : Took old.left new.left bytes
  pub rose : Rose old.faults new.faults

abbrev pub ReadEnds : Result (List ℕ) Status → SourceSeen → SourceSeen → Type 0
ReadEnds (Ok input) old new = TakenAll old new input
ReadEnds (Err ReadFault) old new = (bytes : List ℕ) × TakenToFault old new bytes
ReadEnds (Err TooLong) old new = (bytes : List ℕ) × (67108864 < length bytes) × Taken old new bytes
ReadEnds (Err NoMemory) old new = (bytes : List ℕ) × Taken old new bytes
ReadEnds (Err Done) old new = ⊥
ReadEnds (Err Refused) old new = ⊥
ReadEnds (Err Usage) old new = ⊥
ReadEnds (Err WriteFault) old new = ⊥

-- a turn that goes on with these bytes, or the end
abbrev pub ended_with : Result (Unit {0}) Status → List ℕ → Result (List ℕ) Status
ended_with (Ok done) input = Ok input
ended_with (Err status) input = Err status

abbrev pub ReadTurn : Option (Result (Unit {0}) Status) → SourceSeen → SourceSeen → List ℕ → Type 0
ReadTurn None old new input = Taken old new input
ReadTurn (Some end) old new input = ReadEnds (ended_with end input) old new

-- the whole input was read, and this much of what is given for it was written
pub record IsGiven (old new : Seen) (bytes text : List ℕ) : Type 0 where
  pub ended : AnsweredEnd new
  pub fits : length bytes ≤ 67108864
  pub moves : Moves old new bytes text

-- the statuses of a command that reads its whole input
abbrev pub WholeEnds : (List ℕ → Given) → Status → Seen → Seen → Type 0
WholeEnds gives Done old new = (bytes : List ℕ) × (text : List ℕ) × (gives bytes ≡ given.Shown text) × IsGiven old new bytes text × NoFault old new
WholeEnds gives Refused old new = (bytes : List ℕ) × (text : List ℕ) × (gives bytes ≡ given.Refused text) × IsGiven old new bytes text × NoFault old new
WholeEnds gives Usage old new = ⊥
WholeEnds gives ReadFault old new = (bytes : List ℕ) × Moves old new bytes [] × Rose old.read_faults new.read_faults × (new.write_faults ≡ old.write_faults)
WholeEnds gives WriteFault old new = (bytes : List ℕ) × (n : ℕ) × IsGiven old new bytes (take n (given_text (gives bytes))) × Rose old.write_faults new.write_faults × (new.read_faults ≡ old.read_faults)
WholeEnds gives NoMemory old new = (bytes : List ℕ) × Moves old new bytes [] × NoFault old new
WholeEnds gives TooLong old new = (bytes : List ℕ) × (67108864 < length bytes) × Moves old new bytes [] × NoFault old new

-- a told input that is given what is asked for is done where neither device fails, or memory isn't found
abbrev pub IsWholeComplete : (List ℕ → Given) → Status → Seen → Seen → Type 0
IsWholeComplete gives status old new =
    (input text : List ℕ) → old.left ≡ Some input → length input ≤ 67108864 → gives input ≡ given.Shown text
    → (Rose old.read_faults new.read_faults → ⊥) → (Rose old.write_faults new.write_faults → ⊥) → (status ≡ Done) ⊎ (status ≡ NoMemory)

-- what writing it says
abbrev pub GiveEnds : Status → Given → Option (List ℕ) → Option (List ℕ) → ℕ → ℕ → Type 0
GiveEnds Done g old new before now = (text : List ℕ) × (g ≡ given.Shown text) × Grew old new text × (now ≡ before)
GiveEnds Refused g old new before now = (text : List ℕ) × (g ≡ given.Refused text) × Grew old new text × (now ≡ before)
GiveEnds WriteFault g old new before now = (n : ℕ) × Grew old new (take n (given_text g)) × Rose before now
GiveEnds Usage g old new before now = ⊥
GiveEnds ReadFault g old new before now = ⊥
GiveEnds NoMemory g old new before now = ⊥
GiveEnds TooLong g old new before now = ⊥
