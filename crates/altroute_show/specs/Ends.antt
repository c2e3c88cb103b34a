-- What a status says of a run that writes as it reads, over its outcome: a function of the bytes that it took, and of
-- whether the input ended behind them.
use Rattle.std.specs.Prelude.{◌≡◌, ◌⊎◌, ℕ, Bool, true, false, List, take, Option, Some, None}
use Rattle.std.specs.Bool.{OnTrue}
use Rattle.alt_base.specs.Faults.{Rose}
use Rattle.altroute_show.specs.declared.status.Status.{Status}
use Rattle.altroute_show.specs.declared.status.Status.TheVariants.{Done, NoMemory}
use Rattle.altroute_show.specs.Seen.{Seen, AnsweredEnd, NoFault, Moves}

-- the text that is owed, and why the run stops before its end, if it does
pub record Outcome (S : Type 0) : Type 0 where
  pub text : List ℕ
  pub stop : Option S

-- all was read and taken, and all was written
pub record IsDone {S : Type 0} (owed : List ℕ → Bool → Outcome S) (old new : Seen) (bytes : List ℕ) : Type 0 where
  pub ended : AnsweredEnd new
  pub no_stop : (owed bytes true).stop ≡ None
  pub moves : Moves old new bytes (owed bytes true).text
  pub no_fault : NoFault old new

-- the bytes stop the run, and the text before the stop, with the line of a refusal, was written
pub record IsStopped {S : Type 0} (owed : List ℕ → Bool → Outcome S) (old new : Seen) (bytes : List ℕ) (ended : Bool) (why : S) : Type 0 where
  pub stop : (owed bytes ended).stop ≡ Some why
  pub at_end : OnTrue ended (AnsweredEnd new)
  pub moves : Moves old new bytes (owed bytes ended).text
  pub no_fault : NoFault old new

-- a read failed; what the bytes give before their end was written
pub record IsReadFault {S : Type 0} (owed : List ℕ → Bool → Outcome S) (old new : Seen) (bytes : List ℕ) : Type 0 where
  pub no_stop : (owed bytes false).stop ≡ None
  pub moves : Moves old new bytes (owed bytes false).text
  pub rose : Rose old.read_faults new.read_faults
  pub sink : new.write_faults ≡ old.write_faults

-- a front of the text was written
pub record IsPart {S : Type 0} (owed : List ℕ → Bool → Outcome S) (old new : Seen) : Type 0 where
  pub bytes : List ℕ
  pub ended : Bool
  pub most : ℕ
  pub at_end : OnTrue ended (AnsweredEnd new)
  pub moves : Moves old new bytes (take most (owed bytes ended).text)

-- a write failed
pub record IsWriteFault {S : Type 0} (owed : List ℕ → Bool → Outcome S) (old new : Seen) : Type 0 where
  pub part : IsPart owed old new
  pub rose : Rose old.write_faults new.write_faults
  pub source : new.read_faults ≡ old.read_faults

-- memory wasn't found
pub record IsNoMemory {S : Type 0} (owed : List ℕ → Bool → Outcome S) (old new : Seen) : Type 0 where
  pub part : IsPart owed old new
  pub no_fault : NoFault old new

-- told input that nothing stops is done where neither device fails, or memory isn't found
abbrev pub IsCompleteFor : {S : Type 0} → (List ℕ → Bool → Outcome S) → Status → Seen → Seen → Type 0
IsCompleteFor owed status old new =
    (input : List ℕ) → old.left ≡ Some input → (owed input true).stop ≡ None
    → (Rose old.read_faults new.read_faults → ⊥) → (Rose old.write_faults new.write_faults → ⊥) → (status ≡ Done) ⊎ (status ≡ NoMemory)
