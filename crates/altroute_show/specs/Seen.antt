-- What a run sees of its devices, and what it makes of them.
use Rattle.std.specs.Prelude.{◌≡◌, ℕ, Bool, true, List, Option}
use Rattle.alt_base.specs.Devices.{Took, Grew, IsAtEnd}

-- what a source and a sink tell, whether the source has answered its end, and their counts of faults
pub record Seen : Type 0 where
  pub left : Option (List ℕ)
  pub source_ended : Bool
  pub read_faults : ℕ
  pub written : Option (List ℕ)
  pub write_faults : ℕ

-- the source has answered its end, and no byte is left where it tells them
pub record AnsweredEnd (new : Seen) : Type 0 where
  pub answered : new.source_ended ≡ true
  pub at_end : IsAtEnd new.left

-- neither device failed
pub record NoFault (old new : Seen) : Type 0 where
  pub source : new.read_faults ≡ old.read_faults
  pub sink : new.write_faults ≡ old.write_faults

-- these bytes were taken, and this text was written
pub record Moves (old new : Seen) (bytes text : List ℕ) : Type 0 where
  pub took : Took old.left new.left bytes
  pub grew : Grew old.written new.written text
