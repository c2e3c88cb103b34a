-- What a status says of the count of the sink's faults. Private contracts cite this.
use Rattle.std.specs.Prelude.{◌≡◌, ℕ, Result, Ok, Err}
use Rattle.alt_base.specs.Faults.{Rose}
use Rattle.altroute_show.specs.declared.status.Status.{Status}
use Rattle.altroute_show.specs.declared.status.Status.TheVariants.{Done, Refused, Usage, ReadFault, WriteFault, NoMemory, TooLong}

-- the count of the sink's faults rose where a write failed, and stands as it was else
abbrev pub SinkCause : Status → ℕ → ℕ → Type 0
SinkCause WriteFault before now = Rose before now
SinkCause Done before now = now ≡ before
SinkCause Refused before now = now ≡ before
SinkCause Usage before now = now ≡ before
SinkCause ReadFault before now = now ≡ before
SinkCause NoMemory before now = now ≡ before
SinkCause TooLong before now = now ≡ before

abbrev pub ResultCause : {T : Type 0} → Result T Status → ℕ → ℕ → Type 0
ResultCause (Ok x) before now = now ≡ before
ResultCause (Err status) before now = SinkCause status before now
