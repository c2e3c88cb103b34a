-- The source in memory, as callers see it.
use Rattle.std.specs.Prelude.{ℕ, List, drop, Bool}
use Rattle.alt_base.specs.Devices.{listed_calls}
use Rattle.alt_base.specs.declared.memory_source.MemorySource.{MemorySource}

-- the bytes left
abbrev pub source_left : MemorySource → List ℕ
source_left s = drop s.at s.bytes

-- the numbers of the calls that fail
abbrev pub source_fail : MemorySource → List ℕ
source_fail s = s.fail

-- how many reads were made
abbrev pub source_made : MemorySource → ℕ
source_made s = s.made

-- a read has answered the end
abbrev pub has_ended : MemorySource → Bool
has_ended s = s.ended

-- how many reads have failed
abbrev pub source_faults : MemorySource → ℕ
source_faults s = listed_calls s.fail s.made
