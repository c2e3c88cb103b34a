-- The sink into memory, as callers see it.
use Rattle.std.specs.Prelude.{ℕ, ◌+◌, ◌-◌, ◌^◌, min, List}
use Rattle.alt_base.specs.Devices.{listed_calls}
use Rattle.alt_base.specs.declared.memory_sink.MemorySink.{MemorySink}

-- the bytes written
abbrev pub sink_bytes : MemorySink → List ℕ
sink_bytes s = s.bytes.items

-- how many bytes it holds at most
abbrev pub sink_room : MemorySink → ℕ
sink_room s = s.room

-- the numbers of the calls that fail
abbrev pub sink_fail : MemorySink → List ℕ
sink_fail s = s.fail

-- how many writes were made
abbrev pub sink_made : MemorySink → ℕ
sink_made s = s.made

-- how many writes have failed: those that are listed, and those that found no room
abbrev pub sink_faults : MemorySink → ℕ
sink_faults s = min (listed_calls s.fail s.made + s.full) (2 ^ 64 - 1)
