use Rattle.std.proofs.Common.{◌≡◌, ◌≤◌, ◌+◌, ◌++◌, List, ℕ, length, take}
use Rattle.alt_base.specs.Devices.{Grew}
use Rattle.both_ends.specs.Histories.{History}
use Rattle.altroute_program.specs.Reached.{Reached}
use Rattle.altroute_program.proofs.replay.take_piece.Given as goal

-- the bytes of the piece so far were taken
abbrev pub invariant-loop-byte : goal.invariant-loop-byte
invariant-loop-byte g l =
    ((bytes text : List ℕ) (j : History) → Reached l.fn.replay bytes text j →
    (more : List ℕ) × (k : History) × Reached l.replay (bytes ++ take l.byte-index l.piece) (text ++ more) k × Grew (g.K.Sink.written l.fn.sink) (g.K.Sink.written l.sink) more)
    × (g.K.Sink.faults l.sink ≡ g.K.Sink.faults l.fn.sink)
    × (l.replay.taken ≡ l.fn.replay.taken + l.byte-index)
    × (length l.replay.line ≤ 65536)
