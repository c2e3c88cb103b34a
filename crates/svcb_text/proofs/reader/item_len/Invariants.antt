use Rattle.std.proofs.Common.{◌≡◌, ◌+◌, drop, length}
use Rattle.svcb_text.specs.TextReading.{item_of}
use Rattle.svcb_text.proofs.reader.item_len.Given as goal

-- the bytes so far and the item from here on are the item in front
abbrev pub invariant-loop-i : goal.invariant-loop-i
invariant-loop-i l = l.i + length (item_of (drop l.i l.rest)) ≡ length (item_of l.rest)
