use Rattle.std.proofs.Common.{◌≡◌, ◌++◌, ◌+◌, ◌-◌, List, ℕ, length, take, drop, ap, sym, ◌∙◌, Some}
use Rattle.std.proofs.lemmas.List.{take-append-drop, drop-drop, take_rest}
use Rattle.alt_base.proofs.memory_source.MemorySourceSource.read.Goals as goal

-- bytes from a place on are the next n and the bytes behind these
in_two : (bytes : List ℕ) (at n : ℕ) → drop at bytes ≡ take n (drop at bytes) ++ drop (at + n) bytes
in_two bytes at n = sym (take-append-drop n (drop at bytes)) ∙ ap (λ r. take n (drop at bytes) ++ r) (drop-drop n at bytes)

read_bytes : (bytes all buf : List ℕ) (at n : ℕ) → all ≡ bytes → take n buf ≡ take n (take (length all - at) (drop at all)) → drop at bytes ≡ take n buf ++ drop (at + n) bytes
read_bytes bytes all buf at n h moved = rw (moved, take_rest, h) (in_two bytes at n)

pub returns-clause-bytes : goal.returns-clause-bytes
returns-clause-bytes c = ap Some (read_bytes _ _ _ _ _ c.as_slice.ensures c.move_front-count.ensures.moved)
