-- Valid input over devices that don't fail is done, or memory ran out.
use Rattle.std.proofs.Common.{◌≡◌, ℕ, Bool, true, false, List, [], ◌++◌, Option, Some, None, refl, ap, sym, ◌∙◌, subst, inl, inr, ◌⊎◌, append-nil}
use Rattle.std.specs.Bool.{OnTrue}
use Rattle.alt_base.specs.Devices.{with_front, IsAtEnd}
use Rattle.alt_base.specs.Faults.{Rose}
use Rattle.altroute_show.specs.declared.status.Status.{Status}
use Rattle.altroute_show.specs.declared.status.Status.TheVariants.{Done, Refused, Usage, ReadFault, WriteFault, NoMemory, TooLong}
use Rattle.altroute_program.specs.Outcome.{Stop, outcome, stop_of, text_of}
use Rattle.altroute_show.specs.Seen.{Seen, AnsweredEnd}
use Rattle.altroute_program.specs.Ends.{ReplayEnds}
use Rattle.altroute_program.proofs.Stays.{stays, stop_from}
use Rattle.alt_base.proofs.Variants.{some_none}

no_stop : (new : Seen) (input bytes : List ℕ) (left : Option (List ℕ)) (ended : Bool) (why : Stop) → new.left ≡ left → Some input ≡ with_front bytes left → OnTrue ended (AnsweredEnd new) → stop_of (outcome bytes ended) ≡ Some why → stop_of (outcome input true) ≡ None → ⊥
no_stop new input bytes None ended why is took at_end stop none = cc
no_stop new input bytes (Some rest) true why is took at_end stop none =
    let e : input ≡ bytes ++ rest = cc in
    let nothing : rest ≡ [] = subst IsAtEnd is at_end.at_end in
    let same : input ≡ bytes = e ∙ ap (λ r. bytes ++ r) nothing ∙ append-nil bytes in
    some_none why (stop_of (outcome bytes true)) stop (subst (λ xs. stop_of (outcome xs true) ≡ None) same none)
no_stop new input bytes (Some rest) false why is took at_end stop none =
    let e : input ≡ bytes ++ rest = cc in
    some_none why (stop_of (outcome (bytes ++ rest) true)) (ap stop_of (stays bytes rest (text_of (outcome bytes false)) true why (stop_from bytes why stop))) (subst (λ xs. stop_of (outcome xs true) ≡ None) e none)

pub complete : (status : Status) (old new : Seen) → ReplayEnds status old new → (input : List ℕ) → old.left ≡ Some input → stop_of (outcome input true) ≡ None → (Rose old.read_faults new.read_faults → ⊥) → (Rose old.write_faults new.write_faults → ⊥) → (status ≡ Done) ⊎ (status ≡ NoMemory)
complete Done old new ends = λ input told valid read write. inl refl
complete Refused old new ends = λ input told valid read write. absurd (no_stop new input ends.0 new.left ends.1 _ refl (sym told ∙ ends.2.moves.took) ends.2.at_end ends.2.stop valid)
complete Usage old new ends = λ input told valid read write. absurd ends
complete ReadFault old new ends = λ input told valid read write. absurd (read ends.1.rose)
complete WriteFault old new ends = λ input told valid read write. absurd (write ends.rose)
complete NoMemory old new ends = λ input told valid read write. inr refl
complete TooLong old new ends = λ input told valid read write. elim ends.1 [
  | inl s ↦ absurd (no_stop new input ends.0 new.left false _ refl (sym told ∙ s.moves.took) s.at_end s.stop valid)
  | inr s ↦ absurd (no_stop new input ends.0 new.left false _ refl (sym told ∙ s.moves.took) s.at_end s.stop valid)
]
