-- What reading a whole input, and writing what is given for it, say by the status.
use Rattle.std.proofs.Common.{◌≡◌, ℕ, ◌+◌, ◌-◌, ◌≤◌, ◌<◌, true, List, [], ◌++◌, length, take, Option, Some, None, Err, refl, ap, sym, ◌∙◌, subst, arith, append-nil, inl, inr}
use Rattle.std.proofs.lemmas.List.{length-append, length-take-le}
use Rattle.alt_base.specs.Devices.{Grew, Took, IsAtEnd, with_front, Took-more, Took-nil, with_end-nil}
use Rattle.alt_base.specs.Faults.{Rose}
use Rattle.altroute_show.specs.declared.status.Status.{Status}
use Rattle.altroute_show.specs.declared.status.Status.TheVariants.{Done, Refused, Usage, ReadFault, WriteFault, NoMemory, TooLong}
use Rattle.altroute_show.specs.declared.given.Given.{Given}
use Rattle.altroute_show.specs.declared.given.Given.TheVariants as given
use Rattle.altroute_show.specs.Seen.{Seen, Moves}
use Rattle.altroute_show.specs.Given.{given_text}
use Rattle.altroute_show.proofs.Told.{nothing_taken}
use Rattle.altroute_show.specs.WholeInput.{SourceSeen, Taken, TakenAll, TakenToFault, ReadEnds, IsGiven, WholeEnds, GiveEnds, IsWholeComplete}

-- reading goes on

pub begins_whole : (first : SourceSeen) → Taken first first []
begins_whole first = record { took = Took-nil first.left; same = refl }

pub further : (first old new : SourceSeen) (input piece : List ℕ) → Taken first old input → Took old.left new.left piece → new.faults ≡ old.faults → Taken first new (input ++ piece)
further first old new input piece taken took same = record { took = Took-more first.left old.left new.left input piece taken.took took; same = same ∙ taken.same }

pub to_end : (first old new : SourceSeen) (input : List ℕ) → Taken first old input → length input ≤ 67108864 → Took old.left new.left [] → new.faults ≡ old.faults → new.ended ≡ true → IsAtEnd old.left → TakenAll first new input
to_end first old new input taken fits took same ended at_end = record {
  taken = subst (Taken first new) (append-nil input) (further first old new input [] taken took same);
  ended = ended;
  at_end = subst IsAtEnd (took ∙ nothing_taken new.left) at_end;
  fits = fits;
}

pub to_fault : (first old new : SourceSeen) (input : List ℕ) → Taken first old input → new.left ≡ old.left → Rose old.faults new.faults → TakenToFault first new input
to_fault first old new input taken left rose = record {
  took = subst (λ l. Took first.left l input) (sym left) taken.took;
  rose = subst (λ n. Rose n new.faults) taken.same rose;
}

-- a piece for which there's no room
pub too_long : (input buf : List ℕ) (count : ℕ) → count ≤ length buf → 67108864 - length input < count → length input ≤ 67108864 → 67108864 < length (input ++ take count buf)
too_long input buf count within no_room fits =
    let len : length (input ++ take count buf) ≡ length input + length (take count buf) = length-append input (take count buf) in
    let piece : length (take count buf) ≡ count = length-take-le count buf within in
    omega (arith, len, piece, no_room, fits)

-- the whole input was read, or it wasn't

abbrev pub source_of : Seen → SourceSeen
source_of s = record { left = s.left; ended = s.source_ended; faults = s.read_faults }

nothing_written : (old new : Seen) (bytes : List ℕ) → Took old.left new.left bytes → new.written ≡ old.written → Moves old new bytes []
nothing_written old new bytes took same = record { took = took; grew = same ∙ sym (with_end-nil old.written) }

pub read_failed : (gives : List ℕ → Given) (status : Status) (old new : Seen) → ReadEnds (Err status) (source_of old) (source_of new) → new.written ≡ old.written → new.write_faults ≡ old.write_faults → WholeEnds gives status old new
read_failed gives Done old new ends written kept = absurd ends
read_failed gives Refused old new ends written kept = absurd ends
read_failed gives Usage old new ends written kept = ends
read_failed gives ReadFault old new ends written kept = (ends.0, nothing_written old new ends.0 ends.1.took written, ends.1.rose, kept)
read_failed gives WriteFault old new ends written kept = absurd ends
read_failed gives NoMemory old new ends written kept = (ends.0, nothing_written old new ends.0 ends.1.took written, record { source = ends.1.same; sink = kept })
read_failed gives TooLong old new ends written kept = (ends.0, ends.1, nothing_written old new ends.0 ends.2.took written, record { source = ends.2.same; sink = kept })

pub nothing_given : (gives : List ℕ → Given) (input : List ℕ) (old new : Seen) → TakenAll (source_of old) (source_of new) input → new.written ≡ old.written → new.write_faults ≡ old.write_faults → WholeEnds gives NoMemory old new
nothing_given gives input old new all written kept = (input, nothing_written old new input all.taken.took written, record { source = all.taken.same; sink = kept })

is_given : (input text : List ℕ) (old new : Seen) → TakenAll (source_of old) (source_of new) input → Grew old.written new.written text → IsGiven old new input text
is_given input text old new all grew = record { ended = record { answered = all.ended; at_end = all.at_end }; fits = all.fits; moves = record { took = all.taken.took; grew = grew } }

pub given_ends : (gives : List ℕ → Given) (status : Status) (g : Given) (input : List ℕ) (old new : Seen) → TakenAll (source_of old) (source_of new) input → g ≡ gives input → GiveEnds status g old.written new.written old.write_faults new.write_faults → WholeEnds gives status old new
given_ends gives Done g input old new all is ends = (input, ends.0, sym is ∙ ends.1, is_given input ends.0 old new all ends.2, record { source = all.taken.same; sink = ends.3 })
given_ends gives Refused g input old new all is ends = (input, ends.0, sym is ∙ ends.1, is_given input ends.0 old new all ends.2, record { source = all.taken.same; sink = ends.3 })
given_ends gives Usage g input old new all is ends = ends
given_ends gives ReadFault g input old new all is ends = absurd ends
given_ends gives WriteFault g input old new all is ends = (input, ends.0, is_given input (take ends.0 (given_text (gives input))) old new all (subst (λ x. Grew old.written new.written (take ends.0 (given_text x))) is ends.1), ends.2, all.taken.same)
given_ends gives NoMemory g input old new all is ends = absurd ends
given_ends gives TooLong g input old new all is ends = absurd ends

-- a told input that is given something is done, or memory ran out

clash : (a b : List ℕ) (g : Given) → g ≡ given.Shown a → g ≡ given.Refused b → ⊥
clash a b g shown refused = let e : given.Shown a ≡ given.Refused b = sym shown ∙ refused in cc

whole_input : (input bytes : List ℕ) (left : Option (List ℕ)) → Some input ≡ with_front bytes left → IsAtEnd left → input ≡ bytes
whole_input input bytes None took at_end = cc
whole_input input bytes (Some rest) took at_end =
    let e : input ≡ bytes ++ rest = cc in
    e ∙ ap (λ r. bytes ++ r) at_end ∙ append-nil bytes

too_much : (input bytes : List ℕ) (left : Option (List ℕ)) → Some input ≡ with_front bytes left → 67108864 < length bytes → length input ≤ 67108864 → ⊥
too_much input bytes None took far fits = cc
too_much input bytes (Some rest) took far fits =
    let e : input ≡ bytes ++ rest = cc in
    let len : length input ≡ length bytes + length rest = ap length e ∙ length-append bytes rest in
    omega (arith, len, far, fits)

pub whole_complete : (gives : List ℕ → Given) (status : Status) (old new : Seen) → WholeEnds gives status old new → IsWholeComplete gives status old new
whole_complete gives Done old new ends = λ input text told fits shown read write. inl refl
whole_complete gives Refused old new ends = λ input text told fits shown read write. absurd (clash text ends.1 (gives input) shown (ap gives (whole_input input ends.0 new.left (sym told ∙ ends.3.moves.took) ends.3.ended.at_end) ∙ ends.2))
whole_complete gives Usage old new ends = λ input text told fits shown read write. absurd ends
whole_complete gives ReadFault old new ends = λ input text told fits shown read write. absurd (read ends.2)
whole_complete gives WriteFault old new ends = λ input text told fits shown read write. absurd (write ends.3)
whole_complete gives NoMemory old new ends = λ input text told fits shown read write. inr refl
whole_complete gives TooLong old new ends = λ input text told fits shown read write. absurd (too_much input ends.0 new.left (sym told ∙ ends.2.took) ends.1 fits)
