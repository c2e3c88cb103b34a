-- What a line, a byte and a piece make of the bytes taken so far.
use Rattle.std.proofs.Common.{◌≡◌, ℕ, ◌+◌, ◌≤◌, ◌<◌, zero, suc, true, false, nat_eq, List, [], ◌∷◌, ◌++◌, length, take, Option, Result, Ok, Err, refl, ap, sym, ◌∙◌, subst, arith, append_assoc, append-nil, inl, inr}
use Rattle.std.specs.Prelude.{min}
use Rattle.std.proofs.lemmas.List.{length_push}
use Rattle.alt_base.specs.Devices.{Grew, Grew-more}
use Rattle.both_ends.specs.Histories.{History}
use Rattle.both_ends.specs.StandsFor.{StandsFor}
use Rattle.both_ends.specs.declared.both_ends.BothEnds.{BothEnds}
use Rattle.event_lines.specs.LineReading.{line_reading}
use Rattle.altroute_program.specs.declared.state.Replay.{Replay}
use Rattle.altroute_show.specs.declared.status.Status.{Status}
use Rattle.altroute_show.specs.declared.status.Status.TheVariants.{Done, Refused, Usage, ReadFault, WriteFault, NoMemory, TooLong}
use Rattle.altroute_program.specs.Lines.{Cut}
use Rattle.altroute_program.specs.Outcome.{Going, Stopped, AtRefused, AtLongLine, AtLongInput, after_reading, act_all, start, outcome, text_of, stop_of}
use Rattle.altroute_program.specs.Reached.{Reached, LineEnds, BytesEnd, FinishEnds, IsTooLong, status_after}
use Rattle.altroute_show.proofs.Told.{grew_nothing, take_longer}
use Rattle.altroute_program.proofs.Cutting.{cut-push}
use Rattle.altroute_program.proofs.Outcomes.{newline_progress, newline_outcome, other_cut, going_is, ended_is, ended_more, reading_grows, full_outcome, long_outcome}
use Rattle.altroute_program.proofs.Stays.{grows, stays}

-- a line

pub newline_reached : (old new : Replay) (bytes text more : List ℕ) (j k : History) → Reached old bytes text j → after_reading text j (old.lines + 1) (line_reading old.line) ≡ Going (text ++ more) k (old.lines + 1) → StandsFor new.ends k → new.line ≡ [] → new.lines ≡ old.lines + 1 → new.taken ≡ old.taken + 1 → Reached new (bytes ++ 10 ∷ []) (text ++ more) k
newline_reached old new bytes text more j k r goes stands line lines taken = record {
  progress = newline_progress old bytes text j r ∙ goes ∙ ap (Going (text ++ more) k) (sym lines);
  stands = stands;
  line = line ∙ sym (ap (λ (c : Cut). c.rest) (cut-push bytes 10));
  taken = taken ∙ ap (λ n. n + 1) r.taken ∙ sym (length_push bytes 10);
  short = rw line (omega arith);
}

pub newline_ok : (old new : Replay) (bytes text : List ℕ) (j : History) (before after : Option (List ℕ)) → Reached old bytes text j → LineEnds (Ok new.ends) before after text (old.lines + 1) (after_reading text j (old.lines + 1) (line_reading old.line)) → new.line ≡ [] → new.lines ≡ old.lines + 1 → new.taken ≡ old.taken + 1 → BytesEnd (Ok tt) new before after (bytes ++ 10 ∷ []) text
newline_ok old new bytes text j before after r ends line lines taken = (ends.0, ends.1, newline_reached old new bytes text ends.0 j ends.1 r ends.2 ends.3 line lines taken, ends.4)

pub newline_error : (status : Status) (old new : Replay) (bytes text : List ℕ) (j : History) (before after : Option (List ℕ)) → Reached old bytes text j → old.taken < 67108864 → LineEnds (Err status) before after text (old.lines + 1) (after_reading text j (old.lines + 1) (line_reading old.line)) → BytesEnd (Err status) new before after (bytes ++ 10 ∷ []) text
newline_error Done old new bytes text j before after r room ends = ends
newline_error Refused old new bytes text j before after r room ends = (ends.0, newline_outcome old bytes text j r (omega (arith, r.taken, room)) ∙ ends.1, ends.2)
newline_error Usage old new bytes text j before after r room ends = ends
newline_error ReadFault old new bytes text j before after r room ends = ends
newline_error WriteFault old new bytes text j before after r room ends = (ends.0, ends.1, ap text_of (newline_outcome old bytes text j r (omega (arith, r.taken, room))) ∙ ends.2, ends.3)
newline_error NoMemory old new bytes text j before after r room ends =
    let g = reading_grows text j (old.lines + 1) (line_reading old.line) in
    (g.0, 0, ap text_of (newline_outcome old bytes text j r (omega (arith, r.taken, room))) ∙ g.1, subst (λ told. Grew before told []) (sym ends) (grew_nothing before))
newline_error TooLong old new bytes text j before after r room ends = absurd ends

-- a byte

pub other_ok : (old new : Replay) (bytes text : List ℕ) (b : ℕ) (j : History) (told : Option (List ℕ)) → Reached old bytes text j → nat_eq b 10 ≡ false → length old.line < 65536 → new.ends ≡ old.ends → new.line ≡ old.line ++ b ∷ [] → new.lines ≡ old.lines → new.taken ≡ old.taken + 1 → BytesEnd (Ok tt) new told told (bytes ++ b ∷ []) text
other_ok old new bytes text b j told r other room router line lines taken =
    let cut = other_cut bytes b other in (
      [],
      j,
      record {
        progress = ap (λ (c : Cut). act_all start c.whole) cut ∙ r.progress ∙ rw (append-nil text, lines) refl;
        stands = rw router r.stands;
        line = line ∙ ap (λ xs. xs ++ b ∷ []) r.line ∙ sym (ap (λ (c : Cut). c.rest) cut);
        taken = taken ∙ ap (λ n. n + 1) r.taken ∙ sym (length_push bytes b);
        short = rw line (omega (arith, length_push old.line b));
      },
      grew_nothing told,
    )

pub full_ends : (old new : Replay) (bytes text : List ℕ) (b : ℕ) (j : History) (told : Option (List ℕ)) → Reached old bytes text j → old.taken ≡ 67108864 → BytesEnd (Err TooLong) new told told (bytes ++ b ∷ []) text
full_ends old new bytes text b j told r full = ([], inr (full_outcome old bytes text j b r (sym r.taken ∙ full) ∙ ap (λ t. Stopped t AtLongInput) (sym (append-nil text))), grew_nothing told)

pub long_ends : (old new : Replay) (bytes text : List ℕ) (b : ℕ) (j : History) (told : Option (List ℕ)) → Reached old bytes text j → nat_eq b 10 ≡ false → old.taken < 67108864 → 65536 ≤ length old.line → BytesEnd (Err TooLong) new told told (bytes ++ b ∷ []) text
long_ends old new bytes text b j told r other room full = ([], inl (long_outcome old bytes text j b r other (omega (arith, r.taken, room)) full ∙ ap (λ t. Stopped t AtLongLine) (sym (append-nil text))), grew_nothing told)

pub out_of_memory : (old new : Replay) (bytes text : List ℕ) (b : ℕ) (j : History) (told : Option (List ℕ)) → Reached old bytes text j → old.taken < 67108864 → BytesEnd (Err NoMemory) new told told (bytes ++ b ∷ []) text
out_of_memory old new bytes text b j told r room =
    let g = grows bytes (b ∷ []) false in
    (g.0, 0, g.1 ∙ ap (λ t. t ++ g.0) (ap text_of (going_is old bytes text j r (omega (arith, r.taken, room)))), grew_nothing told)

-- a piece

-- a front of a front, behind what was written before
take_within : (a b : List ℕ) (n : ℕ) → take n a ≡ take (min n (length a)) (a ++ b)
take_within [] b zero = refl
take_within [] b (suc n) = ap (λ m. take m b) (none n)
  where
    none : (m : ℕ) → 0 ≡ min (suc m) 0
    none m = grind arith
take_within (x ∷ a) b zero = ap (λ m. take m (x ∷ (a ++ b))) (none (length a))
  where
    none : (m : ℕ) → 0 ≡ min 0 (suc m)
    none m = grind arith
take_within (x ∷ a) b (suc n) = ap (λ xs. x ∷ xs) (take_within a b n) ∙ ap (λ m. take m (x ∷ (a ++ b))) (one_more n (length a))
  where
    one_more : (m k : ℕ) → suc (min m k) ≡ min (suc m) (suc k)
    one_more m k = grind arith

-- the part of a text that was written, of a longer text
pub part_of : (first more extra : List ℕ) (n : ℕ) → first ++ take n more ≡ take (length first + min n (length more)) (first ++ (more ++ extra))
part_of first more extra n = ap (λ xs. first ++ xs) (take_within more extra n) ∙ take_longer first (more ++ extra) (min n (length more))

-- what stops within a piece stops the whole of it
pub piece_error : (status : Status) (new : Replay) (now rest text more : List ℕ) (before middle after : Option (List ℕ)) → Grew before middle more → BytesEnd (Err status) new middle after now (text ++ more) → BytesEnd (Err status) new before after (now ++ rest) text
piece_error Done new now rest text more before middle after grew ends = ends
piece_error Refused new now rest text more before middle after grew ends =
    (more ++ ends.0, stays now rest ((text ++ more) ++ ends.0) false AtRefused ends.1 ∙ ap (λ t. Stopped t AtRefused) (append_assoc text more ends.0), Grew-more before middle after more ends.0 grew ends.2)
piece_error Usage new now rest text more before middle after grew ends = ends
piece_error ReadFault new now rest text more before middle after grew ends = ends
piece_error WriteFault new now rest text more before middle after grew ends =
    let g = grows now rest false in (
      more ++ (ends.0 ++ g.0),
      length more + min ends.1 (length ends.0),
      g.1 ∙ ap (λ t. t ++ g.0) ends.2 ∙ append_assoc (text ++ more) ends.0 g.0 ∙ append_assoc text more (ends.0 ++ g.0),
      subst (Grew before after) (part_of more ends.0 g.0 ends.1) (Grew-more before middle after more (take ends.1 ends.0) grew ends.3),
    )
piece_error NoMemory new now rest text more before middle after grew ends =
    let g = grows now rest false in (
      more ++ (ends.0 ++ g.0),
      length more + min ends.1 (length ends.0),
      g.1 ∙ ap (λ t. t ++ g.0) ends.2 ∙ append_assoc (text ++ more) ends.0 g.0 ∙ append_assoc text more (ends.0 ++ g.0),
      subst (Grew before after) (part_of more ends.0 g.0 ends.1) (Grew-more before middle after more (take ends.1 ends.0) grew ends.3),
    )
piece_error TooLong new now rest text more before middle after grew ends = (more ++ ends.0, too_long ends.1, Grew-more before middle after more ends.0 grew ends.2)
  where
    too_long : IsTooLong (outcome now false) ((text ++ more) ++ ends.0) → IsTooLong (outcome (now ++ rest) false) (text ++ (more ++ ends.0))
    too_long (inl e) = inl (stays now rest ((text ++ more) ++ ends.0) false AtLongLine e ∙ ap (λ t. Stopped t AtLongLine) (append_assoc text more ends.0))
    too_long (inr e) = inr (stays now rest ((text ++ more) ++ ends.0) false AtLongInput e ∙ ap (λ t. Stopped t AtLongInput) (append_assoc text more ends.0))

-- the end of the input

pub finish_empty : (r : Replay) (bytes text : List ℕ) (j : History) (told : Option (List ℕ)) → Reached r bytes text j → r.taken ≤ 67108864 → r.line ≡ [] → FinishEnds Done told told bytes text
finish_empty r bytes text j told reached within empty =
    let e = ended_is r bytes text j reached (omega (arith, reached.taken, within)) empty in
    ([], ap stop_of e, ap text_of e ∙ sym (append-nil text), grew_nothing told)

pub finish_error : (status : Status) (r : Replay) (bytes text : List ℕ) (j : History) (before after : Option (List ℕ)) → Reached r bytes text j → r.taken ≤ 67108864 → 0 < length r.line → LineEnds (Err status) before after text (r.lines + 1) (after_reading text j (r.lines + 1) (line_reading r.line)) → FinishEnds status before after bytes text
finish_error Done r bytes text j before after reached within more ends = absurd ends
finish_error Refused r bytes text j before after reached within more ends =
    let e : outcome bytes true ≡ Stopped (text ++ ends.0) AtRefused = ended_more r bytes text j reached (omega (arith, reached.taken, within)) more ∙ ends.1 in
    (ends.0, ap stop_of e, ap text_of e, ends.2)
finish_error Usage r bytes text j before after reached within more ends = ends
finish_error ReadFault r bytes text j before after reached within more ends = ends
finish_error WriteFault r bytes text j before after reached within more ends =
    (ends.0, ends.1, ap text_of (ended_more r bytes text j reached (omega (arith, reached.taken, within)) more) ∙ ends.2, ends.3)
finish_error NoMemory r bytes text j before after reached within more ends =
    let g = reading_grows text j (r.lines + 1) (line_reading r.line) in
    (g.0, ap text_of (ended_more r bytes text j reached (omega (arith, reached.taken, within)) more) ∙ g.1, ends)
finish_error TooLong r bytes text j before after reached within more ends = ends

pub finish_ok : (router : BothEnds) (r : Replay) (bytes text : List ℕ) (j : History) (before after : Option (List ℕ)) → Reached r bytes text j → r.taken ≤ 67108864 → 0 < length r.line → LineEnds (Ok router) before after text (r.lines + 1) (after_reading text j (r.lines + 1) (line_reading r.line)) → FinishEnds Done before after bytes text
finish_ok router r bytes text j before after reached within more ends =
    let e : outcome bytes true ≡ Going (text ++ ends.0) ends.1 (r.lines + 1) = ended_more r bytes text j reached (omega (arith, reached.taken, within)) more ∙ ends.2 in
    (ends.0, ap stop_of e, ap text_of e, ends.4)

pub finish_any : (result : Result BothEnds Status) (r : Replay) (bytes text : List ℕ) (j : History) (before after : Option (List ℕ)) → Reached r bytes text j → r.taken ≤ 67108864 → 0 < length r.line → LineEnds result before after text (r.lines + 1) (after_reading text j (r.lines + 1) (line_reading r.line)) → FinishEnds (status_after result) before after bytes text
finish_any (Ok router) r bytes text j before after reached within more ends = finish_ok router r bytes text j before after reached within more ends
finish_any (Err status) r bytes text j before after reached within more ends = finish_error status r bytes text j before after reached within more ends

-- the same, of the line as it was seen
pub seen_line : (result : Result BothEnds Status) (before after : Option (List ℕ)) (text : List ℕ) (j : History) (n : ℕ) (seen line : List ℕ) → seen ≡ line → LineEnds result before after text n (after_reading text j n (line_reading seen)) → LineEnds result before after text n (after_reading text j n (line_reading line))
seen_line result before after text j n seen line same ends = subst (λ xs. LineEnds result before after text n (after_reading text j n (line_reading xs))) same ends
