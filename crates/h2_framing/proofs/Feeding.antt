-- From the rest of a stream to the stream.
use Rattle.std.proofs.Common.{◌≡◌, ℕ, ◌≤◌, List, [], ◌∷◌, ◌++◌, length, take, drop, Some, None, Result, Ok, Err, IfOk, refl, ap, sym, ◌∙◌, subst, arith, inl, inr}
use Rattle.alt_base.specs.declared.refusal.NoMemory.{NoMemory}
use Rattle.h2_framing.specs.declared.frame.Frame.{Frame}
use Rattle.h2_framing.specs.declared.reader.FrameReader.{FrameReader}
use Rattle.h2_framing.specs.declared.fed.Fed.{Fed}
use Rattle.h2_framing.specs.declared.fed.Fed.TheVariants.{Going, TooLarge}
use Rattle.h2_framing.specs.declared.continued.Continued.TheVariants.{Unfinished, Whole, TooLarge as ContinuedTooLarge}
use Rattle.h2_framing.specs.Frames.{head_of, is_kept, AreFrames, IsUnfinished}
use Rattle.h2_framing.specs.Streams.{frames_of, rest_of}
use Rattle.h2_framing.specs.Reading.{held_part, Keeps, StandsFor, AnswersPiece}
use Rattle.h2_framing.specs.Steps.{FedFromHead, ContinuesFrame}
use Rattle.h2_framing.proofs.Splitting.{frames_then, goes_on, rest_unfinished}
use Rattle.h2_framing.proofs.Holding.{held_short, held_long, onto_all}

-- the octets behind some whole frames give what the piece gives behind the stream
answers_fed : (fed : Fed) (x p : List ℕ) (before : List Frame) (piece : List ℕ) → AreFrames (rest_of x ++ p) before piece → FedFromHead fed before piece → AnswersPiece (Ok fed) x p
answers_fed (Going reader new) x p before piece front w =
    let g = goes_on x p (before ++ w.0) w.2 None (frames_then before (rest_of x ++ p) piece w.0 w.2 front w.3) w.4 in (
      record { keeps = subst (λ (r : List ℕ). Keeps reader.buffer.items reader.skipped r) (sym g.rest_is) w.5; going = g.too_large_is },
      record { frames_are = g.frames_are ∙ ap (λ (fs : List Frame). frames_of x ++ fs) (sym w.1); too_large_is = g.too_large_is },
    )
answers_fed (TooLarge new n) x p before piece front w =
    let g = goes_on x p (before ++ w.0) w.2 (Some n) (frames_then before (rest_of x ++ p) piece w.0 w.2 front w.3) w.4 in
    record { frames_are = g.frames_are ∙ ap (λ (fs : List Frame). frames_of x ++ fs) (sym w.1); too_large_is = g.too_large_is }

pub answers_from_head : (result : Result Fed NoMemory) (x p : List ℕ) (before : List Frame) (piece : List ℕ) → AreFrames (rest_of x ++ p) before piece → IfOk result (λ fed. FedFromHead fed before piece) → AnswersPiece result x p
answers_from_head (Ok fed) x p before piece front w = answers_fed fed x p before piece front w
answers_from_head (Err fault) x p before piece front w = tt

rest_empty : (held rest : List ℕ) (skipped : ℕ) → Keeps held skipped rest → IsUnfinished rest → held ≡ [] → rest ≡ []
rest_empty held rest skipped keeps (inl short) empty = sym (held_short rest short) ∙ sym keeps.part ∙ empty
rest_empty held rest skipped keeps (inr lacks) empty =
    let more : 9 ≤ length (held_part rest) = held_long rest (is_kept (head_of rest).kind) lacks.headed refl in
    absurd (omega (arith, more, ap length keeps.part, ap length empty))

-- a reader that holds nothing
pub answers_empty : (reader : FrameReader) (result : Result Fed NoMemory) (x piece : List ℕ) (before : List Frame) → StandsFor reader x → reader.buffer.items ≡ [] → before ≡ [] → IfOk result (λ fed. FedFromHead fed before piece) → AnswersPiece result x piece
answers_empty reader result x piece before stands empty none w =
    let e : rest_of x ≡ [] = rest_empty reader.buffer.items (rest_of x) reader.skipped stands.keeps (rest_unfinished x stands.going) empty in
    answers_from_head result x piece [] piece (ap (λ (xs : List ℕ). xs ++ piece) e) (subst (λ (fs : List Frame). IfOk result (λ fed. FedFromHead fed fs piece)) none w)

-- a frame that goes on
pub answers_unfinished : (old new : FrameReader) (x piece : List ℕ) (before after : List Frame) → StandsFor old x → before ≡ [] → ContinuesFrame Unfinished old new before after piece → AnswersPiece (Ok (Going new after)) x piece
answers_unfinished old new x piece before after stands none f =
    let w = f (rest_of x) stands.keeps (rest_unfinished x stands.going) in
    let g = goes_on x piece [] (rest_of x ++ piece) None refl w.2 in (
      record { keeps = subst (λ (r : List ℕ). Keeps new.buffer.items new.skipped r) (sym g.rest_is) w.1; going = g.too_large_is },
      record { frames_are = g.frames_are ∙ ap (λ (fs : List Frame). frames_of x ++ fs) (sym (w.0 ∙ none)); too_large_is = g.too_large_is },
    )

pub answers_too_large : (old new : FrameReader) (x piece : List ℕ) (before after : List Frame) (n : ℕ) → StandsFor old x → before ≡ [] → ContinuesFrame (ContinuedTooLarge n) old new before after piece → AnswersPiece (Ok (TooLarge after n)) x piece
answers_too_large old new x piece before after n stands none f =
    let w = f (rest_of x) stands.keeps (rest_unfinished x stands.going) in
    let g = goes_on x piece [] (rest_of x ++ piece) (Some n) refl w.1 in
    record { frames_are = g.frames_are ∙ ap (λ (fs : List Frame). frames_of x ++ fs) (sym (w.0 ∙ none)); too_large_is = g.too_large_is }

-- a frame that ends, and what follows it
pub answers_done : (old new : FrameReader) (result : Result Fed NoMemory) (x piece : List ℕ) (before after : List Frame) (n : ℕ) → StandsFor old x → before ≡ [] → ContinuesFrame (Whole n) old new before after piece → IfOk result (λ fed. FedFromHead fed after (drop n piece)) → AnswersPiece result x piece
answers_done old new result x piece before after n stands none f w =
    let d = f.2 (rest_of x) stands.keeps (rest_unfinished x stands.going) in
    let one : after ≡ d.0 ∷ [] = d.1 ∙ ap (λ (fs : List Frame). fs ++ d.0 ∷ []) none in
    answers_from_head result x piece (d.0 ∷ []) (drop n piece) (rest_of x ++ take n piece, drop n piece, sym (onto_all (rest_of x) piece n), d.2, refl)
    (subst (λ (fs : List Frame). IfOk result (λ fed. FedFromHead fed fs (drop n piece))) one w)
