use Rattle.std.proofs.Common.{◌≡◌, ◌≤◌, ◌+◌, ◌-◌, ◌∙◌, ◌++◌, [], ◌∷◌, ℕ, List, Option, Some, None, length, take, drop, length-drop, ap, sym, subst, arith}
use Rattle.std.proofs.lemmas.List.{take_rest}
use Rattle.h2_framing.specs.declared.head.Head.{Head}
use Rattle.h2_framing.specs.declared.frame.Frame.{Frame}
use Rattle.h2_framing.specs.declared.reader.FrameReader.{FrameReader}
use Rattle.h2_framing.specs.Frames.{head_of, IsFrame, IsUnfinished}
use Rattle.h2_framing.specs.Reading.{Keeps}
use Rattle.h2_framing.specs.Steps.{FillsHead, ContinuesPayload}
use Rattle.h2_framing.proofs.Holding.{headed, onto_take, onto_all, lacks_payload}
use Rattle.h2_framing.proofs.reader.FrameReader.continue_frame.Goals as goal

-- the payload's end is the frame's
some_ends : (old mid new : FrameReader) (before after : List Frame) (piece : List ℕ) (count n : ℕ) (head : Head) → FillsHead count old mid piece → 9 ≤ length mid.buffer.items → head ≡ head_of mid.buffer.items → ContinuesPayload (Some n) head mid new before after (drop count piece)
    → (count + n ≤ length piece) × (new.buffer.items ≡ []) × ((rest : List ℕ) → Keeps old.buffer.items old.skipped rest → IsUnfinished rest → (frame : Frame) × (after ≡ before ++ frame ∷ []) × IsFrame (rest ++ take (count + n) piece) frame)
some_ends old mid new before after piece count n head filled long is ends = (
  omega (arith, ends.0, length-drop count piece, filled.count_is),
  ends.1,
  λ rest keeps part.
      let h = headed old.buffer.items mid.buffer.items piece rest old.skipped count head keeps part filled.count_is filled.held long is in
      let e = ends.2 (rest ++ take count piece) (subst (λ (k : ℕ). Keeps mid.buffer.items k (rest ++ take count piece)) (sym filled.skipped) h.keeps) h.long h.upto in
      (e.0, e.1, subst (λ (xs : List ℕ). IsFrame xs e.0) (onto_take rest piece count n) e.2),
)

none_ends : (old mid new : FrameReader) (before after : List Frame) (piece : List ℕ) (count : ℕ) (head : Head) → FillsHead count old mid piece → 9 ≤ length mid.buffer.items → head ≡ head_of mid.buffer.items → head.length ≤ 16384 → ContinuesPayload None head mid new before after (drop count piece)
    → (rest : List ℕ) → Keeps old.buffer.items old.skipped rest → IsUnfinished rest → (after ≡ before) × Keeps new.buffer.items new.skipped (rest ++ piece) × IsUnfinished (rest ++ piece)
none_ends old mid new before after piece count head filled long is within ends = λ rest keeps part.
    let h = headed old.buffer.items mid.buffer.items piece rest old.skipped count head keeps part filled.count_is filled.held long is in
    let e = ends.1 (rest ++ take count piece) (subst (λ (k : ℕ). Keeps mid.buffer.items k (rest ++ take count piece)) (sym filled.skipped) h.keeps) h.long h.upto in (
      ends.0,
      subst (λ (xs : List ℕ). Keeps new.buffer.items new.skipped xs) (onto_all rest piece count) e.0,
      subst IsUnfinished (onto_all rest piece count) (lacks_payload (rest ++ take count piece) (drop count piece) head h.long h.is within e.1),
    )

pub returns-in-Some : goal.returns-in-Some
returns-in-Some c =
    let p = subst (λ (o : Option ℕ). ContinuesPayload o c.read_head-head.result c.fill_head.new.self c.continue_payload.new.self c.args.frames.now c.continue_payload.new.frames (take (length c.args.piece.now - c.in_ok-count.count) (drop c.in_ok-count.count c.args.piece.now))) c.in-Some.is c.in_ok-more.ensures in
    some_ends c.args.self.now c.fill_head.new.self c.continue_payload.new.self c.args.frames.now c.continue_payload.new.frames c.args.piece.now c.in_ok-count.count c.in-Some.more c.read_head-head.result c.in_ok-count.ensures (omega (arith, c.len.ensures, c.if-len-lt-HEAD_OCTETS.false)) (c.read_head-head.ensures ∙ ap head_of c.as_slice.ensures.value)
    (subst (λ (xs : List ℕ). ContinuesPayload (Some c.in-Some.more) c.read_head-head.result c.fill_head.new.self c.continue_payload.new.self c.args.frames.now c.continue_payload.new.frames xs) (take_rest c.args.piece.now c.in_ok-count.count) p)

pub returns-in-None : goal.returns-in-None
returns-in-None c =
    let p = subst (λ (o : Option ℕ). ContinuesPayload o c.read_head-head.result c.fill_head.new.self c.continue_payload.new.self c.args.frames.now c.continue_payload.new.frames (take (length c.args.piece.now - c.in_ok-count.count) (drop c.in_ok-count.count c.args.piece.now))) c.in-None.is c.in_ok-more.ensures in
    none_ends c.args.self.now c.fill_head.new.self c.continue_payload.new.self c.args.frames.now c.continue_payload.new.frames c.args.piece.now c.in_ok-count.count c.read_head-head.result c.in_ok-count.ensures (omega (arith, c.len.ensures, c.if-len-lt-HEAD_OCTETS.false)) (c.read_head-head.ensures ∙ ap head_of c.as_slice.ensures.value) (omega (arith, c.if-head-gt-LENGTH_LIMIT.false))
    (subst (λ (xs : List ℕ). ContinuesPayload None c.read_head-head.result c.fill_head.new.self c.continue_payload.new.self c.args.frames.now c.continue_payload.new.frames xs) (take_rest c.args.piece.now c.in_ok-count.count) p)
