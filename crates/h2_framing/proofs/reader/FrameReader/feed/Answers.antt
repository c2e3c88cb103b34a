use Rattle.std.proofs.Common.{◌≡◌, List, ℕ, true, IfOk, subst, arith}
use Rattle.std.proofs.lemmas.List.{take_rest, nil_from_length}
use Rattle.std.proofs.lemmas.Bool.Decides.{nat_tests}
use Rattle.std.specs.Vec.{vec_len}
use Rattle.std.specs.Bool.{◌==◌}
use Rattle.h2_framing.specs.declared.continued.Continued.{Continued}
use Rattle.h2_framing.specs.declared.fed.Fed.{Fed}
use Rattle.h2_framing.specs.Steps.{ContinuesFrame, FedFromHead}
use Rattle.h2_framing.proofs.Feeding.{answers_empty, answers_unfinished, answers_too_large, answers_done}
use Rattle.h2_framing.proofs.reader.FrameReader.feed.Goals as goal

is_zero : (n : ℕ) → true ≡ (n == 0) → n ≡ 0
is_zero n h = grind (arith, nat_tests)

pub returns-then-is_empty : goal.returns-then-is_empty
returns-then-is_empty c = λ x stands.
    let none : vec_len c.args.self.buffer ≡ 0 = is_zero (vec_len c.args.self.buffer) c.if-is_empty.ensures in
    answers_empty c.args.self c.feed_from_head.result x c.args.piece.now c.new-frames.result stands (nil_from_length c.args.self.buffer.items (omega (arith, none))) c.new-frames.ensures c.feed_from_head.ensures

pub returns-in-Unfinished : goal.returns-in-Unfinished
returns-in-Unfinished c = λ x stands.
    let w = subst (λ (f : Continued). ContinuesFrame f c.args.self c.continue_frame.new.self c.new-frames.result c.continue_frame.new.frames c.args.piece.now) c.in-Unfinished.is c.in_ok-continue_frame.ensures in
    answers_unfinished c.args.self c.continue_frame.new.self x c.args.piece.now c.new-frames.result c.continue_frame.new.frames stands c.new-frames.ensures w

pub returns-in-TooLarge : goal.returns-in-TooLarge
returns-in-TooLarge c = λ x stands.
    let w = subst (λ (f : Continued). ContinuesFrame f c.args.self c.continue_frame.new.self c.new-frames.result c.continue_frame.new.frames c.args.piece.now) c.in-TooLarge.is c.in_ok-continue_frame.ensures in
    answers_too_large c.args.self c.continue_frame.new.self x c.args.piece.now c.new-frames.result c.continue_frame.new.frames c.in-TooLarge.length stands c.new-frames.ensures w

pub returns-in-Whole : goal.returns-in-Whole
returns-in-Whole c = λ x stands.
    let w = subst (λ (f : Continued). ContinuesFrame f c.args.self c.continue_frame.new.self c.new-frames.result c.continue_frame.new.frames c.args.piece.now) c.in-Whole.is c.in_ok-continue_frame.ensures in
    answers_done c.args.self c.continue_frame.new.self c.feed_from_head-in-Whole.result x c.args.piece.now c.new-frames.result c.continue_frame.new.frames c.in-Whole.count stands c.new-frames.ensures w
    (subst (λ (xs : List ℕ). IfOk c.feed_from_head-in-Whole.result (λ (fed : Fed). FedFromHead fed c.continue_frame.new.frames xs)) (take_rest c.args.piece.now c.in-Whole.count) c.feed_from_head-in-Whole.ensures)
