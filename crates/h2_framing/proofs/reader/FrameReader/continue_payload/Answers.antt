use Rattle.std.proofs.Common.{◌∙◌, ◌++◌, take, drop, length-take-le, ap, sym, subst, arith}
use Rattle.std.proofs.lemmas.List.{take_rest}
use Rattle.h2_framing.specs.declared.frame.Frame.{Frame}
use Rattle.h2_framing.specs.Frames.{frame_of, IsFrame}
use Rattle.h2_framing.proofs.Holding.{more_ends}
use Rattle.h2_framing.proofs.reader.FrameReader.continue_payload.Goals as goal

pub take_more-requires-2 : goal.take_more-requires-2
take_more-requires-2 c =
    omega (arith, length-take-le c.lacking-need.result c.args.piece.now c.if-piece-need.false, c.lacking-need.ensures.lacks, c.lacking-need.ensures.counted, c.requires.within)

pub returns : goal.returns
returns c =
    let few = c.if-piece-need.false in
    let made = c.in_ok-frame.ensures ∙ ap (frame_of c.args.head) (take_rest c.as_slice.result.now 9 ∙ ap (drop 9) c.as_slice.ensures.value) in (
      few,
      c.clear.ensures.items,
      λ rest keeps nine upto. (
        _,
        c.in_ok-push.ensures.ok,
        subst (λ (f : Frame). IsFrame (rest ++ take c.lacking-need.result c.args.piece.now) f) (sym made)
            (more_ends c.args.self.now.buffer.items c.take_more-2.new.self.buffer.items rest c.args.piece.now c.args.self.now.skipped c.take_more-2.new.self.skipped c.lacking-need.result c.args.head keeps c.requires.head nine c.requires.within upto few c.lacking-need.ensures.lacks c.in_ok-take_more-2.ensures.takes.held c.in_ok-take_more-2.ensures.takes.skipped),
      ),
    )
