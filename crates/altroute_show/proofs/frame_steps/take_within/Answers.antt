use Rattle.std.proofs.Common.{◌≡◌, ◌+◌, ◌++◌, ℕ, List, length, Some, None, ap, sym, subst, arith, IfOk}
use Rattle.std.proofs.lemmas.List.{length-append}
use Rattle.h2_framing.specs.declared.frame.Frame.{Frame}
use Rattle.altroute_show.specs.Given.{refused_at}
use Rattle.altroute_show.specs.FrameLines.{frame_lines}
use Rattle.altroute_show.specs.FrameOutcome.{place_behind}
use Rattle.altroute_show.specs.FrameSteps.{AreShort, frames_size}
use Rattle.altroute_show.proofs.FrameSplits.{brought_short, brought_within}
use Rattle.altroute_show.proofs.FrameAnswers.{fits_of, going_answer, too_large_answer, going_ends, refused_ends, unrefused_ends, lost_ends}
use Rattle.altroute_show.proofs.frame_steps.take_within.Goals as goal

pub returns-in-Err-clause-ends : goal.returns-in-Err-clause-ends
returns-in-Err-clause-ends g c = λ before stands.
    lost_ends c.args.state.now before c.args.octets.now (g.K.Sink.written c.args.sink.now) (fits_of c.args.state.now before c.args.octets.now stands c.requires.room)

pub write_frames-requires : goal.write_frames-requires
write_frames-requires g c =
    let a = going_answer c.feed.result c.in-Ok-Going.field-0 c.replace-reader.result c.in-Ok-Going.reader c.in-Ok-Going.frames c.args.state.now c.requires.stands.0 c.args.octets.now c.feed.ensures c.replace-reader.ensures.value c.in-Ok-Going.is c.in-Ok-Going.field-0-is c.requires.stands.1 in
    subst AreShort (sym c.as_slice.ensures) (brought_short c.requires.stands.0 c.args.octets.now c.in-Ok-Going.frames None a.1)

pub returns-in-Ok-Going-clause-ends : goal.returns-in-Ok-Going-clause-ends
returns-in-Ok-Going-clause-ends g c = λ before stands.
    let a = going_answer c.feed.result c.in-Ok-Going.field-0 c.replace-reader.result c.in-Ok-Going.reader c.in-Ok-Going.frames c.args.state.now before c.args.octets.now c.feed.ensures c.replace-reader.ensures.value c.in-Ok-Going.is c.in-Ok-Going.field-0-is stands in
    let taken : c.args.state.now.taken + length c.args.octets.now ≡ length (before ++ c.args.octets.now) = omega (arith, length-append before c.args.octets.now, stands.taken) in
    going_ends c.write_text.result _ before c.args.octets.now c.in-Ok-Going.frames (g.K.Sink.written c.args.sink.now) (g.K.Sink.written c.write_text.new.sink) a.0 taken a.1 (fits_of c.args.state.now before c.args.octets.now stands c.requires.room)
    (c.write_text.ensures.ends (frame_lines c.in-Ok-Going.frames) (subst (λ (fs : List Frame). IfOk c.write_frames.result (λ (text : List ℕ). text ≡ frame_lines fs)) c.as_slice.ensures c.write_frames.ensures))

pub frames_size-requires : goal.frames_size-requires
frames_size-requires g c =
    let b = too_large_answer c.feed.result c.in-Ok-TooLarge.field-0 c.replace-reader.result c.in-Ok-TooLarge.frames c.in-Ok-TooLarge.field-0-1 c.args.state.now c.requires.stands.0 c.args.octets.now c.feed.ensures c.replace-reader.ensures.value c.in-Ok-TooLarge.is c.in-Ok-TooLarge.field-0-is c.requires.stands.1 in
    omega (arith, brought_within c.requires.stands.0 c.args.octets.now c.in-Ok-TooLarge.frames (Some c.in-Ok-TooLarge.field-0-1) b, ap frames_size c.as_slice-in-Ok-TooLarge.ensures, c.requires.stands.1.taken, c.requires.room)

pub overflow_add-head : goal.overflow_add-head
overflow_add-head g c =
    let b = too_large_answer c.feed.result c.in-Ok-TooLarge.field-0 c.replace-reader.result c.in-Ok-TooLarge.frames c.in-Ok-TooLarge.field-0-1 c.args.state.now c.requires.stands.0 c.args.octets.now c.feed.ensures c.replace-reader.ensures.value c.in-Ok-TooLarge.is c.in-Ok-TooLarge.field-0-is c.requires.stands.1 in
    omega (arith, brought_within c.requires.stands.0 c.args.octets.now c.in-Ok-TooLarge.frames (Some c.in-Ok-TooLarge.field-0-1) b, ap frames_size c.as_slice-in-Ok-TooLarge.ensures, c.place_behind-place.ensures c.requires.stands.0 c.requires.stands.1, c.frames_size.ensures, c.requires.stands.1.taken, c.requires.room)

pub write_too_large-requires : goal.write_too_large-requires
write_too_large-requires g c =
    let b = too_large_answer c.feed.result c.in-Ok-TooLarge.field-0 c.replace-reader.result c.in-Ok-TooLarge.frames c.in-Ok-TooLarge.field-0-1 c.args.state.now c.requires.stands.0 c.args.octets.now c.feed.ensures c.replace-reader.ensures.value c.in-Ok-TooLarge.is c.in-Ok-TooLarge.field-0-is c.requires.stands.1 in
    subst AreShort (sym c.as_slice-in-Ok-TooLarge-2.ensures) (brought_short c.requires.stands.0 c.args.octets.now c.in-Ok-TooLarge.frames (Some c.in-Ok-TooLarge.field-0-1) b)

pub returns-in-Ok-clause-ends : goal.returns-in-Ok-clause-ends
returns-in-Ok-clause-ends g c = λ before stands.
    let b = too_large_answer c.feed.result c.in-Ok-TooLarge.field-0 c.replace-reader.result c.in-Ok-TooLarge.frames c.in-Ok-TooLarge.field-0-1 c.args.state.now before c.args.octets.now c.feed.ensures c.replace-reader.ensures.value c.in-Ok-TooLarge.is c.in-Ok-TooLarge.field-0-is stands in
    let head : c.place_behind-place.result + c.frames_size.result ≡ place_behind before + frames_size c.in-Ok-TooLarge.frames = omega (arith, c.place_behind-place.ensures before stands, c.frames_size.ensures, ap frames_size c.as_slice-in-Ok-TooLarge.ensures) in
    refused_ends c.args.state.now before c.args.octets.now c.in-Ok-TooLarge.frames c.in-Ok-TooLarge.field-0-1 (c.place_behind-place.result + c.frames_size.result) (g.K.Sink.written c.args.sink.now) (g.K.Sink.written c.write_text-in-Ok-TooLarge.new.sink) b (fits_of c.args.state.now before c.args.octets.now stands c.requires.room) head
    (c.in-Ok.ensures.ends (frame_lines c.in-Ok-TooLarge.frames ++ refused_at 1 (c.place_behind-place.result + c.frames_size.result)) (subst (λ (fs : List Frame). IfOk c.write_too_large.result (λ (text : List ℕ). text ≡ frame_lines fs ++ refused_at 1 (c.place_behind-place.result + c.frames_size.result))) c.as_slice-in-Ok-TooLarge-2.ensures c.write_too_large.ensures))

pub returns-clause-ends : goal.returns-clause-ends
returns-clause-ends g c = λ before stands.
    let b = too_large_answer c.feed.result c.in-Ok-TooLarge.field-0 c.replace-reader.result c.in-Ok-TooLarge.frames c.in-Ok-TooLarge.field-0-1 c.args.state.now before c.args.octets.now c.feed.ensures c.replace-reader.ensures.value c.in-Ok-TooLarge.is c.in-Ok-TooLarge.field-0-is stands in
    let head : c.place_behind-place.result + c.frames_size.result ≡ place_behind before + frames_size c.in-Ok-TooLarge.frames = omega (arith, c.place_behind-place.ensures before stands, c.frames_size.ensures, ap frames_size c.as_slice-in-Ok-TooLarge.ensures) in
    unrefused_ends c.in-Err-write_text.status _ before c.args.octets.now c.in-Ok-TooLarge.frames c.in-Ok-TooLarge.field-0-1 (c.place_behind-place.result + c.frames_size.result) (g.K.Sink.written c.args.sink.now) (g.K.Sink.written c.write_text-in-Ok-TooLarge.new.sink) b (fits_of c.args.state.now before c.args.octets.now stands c.requires.room) head
    (c.in-Err-write_text.ensures.ends (frame_lines c.in-Ok-TooLarge.frames ++ refused_at 1 (c.place_behind-place.result + c.frames_size.result)) (subst (λ (fs : List Frame). IfOk c.write_too_large.result (λ (text : List ℕ). text ≡ frame_lines fs ++ refused_at 1 (c.place_behind-place.result + c.frames_size.result))) c.as_slice-in-Ok-TooLarge-2.ensures c.write_too_large.ensures))
