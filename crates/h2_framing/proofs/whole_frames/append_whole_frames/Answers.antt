use Rattle.std.proofs.Common.{◌≡◌, ◌≤◌, ◌+◌, ◌∙◌, ◌++◌, ℕ, List, [], ◌∷◌, length, take, drop, append_assoc, length-drop, ap, sym, subst, arith}
use Rattle.std.proofs.lemmas.List.{take_rest}
use Rattle.h2_framing.specs.declared.head.Head.{Head}
use Rattle.h2_framing.specs.declared.frame.Frame.{Frame}
use Rattle.h2_framing.specs.Frames.{head_of, frame_of, AreFrames}
use Rattle.h2_framing.proofs.Splitting.{frame_more}
use Rattle.h2_framing.proofs.whole_frames.append_whole_frames.Goals as goal

-- the same where the rest is octets_of as the code slices it
step : (octets : List ℕ) (place n : ℕ) (rest : List ℕ) (old now new frames : List Frame) (head : Head) (frame : Frame) → rest ≡ drop place octets → place ≤ length octets → now ≡ old ++ frames → AreFrames octets frames (drop place octets) → head ≡ head_of rest → head.length ≤ 16384 → 9 + head.length ≤ length rest
    → n ≡ head.length → frame ≡ frame_of head (take n (drop 9 rest)) → new ≡ now ++ frame ∷ []
    → (place + (9 + head.length) ≤ length octets) × (all : List Frame) × (new ≡ old ++ all) × AreFrames octets all (drop (place + (9 + head.length)) octets)
step octets place n rest old now new frames head frame is inside so_far are read within long count made pushed =
    let long_at : 9 + head.length ≤ length (drop place octets) = omega (arith, ap length is) in
    let same : frame ≡ frame_of head (take head.length (drop 9 (drop place octets))) = made ∙ ap (λ (k : ℕ). frame_of head (take k (drop 9 rest))) count ∙ ap (λ (xs : List ℕ). frame_of head (take head.length (drop 9 xs))) is in (
      omega (arith, length-drop place octets, long_at, inside),
      frames ++ frame ∷ [],
      pushed ∙ ap (λ (xs : List Frame). xs ++ frame ∷ []) so_far ∙ append_assoc old frames (frame ∷ []),
      subst (λ (f : Frame). AreFrames octets (frames ++ f ∷ []) (drop (place + (9 + head.length)) octets)) (sym same) (frame_more octets place frames head are (read ∙ ap head_of is) within long_at),
    )

pub loop-place-preserved : goal.loop-place-preserved
loop-place-preserved c =
    let i = c.loop-place.invariant in
    step c.args.octets.now c.loop-place.place _ _ c.args.frames.now c.loop-place.frames c.push.new.self i.1 c.read_head-head.result c.in_ok-make_frame.field-0 (take_rest c.args.octets.now c.loop-place.place) i.0 i.2 i.3 c.read_head-head.ensures (omega (arith, c.if-head-gt-LENGTH_LIMIT.false)) c.if-rest-end.false
    (omega arith) c.in_ok-make_frame.ensures c.in_ok-push.ensures.ok
