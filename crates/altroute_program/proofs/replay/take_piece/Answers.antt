use Rattle.std.proofs.Common.{List, ℕ, refl, ◌∙◌, subst, arith}
use Rattle.std.proofs.lemmas.List.{take_all}
use Rattle.altroute_program.proofs.Pieces.{Comes, comes_nothing, comes_more, comes_stop}
use Rattle.altroute_program.proofs.replay.take_piece.Goals as goal

pub loop-byte-init : goal.loop-byte-init
loop-byte-init g c = (comes_nothing c.args.replay.now (g.K.Sink.written c.args.sink.now), refl, omega arith, c.requires)

pub take_byte-requires : goal.take_byte-requires
take_byte-requires g c = c.loop-byte.invariant.3

pub returns-in-Err-clause-ends : goal.returns-in-Err-clause-ends
returns-in-Err-clause-ends g c =
    comes_stop c.in-Err.status c.args.replay.now c.loop-byte.replay _ c.args.piece.now c.loop-byte.byte-index _ _ _ _ c.loop-byte-test.true refl c.loop-byte.invariant.0 c.in-Err.ensures.ends

pub loop-byte-preserved : goal.loop-byte-preserved
loop-byte-preserved g c = (
  comes_more c.args.replay.now c.loop-byte.replay _ c.args.piece.now c.loop-byte.byte-index _ _ _ _ c.loop-byte-test.true refl c.loop-byte.invariant.0 c.in-Ok.ensures.ends,
  c.in-Ok.ensures.cause ∙ c.loop-byte.invariant.1,
  omega (arith, c.in-Ok.ensures.counts, c.loop-byte.invariant.2),
  c.in-Ok.ensures.short,
)

pub returns-clause-ends : goal.returns-clause-ends
returns-clause-ends g c =
    subst (λ (xs : List ℕ). Comes c.args.replay.now c.loop-byte.replay xs (g.K.Sink.written c.args.sink.now) (g.K.Sink.written c.loop-byte.sink)) (take_all c.loop-byte.byte-index c.args.piece.now c.loop-byte-test.false) c.loop-byte.invariant.0

pub returns-clause-cause : goal.returns-clause-cause
returns-clause-cause g c = c.loop-byte.invariant.1
