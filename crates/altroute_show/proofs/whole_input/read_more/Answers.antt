use Rattle.std.proofs.Common.{◌++◌, ◌-◌, ◌<◌, take, subst, ◌∙◌}
use Rattle.altroute_show.proofs.WholeInputs.{further, too_long}
use Rattle.altroute_show.proofs.whole_input.read_more.Goals as goal

pub returns-then-count-len-clause-turn : goal.returns-then-count-len-clause-turn
returns-then-count-len-clause-turn g c = λ first taken. (
  c.args.input.now.items ++ take c.in-Ok.count c.read.new.buf,
  too_long c.args.input.now.items c.read.new.buf c.in-Ok.count c.in-Ok.ensures.within (subst (λ n. 67108864 - n < c.in-Ok.count) (c.len.ensures ∙ c.args.input.now.ok.0) c.if-count-len.true) c.requires,
  further first _ _ c.args.input.now.items (take c.in-Ok.count c.read.new.buf) taken c.in-Ok.ensures.bytes c.in-Ok.ensures.cause.kept,
)

pub returns-in-Err-extend_from_slice-clause-turn : goal.returns-in-Err-extend_from_slice-clause-turn
returns-in-Err-extend_from_slice-clause-turn g c = λ first taken. (
  c.args.input.now.items ++ take c.in-Ok.count c.read.new.buf,
  further first _ _ c.args.input.now.items (take c.in-Ok.count c.read.new.buf) taken c.in-Ok.ensures.bytes c.in-Ok.ensures.cause.kept,
)
