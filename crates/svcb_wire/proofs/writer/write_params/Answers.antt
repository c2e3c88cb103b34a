use Rattle.std.proofs.Common.{ap, ◌∙◌, ◌++◌}
use Rattle.svcb_wire.proofs.Writing.{param_at, params_more}
use Rattle.svcb_wire.proofs.writer.write_params.Goals as goal

pub write_param-requires : goal.write_param-requires
write_param-requires c = param_at c.args.params.now c.loop-param.param-index c.param-item.result c.loop-param-test.true c.param-item.is c.requires

pub loop-param-preserved : goal.loop-param-preserved
loop-param-preserved c =
    params_more c.args.params.now c.loop-param.param-index c.param-item.result c.loop-param.octets.items c.in_ok-write_param.field-0.items c.extend_from_slice.new.self.items c.loop-param-test.true c.param-item.is c.loop-param.invariant c.in_ok-write_param.ensures
    (c.in_ok-extend_from_slice.ensures.items ∙ ap (λ xs. c.loop-param.octets.items ++ xs) c.deref.ensures.value)
