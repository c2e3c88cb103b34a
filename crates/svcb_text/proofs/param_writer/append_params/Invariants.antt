use Rattle.std.proofs.Common.{◌≡◌, ◌++◌, drop}
use Rattle.svcb_text.specs.Written.{params_written}
use Rattle.svcb_text.proofs.param_writer.append_params.Given as goal

abbrev pub invariant-loop-param : goal.invariant-loop-param
invariant-loop-param l = l.text.items ++ params_written (drop l.param-index l.params) ≡ l.fn.text.items ++ params_written l.params
