use Rattle.std.proofs.Common.{◌∙◌}
use Rattle.altsvc_grammar.proofs.ParameterLemmas.{value_of_token}
use Rattle.altsvc_grammar.proofs.parameters.read_parameter_value.Goals as goal

pub returns-in-Ok-clause-reading : goal.returns-in-Ok-clause-reading
returns-in-Ok-clause-reading c =
    rw (c.from_vec.ensures ∙ c.in_ok-value.ensures.items) (value_of_token c.args.place c.in-Ok.end c.args.input.now c.in-Ok.ensures.ok)
