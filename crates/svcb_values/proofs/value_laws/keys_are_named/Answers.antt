use Rattle.std.proofs.Common.{ap, ◌∙◌}
use Rattle.svcb_values.specs.KeyNames.{key_named}
use Rattle.svcb_values.proofs.KeyLaws.{named_key, key_is_named, name_bytes, name_some}
use Rattle.svcb_values.proofs.value_laws.keys_are_named.Goals as goal

pub returns-clause-named : goal.returns-clause-named
returns-clause-named c = λ text key. (named_key text key, λ h. ap key_named h.0 ∙ key_is_named key h.1)

pub returns-clause-bytes : goal.returns-clause-bytes
returns-clause-bytes c = λ key small. name_bytes key small

pub returns-clause-some : goal.returns-clause-some
returns-clause-some c = λ key small. name_some key small
