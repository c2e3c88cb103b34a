use Rattle.std.proofs.Common.{refl}
use Rattle.std.specs.Net.Text.{hex_groups_text}
use Rattle.std.proofs.NetLemmas.Texts.{longest_zero_run_first}
use Rattle.origin_values.proofs.laws.longest_run_of_zeros_is_shortened.Goals as goal

pub returns-clause-text : goal.returns-clause-text
unfolding hex_groups_text
returns-clause-text c = λ bytes. refl

pub returns-clause-longest : goal.returns-clause-longest
returns-clause-longest c = λ groups start count h. (longest_zero_run_first groups start count (h.within, h.zeros)).0

pub returns-clause-first : goal.returns-clause-first
returns-clause-first c = λ groups start count h. (longest_zero_run_first groups start count (h.within, h.zeros)).1
