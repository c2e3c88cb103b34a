use Rattle.std.proofs.Common.{◌≡◌, ◌+◌, ◌<◌, ◌^◌, length}
use Rattle.event_lines.specs.AnswerReading.{item_of, words_behind, items_from}
use Rattle.event_lines.specs.declared.answer_kind.AnswerKind.TheVariants.{Https}
use Rattle.event_lines.proofs.ItemSteps.{read_on}
use Rattle.event_lines.proofs.answer_items.read_rdatas.Given as goal

abbrev pub invariant-loop-rest : goal.invariant-loop-rest
invariant-loop-rest l = record {
  same : read_on (item_of Https) l.rdatas l.place (words_behind l.rest) ≡ items_from (item_of Https) l.begin (words_behind l.text);
  small : l.place + length l.rest < 2 ^ 32;
}

abbrev pub decreases-loop-rest : goal.decreases-loop-rest
decreases-loop-rest l = length l.rest
