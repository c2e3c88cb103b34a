use Rattle.std.proofs.Common.{ap, sym, ◌∙◌, ◌-◌, ◌+◌, length, take, drop}
use Rattle.std.proofs.lemmas.List.{take_rest}
use Rattle.event_lines.specs.AnswerReading.{item_of, words_behind, items_from}
use Rattle.event_lines.specs.declared.answer_kind.AnswerKind.TheVariants.{Https}
use Rattle.event_lines.proofs.FieldSteps.{bad_at}
use Rattle.event_lines.proofs.ItemSteps.{read_on, read_begins, item_none, item_next, item_last, item_small}
use Rattle.event_lines.proofs.answer_items.read_rdatas.Goals as goal

pub loop-rest-init : goal.loop-rest-init
loop-rest-init c = record {
  same = ap (λ items. read_on (item_of Https) items c.args.begin (words_behind c.args.text.now)) c.new-rdatas.ensures ∙ read_begins (item_of Https) c.args.begin (words_behind c.args.text.now);
  small = c.requires;
}

pub returns-in-None : goal.returns-in-None
returns-in-None c =
    let rest = c.loop-rest.rest.now in
    let behind = take (length rest - 1) (drop 1 rest) in
    bad_at c.from.result c.bad_field.result (c.loop-rest.place + 1) (items_from (item_of Https) c.args.begin (words_behind c.args.text.now)) c.from.ensures c.bad_field.ensures
    (item_none (item_of Https) c.loop-rest.rdatas c.loop-rest.place c.word_length-count.result rest behind _ c.in-len1-up.len_at_least (take_rest rest 1) c.word_length-count.ensures.value
    (sym c.in-None.is ∙ c.in_ok-octets_of.ensures) c.loop-rest.invariant.same)

pub loop-rest-preserved : goal.loop-rest-preserved
loop-rest-preserved c =
    let rest = c.loop-rest.rest.now in
    let behind = take (length rest - 1) (drop 1 rest) in
    let n = c.word_length-count.result in
    record {
      same = item_next (item_of Https) c.loop-rest.rdatas c.push.new.self c.loop-rest.place n rest behind _ c.in-Some.octets _ c.in-len1-up.len_at_least (take_rest rest 1) c.word_length-count.ensures.value
          (sym c.in-Some.is ∙ c.in_ok-octets_of.ensures) c.in_ok-push-in-Some.ensures.ok (take_rest behind n) c.loop-rest.invariant.same;
      small = item_small c.loop-rest.place n rest behind _ c.in-len1-up.len_at_least (take_rest rest 1) c.word_length-count.ensures.within (take_rest behind n) c.loop-rest.invariant.small;
    }

pub returns : goal.returns
returns c = item_last (item_of Https) c.loop-rest.rdatas c.loop-rest.place c.loop-rest.rest.now _ c.in_default.len_below c.loop-rest.invariant.same
