use Rattle.std.proofs.Common.{ap, sym, ◌∙◌, arith, None}
use Rattle.event_lines.specs.ResponseReading.{field_texts, fields_reading}
use Rattle.event_lines.proofs.FieldSteps.{read_on, read_begins, one_step, last_step, next_step, too_many, small_step, bad_at}
use Rattle.event_lines.proofs.response.read_fields.Goals as goal

pub loop-count-init : goal.loop-count-init
loop-count-init c = record {
  same = ap (λ r. read_on r 0 c.args.begin (field_texts c.args.text.now)) c.empty-reply.ensures ∙ read_begins c.args.begin c.args.text.now;
  small = c.requires;
}

pub returns-in-None : goal.returns-in-None
returns-in-None c =
    bad_at c.from.result c.bad_field.result c.loop-count.place (fields_reading c.args.begin c.args.text.now) c.from.ensures c.bad_field.ensures
    (sym c.loop-count.invariant.same
    ∙ one_step c.loop-count.reply c.loop-count._count c.loop-count.place c.field_length-length.result c.loop-count.rest.now None c.loop-count-test.true c.field_length-length.ensures.value
    c.field_length-length.ensures.within (sym c.in-None.is ∙ c.in_ok-field_of.ensures))

pub returns-in-empty : goal.returns-in-empty
returns-in-empty c =
    sym c.loop-count.invariant.same
    ∙ last_step c.loop-count.reply c.add.new.self c.loop-count._count c.loop-count.place c.field_length-length.result c.loop-count.rest.now c.in-Some.field c.loop-count-test.true
    c.field_length-length.ensures.value c.field_length-length.ensures.within (sym c.in-Some.is ∙ c.in_ok-field_of.ensures) c.in-empty.len_below c.in_ok-add-in-Some.ensures

pub loop-count-preserved : goal.loop-count-preserved
loop-count-preserved c = record {
  same = sym (next_step c.loop-count.reply c.add.new.self c.loop-count._count c.loop-count.place c.field_length-length.result c.loop-count.rest.now c.in-Some.field c.loop-count-test.true
      c.field_length-length.ensures.value c.field_length-length.ensures.within (sym c.in-Some.is ∙ c.in_ok-field_of.ensures) c.in-len1-up.len_at_least c.in_ok-add-in-Some.ensures)
      ∙ c.loop-count.invariant.same;
  small = small_step c.loop-count.place c.field_length-length.result c.loop-count.rest.now c.loop-count.invariant.small c.field_length-length.ensures.within c.in-len1-up.len_at_least;
}

pub returns : goal.returns
returns c =
    bad_at c.from-2.result c.bad_field-2.result c.loop-count.place (fields_reading c.args.begin c.args.text.now) c.from-2.ensures c.bad_field-2.ensures
    (sym c.loop-count.invariant.same ∙ too_many c.loop-count.reply c.loop-count._count c.loop-count.place c.loop-count.rest.now (omega (arith, c.loop-count-test.false, c.loop-count.auto._count-end)))
