use Rattle.std.proofs.Common.{Ok, ap, sym, ◌∙◌}
use Rattle.event_lines.specs.LineReading.{moment_reading}
use Rattle.event_lines.proofs.Steps.{steps, passed_on}
use Rattle.event_lines.proofs.ValidLines.{read_valid, read_short}
use Rattle.event_lines.proofs.reading.read_line.Goals as goal

pub returns-in_err-end : goal.returns-in_err-end
returns-in_err-end c =
    let reads = steps c.args.line.now c.in_ok-moment.moment c.in_ok-kind.kind c.moment.new.self c.next_word.new.self c.read_kind.new.reader c.in_ok-event.event _ (sym c.is_skipped.ensures ∙ c.if-is_skipped.false)
    (ap moment_reading (sym c.new-reader.ensures) ∙ c.in_ok-moment.ensures) c.in_ok-kind.ensures c.in_ok-event.ensures (sym c.end.ensures ∙ c.in_err-end.was) in
    let reading = passed_on c.from_residual-in_err-end.result c.in_err-end.field-0.0 _ c.from_residual-in_err-end.ensures.1 reads in
    record {
      reading = reading;
      valid = read_valid c.args.line.now c.from_residual-in_err-end.result reading;
      short = read_short c.args.line.now c.from_residual-in_err-end.result reading c.requires;
    }

pub returns : goal.returns
returns c =
    let reading = steps c.args.line.now c.in_ok-moment.moment c.in_ok-kind.kind c.moment.new.self c.next_word.new.self c.read_kind.new.reader c.in_ok-event.event _ (sym c.is_skipped.ensures ∙ c.if-is_skipped.false)
    (ap moment_reading (sym c.new-reader.ensures) ∙ c.in_ok-moment.ensures) c.in_ok-kind.ensures c.in_ok-event.ensures (sym c.end.ensures ∙ c.in_ok-end.was) in
    let result = Ok (record { 0 = c.in_ok-moment.moment }, c.in_ok-event.event) in
    record { reading = reading; valid = read_valid c.args.line.now result reading; short = read_short c.args.line.now result reading c.requires }
