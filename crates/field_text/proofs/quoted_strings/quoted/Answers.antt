use Rattle.std.proofs.Common.{◌≡◌, ◌+◌, length, drop, arith, length-drop}
use Rattle.field_text.proofs.RunLemmas.{slice_rest}
use Rattle.field_text.specs.QuotedReading.{read_quoted}
use Rattle.field_text.proofs.QuotedLemmas.{quoted_ok, quoted_err, quoted_above, quoted_within}
use Rattle.field_text.proofs.UnquotedLemmas.{rest_of_ok}
use Rattle.field_text.proofs.quoted_strings.quoted.Goals as goal

pub returns-clause-ok : goal.returns-clause-ok
returns-clause-ok c =
    let rest = drop c.args.place c.args.input.now in
    let reading : c.quoted_at.result ≡ read_quoted c.args.place rest = rw (slice_rest c.args.place c.args.input.now) at c.quoted_at.ensures in
    quoted_ok c.args.place rest c.quoted_at.result reading

pub returns-clause-err : goal.returns-clause-err
returns-clause-err c =
    let rest = drop c.args.place c.args.input.now in
    let reading : c.quoted_at.result ≡ read_quoted c.args.place rest = rw (slice_rest c.args.place c.args.input.now) at c.quoted_at.ensures in
    quoted_err c.args.place rest c.quoted_at.result reading

pub returns-clause-above : goal.returns-clause-above
returns-clause-above c =
    let rest = drop c.args.place c.args.input.now in
    let reading : c.quoted_at.result ≡ read_quoted c.args.place rest = rw (slice_rest c.args.place c.args.input.now) at c.quoted_at.ensures in
    quoted_above c.args.place rest c.quoted_at.result reading

pub returns-clause-within : goal.returns-clause-within
returns-clause-within c =
    let rest = drop c.args.place c.args.input.now in
    let reading : c.quoted_at.result ≡ read_quoted c.args.place rest = rw (slice_rest c.args.place c.args.input.now) at c.quoted_at.ensures in
    let long : c.args.place + length rest ≡ length c.args.input.now = omega (arith, length-drop c.args.place c.args.input.now) in
    quoted_within c.args.place (length c.args.input.now) rest c.quoted_at.result long reading

pub returns-clause-rest : goal.returns-clause-rest
returns-clause-rest c =
    let rest = drop c.args.place c.args.input.now in
    let reading : c.quoted_at.result ≡ read_quoted c.args.place rest = rw (slice_rest c.args.place c.args.input.now) at c.quoted_at.ensures in
    rest_of_ok c.args.place c.args.input.now c.quoted_at.result reading
