use Rattle.std.proofs.Common.{◌≡◌, ◌+◌, length, drop}
use Rattle.field_text.proofs.RunLemmas.{slice_rest}
use Rattle.field_text.specs.TokenReading.{token_of}
use Rattle.field_text.proofs.TokenLemmas.{token_ok, token_rest}
use Rattle.field_text.proofs.tokens.token.Goals as goal

pub returns-clause-ok : goal.returns-clause-ok
returns-clause-ok c =
    let rest = drop c.args.place c.args.input.now in
    let run : c.token_len-run.result ≡ length (token_of rest) = rw (slice_rest c.args.place c.args.input.now) at c.token_len-run.ensures.run in
    token_ok c.args.place c.token_len-run.result rest run c.if-run-eq0.false

pub returns-clause-rest : goal.returns-clause-rest
returns-clause-rest c =
    let rest = drop c.args.place c.args.input.now in
    let run : c.token_len-run.result ≡ length (token_of rest) = rw (slice_rest c.args.place c.args.input.now) at c.token_len-run.ensures.run in
    token_rest c.args.place (c.args.place + c.token_len-run.result) c.args.input.now (token_ok c.args.place c.token_len-run.result rest run c.if-run-eq0.false)
