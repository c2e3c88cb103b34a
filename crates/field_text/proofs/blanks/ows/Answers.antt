use Rattle.std.proofs.Common.{◌≡◌, ◌+◌, length, drop, sym, subst}
use Rattle.field_text.proofs.RunLemmas.{slice_rest}
use Rattle.field_text.specs.BlanksGrammar.{is_blank, SpellsBlanks}
use Rattle.field_text.specs.Runs.{run_of}
use Rattle.field_text.proofs.BlankLemmas.{blanks_say, blanks_rest}
use Rattle.field_text.proofs.blanks.ows.Goals as goal

pub returns-clause-spelled : goal.returns-clause-spelled
returns-clause-spelled c =
    let rest = drop c.args.place c.args.input.now in
    let run : c.blanks_len.result ≡ length (run_of is_blank rest) = rw (slice_rest c.args.place c.args.input.now) at c.blanks_len.ensures.run in
    subst (λ n. SpellsBlanks c.args.place rest (c.args.place + n)) (sym run) (blanks_say c.args.place rest)

pub returns-clause-rest : goal.returns-clause-rest
returns-clause-rest c =
    let rest = drop c.args.place c.args.input.now in
    let run : c.blanks_len.result ≡ length (run_of is_blank rest) = rw (slice_rest c.args.place c.args.input.now) at c.blanks_len.ensures.run in
    blanks_rest c.args.place (c.args.place + c.blanks_len.result) c.args.input.now
    (subst (λ n. SpellsBlanks c.args.place rest (c.args.place + n)) (sym run) (blanks_say c.args.place rest))
