use Rattle.std.proofs.Common.{◌≡◌, ◌∙◌, sym, false, drop}
use Rattle.field_text.proofs.RunLemmas.{slice_rest}
use Rattle.altsvc_grammar.specs.ProtocolReading.{is_bad_percent}
use Rattle.altsvc_grammar.proofs.ProtocolLemmas.{percent_passed}
use Rattle.altsvc_grammar.proofs.protocol.bad_percent.Goals as goal

pub loop-i-preserved : goal.loop-i-preserved
loop-i-preserved c =
    let seen = rw slice_rest at c.is_bad_percent.ensures in
    let good : is_bad_percent (drop c.loop-i.i c.args.token.now) ≡ false = sym seen ∙ c.if-is_bad_percent.false in
    percent_passed c.args.place c.loop-i.i c.args.token.now c.loop-i-test.true good ∙ c.loop-i.invariant
