use Rattle.std.proofs.Common.{◌∙◌, sym}
use Rattle.altsvc_grammar.specs.contracts.alt_key.AltKeyPartialEq.TheImpl as derived
use Rattle.altsvc_grammar.proofs.KeyTests.{same_key}
use Rattle.altsvc_grammar.proofs.KeptLemmas.{kept_last, kept_as_it_is}
use Rattle.altsvc_grammar.proofs.seen.keep.Goals as goal

pub returns-in_ok-insert : goal.returns-in_ok-insert
returns-in_ok-insert c =
    c.in_ok-insert.ensures.entries ∙ kept_last (derived.eq-value).it same_key c.args.key c.args.terms c.args.kept.now.entries (sym c.contains_key.ensures ∙ c.if-not-contains_key.true)

pub returns-else-not-contains_key : goal.returns-else-not-contains_key
returns-else-not-contains_key c =
    kept_as_it_is (derived.eq-value).it same_key c.args.key c.args.terms c.args.kept.now.entries (sym c.contains_key.ensures ∙ c.if-not-contains_key.false)
