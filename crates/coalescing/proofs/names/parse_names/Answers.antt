use Rattle.coalescing.proofs.NamesLemmas.{answer_says}
use Rattle.coalescing.proofs.NamesTexts.{answer_valid}
use Rattle.coalescing.proofs.names.parse_names.Goals as goal

pub returns : goal.returns
returns c =
    let says = answer_says c.args.text.now _ c.read_names.ensures in
    record { reading = c.read_names.ensures; ok = says.0; valid = answer_valid c.args.text.now _ says.0; refused = says.1 }
