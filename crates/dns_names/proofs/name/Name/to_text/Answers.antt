use Rattle.std.proofs.Common.{subst, ap, ◌∙◌, length, arith}
use Rattle.dns_names.specs.Names.{IsName}
use Rattle.dns_names.specs.TextParts.{text_form}
use Rattle.dns_names.specs.TextReading.{read_text}
use Rattle.dns_names.proofs.Bounds.{text_most}
use Rattle.dns_names.proofs.TextNames.{name_read}
use Rattle.dns_names.proofs.name.Name.to_text.Goals as goal

pub returns-clause-read_back : goal.returns-clause-read_back
returns-clause-read_back c =
    ap read_text (c.from_vec.ensures ∙ c.in_ok-write_labels.ensures ∙ ap text_form (c.as_slice.ensures ∙ c.self.view_is)) ∙ name_read c.args.self.now (subst IsName c.self.view_is c.self.invariant)

pub returns-clause-sized : goal.returns-clause-sized
returns-clause-sized c =
    let form = ap text_form (c.as_slice.ensures ∙ c.self.view_is) in
    omega (arith, ap length (c.from_vec.ensures ∙ c.in_ok-write_labels.ensures ∙ form), text_most c.args.self.now (subst IsName c.self.view_is c.self.invariant))
