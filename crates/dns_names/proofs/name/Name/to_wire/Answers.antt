use Rattle.std.proofs.Common.{subst, sym, ◌∙◌, ap}
use Rattle.dns_names.specs.Names.{AreSized, IsName, wire_form}
use Rattle.dns_names.proofs.NamesOf.{name_sized}
use Rattle.dns_names.proofs.WireNames.{written_read}
use Rattle.dns_names.proofs.name.Name.to_wire.Goals as goal

pub write_labels-requires : goal.write_labels-requires
write_labels-requires c = subst AreSized (sym c.as_slice.ensures) (name_sized c.self.inside.labels c.self.invariant.labels_are)

pub returns-clause-read_back : goal.returns-clause-read_back
returns-clause-read_back c =
    written_read c.args.self.now c.from_vec.result (subst IsName c.self.view_is c.self.invariant) (c.from_vec.ensures ∙ c.in_ok-write_labels.ensures ∙ ap wire_form (c.as_slice.ensures ∙ c.self.view_is))
