use Rattle.std.proofs.Common.{sym, refl}
use Rattle.origin_values.proofs.Addresses.{read_v6_complete, read_v6_none}
use Rattle.origin_values.proofs.address.v6.Goals as goal

pub returns-in-Ok : goal.returns-in-Ok
returns-in-Ok c = rw c.octets.ensures (sym (read_v6_complete c.args.text.now _ (record { groups = c.in-Ok.address.segments; spelled = c.in-Ok.ensures; value = refl })))

pub returns-in-Err : goal.returns-in-Err
returns-in-Err c = sym (read_v6_none c.args.text.now c.in-Err.ensures)
