use Rattle.std.proofs.Common.{sym}
use Rattle.origin_values.proofs.Addresses.{read_v4_complete, read_v4_none}
use Rattle.origin_values.proofs.address.v4.Goals as goal

pub returns-in-Ok : goal.returns-in-Ok
returns-in-Ok c = rw c.octets.ensures (sym (read_v4_complete c.args.text.now _ c.in-Ok.ensures))

pub returns-in-Err : goal.returns-in-Err
returns-in-Err c = sym (read_v4_none c.args.text.now c.in-Err.ensures)
