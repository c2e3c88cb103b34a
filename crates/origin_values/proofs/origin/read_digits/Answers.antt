use Rattle.origin_values.proofs.Ports.{digits_taken}
use Rattle.origin_values.proofs.origin.read_digits.Goals as goal

pub port_of-requires : goal.port_of-requires
port_of-requires c = rw c.digits_before-count.ensures.value (digits_taken c.args.rest.now)
