use Rattle.std.proofs.Common.{◌≡◌, Some, None, rules}
use Rattle.origin_values.specs.PortReading.{read_port_digits}
use Rattle.origin_values.proofs.PortDigits.{port_digits_say}
use Rattle.origin_values.proofs.port.read_port_digits.Goals as goal

pub returns-then-is_empty-clause-none : goal.returns-then-is_empty-clause-none
returns-then-is_empty-clause-none c = let e : None ≡ read_port_digits c.args.text.now = search rules in (port_digits_say c.args.text.now None e).1

pub returns-then-value-lt-PORT_END-clause-some : goal.returns-then-value-lt-PORT_END-clause-some
returns-then-value-lt-PORT_END-clause-some c =
    let e : Some c.capped_value-value.result ≡ read_port_digits c.args.text.now = search rules in (port_digits_say c.args.text.now (Some c.capped_value-value.result) e).0
