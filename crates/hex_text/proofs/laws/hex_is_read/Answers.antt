use Rattle.hex_text.proofs.HexReading.{hex_read, hex_spelled}
use Rattle.hex_text.proofs.laws.hex_is_read.Goals as goal

pub returns-clause-read : goal.returns-clause-read
returns-clause-read c = λ digits octets e. hex_spelled digits octets e

pub returns-clause-spelled : goal.returns-clause-spelled
returns-clause-spelled c = λ digits octets s. hex_read digits octets s
