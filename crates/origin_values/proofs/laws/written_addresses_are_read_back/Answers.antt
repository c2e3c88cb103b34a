use Rattle.origin_values.specs.Written.{addr_text}
use Rattle.origin_values.proofs.Addresses.{read_addr_complete}
use Rattle.origin_values.proofs.AddressTexts.{addr_written}
use Rattle.origin_values.proofs.laws.written_addresses_are_read_back.Goals as goal

pub returns-clause-spelled : goal.returns-clause-spelled
returns-clause-spelled c = λ addr h. addr_written addr h

pub returns-clause-back : goal.returns-clause-back
returns-clause-back c = λ addr h. read_addr_complete (addr_text addr) addr (addr_written addr h)
