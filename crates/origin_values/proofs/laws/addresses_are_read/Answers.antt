use Rattle.origin_values.proofs.Addresses.{read_addr_sound, read_addr_complete}
use Rattle.origin_values.proofs.AddressTexts.{one_addr, addr_valid}
use Rattle.origin_values.proofs.laws.addresses_are_read.Goals as goal

pub returns-clause-read : goal.returns-clause-read
returns-clause-read c = λ text addr h. read_addr_sound text addr h

pub returns-clause-spelled : goal.returns-clause-spelled
returns-clause-spelled c = λ text addr h. read_addr_complete text addr h

pub returns-clause-one : goal.returns-clause-one
returns-clause-one c = λ text a b h k. one_addr text a b h k

pub returns-clause-valid : goal.returns-clause-valid
returns-clause-valid c = λ text addr h. addr_valid text addr h
