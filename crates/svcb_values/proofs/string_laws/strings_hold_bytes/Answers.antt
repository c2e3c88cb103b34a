use Rattle.svcb_values.proofs.StringLaws.{string_bytes, string_within, string_place}
use Rattle.svcb_values.proofs.string_laws.strings_hold_bytes.Goals as goal

pub returns-clause-bytes : goal.returns-clause-bytes
returns-clause-bytes c = λ x value count bytes e. string_bytes x value count bytes e

pub returns-clause-within : goal.returns-clause-within
returns-clause-within c = λ x value count e. string_within x value count e

pub returns-clause-place : goal.returns-clause-place
returns-clause-place c = λ x q e. string_place x q e
