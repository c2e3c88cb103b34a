use Rattle.router_core.proofs.ReadingRecords.{ReadSoFar}
use Rattle.router_core.proofs.dns_answer.read_records.Given as goal

abbrev pub invariant-loop-i : goal.invariant-loop-i
invariant-loop-i l = ReadSoFar l.rdatas l.i l.records
