use Rattle.std.proofs.Common.{◌≡◌, ◌+◌, length}
use Rattle.svcb_wire.specs.RecordReading.{read_params}
use Rattle.svcb_wire.proofs.ParamLists.{reads}
use Rattle.svcb_wire.proofs.reader.read_params.Given as goal

abbrev pub invariant-loop-rest : goal.invariant-loop-rest
invariant-loop-rest l = record {
  place : l.at + length l.rest ≡ l.place + length l.octets;
  read : reads l.at l.least l.params l.rest ≡ read_params l.place l.octets;
}

abbrev pub decreases-loop-rest : goal.decreases-loop-rest
decreases-loop-rest l = length l.rest
