-- The numbers of the statuses, as the process ends with them.
use Rattle.std.specs.Prelude.{ℕ}
use Rattle.altroute_show.specs.declared.status.Status.{Status}
use Rattle.altroute_show.specs.declared.status.Status.TheVariants.{Done, Refused, Usage, ReadFault, WriteFault, NoMemory, TooLong}

abbrev pub number_of_status : Status → ℕ
number_of_status Done = 0
number_of_status Refused = 1
number_of_status Usage = 2
number_of_status ReadFault = 3
number_of_status WriteFault = 4
number_of_status NoMemory = 5
number_of_status TooLong = 6
