-- The numbers of the statuses.
use Rattle.std.specs.Prelude.{ℕ}
use Rattle.cmd_dm.specs.declared.status.Status.{Status}
use Rattle.cmd_dm.specs.declared.status.Status.TheVariants.{Ok as Done, Refused, Usage, Absent, ReadFault, WriteFault, Memory, TooLong}

abbrev pub number_of : Status → ℕ
number_of Done = 0
number_of (Refused reason) = 1
number_of Usage = 2
number_of (Absent file) = 3
number_of (ReadFault file) = 4
number_of WriteFault = 5
number_of Memory = 6
number_of (TooLong file) = 7
