-- The exit statuses of the process: the statuses in their order, from 0.
use Rattle.std.specs.Prelude.{ℕ}
use Rattle.fdpic_cmd.specs.declared.status.Status.{Status}
use Rattle.fdpic_cmd.specs.declared.status.Status.TheVariants.{Done, Memory, Words, StoreFault, SinkFault, Refused, Stopped}

abbrev pub exit_of : Status → ℕ
exit_of Done = 0
exit_of Memory = 1
exit_of Words = 2
exit_of StoreFault = 3
exit_of SinkFault = 4
exit_of (Refused r) = 5
exit_of (Stopped why) = 6
