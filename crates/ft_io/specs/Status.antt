-- The statuses of calls over a source and a sink.
use Rattle.std.specs.Prelude.{ℕ}
use Rattle.ft_io.specs.declared.status.Status.{Status}
use Rattle.ft_io.specs.declared.status.Status.TheVariants.{Done, Broken, Language, Refused, ReadFault, WriteFault, NoMemory, TooLong}

-- the exit status
abbrev pub code_of : Status → ℕ
code_of Done = 0
code_of Broken = 1
code_of Language = 2
code_of Refused = 3
code_of ReadFault = 4
code_of WriteFault = 5
code_of NoMemory = 6
code_of TooLong = 7
