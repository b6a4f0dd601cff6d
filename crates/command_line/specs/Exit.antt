-- The exit status of the program.
use Rattle.std.specs.Prelude.{ℕ}
use Rattle.command_line.specs.declared.status.Status.{Status}
use Rattle.command_line.specs.declared.status.Status.TheVariants.{Done, CheckNo, Usage, LoadFault, WriteFault, Refused, NoMemory}

-- the number that a shell sees: 0 to 6, in the order of the statuses
abbrev pub code_of : Status → ℕ
code_of Done = 0
code_of CheckNo = 1
code_of Usage = 2
code_of LoadFault = 3
code_of WriteFault = 4
code_of (Refused refusal) = 5
code_of NoMemory = 6
