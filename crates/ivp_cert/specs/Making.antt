-- What a line is refused for if its pieces make no function.
use Rattle.moos_text.specs.declared.cause.Cause.TheVariants.{P4, P5, P7}
use Rattle.moos_text.specs.declared.cause.LineFault.{LineFault}
use Rattle.moos_text.specs.declared.cause.LineFault.TheVariants.{Refused, NoMemory as OutOfMemory}
use Rattle.ivp_func.specs.declared.func.FuncFault.{FuncFault}
use Rattle.ivp_func.specs.declared.func.FuncFault.TheVariants.{TooMany, NotPartition, ValueOut, NoMemory}

-- pieces that overlap or leave out a point, a value out of range, a piece too many, or want of memory
abbrev pub line_fault : FuncFault → LineFault
line_fault TooMany = Refused P7
line_fault (NotPartition point count) = Refused P4
line_fault (ValueOut point value) = Refused P5
line_fault NoMemory = OutOfMemory
