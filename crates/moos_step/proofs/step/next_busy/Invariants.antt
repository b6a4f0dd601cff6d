-- So it is of the lines so far.
use Rattle.std.proofs.Common.{take}
use Rattle.moos_step.specs.Steps.{IsNextBusy}
use Rattle.moos_step.proofs.step.next_busy.Given as goal

abbrev pub invariant-loop-line : goal.invariant-loop-line
invariant-loop-line l = IsNextBusy (take l.line-index l.lines) l.from l.clients l.next
