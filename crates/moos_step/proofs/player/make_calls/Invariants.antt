-- The lines so far are played.
use Rattle.std.proofs.Common.{take}
use Rattle.moos_step.proofs.Lines.{SoFar}
use Rattle.moos_step.proofs.player.make_calls.Given as goal

abbrev pub invariant-loop-line : goal.invariant-loop-line
invariant-loop-line g l = SoFar l.lock (take l.line-index l.lines) l.client l.fn.seat l.seat
