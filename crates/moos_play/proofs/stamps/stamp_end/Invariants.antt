-- The lines so far have the stamp of the first.
use Rattle.std.proofs.Common.{◌-◌, length}
use Rattle.moos_step.proofs.Lines.{HaveStamp}
use Rattle.moos_play.proofs.stamps.stamp_end.Given as goal

abbrev pub invariant-loop-to : goal.invariant-loop-to
invariant-loop-to l = HaveStamp l.lines l.stamp l.from l.to

abbrev pub decreases-loop-to : goal.decreases-loop-to
decreases-loop-to l = length l.lines - l.to
