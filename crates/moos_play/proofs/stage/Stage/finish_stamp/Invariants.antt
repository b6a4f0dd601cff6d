-- The run has gone on from where it stood.
use Rattle.std.proofs.Common.{◌≤◌, Ok}
use Rattle.std.specs.declared.alloc.AllocError.{AllocError}
use Rattle.moos_play.specs.Plays.{left_in}
use Rattle.moos_play.specs.Runs.{HasPlayedOn, shown_by}
use Rattle.moos_play.proofs.stage.Stage.finish_stamp.Given as goal

abbrev pub invariant-loop-alloc : goal.invariant-loop-alloc
invariant-loop-alloc g l = record {
  stepped : HasPlayedOn {A = Unit {0}} {E = AllocError} l.stamp l.fn.self l.self (Ok tt);
  less : left_in (shown_by l.self) ≤ left_in (shown_by l.fn.self);
}

abbrev pub decreases-loop-alloc : goal.decreases-loop-alloc
decreases-loop-alloc g l = left_in (shown_by l.self)
