-- What is printed of the play so far was written, and it goes on from where it began, beside the same vehicle.
use Rattle.std.proofs.Common.{◌≡◌, length}
use Rattle.moos_io.specs.BufferedWriting.{IsClear}
use Rattle.moos_play.specs.Plays.{clients_in, GoesOnWith, history_in, iterations_made, left_in}
use Rattle.moos_simulate.specs.Sailing.{IsSimulating}
use Rattle.moos_report.specs.Lines.{KeepsLines}
use Rattle.moos_jobs.specs.Telling.{IsToldSoFar}
use Rattle.moos_jobs.proofs.simulate_telling.tell_through.Given as goal

abbrev pub invariant-loop-more : goal.invariant-loop-more
invariant-loop-more g l = record {
  sink : l.out.out.ghost_name ≡ l.fn.out.out.ghost_name;
  clear : IsClear l.out;
  kept : KeepsLines (clients_in l.play) (history_in l.play) l.kept;
  simulating : IsSimulating l.vehicle l.play;
  gear : l.vehicle.gear ≡ l.fn.vehicle.gear;
  same : GoesOnWith l.fn.play l.play;
  made : l.made ≡ length (iterations_made l.play);
  told : IsToldSoFar l.setup (g.K.Sink.taken l.fn.out.out.now) (g.K.Sink.taken l.out.out.now) l.play;
  fared : g.K.Sink.faults l.out.out.now ≡ g.K.Sink.faults l.fn.out.out.now;
}

abbrev pub decreases-loop-more : goal.decreases-loop-more
decreases-loop-more g l = left_in l.play
