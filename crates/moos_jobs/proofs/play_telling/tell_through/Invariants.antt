-- What is printed of the run so far was written, and the run goes on from where it began.
use Rattle.std.proofs.Common.{◌≡◌, length}
use Rattle.moos_io.specs.BufferedWriting.{IsClear}
use Rattle.moos_play.specs.Plays.{clients_in, GoesOnWith, HasCompletion, history_in, IsBetween, iterations_made, left_in}
use Rattle.moos_report.specs.Lines.{KeepsLines}
use Rattle.moos_jobs.specs.Telling.{IsToldSoFar}
use Rattle.moos_jobs.proofs.PlayRounds.{IsAlone}
use Rattle.moos_jobs.proofs.play_telling.tell_through.Given as goal

abbrev pub invariant-loop-more : goal.invariant-loop-more
invariant-loop-more g l = record {
  sink : l.out.out.ghost_name ≡ l.fn.out.out.ghost_name;
  clear : IsClear l.out;
  kept : KeepsLines (clients_in l.play) (history_in l.play) l.kept;
  between : IsBetween l.play;
  named : IsAlone l.play;
  on : HasCompletion l.play;
  same : GoesOnWith l.fn.play l.play;
  made : l.made ≡ length (iterations_made l.play);
  told : IsToldSoFar l.setup (g.K.Sink.taken l.fn.out.out.now) (g.K.Sink.taken l.out.out.now) l.play;
  fared : g.K.Sink.faults l.out.out.now ≡ g.K.Sink.faults l.fn.out.out.now;
}

abbrev pub decreases-loop-more : goal.decreases-loop-more
decreases-loop-more g l = left_in l.play
