-- The run is under way, and has gone on from where it stood.
use Rattle.moos_play.specs.Plays.{GoesOnWith, left_in}
use Rattle.moos_play.specs.Runs.{IsAtPlay, KeepsSeats, shown_by}
use Rattle.moos_play.specs.Steered.{KeepsEach}
use Rattle.moos_play.proofs.run.play_out.Given as goal

abbrev pub invariant-loop : goal.invariant-loop
invariant-loop g l = record {
  at_play : IsAtPlay l.run;
  seated : KeepsSeats l.fn.run l.run;
  same : GoesOnWith (shown_by l.fn.run) (shown_by l.run);
  told : KeepsEach l.fn.run.helm_client l.run.helm_client;
}

abbrev pub decreases-loop : goal.decreases-loop
decreases-loop g l = left_in (shown_by l.run)
