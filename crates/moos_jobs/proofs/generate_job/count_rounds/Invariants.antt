-- The run goes on from where it began, and what is counted is of its iterations so far.
use Rattle.std.proofs.Common.{◌≡◌}
use Rattle.moos_play.specs.Plays.{GoesOnWith, IsBetween, iterations_made, left_in}
use Rattle.moos_jobs.specs.Summary.{AreBoundedCounts, iterations_counted}
use Rattle.moos_jobs.proofs.generate_job.count_rounds.Given as goal

abbrev pub invariant-loop : goal.invariant-loop
invariant-loop g l = record {
  between : IsBetween l.play;
  same : GoesOnWith l.fn.play l.play;
  bounded : AreBoundedCounts l.counted;
  counted : l.counted ≡ iterations_counted (iterations_made l.play);
}

abbrev pub decreases-loop : goal.decreases-loop
decreases-loop g l = left_in l.play
