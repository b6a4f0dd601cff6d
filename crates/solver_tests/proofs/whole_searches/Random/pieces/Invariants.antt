use Rattle.std.proofs.Common.{◌-◌}
use Rattle.solver_tests.proofs.whole_searches.Random.pieces.Given as goal

abbrev pub decreases-loop-low : goal.decreases-loop-low
decreases-loop-low g l = l.width - l.low
