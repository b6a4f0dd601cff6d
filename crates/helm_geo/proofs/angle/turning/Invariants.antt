use Rattle.std.proofs.Common.{◌-◌}
use Rattle.helm_geo.proofs.Quarters.{IsSought}
use Rattle.helm_geo.proofs.angle.turning.Given as goal

abbrev pub invariant-loop-low : goal.invariant-loop-low
invariant-loop-low l = IsSought l.fn.across l.fn.ahead l.low l.high

abbrev pub decreases-loop-low : goal.decreases-loop-low
decreases-loop-low l = l.high - l.low
