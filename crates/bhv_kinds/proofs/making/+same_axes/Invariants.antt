use Rattle.std.proofs.Common.{length}
use Rattle.bhv_kinds.proofs.making.+same_axes.Given as goal

abbrev pub decreases-same_axes : goal.decreases-same_axes
decreases-same_axes l = length l.a.now
