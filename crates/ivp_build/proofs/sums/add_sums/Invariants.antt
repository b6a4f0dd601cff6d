use Rattle.std.proofs.Common.{◌≡◌, ◌-◌, ◌≤◌, ◌++◌, length, take}
use Rattle.ivp_build.specs.Sums.{met_sums}
use Rattle.ivp_build.proofs.sums.add_sums.Given as goal

abbrev pub invariant-loop-number : goal.invariant-loop-number
invariant-loop-number l = record { added : l.pieces.items ≡ l.fn.pieces.items ++ met_sums l.fn.one (take l.from l.fn.g.pieces); few : length l.pieces.items ≤ 4096; within : l.from ≤ length l.fn.g.pieces }

abbrev pub decreases-loop-number : goal.decreases-loop-number
decreases-loop-number l = length l.fn.g.pieces - l.from
