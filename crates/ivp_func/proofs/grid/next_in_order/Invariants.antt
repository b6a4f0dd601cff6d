use Rattle.std.proofs.Common.{◌≡◌, ℕ, ◌<◌, ◌≤◌, false}
use Rattle.ivp_func.specs.Grids.{meets}
use Rattle.ivp_func.proofs.grid.next_in_order.Given as goal

abbrev pub invariant-loop-number : goal.invariant-loop-number
invariant-loop-number l = (other : ℕ) → l.from ≤ other → other < l.number → meets l.pieces l.area other ≡ false
