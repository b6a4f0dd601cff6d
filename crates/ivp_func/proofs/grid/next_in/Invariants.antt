use Rattle.std.proofs.Common.{◌≡◌, ℕ, ◌<◌, ◌≤◌, get_or, false}
use Rattle.ivp_func.specs.Grids.{meets}
use Rattle.ivp_func.proofs.grid.next_in.Given as goal

abbrev pub invariant-loop-place : goal.invariant-loop-place
invariant-loop-place l = (place : ℕ) → place < l.place → l.from ≤ get_or l.numbers place 0 → meets l.pieces l.area (get_or l.numbers place 0) ≡ false
