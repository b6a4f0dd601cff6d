use Rattle.std.proofs.Common.{◌≡◌, ◌++◌, take}
use Rattle.std.specs.List.{filter}
use Rattle.ivp_func.specs.Grids.{meets}
use Rattle.ivp_func.proofs.grid.with_meeting.Given as goal

abbrev pub invariant-loop-number : goal.invariant-loop-number
invariant-loop-number l = l.kept.items ≡ l.fn.before.items ++ filter (meets l.pieces l.area) (take l.number-index l.numbers)
