use Rattle.std.proofs.Common.{◌≡◌, ◌≤◌}
use Rattle.std.specs.Prelude.{fold}
use Rattle.std.specs.List.{range_with_len}
use Rattle.bhv_kinds.specs.Targets.{nearer_vertex}
use Rattle.bhv_kinds.proofs.loiter.nearest_vertex.Given as goal

abbrev pub invariant-loop-number : goal.invariant-loop-number
invariant-loop-number l = (l.best ≡ fold (nearer_vertex l.polygon l.here) 0 (range_with_len 0 l.number)) × (l.best ≤ l.number)
