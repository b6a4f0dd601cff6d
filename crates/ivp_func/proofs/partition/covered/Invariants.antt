use Rattle.std.proofs.Common.{◌≡◌, ◌*◌, ◌^◌, ◌≤◌, take}
use Rattle.ivp_func.specs.Covering.{covered_in}
use Rattle.ivp_func.proofs.partition.covered.Given as goal

abbrev pub invariant-loop-piece : goal.invariant-loop-piece
invariant-loop-piece l = record { sum : l.sum ≡ covered_in l.area (take l.piece-index l.pieces); few : l.sum ≤ l.piece-index * 2 ^ 28 }
