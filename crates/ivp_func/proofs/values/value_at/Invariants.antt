use Rattle.std.proofs.Common.{◌≡◌, drop}
use Rattle.ivp_func.specs.Pieces.{value_at}
use Rattle.ivp_func.proofs.values.value_at.Given as goal

abbrev pub invariant-loop-piece : goal.invariant-loop-piece
invariant-loop-piece l = value_at (drop l.piece-index l.pieces) l.point ≡ value_at l.pieces l.point
