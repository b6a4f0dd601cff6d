use Rattle.ivp_func.proofs.Tops.{TopSoFar}
use Rattle.ivp_func.proofs.values.top.Given as goal

abbrev pub invariant-loop-piece : goal.invariant-loop-piece
invariant-loop-piece l = TopSoFar l.domain l.pieces l.piece-index l.top
