use Rattle.ivp_func.proofs.Seeking.{SoFar}
use Rattle.ivp_func.proofs.grid.next_in_cells.Given as goal

abbrev pub invariant-loop-number : goal.invariant-loop-number
invariant-loop-number l = SoFar l.grid.cuts l.pieces l.area l.from l.first l.number l.next
