use Rattle.std.proofs.Common.{◌≡◌, ◌≤◌, length, take}
use Rattle.ivp_build.specs.Sums.{couple_pieces}
use Rattle.ivp_build.proofs.sums.couple.Given as goal

abbrev pub invariant-loop-number : goal.invariant-loop-number
invariant-loop-number l = record { added : l.pieces.items ≡ couple_pieces (take l.number l.fn.f.pieces) l.fn.g.pieces; few : length l.pieces.items ≤ 4096 }
