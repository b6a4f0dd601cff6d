-- The functions of a problem, as far as its lines have come.
use Rattle.std.specs.Prelude.{ℕ, List}
use Rattle.ivp_func.specs.declared.piece.Piece.{Piece}
use Rattle.ivp_problem.specs.Problems.{WeightedSum}

-- a weighted sum of which the last function may still get pieces: the functions before it, and then the number of its
-- line, its weight and its pieces so far
pub record UnfinishedSum : Type 0 where
  pub before : WeightedSum
  pub line : ℕ
  pub weight : ℕ
  pub pieces : List Piece
