use Rattle.std.proofs.Common.{◌≡◌, ℕ, ◌<◌, false, Some}
use Rattle.std.specs.Prelude.{slice_get}
use Rattle.ivp_func.specs.declared.piece.Piece.{Piece}
use Rattle.ivp_func.specs.Grids.{meets}
use Rattle.ivp_func.proofs.partition.overlap.Given as goal

abbrev pub invariant-loop-place : goal.invariant-loop-place
invariant-loop-place l = (place other : ℕ) (piece : Piece) → place < l.place → slice_get l.pieces place ≡ Some piece → place < other → meets l.pieces piece.area other ≡ false
