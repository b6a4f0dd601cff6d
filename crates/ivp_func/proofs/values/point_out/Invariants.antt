use Rattle.std.proofs.Common.{◌≡◌, ℕ, ◌<◌, IsTrue, Some}
use Rattle.std.specs.Prelude.{slice_get}
use Rattle.ivp_domain.specs.declared.boxes.Point.{Point}
use Rattle.ivp_func.specs.declared.piece.Piece.{Piece}
use Rattle.ivp_func.specs.Pieces.{piece_has, is_value, piece_value}
use Rattle.ivp_func.proofs.values.point_out.Given as goal

abbrev pub invariant-loop-piece : goal.invariant-loop-piece
invariant-loop-piece l = (k : ℕ) (x : Piece) → k < l.piece-index → slice_get l.pieces k ≡ Some x → (p : Point) → IsTrue (piece_has p x) → IsTrue (is_value (piece_value x p))
