use Rattle.std.proofs.Common.{◌≡◌, ℕ, ℤ, Some, length, map, take}
use Rattle.std.specs.Prelude.{slice_get}
use Rattle.ivp_domain.specs.declared.boxes.BoxN.{BoxN}
use Rattle.ivp_domain.specs.declared.boxes.Point.{Point}
use Rattle.ivp_domain.specs.Domains.{whole}
use Rattle.ivp_func.specs.declared.piece.Piece.{Piece}
use Rattle.ivp_build.specs.Sampled.{Computes, IsSampled, boxes_of, sampled_piece}
use Rattle.ivp_build.proofs.sampled.sampled_pieces.Given as goal

abbrev pub invariant-loop-number : goal.invariant-loop-number
invariant-loop-number g l =
    record {
      count : length l.pieces.items ≡ l.number;
      each : (k : ℕ) (area : BoxN) (piece : Piece) → slice_get (boxes_of l.domain l.size) k ≡ Some area → slice_get l.pieces.items k ≡ Some piece → IsSampled l.domain area piece;
      made : (gives : Point → ℤ) → Computes g.F.Fn l.utility (whole l.domain) gives → l.pieces.items ≡ map (sampled_piece gives) (take l.number (boxes_of l.domain l.size));
    }
