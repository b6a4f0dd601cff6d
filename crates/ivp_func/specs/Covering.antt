-- How much of a box the pieces cover, each counted for itself.
use Rattle.std.specs.Prelude.{ℕ, List, ◌≡◌, ◌≤◌, ◌<◌, suc, IsTrue, slice_index}
use Rattle.std.specs.List.{sum_by}
use Rattle.ivp_domain.specs.declared.boxes.BoxN.{BoxN}
use Rattle.ivp_domain.specs.declared.boxes.Point.{Point}
use Rattle.ivp_domain.specs.Boxes.{common, has_point, is_box, volume_of}
use Rattle.ivp_func.specs.declared.piece.Piece.{Piece}

-- how many points a box and a piece have in common
abbrev pub shared_with : BoxN → Piece → ℕ
shared_with area piece = volume_of (common area piece.area)

-- how many points of the box the pieces hold, a point counted once for each piece that holds it
abbrev pub covered_in : BoxN → List Piece → ℕ
covered_in area pieces = sum_by (shared_with area) pieces

-- the two boxes have the places of the whole on this axis
pub record SameOn (axis : ℕ) (whole left right : BoxN) : Type 0 where
  pub left_low : slice_index left.low axis ≡ slice_index whole.low axis
  pub left_high : slice_index left.high axis ≡ slice_index whole.high axis
  pub right_low : slice_index right.low axis ≡ slice_index whole.low axis
  pub right_high : slice_index right.high axis ≡ slice_index whole.high axis

-- on this axis the left box has the lower places of the whole, and the right one the rest
pub record CutOn (axis : ℕ) (whole left right : BoxN) : Type 0 where
  pub left_low : slice_index left.low axis ≡ slice_index whole.low axis
  pub right_high : slice_index right.high axis ≡ slice_index whole.high axis
  pub next : slice_index right.low axis ≡ suc (slice_index left.high axis)
  pub some : slice_index whole.low axis ≤ slice_index left.high axis
  pub rest : slice_index left.high axis < slice_index whole.high axis

-- a smaller part of a box, of which the pieces hold fewer points than it has
pub record Shorter (pieces : List Piece) (whole part : BoxN) : Type 0 where
  pub proper : IsTrue (is_box part)
  pub smaller : volume_of part < volume_of whole
  pub short : covered_in part pieces < volume_of part
  pub inside : (point : Point) → IsTrue (has_point part point) → IsTrue (has_point whole point)
