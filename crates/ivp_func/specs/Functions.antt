-- Functions over a domain: a partition of its points, with values in range.
use Rattle.std.specs.Prelude.{◌≡◌, ◌≤◌, ◌==◌, Bool, ℤ, ◌≤ℤ◌, IsTrue, List, length}
use Rattle.std.specs.List.{list_all}
use Rattle.ivp_domain.specs.declared.axis.Axis.{Axis}
use Rattle.ivp_domain.specs.declared.boxes.Point.{Point}
use Rattle.ivp_domain.specs.Domains.{is_domain, is_point, points_of}
use Rattle.ivp_func.specs.declared.piece.Piece.{Piece}
use Rattle.ivp_func.specs.Pieces.{are_pieces_of, count_at, is_value, value_at}

-- each point of the domain lies in exactly one piece's box
abbrev pub IsPartition : List Axis → List Piece → Type 0
IsPartition axes pieces = (point : Point) → IsTrue (is_point axes point) → count_at pieces point ≡ 1

-- each value is one from 0 to 100,000
abbrev pub HasValues : List Axis → List Piece → Type 0
HasValues axes pieces = (point : Point) → IsTrue (is_point axes point) → IsTrue (is_value (value_at pieces point))

-- the test, point by point, that each lies in exactly one piece's box
abbrev pub is_partition : List Axis → List Piece → Bool
is_partition axes pieces = list_all (λ point. count_at pieces point == 1) (points_of axes)

-- the test, point by point, that each value is one from 0 to 100,000
abbrev pub has_values : List Axis → List Piece → Bool
has_values axes pieces = list_all (λ point. is_value (value_at pieces point)) (points_of axes)

-- the greatest value: some point has it, and none has a greater
pub record IsTop (axes : List Axis) (pieces : List Piece) (top : ℤ) : Type 0 where
  pub attained : (point : Point) × (IsTrue (is_point axes point)) × (value_at pieces point ≡ top)
  pub greatest : (point : Point) → IsTrue (is_point axes point) → value_at pieces point ≤ℤ top

-- a function over a domain: its axes and its pieces in order
pub record Function : Type 0 where
  pub axes : List Axis
  pub pieces : List Piece

-- what every function keeps
pub record IsFunction (func : Function) : Type 0 where
  pub domain : IsTrue (is_domain func.axes)
  pub few : length func.pieces ≤ 4096
  pub pieces : IsTrue (are_pieces_of func.axes func.pieces)
  pub partition : IsPartition func.axes func.pieces
  pub values : HasValues func.axes func.pieces
