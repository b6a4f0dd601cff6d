-- What a grid keeps, and what is known of the least piece that meets an area while it is sought.
use Rattle.std.specs.Prelude.{◌≡◌, ℕ, ◌<◌, ◌≤◌, Bool, ◌&&◌, nat_le, false, IsTrue, Option, Some, None, List, length, slice_get, slice_index}
use Rattle.std.specs.List.{slice_range}
use Rattle.ivp_domain.specs.declared.axis.Axis.{Axis}
use Rattle.ivp_domain.specs.declared.boxes.BoxN.{BoxN}
use Rattle.ivp_domain.specs.declared.boxes.Point.{Point}
use Rattle.ivp_domain.specs.Boxes.{has_point}
use Rattle.ivp_domain.specs.Domains.{is_domain}
use Rattle.ivp_func.specs.declared.grid.Cell.{Cell}
use Rattle.ivp_func.specs.declared.grid.Grid.{Grid}
use Rattle.ivp_func.specs.declared.grid.Near.{Near}
use Rattle.ivp_func.specs.declared.piece.Piece.{Piece}
use Rattle.ivp_func.specs.Grids.{cell_at, cell_box, cells_of, meeting, meets}
use Rattle.ivp_func.specs.Kept.{kept_axes}
use Rattle.ivp_func.specs.Pieces.{are_pieces_of, is_box_of, piece_has}

-- a cell of this box has it, and its part of the numbers is that of the pieces that share a point with it
pub record IsCell (pieces : List Piece) (numbers : List ℕ) (place : BoxN) (cell : Cell) : Type 0 where
  pub area : cell.area ≡ place
  pub order : cell.from ≤ cell.to
  pub within : cell.to ≤ length numbers
  pub listed : slice_range numbers cell.from cell.to ≡ meeting pieces place

-- the grid has each cell of its axes, by its number
pub record HasCells (pieces : List Piece) (grid : Grid) : Type 0 where
  pub count : length grid.cells.items ≡ cells_of grid.cuts
  pub each : (number : ℕ) (cell : Cell) → slice_get grid.cells.items number ≡ Some cell → IsCell pieces grid.numbers.items (cell_box grid.cuts number) cell

-- a grid's axes are those of the domain, with the places that are kept
pub record IsGrid (axes : List Axis) (pieces : List Piece) (grid : Grid) : Type 0 where
  pub domain : IsTrue (is_domain axes)
  pub cuts : grid.cuts ≡ kept_axes axes pieces
  pub cells : HasCells pieces grid

-- the grid is that of these pieces over some domain, whose pieces they are
abbrev pub HasPieces : List Piece → Grid → Type 0
HasPieces pieces grid = (axes : List Axis) × IsGrid axes pieces grid × IsTrue (are_pieces_of axes pieces)

-- the grid is that of these pieces over some domain, in which the area lies
abbrev pub HasArea : List Piece → BoxN → Grid → Type 0
HasArea pieces area grid = (axes : List Axis) × IsGrid axes pieces grid × IsTrue (is_box_of axes area)

-- each place of the area on this axis is one of the other box
abbrev pub lies_on : ℕ → BoxN → BoxN → Bool
lies_on axis area around =
    nat_le (slice_index around.low axis) (slice_index area.low axis) && nat_le (slice_index area.high axis) (slice_index around.high axis)

-- each point of the area is one of the other box
abbrev pub lies_in : BoxN → BoxN → Bool
lies_in area around = lies_on 0 area around && lies_on 1 area around && lies_on 2 area around && lies_on 3 area around

-- each point of the area is one of this piece's box, if there is one
abbrev pub lies_in_piece : BoxN → Option Piece → Bool
lies_in_piece area None = false
lies_in_piece area (Some piece) = lies_in area piece.area

-- what is near some cells are the pieces that share a point with its box
abbrev pub IsNear : List Piece → Near → Type 0
IsNear pieces near = near.numbers.items ≡ meeting pieces near.around

-- no number is above one behind it
abbrev pub IsRising : List ℕ → Type 0
IsRising numbers = (place later : ℕ) → place ≤ later → later < length numbers → slice_index numbers place ≤ slice_index numbers later

-- a number from `from` on and below `until` whose piece meets the area, or else `until`
pub record IsMeeting (pieces : List Piece) (area : BoxN) (from until next : ℕ) : Type 0 where
  pub most : next ≤ until
  pub found : next < until → (from ≤ next) × IsTrue (meets pieces area next)

-- none of these numbers that does so is less
abbrev pub NoneLess : List Piece → BoxN → ℕ → ℕ → List ℕ → Type 0
NoneLess pieces area from next numbers = (place : ℕ) → place < length numbers → from ≤ slice_index numbers place → IsTrue (meets pieces area (slice_index numbers place)) → next ≤ slice_index numbers place

-- none less of all that share a point with the area in one of the cells from the first on and below this one
abbrev pub NoneLessIn : List Axis → List Piece → BoxN → ℕ → ℕ → ℕ → ℕ → Type 0
NoneLessIn axes pieces area from next first cell =
    (number : ℕ) (piece : Piece) (point : Point) → from ≤ number → slice_get pieces number ≡ Some piece → IsTrue (piece_has point piece) → IsTrue (has_point area point) → first ≤ cell_at axes point → cell_at axes point < cell → next ≤ number

-- none less of all
abbrev pub IsLeast : List Piece → BoxN → ℕ → ℕ → Type 0
IsLeast pieces area from next = (number : ℕ) → from ≤ number → IsTrue (meets pieces area number) → next ≤ number
