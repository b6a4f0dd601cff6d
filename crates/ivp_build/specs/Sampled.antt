-- Uniform: a utility of any form, sampled. The domain is cut into boxes of one size, and on each the piece fits the low corner
-- and the change from there to the high end of each axis.
use Rattle.std.specs.Prelude.{◌≡◌, ℕ, ◌+◌, ◌-◌, ◌*◌, ◌/◌, ◌^◌, ◌<◌, ◌==◌, ℤ, pos, ◌+ℤ◌, ◌-ℤ◌, ◌*ℤ◌, ◌≤ℤ◌, neg_ℤ, int_div, Bool, IsTrue, Some, min, if◌then◌else◌, List, [], ◌∷◌, length, map, slice_get, slice_set, slice_index, slice_index_or}
use Rattle.std.specs.Int.{int_max, int_min}
use Rattle.std.specs.Fn.{Shared}
use Rattle.std.specs.List.{list_all}
use denote.Ref.{Bor}
use Rattle.ivp_domain.specs.declared.axis.Axis.{Axis}
use Rattle.ivp_domain.specs.declared.boxes.BoxN.{BoxN}
use Rattle.ivp_domain.specs.declared.boxes.Point.{Point}
use Rattle.ivp_domain.specs.Boxes.{has_point, is_box, point_from, points_in}
use Rattle.ivp_domain.specs.Domains.{size_on}
use Rattle.ivp_func.specs.declared.piece.Piece.{Piece}
use Rattle.ivp_func.specs.Pieces.{is_piece_of, is_slope, is_value, piece_value}
use Rattle.ivp_build.specs.Builders.{level}

-- the runs of `size` places on each axis, by number: from that of place 0 to that of the last place, which may be shorter
abbrev pub all_runs : List Axis → ℕ → BoxN
all_runs axes size =
    let last_run = λ (axis : ℕ). (size_on axis axes - 1) / size in
    record {
      low = 0 ∷ 0 ∷ 0 ∷ 0 ∷ [];
      high = last_run 0 ∷ last_run 1 ∷ last_run 2 ∷ last_run 3 ∷ [];
    }

-- the first place of a run of `size` places
abbrev pub first_of_run : ℕ → ℕ → ℕ
first_of_run size run = run * size

-- the last place of a run of `size` places, on an axis of `count` places
abbrev pub last_of_run : ℕ → ℕ → ℕ → ℕ
last_of_run size count run = min (first_of_run size run + size) count - 1

-- the box of one run on each axis
abbrev pub box_of_runs : List Axis → ℕ → Point → BoxN
box_of_runs axes size runs =
    let low = λ (axis : ℕ). first_of_run size (slice_index runs.at axis) in
    let high = λ (axis : ℕ). last_of_run size (size_on axis axes) (slice_index runs.at axis) in
    record { low = low 0 ∷ low 1 ∷ low 2 ∷ low 3 ∷ []; high = high 0 ∷ high 1 ∷ high 2 ∷ high 3 ∷ [] }

-- the boxes of this size in the order of the index of their low corners, that is with the first axis outermost
abbrev pub boxes_of : List Axis → ℕ → List BoxN
boxes_of axes size = map (box_of_runs axes size) (points_in (all_runs axes size))

-- the runs in which a point lies
abbrev pub runs_of : ℕ → Point → Point
runs_of size point =
    let run = λ (axis : ℕ). slice_index point.at axis / size in
    point_from (run 0) (run 1) (run 2) (run 3)

-- the box of this size that has the point
abbrev pub box_of : List Axis → ℕ → Point → BoxN
box_of axes size point = box_of_runs axes size (runs_of size point)

-- the low corner of a box
abbrev pub low_corner : BoxN → Point
low_corner area = record { at = area.low }

-- the high end on an axis, from the low corner
abbrev pub high_end : BoxN → ℕ → Point
high_end area axis = record { at = slice_set area.low axis (slice_index area.high axis) }

-- the change from the low corner to the high end on an axis, by place, toward zero; 0 if the box has one place there
abbrev pub sampled_slope : (Point → ℤ) → BoxN → ℕ → ℤ
sampled_slope utility area axis =
    let places = slice_index area.high axis - slice_index area.low axis in
    if places == 0 then pos 0 else int_div (utility (high_end area axis) -ℤ utility (low_corner area)) (pos places)

-- the slopes of a utility on a box
abbrev pub sampled_slopes : (Point → ℤ) → BoxN → List ℤ
sampled_slopes utility area =
    let slope = sampled_slope utility area in
    slope 0 ∷ slope 1 ∷ slope 2 ∷ slope 3 ∷ []

-- the value that grows evenly from one at the low corner, by these slopes
abbrev pub grown_at : BoxN → ℤ → List ℤ → Point → ℤ
grown_at area value slopes point =
    let grown = λ (axis : ℕ). slice_index_or slopes axis (pos 0) *ℤ pos (slice_index point.at axis - slice_index area.low axis) in
    value +ℤ grown 0 +ℤ grown 1 +ℤ grown 2 +ℤ grown 3

-- the value that grows evenly by these slopes is from 0 to 100,000 at each point of the box
abbrev pub stays_in_range : BoxN → ℤ → List ℤ → Bool
stays_in_range area value slopes = list_all (λ point. is_value (grown_at area value slopes point)) (points_in area)

-- the value on a box: even growth if that stays in range, and else that at the low corner
abbrev pub sampled_at : (Point → ℤ) → BoxN → Point → ℤ
sampled_at utility area point =
    let value = utility (low_corner area) in
    let slopes = sampled_slopes utility area in
    if stays_in_range area value slopes then grown_at area value slopes point else value

-- Uniform: the utility sampled in boxes of this size, at a point.
abbrev pub uniform_at : List Axis → ℕ → (Point → ℤ) → Point → ℤ
uniform_at axes size utility point = sampled_at utility (box_of axes size point) point

-- the base of a piece with these slopes that fits a value at the low corner
abbrev pub base_at : BoxN → ℤ → List ℤ → ℤ
base_at area value slopes =
    let rise = λ (axis : ℕ). slice_index_or slopes axis (pos 0) *ℤ pos (slice_index area.low axis) in
    value -ℤ (rise 0 +ℤ rise 1 +ℤ rise 2 +ℤ rise 3)

-- the piece that grows evenly if that stays in range, and else is constant
abbrev pub piece_from : BoxN → ℤ → List ℤ → Piece
piece_from area value slopes =
    if stays_in_range area value slopes then record { area = area; base = base_at area value slopes; slope = slopes }
    else record { area = area; base = value; slope = level }

-- the piece of a sampled utility on a box
abbrev pub sampled_piece : (Point → ℤ) → BoxN → Piece
sampled_piece utility area = piece_from area (utility (low_corner area)) (sampled_slopes utility area)

-- the pieces of a sampled utility: one on each box
abbrev pub uniform_pieces : List Axis → ℕ → (Point → ℤ) → List Piece
uniform_pieces axes size utility = map (sampled_piece utility) (boxes_of axes size)

-- a box with a value and slopes that are small, and no slope if it has one place
pub record IsSample (area : BoxN) (value : ℤ) (slopes : List ℤ) : Type 0 where
  pub proper : IsTrue (is_box area)
  pub few : (axis : ℕ) → axis < 4 → slice_index area.high axis < 2 ^ 28
  pub value_fits : IsTrue (is_value value)
  pub slopes_fit : (axis : ℕ) → axis < 4 → IsTrue (is_slope (slice_index_or slopes axis (pos 0)))

-- a utility may be asked at each point of a box, and answers from 0 to 100,000
pub record IsAskedIn {F : Type 0} (calls : Shared F (Bor Point × Unit {0}) ℤ) (utility : F) (area : BoxN) : Type 0 where
  pub callable : (point : Bor Point) → IsTrue (has_point area point.now) → calls.pre utility (point, tt)
  pub values : (point : Bor Point) (answer : ℤ) → IsTrue (has_point area point.now) → calls.post utility (point, tt) answer → IsTrue (is_value answer)

-- what a utility answers at the points of a box is what this function gives
abbrev pub Computes : {F : Type 0} → Shared F (Bor Point × Unit {0}) ℤ → F → BoxN → (Point → ℤ) → Type 0
Computes calls utility area gives = (point : Bor Point) (answer : ℤ) → IsTrue (has_point area point.now) → calls.post utility (point, tt) answer → answer ≡ gives point.now

-- a piece on a box of a domain, with each value from 0 to 100,000
pub record IsSampled (axes : List Axis) (area : BoxN) (piece : Piece) : Type 0 where
  pub here : piece.area ≡ area
  pub fits : IsTrue (is_piece_of axes piece)
  pub values : (point : Point) → IsTrue (has_point area point) → IsTrue (is_value (piece_value piece point))

-- the pieces of a sampled utility: on each box one that fits the domain and stays in range
pub record AreSampled (axes : List Axis) (size : ℕ) (pieces : List Piece) : Type 0 where
  pub all : length pieces ≡ length (boxes_of axes size)
  pub each : (number : ℕ) (area : BoxN) (piece : Piece) → slice_get (boxes_of axes size) number ≡ Some area → slice_get pieces number ≡ Some piece → IsSampled axes area piece

-- what a slope adds at least from the low corner of a box along an axis: nothing, or what it adds at the high end
abbrev pub least_growth : BoxN → List ℤ → ℕ → ℤ
least_growth area slopes axis = int_min (slice_index_or slopes axis (pos 0) *ℤ pos (slice_index area.high axis - slice_index area.low axis)) (pos 0)

-- what a slope adds at most from the low corner of a box along an axis: nothing, or what it adds at the high end
abbrev pub most_growth : BoxN → List ℤ → ℕ → ℤ
most_growth area slopes axis = int_max (slice_index_or slopes axis (pos 0) *ℤ pos (slice_index area.high axis - slice_index area.low axis)) (pos 0)

-- at most 100,000 times 2^28 either way
abbrev pub IsRise : ℤ → Type 0
IsRise number = (neg_ℤ (pos (10 ^ 5 * 2 ^ 28)) ≤ℤ number) × (number ≤ℤ pos (10 ^ 5 * 2 ^ 28))
