-- The grid of a function: each axis is cut into runs of places, and a cell is one run of each axis. Which pieces share a point with a box.
use Rattle.std.specs.Prelude.{ℕ, ◌+◌, ◌-◌, ◌*◌, ◌/◌, ◌%◌, ◌==◌, min, Bool, false, if◌then◌else◌, Option, Some, None, List, [], ◌∷◌, length, slice_get, slice_index}
use Rattle.std.specs.List.{filter}
use Rattle.ivp_domain.specs.declared.axis.Axis.{Axis}
use Rattle.ivp_domain.specs.declared.boxes.BoxN.{BoxN}
use Rattle.ivp_domain.specs.declared.boxes.Point.{Point}
use Rattle.ivp_domain.specs.Boxes.{common, is_box, numbers_from}
use Rattle.ivp_domain.specs.Domains.{whole}
use Rattle.ivp_func.specs.declared.piece.Piece.{Piece}

-- the boxes share a point
abbrev pub share : BoxN → BoxN → Bool
share a b = is_box (common a b)

-- the box of a piece shares a point with the area, if there is a piece
abbrev pub meets_piece : BoxN → Option Piece → Bool
meets_piece area None = false
meets_piece area (Some piece) = share area piece.area

-- there is a piece of this number, and its box shares a point with the area
abbrev pub meets : List Piece → BoxN → ℕ → Bool
meets pieces area number = meets_piece area (slice_get pieces number)

-- the numbers of the pieces whose boxes share a point with the area, rising
abbrev pub meeting : List Piece → BoxN → List ℕ
meeting pieces area = filter (meets pieces area) (numbers_from 0 (length pieces))

-- how many parts of `places` places there are from place 0 to the last one: the quotient, rounded up
abbrev pub parts_to : ℕ → ℕ → ℕ
parts_to last places = last / places + 1

-- the last place on an axis
abbrev pub last_on : ℕ → List Axis → ℕ
last_on axis axes = slice_index (whole axes).high axis

-- how many runs an axis is cut into at most, by how many axes there are
abbrev pub most_runs : ℕ → ℕ
most_runs count = if count == 2 then 16 else if count == 3 then 6 else if count == 4 then 4 else 256

-- how many places a run has on this axis: its points divided by the most runs, rounded up
abbrev pub run_on : ℕ → List Axis → ℕ
run_on axis axes = parts_to (last_on axis axes) (most_runs (length axes))

-- how many runs there are on this axis: its points divided by those of a run, rounded up
abbrev pub runs_on : ℕ → List Axis → ℕ
runs_on axis axes = parts_to (last_on axis axes) (run_on axis axes)

-- how many cells there are
abbrev pub cells_of : List Axis → ℕ
cells_of axes = runs_on 0 axes * runs_on 1 axes * runs_on 2 axes * runs_on 3 axes

-- the first place of a run
abbrev pub run_low : ℕ → List Axis → ℕ → ℕ
run_low axis axes run = run * run_on axis axes

-- the last place of a run: the last run ends with the axis
abbrev pub run_high : ℕ → List Axis → ℕ → ℕ
run_high axis axes run = min (run_low axis axes run + (run_on axis axes - 1)) (last_on axis axes)

-- the box of these four runs
abbrev pub runs_box : List Axis → ℕ → ℕ → ℕ → ℕ → BoxN
runs_box axes i j k l =
    record {
      low = run_low 0 axes i ∷ run_low 1 axes j ∷ run_low 2 axes k ∷ run_low 3 axes l ∷ [];
      high = run_high 0 axes i ∷ run_high 1 axes j ∷ run_high 2 axes k ∷ run_high 3 axes l ∷ [];
    }

-- the box of a cell: cells are numbered with the first axis outermost
abbrev pub cell_box : List Axis → ℕ → BoxN
cell_box axes cell =
    let a = runs_on 1 axes in
    let b = runs_on 2 axes in
    let c = runs_on 3 axes in
    runs_box axes (cell / c / b / a) (cell / c / b % a) (cell / c % b) (cell % c)

-- in which run of an axis a point lies
abbrev pub run_at : ℕ → List Axis → Point → ℕ
run_at axis axes point = slice_index point.at axis / run_on axis axes

-- in which cell a point lies
abbrev pub cell_at : List Axis → Point → ℕ
cell_at axes point = ((run_at 0 axes point * runs_on 1 axes + run_at 1 axes point) * runs_on 2 axes + run_at 2 axes point) * runs_on 3 axes + run_at 3 axes point
