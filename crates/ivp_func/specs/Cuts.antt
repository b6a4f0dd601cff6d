-- What axes keep that were cut into cells.
use Rattle.std.specs.Prelude.{◌≡◌, ℕ, suc, ◌+◌, ◌/◌, ◌^◌, ◌<◌, ◌≤◌, List, [], ◌∷◌, length, map, take}
use Rattle.ivp_domain.specs.declared.axis.Axis.{Axis}
use Rattle.ivp_domain.specs.Axes.{no_axis}
use Rattle.ivp_domain.specs.Domains.{size_of, size_on, whole}
use Rattle.ivp_func.specs.Grids.{run_on, runs_on}

-- an axis of which only its last place is known
abbrev pub axis_to : ℕ → Axis
axis_to last = record no_axis { points = suc last }

-- `count` axes, each up to its last place
abbrev pub axes_to : ℕ → List ℕ → List Axis
axes_to count last = take count (map axis_to last)

-- `count` axes can be cut: past their number the last place is 0, and there are at most 2^28 points
pub record CanBeCut (count : ℕ) (last : List ℕ) : Type 0 where
  pub counted : length (axes_to count last) ≡ count
  pub ends : last ≡ (whole (axes_to count last)).high
  pub few : size_of (axes_to count last) ≤ 2 ^ 28

-- each axis has a place, and there are at most 2^28 points
pub record HaveFewPoints (axes : List Axis) : Type 0 where
  pub some : (axis : ℕ) → 0 < size_on axis axes
  pub few : size_of axes ≤ 2 ^ 28

-- the reciprocal of a number of places, in units of 2^-54 and above it by one of them at most
abbrev pub reciprocal_of : ℕ → ℕ
reciprocal_of places = 2 ^ 54 / places + 1

-- the last place, the places of a run, the reciprocal of their number and the number of runs, on each axis
pub record AreCuts (axes : List Axis) (last run runs reciprocals : List ℕ) : Type 0 where
  pub points : HaveFewPoints axes
  pub ends : last ≡ (whole axes).high
  pub places : run ≡ run_on 0 axes ∷ run_on 1 axes ∷ run_on 2 axes ∷ run_on 3 axes ∷ []
  pub count : runs ≡ runs_on 0 axes ∷ runs_on 1 axes ∷ runs_on 2 axes ∷ runs_on 3 axes ∷ []
  pub reciprocal : reciprocals ≡ reciprocal_of (run_on 0 axes) ∷ reciprocal_of (run_on 1 axes) ∷ reciprocal_of (run_on 2 axes) ∷ reciprocal_of (run_on 3 axes) ∷ []
