-- Axes by their names.
use Rattle.std.specs.Prelude.{ℕ, List, bytes_eq, slice_index}
use Rattle.std.specs.List.{position_or_len}
use Rattle.ivp_domain.specs.declared.axis.Axis.{Axis}
use Rattle.ivp_domain.specs.declared.boxes.Point.{Point}
use Rattle.ivp_build.specs.Places.{axis_on}

-- the number of the axis of this name; the number of axes if there is none
abbrev pub axis_number : List Axis → List ℕ → ℕ
axis_number axes name = position_or_len (λ axis. bytes_eq axis.name name) axes

-- the axis of this name; `no_axis` if there is none
abbrev pub named_axis : List Axis → List ℕ → Axis
named_axis axes name = axis_on axes (axis_number axes name)

-- the place of a point on the axis of this name; what the point has behind its last axis if there is none
abbrev pub place_on : List Axis → List ℕ → Point → ℕ
place_on axes name point = slice_index point.at (axis_number axes name)
