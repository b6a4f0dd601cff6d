-- Operating regions: what is wrong with where and when the vehicle is.
use Rattle.std.specs.Prelude.{ℕ, ℤ, nat_le, int_lt, Bool, not, if◌then◌else◌, List, Option, Some, None}
use Rattle.std.specs.Option.{option_or}
use Rattle.helm_geo.specs.declared.spot.Spot.{Spot}
use Rattle.helm_geo.specs.Polygons.{inside}
use Rattle.bhv_file.specs.declared.out.BhvFault.{BhvFault}
use Rattle.bhv_file.specs.declared.out.BhvFault.TheVariants.{NoPosition, OutsidePolygon, TooDeep, TooLate}

-- the fault, if the test says so
abbrev pub fault_if : Bool → BhvFault → Option BhvFault
fault_if wrong fault = if wrong then Some fault else None

-- the fault of a position against a polygon, if there is one
abbrev pub outside_fault : Option (List Spot) → Option Spot → Option BhvFault
outside_fault None here = None
outside_fault (Some polygon) None = Some NoPosition
outside_fault (Some polygon) (Some here) = fault_if (not (inside polygon here)) OutsidePolygon

-- the fault of a depth against the greatest one, if both are known
abbrev pub depth_fault : Option ℤ → Option ℤ → Option BhvFault
depth_fault (Some limit) (Some depth) = fault_if (int_lt limit depth) TooDeep
depth_fault limit depth = None

-- the fault of the time since the first step against the longest one, if there is one
abbrev pub late_fault : Option ℕ → ℕ → Option BhvFault
late_fault None time = None
late_fault (Some limit) time = fault_if (nat_le limit time) TooLate

-- The first fault of an operating region: of the position, then of the depth, then of the time.
abbrev pub region_fault : Option BhvFault → Option BhvFault → Option BhvFault → Option BhvFault
region_fault outside deep late = option_or outside (option_or deep late)
