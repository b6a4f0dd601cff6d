-- What a step of a behaviour gives: a utility or none, whether the behaviour is done, and a fault or none.
use Rattle.std.specs.Prelude.{ℕ, ◌-◌, ◌-ℤ◌, nat_abs, nat_le, Bool, true, false, ◌&&◌, if◌then◌else◌, List, ◌∷◌, codes, bytes_eq, length, is_some, Option, Some, None, unwrap_or, option_map, option_and_then}
use Rattle.std.specs.List.{list_any}
use Rattle.ivp_domain.specs.declared.axis.Axis.{Axis}
use Rattle.helm_cond.specs.Learnt.{Knowledge}
use Rattle.helm_geo.specs.declared.spot.Spot.{Spot}
use Rattle.helm_geo.specs.Angles.{bearing}
use Rattle.bhv_file.specs.declared.spec.Avoidance.{Avoidance}
use Rattle.bhv_file.specs.declared.spec.Shape.{Shape}
use Rattle.bhv_file.specs.declared.spec.Shape.TheVariants.{Heading, Speed, Depth, MaxDepth, Timer, Waypoint, Loiter, StationKeep, OpRegion, AvoidCollision}
use Rattle.bhv_file.specs.declared.spec.Spec.{Spec}
use Rattle.bhv_file.specs.Params.{axes_of}
use Rattle.bhv_file.specs.declared.out.BhvFault.{BhvFault}
use Rattle.bhv_file.specs.declared.out.BhvFault.TheVariants.{NoPosition}
use Rattle.bhv_file.specs.declared.out.Out.{Out}
use Rattle.bhv_kinds.specs.declared.situation.Situation.{Situation}
use Rattle.contact_avoid.specs.Avoids.{track_in}
use Rattle.bhv_kinds.specs.Utilities.{Utility, AtMostOn, Clear, Flat, Sum, cruise, function_of, peak_of, steer}
use Rattle.bhv_file.specs.Known.{latest_number, position_of}
use Rattle.bhv_kinds.specs.Changes.{KindStep, KindChange, Stepped, first_step, params_at}
use Rattle.bhv_kinds.specs.Targets.{captures, headway_at, is_last, spot_at, target_number, vertex_at}
use Rattle.bhv_kinds.specs.Stations.{centre_at, distance_of, return_speed}
use Rattle.bhv_kinds.specs.Regions.{depth_fault, late_fault, outside_fault, region_fault}

-- what a step gives
pub record Given : Type 0 where
  pub utility : Option Utility
  pub done : Bool
  pub fault : Option BhvFault

-- a utility or none, and nothing else
abbrev pub gives : Option Utility → Given
gives utility = record { utility = utility; done = false; fault = None }

-- a fault or none, and nothing else
abbrev pub raises : Option BhvFault → Given
raises fault = record { utility = None; done = false; fault = fault }

-- the behaviour is done, and there is nothing to go to
abbrev pub all_done : Given
all_done = record { utility = None; done = true; fault = None }

-- to go to a place at a speed from here; none at the very place
abbrev pub towards : ℕ → Spot → Spot → Option Utility
towards speed place here = option_map (λ degree. Sum (steer degree) (cruise speed)) (bearing (place.x -ℤ here.x) (place.y -ℤ here.y))

-- what a position gives; if it isn't known, there is a fault
abbrev pub given_here : (Spot → Option Utility) → Option Spot → Given
given_here utility None = raises (Some NoPosition)
given_here utility (Some here) = gives (utility here)

-- to stay within the inner radius of a station, or to go back to it
abbrev pub keeping : ℕ → ℕ → ℕ → Spot → Spot → Option Utility
keeping inner outer speed station here =
    let distance = distance_of here station in
    if nat_le distance inner then Some (Sum (Flat 0) (cruise 0)) else towards (return_speed inner outer speed distance) station here

-- to go to the place of this number, if there is one
abbrev pub towards_number : ℕ → List Spot → Option ℕ → Spot → Option Utility
towards_number speed places number here = option_and_then (λ n. towards speed (spot_at places n) here) number

-- to keep this station, if there is one
abbrev pub keeping_station : ℕ → ℕ → ℕ → Option Spot → Spot → Option Utility
keeping_station inner outer speed station here = option_and_then (λ spot. keeping inner outer speed spot here) station

-- to keep clear of a contact, if it is known how that moves
abbrev pub keeping_clear : Avoidance → Spot → Option Utility
keeping_clear avoidance here = option_map (Clear avoidance here) (track_in avoidance)

-- what a step of a type gives by what it finds, and by what is known
abbrev pub gives_by_type : Shape → Knowledge → Situation → Given
gives_by_type (Heading summit peak base delta) known found = gives (Some (peak_of (codes "course") summit peak base delta 100000))
gives_by_type (Speed summit peak base delta) known found = gives (Some (peak_of (codes "speed") summit peak base delta 100000))
gives_by_type (Depth summit peak base delta) known found = gives (Some (peak_of (codes "depth") summit peak base delta 100000))
gives_by_type (MaxDepth depth base) known found = gives (Some (AtMostOn (codes "depth") depth (nat_abs base) 100000))
gives_by_type Timer known found = gives None
gives_by_type (Waypoint points speed capture slip reverse repeat) known found =
    if found.finished then all_done else given_here (towards_number (nat_abs speed) points (Some (target_number (length points) reverse found.captured))) found.here
gives_by_type (Loiter polygon speed capture slip clockwise) known found = given_here (towards_number (nat_abs speed) polygon found.vertex) found.here
gives_by_type (StationKeep point anew inner outer speed) known found =
    given_here (keeping_station (nat_abs inner) (nat_abs outer) (nat_abs speed) (if anew then found.centre else point)) found.here
gives_by_type (OpRegion polygon depth time) known found =
    raises (region_fault (outside_fault polygon found.here) (depth_fault depth (latest_number known (codes "NAV_DEPTH"))) (late_fault time found.time))
gives_by_type (AvoidCollision avoidance) known found = if avoidance.resolved then all_done else given_here (keeping_clear avoidance) found.here

-- a step behind these changes captures the last target for the last time
abbrev pub finishes_at : Spec → List KindChange → KindStep → Bool
finishes_at spec past step = is_last (params_at spec past).shape (headway_at spec past) && captures spec past (headway_at spec past) step

-- what a step behind these changes finds
abbrev pub situation_at : Spec → List KindChange → KindStep → Situation
situation_at spec past step = record {
  here = position_of step.known;
  finished = finishes_at spec past step;
  captured = (headway_at spec (Stepped step ∷ past)).captured;
  vertex = vertex_at spec (Stepped step ∷ past);
  centre = centre_at (Stepped step ∷ past);
  time = step.stamp - unwrap_or (first_step past) step.stamp;
}

-- What a step gives after these changes, by the parameters that hold then.
abbrev pub gives_at : Spec → List KindChange → KindStep → Given
gives_at spec past step = gives_by_type (params_at spec past).shape step.known (situation_at spec past step)

-- a name is among these
abbrev pub is_named : List (List ℕ) → List ℕ → Bool
is_named names name = list_any (bytes_eq name) names

-- what is given, with the function over a domain in the utility's place; if there is a function, it mentions those of course,
-- speed and depth that are among these names
abbrev pub out_of : List Axis → List (List ℕ) → Given → Out
out_of axes names given = record {
  func = option_map (function_of axes) given.utility;
  course = is_some given.utility && is_named names (codes "course");
  speed = is_some given.utility && is_named names (codes "speed");
  depth = is_some given.utility && is_named names (codes "depth");
  done = given.done;
  fault = given.fault;
}

-- What a step gives over its domain: a function mentions the axes that its type needs.
abbrev pub out_at : Spec → List KindChange → KindStep → Out
out_at spec past step = out_of step.axes (axes_of (params_at spec past).shape) (gives_at spec past step)
