-- An operating region that is left, and any other fault, stops the vehicle in that very iteration, and is told there.
use Rattle.std.specs.Prelude.{◌≡◌, ◌-◌, ℕ, ℤ, nat_le, true, false, List, codes, Option, Some, None, slice_get, int_lt}
use Rattle.ivp_domain.specs.declared.axis.Axis.{Axis}
use Rattle.bhv_file.specs.declared.out.BhvFault.{BhvFault}
use Rattle.bhv_file.specs.declared.out.BhvFault.TheVariants.{NoPosition, OutsidePolygon}
use Rattle.bhv_file.specs.declared.spec.Shape.TheVariants.{OpRegion}
use Rattle.bhv_file.specs.Known.{latest_number, position_of}
use Rattle.bhv_kinds.specs.Changes.{first_step, params_at}
use Rattle.bhv_life.specs.Lives.{is_stepped}
use Rattle.helm_geo.specs.declared.spot.Spot.{Spot}
use Rattle.helm_geo.specs.Polygons.{inside}
use Rattle.helm_core.specs.Behaviors.{BhvSoFar, begun_at, beginning_at, has_fault, judged_at, past_so_far}
use Rattle.helm_core.specs.Iterations.{error_of, iteration_at}
use Rattle.helm_core.specs.Lists.{list_at}
use Rattle.helm_core.specs.PastIterations.{past_iteration_at}
use Rattle.helm_core.specs.Plans.{Plan}
use Rattle.helm_core.specs.Posts.{allstop_of}
use Rattle.helm_core.specs.Ticks.{Seen, Tick, seen_at}
use Rattle.helm_laws.specs.Said.{DecidesNothing}

-- iteration i tells a fault of this behaviour, with its name, says that this is why the vehicle must stop, and decides nothing
pub record StopsForFault (plan : Plan) (ticks : List Tick) (i : ℕ) (one : BhvSoFar) : Type 0 where
  pub fault : BhvFault
  pub raised : (begun_at plan.axes (seen_at plan.decls ticks i) one).out.fault ≡ Some fault
  pub at : ℕ
  pub told : slice_get (iteration_at plan ticks i).faults at ≡ Some (error_of one.name fault)
  pub reason : allstop_of plan (past_iteration_at plan ticks i) ≡ codes "BehaviorError"
  pub nothing : DecidesNothing plan ticks i

-- If a behaviour of the list raises a fault, the vehicle stops for it in that very iteration.
abbrev pub FaultStops : Plan → Type 0
FaultStops plan = (ticks : List Tick) (i place : ℕ) (one : BhvSoFar) → slice_get (list_at plan ticks i) place ≡ Some one
    → has_fault (begun_at plan.axes (seen_at plan.decls ticks i) one) ≡ true → StopsForFault plan ticks i one

-- the behaviour is stepped, and after its updates it is an operating region with this polygon, greatest depth and longest time
pub record IsRegion (axes : List Axis) (seen : Seen) (one : BhvSoFar) (polygon : Option (List Spot)) (depth : Option ℤ) (time : Option ℕ) : Type 0 where
  pub stepped : is_stepped one.block.common (past_so_far one) (beginning_at seen one.block.common) ≡ true
  pub shape : (params_at one.block.spec (judged_at axes seen one).changes).shape ≡ OpRegion polygon depth time

-- An operating region with a polygon raises a fault if the position isn't known, whatever its weight is.
abbrev pub LosingFaults : Type 0
LosingFaults = (axes : List Axis) (seen : Seen) (one : BhvSoFar) (polygon : List Spot) (depth : Option ℤ) (time : Option ℕ) → IsRegion axes seen one (Some polygon) depth time
    → position_of seen.known ≡ None → (begun_at axes seen one).out.fault ≡ Some NoPosition

-- It does if the position is outside the polygon.
abbrev pub LeavingFaults : Type 0
LeavingFaults = (axes : List Axis) (seen : Seen) (one : BhvSoFar) (polygon : List Spot) (depth : Option ℤ) (time : Option ℕ) (here : Spot) → IsRegion axes seen one (Some polygon) depth time
    → position_of seen.known ≡ Some here → inside polygon here ≡ false → (begun_at axes seen one).out.fault ≡ Some OutsidePolygon

-- One with a greatest depth does if the depth is known to be greater; the fault is another one if the position was wrong already.
abbrev pub SinkingFaults : Type 0
SinkingFaults = (axes : List Axis) (seen : Seen) (one : BhvSoFar) (polygon : Option (List Spot)) (limit deep : ℤ) (time : Option ℕ) → IsRegion axes seen one polygon (Some limit) time
    → latest_number seen.known (codes "NAV_DEPTH") ≡ Some deep → int_lt limit deep ≡ true → has_fault (begun_at axes seen one) ≡ true

-- One with a longest time does once the time since its first step has reached that, if no other fault comes first.
abbrev pub LatenessFaults : Type 0
LatenessFaults = (axes : List Axis) (seen : Seen) (one : BhvSoFar) (polygon : Option (List Spot)) (depth : Option ℤ) (limit first : ℕ) → IsRegion axes seen one polygon depth (Some limit)
    → first_step (judged_at axes seen one).changes ≡ Some first → nat_le limit (seen.stamp - first) ≡ true → has_fault (begun_at axes seen one) ≡ true
