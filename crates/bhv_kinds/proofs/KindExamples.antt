-- Updates and steps on worked examples.
use Rattle.std.proofs.Common.{◌≡◌, ℕ, true, false, Some, None, pos, List, [], ◌∷◌, refl, sym, subst, arith}
use Rattle.std.specs.Prelude.{Bool, codes, is_some, Option, bytes_eq, if◌then◌else◌, ◌*◌}
use Rattle.moos_post.specs.declared.value.Value.TheVariants.{Num, Text}
use Rattle.helm_cond.specs.Learnt.{Knowledge}
use Rattle.helm_geo.specs.declared.spot.Spot.{Spot}
use Rattle.bhv_file.specs.declared.spec.Shape.{Shape}
use Rattle.bhv_file.specs.declared.spec.Shape.TheVariants.{Heading, Speed, Depth, MaxDepth, Timer, Waypoint, Loiter, StationKeep, OpRegion, AvoidCollision}
use Rattle.bhv_file.specs.declared.spec.Spec.{Spec}
use Rattle.bhv_file.specs.Params.{has_axes, has_axis}
use Rattle.bhv_file.specs.Validity.{IsValidSpec}
use Rattle.ivp_domain.specs.declared.axis.Axis.{Axis}
use Rattle.std.proofs.lemmas.Bool.{and_from}
use Rattle.bhv_file.specs.Updates.{gives_places, updated}
use Rattle.bhv_file.specs.Known.{position_of}
use Rattle.bhv_kinds.specs.Changes.{KindChange, Stepped, Updated, first_step, params_at}
use Rattle.bhv_kinds.specs.declared.waypoint.Headway.{Headway}
use Rattle.bhv_kinds.specs.Targets.{first_headway, headway_at, vertex_at}
use Rattle.bhv_kinds.specs.Stations.{centre_at}

abbrev spot : ℕ → ℕ → Spot
spot x y = record { x = pos (x * 1000); y = pos (y * 1000) }

abbrev spec : Shape → Spec
spec shape = record { weight = 100000; shape = shape }

-- a vehicle at a place in thousandths, and one whose north isn't a number
abbrev ship_at : ℕ → ℕ → Knowledge
ship_at x y var = if bytes_eq var (codes "NAV_X") then Some (Num (pos x)) else if bytes_eq var (codes "NAV_Y") then Some (Num (pos y)) else None

abbrev ship_lost : Knowledge
ship_lost var = if bytes_eq var (codes "NAV_X") then Some (Num (pos 1)) else if bytes_eq var (codes "NAV_Y") then Some (Text (codes "4")) else None

abbrev step : Knowledge → Bool → KindChange
step known fresh = Stepped (record { axes = []; known = known; stamp = 7000; fresh = fresh })

-- a step at (x, 0), one without a position, and a fresh one
abbrev at : ℕ → KindChange
at x = step (ship_at x 0) false

abbrev lost : KindChange
lost = step ship_lost false

abbrev fresh : ℕ → ℕ → KindChange
fresh x y = step (ship_at x y) true

-- a waypoint behaviour of these points and repeats: capture at 3, slip at 5
abbrev waypoint : List Spot → Option ℕ → Spec
waypoint points repeat = spec (Waypoint points (pos 2000) (pos 3000) (pos 5000) false repeat)

abbrev two : Spec
two = waypoint (spot 10 0 ∷ spot 12 0 ∷ []) (Some 0)

abbrev come : ℕ → ℕ → Headway
come captured again = record { captured = captured; again = again }

-- An update is refused as a whole, or all its pairs are taken. It is cut at each `#`, and a weight counts thousandths.
whole : (updated [] two (codes "speed=1 # radius=abc") ≡ None) × (updated [] two (codes "speed=1 # radius=4") ≡ Some (spec (Waypoint (spot 10 0 ∷ spot 12 0 ∷ []) (pos 1000) (pos 4000) (pos 5000) false (Some 0))))
    × (updated [] two (codes "Speed") ≡ None) × (updated [] two (codes "speed=1#") ≡ None) × (updated [] two (codes "heading=4") ≡ None) × (updated [] two (codes "PWT = 7.9") ≡ Some (record { weight = 7900; shape = two.shape }))
    × (updated [] (spec Timer) (codes "duration=4") ≡ None)
whole = (refl, refl, refl, refl, refl, refl, refl)

refused : params_at two (Updated [] (codes "speed=1 # radius=abc") ∷ []) ≡ two
refused = refl

-- the relations are judged after all pairs
abbrev pub station : Bool → Option Spot → Spec
station anew point = spec (StationKeep point anew (pos 4000) (pos 15000) (pos 1200))

relations : (updated [] (station true None) (codes "inner_radius=15") ≡ None) × (is_some (updated [] (station true None) (codes "inner_radius=20#outer_radius=30")) ≡ true)
    × (updated [] (station true None) (codes "center_activate=false") ≡ None) × (is_some (updated [] (station true None) (codes "center_activate=false#point=1,2")) ≡ true)
relations = (refl, refl, refl, refl)

-- a good update that names a list gives it anew, also where it is the same
anew : (gives_places [] two (codes "Polygon=10,0:12,0") ≡ true) × (gives_places [] two (codes "order=reverse") ≡ false) × (gives_places [] two (codes "points=10,0#speed=x") ≡ false)
anew = (refl, refl, refl)

-- captured exactly at the radius, and not beyond it; one target a step
captured : (headway_at two (at 7000 ∷ []) ≡ come 1 0) × (headway_at two (at 6999 ∷ []) ≡ first_headway) × (headway_at two (at 11000 ∷ []) ≡ come 1 0)
captured = (refl, refl, refl)

-- slipped past from exactly the slip radius, not from beyond it, and not where it is as far as before
slipped : (headway_at two (at 4999 ∷ at 5000 ∷ []) ≡ come 1 0) × (headway_at two (at 4998 ∷ at 4999 ∷ []) ≡ first_headway) × (headway_at two (at 5000 ∷ at 5000 ∷ []) ≡ first_headway)
slipped = (refl, refl, refl)

-- after a capture the next target may be slipped past in the step after
apart : headway_at (waypoint (spot 10 0 ∷ spot 16 0 ∷ spot 90 0 ∷ []) (Some 0)) (at 10900 ∷ at 11000 ∷ []) ≡ come 2 0
apart = refl

-- not after a step without a position, nor after an update of the points, but after one of the speed or one refused
not_slipped : (headway_at two (at 4000 ∷ lost ∷ at 5000 ∷ []) ≡ first_headway) × (headway_at two (at 4000 ∷ Updated [] (codes "points=10,0:12,0") ∷ at 5000 ∷ []) ≡ first_headway)
    × (headway_at two (at 4000 ∷ Updated [] (codes "speed=1") ∷ at 5000 ∷ []) ≡ come 1 0) × (headway_at two (at 4000 ∷ Updated [] (codes "points=10,0:12,0#speed=x") ∷ at 5000 ∷ []) ≡ come 1 0)
not_slipped = (refl, refl, refl, refl)

-- a list of one point begins again as often as it may and then anew; for ever it goes on counting; an update keeps the repeats
abbrev one : Option ℕ → Spec
one repeat = waypoint (spot 10 0 ∷ []) repeat

repeated : (headway_at (one (Some 1)) (at 10000 ∷ []) ≡ come 0 1) × (headway_at (one (Some 1)) (at 10000 ∷ at 10000 ∷ []) ≡ come 0 0) × (headway_at (one None) (at 10000 ∷ at 10000 ∷ []) ≡ come 0 2)
    × (headway_at (one (Some 1)) (Updated [] (codes "points=10,0:20,0") ∷ at 10000 ∷ []) ≡ come 0 1)
repeated = (refl, refl, refl, refl)

-- a loiter behaviour on a square that is listed counterclockwise: the nearest vertex, then the one before it in the list
abbrev square : List Spot
square = spot 0 0 ∷ spot 40 0 ∷ spot 40 40 ∷ spot 0 40 ∷ []

abbrev loiter : Bool → Spec
loiter clockwise = spec (Loiter square (pos 2000) (pos 3000) (pos 5000) clockwise)

loitering : (vertex_at (loiter true) (fresh 30000 30000 ∷ []) ≡ Some 2) × (vertex_at (loiter true) (fresh 40000 37000 ∷ []) ≡ Some 1) × (vertex_at (loiter false) (fresh 40000 37000 ∷ []) ≡ Some 3)
    × (vertex_at (loiter true) (fresh 20000 20000 ∷ []) ≡ Some 0) × (vertex_at (loiter true) (fresh 0 0 ∷ []) ≡ Some 3) × (vertex_at (loiter false) (fresh 0 40000 ∷ []) ≡ Some 0)
loitering = (refl, refl, refl, refl, refl, refl)

-- chosen anew when it is fresh or has a new polygon, and else kept; a fresh step with no position leaves the choice to the next
chosen : (vertex_at (loiter true) (step (ship_at 0 9000) false ∷ fresh 40000 30000 ∷ []) ≡ Some 2) × (vertex_at (loiter true) (fresh 0 9000 ∷ fresh 40000 30000 ∷ []) ≡ Some 0)
    × (vertex_at (loiter true) (step (ship_at 0 9000) false ∷ Updated [] (codes "polygon=0,0:40,0:40,40") ∷ fresh 40000 30000 ∷ []) ≡ Some 0)
    × (vertex_at (loiter true) (step (ship_at 0 9000) false ∷ step ship_lost true ∷ fresh 40000 30000 ∷ []) ≡ Some 0)
chosen = (refl, refl, refl, refl)

-- slipped past, also where the same vertex was chosen anew
passed : (vertex_at (loiter true) (step (ship_at 35000 34000) false ∷ fresh 35000 40000 ∷ []) ≡ Some 1) × (vertex_at (loiter true) (fresh 35000 34000 ∷ fresh 35000 40000 ∷ []) ≡ Some 1)
    × (vertex_at (loiter true) (fresh 35000 34000 ∷ fresh 34000 40000 ∷ []) ≡ Some 2)
passed = (refl, refl, refl)

-- the centre is the first known position since the last fresh step
centred : (centre_at (at 9 ∷ at 8 ∷ step ship_lost true ∷ at 7 ∷ []) ≡ position_of (ship_at 8 0)) × (centre_at (at 9 ∷ fresh 8 0 ∷ []) ≡ position_of (ship_at 8 0)) × (centre_at (lost ∷ []) ≡ None)
centred = (refl, refl, refl)

-- the first step of all, fresh or not
first : first_step (Stepped (record { axes = []; known = ship_lost; stamp = 9; fresh = true }) ∷ Updated [] (codes "speed=1") ∷ lost ∷ []) ≡ Some 7000
first = refl

-- a station that is taken anew has valid parameters
pub station_valid : IsValidSpec (station true None)
station_valid = record { ranges = record { weight = omega arith; parameters = (tt, refl, refl, refl) }; given = refl; relations = refl }

-- so have behaviours of the other types, as they are where nothing but their number is given
pub course_valid : IsValidSpec (spec (Heading (pos 0) (pos 90000) (pos 90000) (pos 25000)))
course_valid = record { ranges = record { weight = omega arith; parameters = (refl, refl, refl, refl) }; given = refl; relations = refl }

pub speed_valid : IsValidSpec (spec (Speed (pos 0) (pos 1000) (pos 1000) (pos 25000)))
speed_valid = record { ranges = record { weight = omega arith; parameters = (refl, refl, refl, refl) }; given = refl; relations = refl }

pub depth_valid : IsValidSpec (spec (Depth (pos 0) (pos 10000) (pos 10000) (pos 25000)))
depth_valid = record { ranges = record { weight = omega arith; parameters = (refl, refl, refl, refl) }; given = refl; relations = refl }

pub limit_valid : IsValidSpec (spec (MaxDepth (pos 0) (pos 20000)))
limit_valid = record { ranges = record { weight = omega arith; parameters = (refl, refl) }; given = refl; relations = refl }

pub timer_valid : IsValidSpec (spec Timer)
timer_valid = record { ranges = record { weight = omega arith; parameters = tt }; given = refl; relations = refl }

pub region_valid : IsValidSpec (spec (OpRegion None None None))
region_valid = record { ranges = record { weight = omega arith; parameters = (tt, tt, tt) }; given = refl; relations = refl }

-- a domain of course, speed and depth has the axes of each type
pub three_axes : (axes : List Axis) (shape : Shape) → has_axis axes (codes "course") ≡ true → has_axis axes (codes "speed") ≡ true → has_axis axes (codes "depth") ≡ true → has_axes axes shape ≡ true
three_axes axes (Heading a b c d) course speed depth = and_from _ _ course refl
three_axes axes (Speed a b c d) course speed depth = and_from _ _ speed refl
three_axes axes (Depth a b c d) course speed depth = and_from _ _ depth refl
three_axes axes (MaxDepth a b) course speed depth = and_from _ _ depth refl
three_axes axes Timer course speed depth = refl
three_axes axes (Waypoint a b c d e f) course speed depth = and_from _ _ course (and_from _ _ speed refl)
three_axes axes (Loiter a b c d e) course speed depth = and_from _ _ course (and_from _ _ speed refl)
three_axes axes (StationKeep a b c d e) course speed depth = and_from _ _ course (and_from _ _ speed refl)
three_axes axes (OpRegion a b c) course speed depth = refl
three_axes axes (AvoidCollision a) course speed depth = and_from _ _ course (and_from _ _ speed refl)

-- a list of one point, and a polygon that is a square
pub waypoint_valid : (points : List Spot) → points ≡ record { x = pos 0; y = pos 0 } ∷ [] → IsValidSpec (spec (Waypoint points (pos 1000) (pos 10000) (pos 15000) false (Some 1)))
waypoint_valid points is = subst (λ (p : List Spot). IsValidSpec (spec (Waypoint p (pos 1000) (pos 10000) (pos 15000) false (Some 1)))) (sym is) (record { ranges = record { weight = omega arith; parameters = (refl, refl, refl, refl, omega arith) }; given = refl; relations = refl })

pub loiter_valid : (polygon : List Spot) → polygon ≡ spot 0 0 ∷ spot 100 0 ∷ spot 100 100 ∷ spot 0 100 ∷ [] → IsValidSpec (spec (Loiter polygon (pos 1000) (pos 10000) (pos 20000) true))
loiter_valid polygon is = subst (λ (p : List Spot). IsValidSpec (spec (Loiter p (pos 1000) (pos 10000) (pos 20000) true))) (sym is) (record { ranges = record { weight = omega arith; parameters = (refl, refl, refl, refl) }; given = refl; relations = refl })
