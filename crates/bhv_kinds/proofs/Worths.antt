-- Each step gives a utility that fits the domain, and the pieces of one that fits are worth what it says.
use Rattle.std.proofs.Common.{◌≡◌, ◌-◌, ◌-ℤ◌, ◌*◌, ◌/◌, ◌<◌, ◌≤◌, ◌^◌, ℕ, zero, suc, ℤ, pos, nat_abs, Bool, true, false, ◌&&◌, Option, Some, None, List, length, codes, refl, sym, ap, ◌∙◌, subst, arith}
use Rattle.std.specs.Prelude.{IfSome, if◌then◌else◌, int_lt, nat_le, option_map}
use Rattle.std.proofs.lemmas.Bool.{and_parts}
use Rattle.std.proofs.lemmas.Bool.Decides.{nat_tests}
use Rattle.std.proofs.lemmas.Int.{ints}
use Rattle.std.proofs.Math.Nat.{div-le_of_le-mul, mul-le-mul}
use Rattle.ivp_domain.specs.declared.axis.Axis.{Axis}
use Rattle.ivp_domain.specs.Domains.{is_domain}
use Rattle.ivp_build.specs.Shapes.{IsPeak}
use Rattle.ivp_build.specs.Worths.{AreWorth, ShapesAreWorth}
use Rattle.helm_cond.specs.Learnt.{Knowledge}
use Rattle.helm_geo.specs.declared.spot.Spot.{Spot}
use Rattle.helm_geo.specs.Angles.{along, farthest}
use Rattle.bhv_file.specs.declared.spec.Shape.{Shape}
use Rattle.bhv_file.specs.declared.spec.Shape.TheVariants.{Heading, Speed, Depth, MaxDepth, Timer, Waypoint, Loiter, StationKeep, OpRegion, AvoidCollision}
use Rattle.bhv_file.specs.declared.spec.Spec.{Spec}
use Rattle.bhv_file.specs.Params.{axes_of, has_axes, has_axis}
use Rattle.bhv_file.specs.Ranges.{InRanges}
use Rattle.bhv_file.specs.Values.{is_piece_size, lies_between}
use Rattle.ivp_func.specs.Functions.{Function}
use Rattle.bhv_file.specs.declared.out.Out.{Out}
use Rattle.contact_avoid.specs.declared.motion.Track.{Track}
use Rattle.contact_avoid.specs.Avoids.{track_in}
use Rattle.contact_avoid.proofs.Sampled.{clearance_worth}
use Rattle.bhv_kinds.specs.declared.situation.Situation.{Situation}
use Rattle.std.specs.Ordering.{int_eq}
use Rattle.bhv_kinds.specs.Giving.{Given, all_done, given_here, gives_by_type, gives_at, keeping, keeping_clear, keeping_station, out_of, situation_at, towards, towards_number}
use Rattle.bhv_kinds.specs.Stations.{distance_of, return_speed}
use Rattle.bhv_kinds.specs.Targets.{spot_at, target_number}
use Rattle.bhv_file.specs.Named.{axis_number}
use Rattle.bhv_kinds.specs.Utilities.{Utility, AtMostOn, Clear, Flat, PeakOn, Sum, cruise, function_of, steer, utility_pieces, worth_at}
use Rattle.bhv_kinds.specs.Worths.{IsWorth, StepsAreWorth}
use Rattle.bhv_kinds.specs.Changes.{params_at}
use Rattle.bhv_kinds.proofs.Lasting.{params_axes, params_valid}
use Rattle.std.specs.List.{list_all}
use Rattle.bhv_file.proofs.Named.{named_at}
use Rattle.bhv_kinds.proofs.Peaks.{peak_between, width_between}

-- a utility that fits a domain: the domain has the axes that it names, and its numbers are within their bounds
abbrev pub FitsOn : List Axis → Utility → Type 0
FitsOn axes (Flat value) = Unit {0}
FitsOn axes (PeakOn name peak) = (has_axis axes name ≡ true) × IsPeak peak
FitsOn axes (AtMostOn name limit basewidth max) = (has_axis axes name ≡ true) × (basewidth ≤ 10 ^ 12) × (max ≤ 100000)
FitsOn axes (Sum one other) = FitsOn axes one × FitsOn axes other
FitsOn axes (Clear avoidance here track) = 0 < avoidance.piece_size

-- its pieces are worth what it says
pub fits_worth : ShapesAreWorth → (axes : List Axis) → is_domain axes ≡ true → (utility : Utility) → FitsOn axes utility → AreWorth axes (utility_pieces axes utility) (worth_at axes utility)
fits_worth law axes lawful (Flat value) fits = law.flat axes value
fits_worth law axes lawful (PeakOn name peak) fits = law.peak axes (axis_number axes name) peak lawful (named_at axes name fits.0).1 fits.1
fits_worth law axes lawful (AtMostOn name limit basewidth max) fits = law.at_most axes (axis_number axes name) limit basewidth max lawful (named_at axes name fits.0).1 fits.1 fits.2
fits_worth law axes lawful (Sum one other) fits =
    law.couple axes (utility_pieces axes one) (utility_pieces axes other) (worth_at axes one) (worth_at axes other) (fits_worth law axes lawful one fits.0) (fits_worth law axes lawful other fits.1)
fits_worth law axes lawful (Clear avoidance here track) fits = clearance_worth axes avoidance here track lawful fits

-- so is the function of what a step gives, where that fits
pub given_worth : ShapesAreWorth → (axes : List Axis) → is_domain axes ≡ true → (utility : Option Utility) → IfSome utility (FitsOn axes) → IsWorth axes utility (option_map (function_of axes) utility)
given_worth law axes lawful None fits = tt
given_worth law axes lawful (Some utility) fits = (refl, fits_worth law axes lawful utility fits)

-- a bearing is below 360 degrees
farthest_below : (dx dy : ℤ) (count : ℕ) → farthest dx dy (suc count) < suc count
unfolding farthest
farthest_below dx dy zero = by (int_lt (along dx dy (farthest dx dy 0)) (along dx dy 0))
  where
    by : (b : Bool) → (if b then 0 else 0) < 1
    by true = omega arith
    by false = omega arith
farthest_below dx dy (suc count) = by (int_lt (along dx dy (farthest dx dy (suc count))) (along dx dy (suc count))) (farthest_below dx dy count)
  where
    by : (b : Bool) → farthest dx dy (suc count) < suc count → (if b then suc count else farthest dx dy (suc count)) < suc (suc count)
    by true rest = omega arith
    by false rest = omega (arith, rest)

-- peaks of 50 about a course and a speed
steer_peak : (degree : ℕ) → degree < 360 → IsPeak (record { summit = pos (degree * 1000); peakwidth = pos 20000; basewidth = pos 160000; summitdelta = pos 12500; max = pos 50000 })
steer_peak degree below = record {
  summit = grind (arith, nat_tests, ints);
  peakwidth = (omega (arith, ints), omega (arith, ints));
  basewidth = (omega (arith, ints), omega (arith, ints));
  some = omega (arith, ints);
  within = omega (arith, ints);
  most = omega (arith, ints);
}

cruise_peak : (speed : ℕ) → speed ≤ 10 ^ 6 → IsPeak (record { summit = pos speed; peakwidth = pos 500; basewidth = pos 2000; summitdelta = pos 12500; max = pos 50000 })
cruise_peak speed few = record {
  summit = grind (arith, nat_tests, ints);
  peakwidth = (omega (arith, ints), omega (arith, ints));
  basewidth = (omega (arith, ints), omega (arith, ints));
  some = omega (arith, ints);
  within = omega (arith, ints);
  most = omega (arith, ints);
}

-- the domain has the axes to go somewhere
abbrev Goes : List Axis → Type 0
Goes axes = (has_axis axes (codes "course") ≡ true) × (has_axis axes (codes "speed") ≡ true)

towards_fits : (axes : List Axis) (speed : ℕ) (place here : Spot) → Goes axes → speed ≤ 10 ^ 6 → IfSome (towards speed place here) (FitsOn axes)
towards_fits axes speed place here goes few = by (int_eq (place.x -ℤ here.x) (pos 0) && int_eq (place.y -ℤ here.y) (pos 0))
  where
    by : (b : Bool) → IfSome (option_map (λ degree. Sum (steer degree) (cruise speed)) (if b then None else Some (farthest (place.x -ℤ here.x) (place.y -ℤ here.y) 360))) (FitsOn axes)
    by true = tt
    by false = ((goes.0, steer_peak (farthest (place.x -ℤ here.x) (place.y -ℤ here.y) 360) (farthest_below (place.x -ℤ here.x) (place.y -ℤ here.y) 359)), (goes.1, cruise_peak speed few))

number_fits : (axes : List Axis) (speed : ℕ) (places : List Spot) (number : Option ℕ) (here : Spot) → Goes axes → speed ≤ 10 ^ 6 → IfSome (towards_number speed places number here) (FitsOn axes)
number_fits axes speed places None here goes few = tt
number_fits axes speed places (Some n) here goes few = towards_fits axes speed (spot_at places n) here goes few

-- the speed back to a station is at most the outer one
share_most : (speed way whole : ℕ) → way ≤ whole → speed * way / whole ≤ speed
share_most speed way whole within =
    let product : way * speed ≤ whole * speed = mul-le-mul {n₁ = way} {m₁ = speed} {n₂ = whole} {m₂ = speed} within (omega arith) in
    div-le_of_le-mul whole {m = speed * way} {n = speed} (omega (arith, product))

return_most : (inner outer speed distance : ℕ) → return_speed inner outer speed distance ≤ speed
return_most inner outer speed distance = by (nat_le outer distance) refl
  where
    by : (b : Bool) → nat_le outer distance ≡ b → (if b then speed else speed * (distance - inner) / (outer - inner)) ≤ speed
    by true e = omega arith
    by false e =
        let within : distance - inner ≤ outer - inner = grind (arith, nat_tests) in
        share_most speed (distance - inner) (outer - inner) within

keeping_fits : (axes : List Axis) (inner outer speed : ℕ) (station here : Spot) → Goes axes → speed ≤ 10 ^ 6 → IfSome (keeping inner outer speed station here) (FitsOn axes)
keeping_fits axes inner outer speed station here goes few = by (nat_le (distance_of here station) inner)
  where
    by : (b : Bool) → IfSome (if b then Some (Sum (Flat 0) (cruise 0)) else towards (return_speed inner outer speed (distance_of here station)) station here) (FitsOn axes)
    by true = (tt, (goes.1, cruise_peak 0 (omega arith)))
    by false =
        let most = return_most inner outer speed (distance_of here station) in
        towards_fits axes (return_speed inner outer speed (distance_of here station)) station here goes (omega (arith, most, few))

station_fits : (axes : List Axis) (inner outer speed : ℕ) (station : Option Spot) (here : Spot) → Goes axes → speed ≤ 10 ^ 6 → IfSome (keeping_station inner outer speed station here) (FitsOn axes)
station_fits axes inner outer speed None here goes few = tt
station_fits axes inner outer speed (Some spot) here goes few = keeping_fits axes inner outer speed spot here goes few

here_fits : (axes : List Axis) (utility : Spot → Option Utility) (here : Option Spot) → ((spot : Spot) → IfSome (utility spot) (FitsOn axes)) → IfSome (given_here utility here).utility (FitsOn axes)
here_fits axes utility None each = tt
here_fits axes utility (Some here) each = each here

-- a speed in its range
speed_few : (speed : ℤ) → lies_between (pos 0) (pos 1000000) speed ≡ true → nat_abs speed ≤ 10 ^ 6
speed_few speed in' = grind (arith, nat_tests, ints)

goes_of : (axes : List Axis) → (has_axis axes (codes "course") && (has_axis axes (codes "speed") && true)) ≡ true → Goes axes
goes_of axes has =
    let one = and_parts (has_axis axes (codes "course")) (has_axis axes (codes "speed") && true) has in
    (one.0, (and_parts (has_axis axes (codes "speed")) true one.1).0)

-- a piece size in its range
size_some : (size : ℕ) → is_piece_size size ≡ true → 0 < size
size_some size in' = grind (arith, nat_tests)

-- a range within that of all summits
course_summit : (n : ℤ) → lies_between (pos 0) (pos 360000) n ≡ true → lies_between (pos 0) (pos (10 ^ 7)) n ≡ true
course_summit n in' = grind (arith, nat_tests, ints)

speed_summit : (n : ℤ) → lies_between (pos 0) (pos 1000000) n ≡ true → lies_between (pos 0) (pos (10 ^ 7)) n ≡ true
speed_summit n in' = grind (arith, nat_tests, ints)

-- what a step gives fits each domain with the axes of its type
pub gives_fits : (axes : List Axis) (shape : Shape) (known : Knowledge) (found : Situation) → InRanges true shape → has_axes axes shape ≡ true → IfSome (gives_by_type shape known found).utility (FitsOn axes)
gives_fits axes (Heading summit peak base delta) known found ranges has = ((and_parts (has_axis axes (codes "course")) true has).0, peak_between summit peak base delta (course_summit summit ranges.0) ranges.1 ranges.2 ranges.3)
gives_fits axes (Speed summit peak base delta) known found ranges has = ((and_parts (has_axis axes (codes "speed")) true has).0, peak_between summit peak base delta (speed_summit summit ranges.0) ranges.1 ranges.2 ranges.3)
gives_fits axes (Depth summit peak base delta) known found ranges has = ((and_parts (has_axis axes (codes "depth")) true has).0, peak_between summit peak base delta ranges.0 ranges.1 ranges.2 ranges.3)
gives_fits axes (MaxDepth depth base) known found ranges has =
    let width = width_between base ranges.1 in
    ((and_parts (has_axis axes (codes "depth")) true has).0, omega (arith, ints, width.0, width.1), omega arith)
gives_fits axes Timer known found ranges has = tt
gives_fits axes (Waypoint points speed capture slip reverse repeat) known found ranges has = by found.finished
  where
    by : (b : Bool) → IfSome (if b then all_done else given_here (towards_number (nat_abs speed) points (Some (target_number (length points) reverse found.captured))) found.here).utility (FitsOn axes)
    by true = tt
    by false = here_fits axes (towards_number (nat_abs speed) points (Some (target_number (length points) reverse found.captured))) found.here (λ here. number_fits axes (nat_abs speed) points (Some (target_number (length points) reverse found.captured)) here (goes_of axes has) (speed_few speed ranges.1))
gives_fits axes (Loiter polygon speed capture slip clockwise) known found ranges has =
    here_fits axes (towards_number (nat_abs speed) polygon found.vertex) found.here (λ here. number_fits axes (nat_abs speed) polygon found.vertex here (goes_of axes has) (speed_few speed ranges.1))
gives_fits axes (StationKeep point anew inner outer speed) known found ranges has =
    here_fits axes (keeping_station (nat_abs inner) (nat_abs outer) (nat_abs speed) (if anew then found.centre else point)) found.here
    (λ here. station_fits axes (nat_abs inner) (nat_abs outer) (nat_abs speed) (if anew then found.centre else point) here (goes_of axes has) (speed_few speed ranges.3))
gives_fits axes (OpRegion polygon depth time) known found ranges has = tt
gives_fits axes (AvoidCollision avoidance) known found ranges has = by avoidance.resolved
  where
    clear : (here : Spot) (track : Option Track) → IfSome (option_map (Clear avoidance here) track) (FitsOn axes)
    clear here None = tt
    clear here (Some track) = size_some avoidance.piece_size ranges.7

    by : (b : Bool) → IfSome (if b then all_done else given_here (keeping_clear avoidance) found.here).utility (FitsOn axes)
    by true = tt
    by false = here_fits axes (keeping_clear avoidance) found.here (λ here. clear here (track_in avoidance))

-- so each step of a behaviour with valid parameters is worth what it gives
pub steps_worth : ShapesAreWorth → StepsAreWorth
steps_worth law spec changes step valid lawful has =
    let params = params_at spec changes in
    let axes = step.axes in
    let here : has_axes axes params.shape ≡ true = ap (list_all (has_axis axes)) (params_axes spec changes) ∙ has in
    given_worth law axes lawful (gives_at spec changes step).utility (gives_fits axes params.shape step.known (situation_at spec changes step) (params_valid spec changes valid).ranges.parameters here)

-- and so is that of a kind
pub step_worth : ShapesAreWorth → (axes : List Axis) → is_domain axes ≡ true → (own params : Spec) (known : Knowledge) (found : Situation) (given : Given) (out : Out) → own ≡ params → InRanges true own.shape → has_axes axes own.shape ≡ true
    → given ≡ gives_by_type params.shape known found → out ≡ out_of axes (axes_of own.shape) given → IsWorth axes (gives_by_type params.shape known found).utility out.func
step_worth law axes lawful own params known found given out same ranges has gives is =
    let fits = gives_fits axes params.shape known found (subst (λ (p : Spec). InRanges true p.shape) same ranges) (subst (λ (p : Spec). has_axes axes p.shape ≡ true) same has) in
    let func : out.func ≡ option_map (function_of axes) (gives_by_type params.shape known found).utility = ap (λ (o : Out). o.func) is ∙ ap (λ (g : Given). option_map (function_of axes) g.utility) gives in
    subst (λ (f : Option Function). IsWorth axes (gives_by_type params.shape known found).utility f) (sym func) (given_worth law axes lawful (gives_by_type params.shape known found).utility fits)
