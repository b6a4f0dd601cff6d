-- The most that a point can be worth to a behaviour: no utility is above 100.
use Rattle.std.proofs.Common.{◌≡◌, ◌+◌, ◌-◌, ◌*◌, ◌/◌, ◌^◌, ◌<◌, ◌≤◌, ◌==◌, ◌-ℤ◌, ℕ, zero, suc, ℤ, pos, nat_abs, Bool, true, false, cond, List, [], ◌∷◌, ◌++◌, length, codes, Option, Some, None, refl, subst, arith}
use Rattle.std.specs.Prelude.{IfSome, if◌then◌else◌, int_div, is_some, nat_le, option_map, slice_index, slice_index_or, sum_by}
use Rattle.std.specs.List.{AllByRecursion as Each}
use Rattle.std.proofs.lemmas.Bool.Decides.{nat_tests}
use Rattle.std.proofs.lemmas.Int.{ints}
use Rattle.std.proofs.lemmas.List.Elements.{recursion_from_All}
use Rattle.std.proofs.lemmas.List.Sums.{sum_by-cons}
use Rattle.std.proofs.Math.Nat.{mul-le-mul}
use Rattle.ivp_domain.specs.declared.axis.Axis.{Axis}
use Rattle.ivp_domain.specs.declared.boxes.BoxN.{BoxN}
use Rattle.ivp_domain.specs.declared.boxes.Point.{Point}
use Rattle.ivp_domain.specs.Domains.{is_domain, is_point, size_on}
use Rattle.ivp_domain.proofs.Sizes.{few_on, positive}
use Rattle.ivp_func.specs.Pieces.{is_slope, is_value}
use Rattle.ivp_func.proofs.Facts.{is_box-from, place_in}
use Rattle.ivp_build.specs.declared.shape.Peak.{Peak}
use Rattle.ivp_build.specs.Sampled.{box_of, high_end, last_of_run, low_corner, sampled_slope, sampled_slopes}
use Rattle.ivp_build.specs.Shapes.{at_most_profile, distance_from, height_at, limit_slopes, peak_profile, peak_slopes}
use Rattle.ivp_build.proofs.Covers.{box_has}
use Rattle.ivp_build.proofs.Samples.{value_in_range, value_on_box}
use Rattle.ivp_build.proofs.Sampling.{by_place_small, value_bounds}
use Rattle.helm_cond.specs.Learnt.{Knowledge}
use Rattle.helm_geo.specs.declared.spot.Spot.{Spot}
use Rattle.helm_geo.specs.Angles.{bearing}
use Rattle.bhv_file.specs.declared.spec.Avoidance.{Avoidance}
use Rattle.bhv_file.specs.declared.spec.Shape.{Shape}
use Rattle.bhv_file.specs.declared.spec.Shape.TheVariants.{Heading, Speed, Depth, MaxDepth, Timer, Waypoint, Loiter, StationKeep, OpRegion, AvoidCollision}
use Rattle.bhv_file.specs.Named.{named_axis, place_on}
use Rattle.bhv_file.specs.Ranges.{InRanges}
use Rattle.bhv_file.specs.Values.{is_piece_size}
use Rattle.bhv_kinds.specs.declared.situation.Situation.{Situation}
use Rattle.bhv_kinds.specs.Changes.{params_at, step_of}
use Rattle.bhv_kinds.specs.Giving.{all_done, given_here, gives_at, gives_by_type, keeping_clear, keeping_station, situation_at, towards, towards_number}
use Rattle.bhv_kinds.specs.Stations.{distance_of, return_speed}
use Rattle.bhv_kinds.specs.Targets.{spot_at, target_number}
use Rattle.bhv_kinds.specs.Utilities.{Utility, Clear, Flat, Sum, cruise, peak_of, steer, worth_at}
use Rattle.bhv_kinds.proofs.Lasting.{params_valid}
use Rattle.bhv_life.specs.Lives.{is_fresh, is_stepped}
use Rattle.contact_avoid.specs.declared.motion.Track.{Track}
use Rattle.contact_avoid.specs.Avoids.{clearance_at, number_named, sampled_clearance, track_in}
use Rattle.contact_avoid.proofs.Clearing.{utility_few}
use Rattle.helm_core.specs.Behaviors.{BhvSoFar, Judged, beginning_at, judged_at, past_so_far}
use Rattle.helm_core.specs.Plans.{plan_made}
use Rattle.helm_core.specs.Standings.{MayStep}
use Rattle.helm_core.specs.Ticks.{Seen, seen_at}
use Rattle.helm_core.specs.Worths.{times_worth, wanted_by_step, worth_to, worth_to_all}
use Rattle.helm_core.proofs.Listing.{blocks_hold}
use Rattle.helm_core.proofs.Turning.{all_may_step}
use Rattle.helm_laws.specs.Files.{OfValidFiles}
use Rattle.helm_laws.specs.Bounds.{WorthIsBounded, most_worth}

-- a height is at most its greatest
height_by : (max fall top foot distance : ℕ) (near wide : Bool) → (if near then max - fall * distance else if wide then (max - fall * top) - (max - fall * top) / foot * (distance - top) else 0) ≤ max
height_by max fall top foot distance true wide = omega arith
height_by max fall top foot distance false true = omega arith
height_by max fall top foot distance false false = omega arith

peak_low : (axis : Axis) (peak : Peak) (distance : ℕ) → height_at (peak_slopes axis peak) distance ≤ nat_abs peak.max
peak_low axis peak distance =
    height_by (nat_abs peak.max) (peak_slopes axis peak).fall (peak_slopes axis peak).top (peak_slopes axis peak).foot distance (nat_le distance (peak_slopes axis peak).top) (nat_le distance ((peak_slopes axis peak).top + (peak_slopes axis peak).foot))

limit_low : (axis : Axis) (width max distance : ℕ) → height_at (limit_slopes axis width max) distance ≤ max
limit_low axis width max distance = height_by max 0 0 (limit_slopes axis width max).foot distance (nat_le distance 0) (nat_le distance (0 + (limit_slopes axis width max).foot))

-- a sampled utility stays in range
last_few : (size run count : ℕ) → 0 < count → count ≤ 2 ^ 28 → last_of_run size count run < 2 ^ 28
last_few size run count some few = omega arith

corners_few : (axes : List Axis) (size : ℕ) (point : Point) → is_domain axes ≡ true → (k : ℕ) → k < 4 → slice_index (box_of axes size point).high k < 2 ^ 28
corners_few axes size point domain zero h = last_few size (slice_index point.at 0 / size) (size_on 0 axes) (positive axes domain 0) (few_on axes domain 0 (omega arith))
corners_few axes size point domain (suc zero) h = last_few size (slice_index point.at 1 / size) (size_on 1 axes) (positive axes domain 1) (few_on axes domain 1 (omega arith))
corners_few axes size point domain (suc (suc zero)) h = last_few size (slice_index point.at 2 / size) (size_on 2 axes) (positive axes domain 2) (few_on axes domain 2 (omega arith))
corners_few axes size point domain (suc (suc (suc zero))) h = last_few size (slice_index point.at 3 / size) (size_on 3 axes) (positive axes domain 3) (few_on axes domain 3 (omega arith))
corners_few axes size point domain (suc (suc (suc (suc k)))) h = absurd (omega arith)

value_good : (n : ℕ) → n ≤ 100000 → is_value (pos n) ≡ true
value_good n few = grind (arith, nat_tests, ints)

abbrev whole_of : (Point → ℕ) → Point → ℤ
whole_of utility point = pos (utility point)

slope_small : (utility : Point → ℕ) (area : BoxN) (axis : ℕ) → ((point : Point) → utility point ≤ 100000) → is_slope (sampled_slope (whole_of utility) area axis) ≡ true
slope_small utility area axis few = by (slice_index area.high axis - slice_index area.low axis == 0)
  where
    by : (b : Bool) → is_slope (cond b (pos 0) (int_div (pos (utility (high_end area axis)) -ℤ pos (utility (low_corner area))) (pos (slice_index area.high axis - slice_index area.low axis)))) ≡ true
    by true = refl
    by false = by_place_small (pos (utility (high_end area axis))) (pos (utility (low_corner area))) (slice_index area.high axis - slice_index area.low axis) (value_good (utility (high_end area axis)) (few (high_end area axis))) (value_good (utility (low_corner area)) (few (low_corner area)))

slopes_small : (utility : Point → ℕ) (area : BoxN) → ((point : Point) → utility point ≤ 100000) → (k : ℕ) → k < 4 → is_slope (slice_index_or (sampled_slopes (whole_of utility) area) k (pos 0)) ≡ true
slopes_small utility area few zero h = slope_small utility area 0 few
slopes_small utility area few (suc zero) h = slope_small utility area 1 few
slopes_small utility area few (suc (suc zero)) h = slope_small utility area 2 few
slopes_small utility area few (suc (suc (suc zero))) h = slope_small utility area 3 few
slopes_small utility area few (suc (suc (suc (suc k)))) h = absurd (omega arith)

abs_few : (z : ℤ) → is_value z ≡ true → nat_abs z ≤ 100000
abs_few z good = let bounds = value_bounds z good in omega (arith, ints, bounds.0, bounds.1)

sampled_few : (axes : List Axis) (size : ℕ) (utility : Point → ℕ) (point : Point) → 0 < size → is_domain axes ≡ true → is_point axes point ≡ true → ((at : Point) → utility at ≤ 100000)
    → nat_abs (value_on_box (box_of axes size point) (pos (utility (low_corner (box_of axes size point)))) (sampled_slopes (whole_of utility) (box_of axes size point)) point) ≤ 100000
sampled_few axes size utility point some domain inside few =
    let area = box_of axes size point in
    let has = box_has axes size point some domain inside in
    abs_few (value_on_box area (pos (utility (low_corner area))) (sampled_slopes (whole_of utility) area) point) (value_in_range area (pos (utility (low_corner area))) (sampled_slopes (whole_of utility) area)
    (record {
      proper = is_box-from area (λ k within. let at = place_in area point has k within in omega (arith, at.0, at.1));
      few = corners_few axes size point domain;
      value_fits = value_good (utility (low_corner area)) (few (low_corner area));
      slopes_fit = slopes_small utility area few;
    }) point has)

clear_few : (axes : List Axis) (avoidance : Avoidance) (here : Spot) (track : Track) (point : Point) → is_domain axes ≡ true → 0 < avoidance.piece_size → is_point axes point ≡ true → sampled_clearance axes avoidance here track point ≤ 100000
clear_few axes avoidance here track point domain some inside =
    sampled_few axes avoidance.piece_size (clearance_at axes avoidance here track) point some domain inside
    (λ at. utility_few (nat_abs avoidance.near) (nat_abs avoidance.far) here track (number_named axes (codes "speed") at) (number_named axes (codes "course") at))

-- so is each utility that a step gives
abbrev AreFew : List Axis → Point → Option Utility → Type 0
AreFew axes point utility = IfSome utility (λ one. worth_at axes one point ≤ 100000)

peak_few : (axes : List Axis) (name : List ℕ) (summit peak base delta : ℤ) (max : ℕ) (point : Point) → worth_at axes (peak_of name summit peak base delta max) point ≤ max
peak_few axes name summit peak base delta max point =
    let shape : Peak = record { summit = summit; peakwidth = peak; basewidth = base; summitdelta = delta; max = pos max } in
    peak_low (named_axis axes name) shape (distance_from (peak_profile (named_axis axes name) shape).crest (place_on axes name point))

both_few : (axes : List Axis) (degree speed : ℕ) (point : Point) → worth_at axes (Sum (steer degree) (cruise speed)) point ≤ 100000
both_few axes degree speed point =
    let one : worth_at axes (steer degree) point ≤ 50000 = peak_few axes (codes "course") (pos (degree * 1000)) (pos 20000) (pos 160000) (pos 12500) 50000 point in
    let other : worth_at axes (cruise speed) point ≤ 50000 = peak_few axes (codes "speed") (pos speed) (pos 500) (pos 2000) (pos 12500) 50000 point in
    omega (arith, one, other)

towards_few : (axes : List Axis) (point : Point) (speed : ℕ) (place here : Spot) → AreFew axes point (towards speed place here)
towards_few axes point speed place here = by (bearing (place.x -ℤ here.x) (place.y -ℤ here.y))
  where
    by : (degree : Option ℕ) → AreFew axes point (option_map (λ degree. Sum (steer degree) (cruise speed)) degree)
    by None = tt
    by (Some degree) = both_few axes degree speed point

number_few : (axes : List Axis) (point : Point) (speed : ℕ) (places : List Spot) (number : Option ℕ) (here : Spot) → AreFew axes point (towards_number speed places number here)
number_few axes point speed places None here = tt
number_few axes point speed places (Some n) here = towards_few axes point speed (spot_at places n) here

station_few : (axes : List Axis) (point : Point) (inner outer speed : ℕ) (station : Option Spot) (here : Spot) → AreFew axes point (keeping_station inner outer speed station here)
station_few axes point inner outer speed None here = tt
station_few axes point inner outer speed (Some station) here = by (nat_le (distance_of here station) inner)
  where
    still : worth_at axes (Sum (Flat 0) (cruise 0)) point ≤ 100000
    still = let one : worth_at axes (cruise 0) point ≤ 50000 = peak_few axes (codes "speed") (pos 0) (pos 500) (pos 2000) (pos 12500) 50000 point in omega (arith, one)

    by : (b : Bool) → AreFew axes point (if b then Some (Sum (Flat 0) (cruise 0)) else towards (return_speed inner outer speed (distance_of here station)) station here)
    by true = still
    by false = towards_few axes point (return_speed inner outer speed (distance_of here station)) station here

here_few : (axes : List Axis) (point : Point) (utility : Spot → Option Utility) (here : Option Spot) → ((spot : Spot) → AreFew axes point (utility spot)) → AreFew axes point (given_here utility here).utility
here_few axes point utility None each = tt
here_few axes point utility (Some here) each = each here

size_some : (size : ℕ) → is_piece_size size ≡ true → 0 < size
size_some size in' = grind (arith, nat_tests)

gives_few : (axes : List Axis) (point : Point) (shape : Shape) (known : Knowledge) (found : Situation) → is_domain axes ≡ true → is_point axes point ≡ true → InRanges true shape → AreFew axes point (gives_by_type shape known found).utility
gives_few axes point (Heading summit peak base delta) known found domain inside ranges = peak_few axes (codes "course") summit peak base delta 100000 point
gives_few axes point (Speed summit peak base delta) known found domain inside ranges = peak_few axes (codes "speed") summit peak base delta 100000 point
gives_few axes point (Depth summit peak base delta) known found domain inside ranges = peak_few axes (codes "depth") summit peak base delta 100000 point
gives_few axes point (MaxDepth depth base) known found domain inside ranges =
    limit_low (named_axis axes (codes "depth")) (nat_abs base) 100000 (distance_from (at_most_profile (named_axis axes (codes "depth")) depth (nat_abs base) 100000).crest (place_on axes (codes "depth") point))
gives_few axes point Timer known found domain inside ranges = tt
gives_few axes point (Waypoint points speed capture slip reverse repeat) known found domain inside ranges = by found.finished
  where
    by : (b : Bool) → AreFew axes point (if b then all_done else given_here (towards_number (nat_abs speed) points (Some (target_number (length points) reverse found.captured))) found.here).utility
    by true = tt
    by false = here_few axes point (towards_number (nat_abs speed) points (Some (target_number (length points) reverse found.captured))) found.here (number_few axes point (nat_abs speed) points (Some (target_number (length points) reverse found.captured)))
gives_few axes point (Loiter polygon speed capture slip clockwise) known found domain inside ranges =
    here_few axes point (towards_number (nat_abs speed) polygon found.vertex) found.here (number_few axes point (nat_abs speed) polygon found.vertex)
gives_few axes point (StationKeep station anew inner outer speed) known found domain inside ranges =
    here_few axes point (keeping_station (nat_abs inner) (nat_abs outer) (nat_abs speed) (if anew then found.centre else station)) found.here
    (station_few axes point (nat_abs inner) (nat_abs outer) (nat_abs speed) (if anew then found.centre else station))
gives_few axes point (OpRegion polygon depth time) known found domain inside ranges = tt
gives_few axes point (AvoidCollision avoidance) known found domain inside ranges = by avoidance.resolved
  where
    clear : (here : Spot) (track : Option Track) → AreFew axes point (option_map (Clear avoidance here) track)
    clear here None = tt
    clear here (Some track) = clear_few axes avoidance here track point domain (size_some avoidance.piece_size ranges.7) inside

    by : (b : Bool) → AreFew axes point (if b then all_done else given_here (keeping_clear avoidance) found.here).utility
    by true = tt
    by false = here_few axes point (keeping_clear avoidance) found.here (λ here. clear here (track_in avoidance))

-- so no point is worth more than a behaviour's weight times 100
times_few : (axes : List Axis) (point : Point) (weight : ℕ) (utility : Option Utility) → AreFew axes point utility → times_worth axes point weight utility ≤ (if is_some utility then weight * 100000 else 0)
times_few axes point weight None few = omega arith
times_few axes point weight (Some utility) few = mul-le-mul {n₁ = weight} {m₁ = worth_at axes utility point} {n₂ = weight} {m₂ = 100000} (omega arith) few

one_few : (axes : List Axis) (seen : Seen) (point : Point) (one : BhvSoFar) (judged : Judged) (stepped : Bool) → is_domain axes ≡ true → is_point axes point ≡ true → MayStep axes one.block
    → times_worth axes point (params_at one.block.spec judged.changes).weight (wanted_by_step axes seen one judged stepped)
    ≤ (if is_some (wanted_by_step axes seen one judged stepped) then (params_at one.block.spec judged.changes).weight * 100000 else 0)
one_few axes seen point one judged false domain inside may = omega arith
one_few axes seen point one judged true domain inside may =
    let step = step_of axes seen.known seen.stamp (is_fresh (past_so_far one)) in
    times_few axes point (params_at one.block.spec judged.changes).weight (gives_at one.block.spec judged.changes step).utility
    (gives_few axes point (params_at one.block.spec judged.changes).shape seen.known (situation_at one.block.spec judged.changes step) domain inside (params_valid one.block.spec judged.changes may.valid).ranges.parameters)

most : (axes : List Axis) (seen : Seen) (point : Point) (one : BhvSoFar) → is_domain axes ≡ true → is_point axes point ≡ true → MayStep axes one.block → worth_to axes seen point one ≤ most_worth axes seen one
most axes seen point one domain inside may = one_few axes seen point one (judged_at axes seen one) (is_stepped one.block.common (past_so_far one) (beginning_at seen one.block.common)) domain inside may

-- and together
abbrev pub MaySteps : List Axis → List BhvSoFar → Type 0
MaySteps axes ones = Each (λ one. MayStep axes one.block) ones

pub all_most : (axes : List Axis) (seen : Seen) (point : Point) (ones : List BhvSoFar) → is_domain axes ≡ true → is_point axes point ≡ true → MaySteps axes ones → worth_to_all axes seen ones point ≤ sum_by (most_worth axes seen) ones
all_most axes seen point [] domain inside may = omega arith
all_most axes seen point (one ∷ ones) domain inside may =
    let worth = sum_by-cons (worth_to axes seen point) one ones in
    let tops = sum_by-cons (most_worth axes seen) one ones in
    let this = most axes seen point one domain inside may.0 in
    let rest = all_most axes seen point ones domain inside may.1 in
    omega (arith, worth, tops, this, rest)

-- of a list of three parts
pub middle : {A : Type 0} (P : A → Type 0) (before after : List A) (one : A) → Each P (before ++ one ∷ after) → P one × Each P (before ++ after)
middle P [] after one all = all
middle P (x ∷ before) after one all = let rest = middle P before after one all.1 in (rest.0, (all.0, rest.1))

pub bounded : OfValidFiles WorthIsBounded
bounded mission file valid read served ticks i before after one parts point inside =
    let plan = plan_made mission file in
    let may = blocks_hold (MayStep plan.axes) plan ticks i (recursion_from_All (MayStep plan.axes) plan.blocks (all_may_step mission.domain [] file.blocks read.blocks served)) in
    most mission.domain (seen_at file.decls ticks i) point one valid.domain inside (middle (λ one. MayStep mission.domain one.block) before after one (subst (MaySteps mission.domain) parts may)).0
