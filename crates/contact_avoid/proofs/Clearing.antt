-- The numbers of a point, and those of a behaviour that keeps clear of a contact, are within their bounds.
use Rattle.std.proofs.Common.{◌≡◌, ℕ, ℤ, pos, neg_ℤ, ◌-◌, ◌*◌, ◌/◌, ◌^◌, ◌<◌, ◌≤◌, ◌≤ℤ◌, ◌-ℤ◌, nat_abs, Bool, true, false, cond, List, length, Option, Some, refl, ap, sym, subst, arith}
use Rattle.std.proofs.Math.Nat.{div-le_of_le-mul, mul-le-mul}
use Rattle.std.proofs.lemmas.Bool.{and_parts}
use Rattle.std.proofs.lemmas.Bool.Decides.{nat_tests}
use Rattle.std.proofs.lemmas.Int.{ints}
use Rattle.std.specs.Prelude.{◌&&◌, codes, IfSome, slice_get, slice_index}
use Rattle.ivp_domain.specs.declared.axis.Axis.{Axis}
use Rattle.ivp_domain.specs.declared.boxes.Point.{Point}
use Rattle.ivp_domain.specs.Axes.{is_good_axis, value_on}
use Rattle.ivp_domain.specs.Domains.{is_domain, is_point, size_of_axis}
use Rattle.ivp_domain.proofs.Sizes.{four_axes}
use Rattle.helm_geo.specs.declared.spot.Spot.{Spot}
use Rattle.bhv_file.specs.declared.spec.Avoidance.{Avoidance}
use Rattle.bhv_file.specs.declared.spec.Shape.TheVariants.{AvoidCollision}
use Rattle.bhv_file.specs.Params.{has_axis}
use Rattle.bhv_file.specs.Serving.{few_boxes, is_slow}
use Rattle.bhv_file.proofs.Named.{place_there}
use Rattle.contact_avoid.specs.declared.approach.Fraction.{Fraction}
use Rattle.contact_avoid.specs.declared.motion.Track.{Track}
use Rattle.contact_avoid.specs.Approach.{approach_utility, closest, fraction_at_least, fraction_at_most, is_far, relative_position, relative_velocity, utility_between}
use Rattle.contact_avoid.specs.Avoids.{CanServe, IsAvoid}
use Rattle.contact_avoid.specs.Bounds.{LiesBetween, LiesWithin, MayServe}
use Rattle.contact_avoid.proofs.Shares.{excess_below}

-- the number at a place lies between the ends of its axis
part_within : (axis : Axis) (i : ℕ) → 2 ≤ axis.points → i < axis.points → i * nat_abs (axis.high -ℤ axis.low) / (axis.points - 1) ≤ nat_abs (axis.high -ℤ axis.low)
part_within axis i some inside =
    let span = nat_abs (axis.high -ℤ axis.low) in
    div-le_of_le-mul (axis.points - 1) (mul-le-mul {n₁ = i} {m₁ = span} {n₂ = axis.points - 1} {m₂ = span} (omega arith) (omega arith))

two_points : (axis : Axis) → is_good_axis axis ≡ true → 2 ≤ axis.points
two_points axis h = grind (arith, nat_tests, ints)

rises : (axis : Axis) → is_good_axis axis ≡ true → axis.low ≤ℤ axis.high
rises axis h = grind (arith, nat_tests, ints)

value_between : (axis : Axis) (i : ℕ) → is_good_axis axis ≡ true → i < axis.points → LiesBetween axis.low axis.high (value_on axis i)
value_between axis i good inside = by (part_within axis i (two_points axis good) inside) (rises axis good)
  where
    by : i * nat_abs (axis.high -ℤ axis.low) / (axis.points - 1) ≤ nat_abs (axis.high -ℤ axis.low) → axis.low ≤ℤ axis.high → LiesBetween axis.low axis.high (value_on axis i)
    by part up = (omega (arith, ints, part, up), omega (arith, ints, part, up))

-- a number between the ends of an axis is within their bounds
low_end : (axis : Axis) → is_good_axis axis ≡ true → neg_ℤ (pos (10 ^ 12)) ≤ℤ axis.low
low_end axis h = grind (arith, nat_tests, ints)

high_end : (axis : Axis) → is_good_axis axis ≡ true → axis.high ≤ℤ pos (10 ^ 12)
high_end axis h = grind (arith, nat_tests, ints)

pub end_within : (axis : Axis) (n : ℤ) → is_good_axis axis ≡ true → LiesBetween axis.low axis.high n → LiesWithin (10 ^ 12) n
end_within axis n good between =
    let low = low_end axis good in
    let high = high_end axis good in
    (omega (arith, ints, low, between.0), omega (arith, ints, high, between.1))

-- the number that a point has on an axis lies between its ends
pub number_between : (axes : List Axis) (point : Point) (k : ℕ) (axis : Axis) (value : ℤ) → is_domain axes ≡ true → is_point axes point ≡ true → k < length axes → slice_get axes k ≡ Some axis → is_good_axis axis ≡ true
    → IfSome (slice_get axes k) (λ one. value ≡ value_on one (slice_index point.at k)) → LiesBetween axis.low axis.high value
number_between axes point k axis value lawful inside within there good is =
    let below : slice_index point.at k < axis.points
    = subst (λ n. slice_index point.at k < n) (ap size_of_axis there) (place_there axes point k lawful inside (four_axes axes lawful) within) in
    let same : value ≡ value_on axis (slice_index point.at k) = subst (λ (o : Option Axis). IfSome o (λ one. value ≡ value_on one (slice_index point.at k))) there is in
    subst (λ (v : ℤ). LiesBetween axis.low axis.high v) (sym same) (value_between axis (slice_index point.at k) good below)

-- a behaviour that can be served over these axes has a utility at each of their points
pub may_serve : (axes : List Axis) (weight : ℕ) (avoidance : Avoidance) → IsAvoid (record { weight = weight; shape = AvoidCollision avoidance }) → CanServe axes (record { weight = weight; shape = AvoidCollision avoidance }) → MayServe axes avoidance
may_serve axes weight avoidance is serves =
    let named = and_parts (has_axis axes (codes "course")) (has_axis axes (codes "speed") && true) serves.named in
    let suited = and_parts (is_slow axes) (few_boxes axes avoidance.piece_size) serves.suited in
    record {
      ranges = is.valid.ranges.parameters;
      apart = is.valid.relations;
      course = named.0;
      speed = (and_parts (has_axis axes (codes "speed")) true named.1).0;
      slow = suited.0;
    }

-- no utility is above 100
share_few : (part whole : ℕ) → part < whole → 100000 * part / whole ≤ 100000
share_few part whole less = div-le_of_le-mul whole (omega (arith, less))

between_few : (near far : ℕ) (q : Fraction) → utility_between near far q ≤ 100000
between_few near far q = by (fraction_at_most q (near * near)) (fraction_at_least q (far * far)) refl refl
  where
    above : fraction_at_most q (near * near) ≡ false → near * near * q.under < q.over
    above e = grind (arith, nat_tests)

    below : fraction_at_least q (far * far) ≡ false → q.over < far * far * q.under
    below e = grind (arith, nat_tests)

    by : (a b : Bool) → fraction_at_most q (near * near) ≡ a → fraction_at_least q (far * far) ≡ b → cond a 0 (cond b 100000 (100000 * (q.over - near * near * q.under) / ((far * far - near * near) * q.under))) ≤ 100000
    by true b e f = omega arith
    by false true e f = omega arith
    by false false e f = share_few (q.over - near * near * q.under) ((far * far - near * near) * q.under) (excess_below q.over (near * near) (far * far) q.under (above e) (below f))

pub utility_few : (near far : ℕ) (own : Spot) (contact : Track) (speed course : ℤ) → approach_utility near far own contact speed course ≤ 100000
utility_few near far own contact speed course = by (is_far (relative_position own contact))
  where
    by : (b : Bool) → cond b 100000 (utility_between near far (closest (relative_position own contact) (relative_velocity contact speed course))) ≤ 100000
    by true = omega arith
    by false = between_few near far (closest (relative_position own contact) (relative_velocity contact speed course))
