-- What the pieces of each shape are worth at each point, for every domain.
use Rattle.std.proofs.Common.{◌≡◌, ℕ, zero, suc, Bool, true, false, ◌+◌, ◌-◌, ◌*◌, ◌^◌, ◌<◌, ◌≤◌, ℤ, pos, ◌+ℤ◌, ◌-ℤ◌, ◌≤ℤ◌, nat_abs, Option, Some, None, List, [], ◌∷◌, length, refl, sym, ap, ◌∙◌, subst, arith}
use Rattle.std.proofs.Math.Nat.{div-le_self, div-mul-le_self, mul-le-mul}
use Rattle.std.proofs.lemmas.Bool.{and_parts}
use Rattle.std.proofs.lemmas.Bool.Decides.{nat_tests}
use Rattle.std.proofs.lemmas.Int.{ints}
use Rattle.std.specs.List.{fold, last_or}
use Rattle.std.specs.Option.{option_map}
use Rattle.std.specs.Prelude.{filter, find, if◌then◌else◌, int_le, nat_lt, slice_index, unwrap_or}
use Rattle.ivp_domain.specs.declared.axis.Axis.{Axis}
use Rattle.ivp_domain.specs.declared.boxes.Point.{Point}
use Rattle.ivp_domain.specs.Axes.{is_good_axis, value_on}
use Rattle.ivp_domain.specs.Boxes.{common, numbers_from}
use Rattle.ivp_domain.specs.Domains.{is_domain, is_point, size_on}
use Rattle.ivp_domain.proofs.Sizes.{few_on, four_axes, good_axes}
use Rattle.std.specs.List.{list_all}
use Rattle.ivp_func.specs.declared.piece.Piece.{Piece}
use Rattle.ivp_func.specs.Functions.{IsPartition}
use Rattle.ivp_func.specs.Pieces.{piece_value, value_at, value_in}
use Rattle.ivp_func.proofs.Counting.{find_some}
use Rattle.ivp_build.specs.declared.profile.Profile.{Profile}
use Rattle.ivp_build.specs.declared.shape.Peak.{Peak}
use Rattle.ivp_build.specs.Builders.{pieces_along}
use Rattle.ivp_build.specs.Places.{IsWidth, axis_on, first_from, last_place, last_up_to, miss, near, nearer, steps_of, wraps}
use Rattle.ivp_build.specs.Shapes.{AreSlopes, IsPeak, IsProfileOf, at_least_profile, at_most_profile, limit_slopes, peak_profile, peak_slopes, utility_along}
use Rattle.ivp_build.specs.Sums.{couple_pieces, sum_of_pieces}
use Rattle.ivp_build.specs.Worths.{AreWorth, AtLeastIsWorth, AtMostIsWorth, CoupleIsWorth, FlatIsWorth, PeakIsWorth}
use Rattle.ivp_build.proofs.Lawful.{fits, flat_count, flat_value, partition, value}
use Rattle.ivp_build.proofs.Meets.{count_at-couple, find-couple}
use Rattle.ivp_build.proofs.Totals.{piece_value-sum}
use Rattle.ivp_build.proofs.Widths.{loss_within, most_abs}

-- an axis of a domain is good, and has as many places as the domain has there
on_axis : (axes : List Axis) (n : ℕ) → n < length axes → list_all is_good_axis axes ≡ true → ((axis_on axes n).points ≡ size_on n axes) × (is_good_axis (axis_on axes n) ≡ true)
on_axis [] n less good = absurd (omega arith)
on_axis (axis ∷ axes) zero less good = (refl, (and_parts (is_good_axis axis) (list_all is_good_axis axes) good).0)
on_axis (axis ∷ axes) (suc n) less good = on_axis axes n (omega arith) (and_parts (is_good_axis axis) (list_all is_good_axis axes) good).1

-- what an axis of a domain has: at least one place, and few
record Has (axes : List Axis) (n : ℕ) : Type 0 where
  same : (axis_on axes n).points ≡ size_on n axes
  some : 0 < (axis_on axes n).points
  few : (axis_on axes n).points ≤ 2 ^ 28

two_places : (axis : Axis) → is_good_axis axis ≡ true → 2 ≤ axis.points
two_places axis good = grind (arith, nat_tests, good)

has : (axes : List Axis) (n : ℕ) → is_domain axes ≡ true → n < length axes → Has axes n
has axes n lawful less =
    let on = on_axis axes n less (good_axes axes lawful) in
    let four = four_axes axes lawful in
    let few = few_on axes lawful n (omega arith) in
    let two = two_places (axis_on axes n) on.1 in
    let same = on.0 in
    record { same = same; some = omega arith; few = omega arith }

-- the nearest place is one of the axis
nearer_below : (m : ℕ → ℕ) (n a b : ℕ) → a < n → b < n → nearer m a b < n
nearer_below m n a b one other = by (nat_lt (m b) (m a))
  where
    by : (t : Bool) → (if t then b else a) < n
    by true = other
    by false = one

nearest_below : (m : ℕ → ℕ) (n best low count : ℕ) → best < n → low + count ≤ n → fold (nearer m) best (numbers_from low count) < n
nearest_below m n best low zero here most = here
nearest_below m n best low (suc count) here most = nearest_below m n (nearer m best low) (suc low) count (nearer_below m n best low here (omega arith)) (omega arith)

-- so is the last one that passes a test, and the first one
last_below_all : (t : ℕ → Bool) (n : ℕ) (o : Option ℕ) (low count : ℕ) → unwrap_or o 0 < n → low + count ≤ n → unwrap_or (last_or o (filter t (numbers_from low count))) 0 < n
last_below_all t n o low zero here most = here
last_below_all t n o low (suc count) here most = by (t low) refl (last_below_all t n (Some low) (suc low) count (omega arith) (omega arith)) (last_below_all t n o (suc low) count here (omega arith))
  where
    by : (b : Bool) → t low ≡ b → unwrap_or (last_or (Some low) (filter t (numbers_from (suc low) count))) 0 < n → unwrap_or (last_or o (filter t (numbers_from (suc low) count))) 0 < n
        → unwrap_or (last_or o (filter t (numbers_from low (suc count)))) 0 < n
    by true e taken left = rw e taken
    by false e taken left = rw e left

first_below_all : (t : ℕ → Bool) (n d low count : ℕ) → d < n → low + count ≤ n → unwrap_or (find t (numbers_from low count)) d < n
first_below_all t n d low zero here most = here
first_below_all t n d low (suc count) here most = by (t low) refl (first_below_all t n d (suc low) count here (omega arith))
  where
    by : (b : Bool) → t low ≡ b → unwrap_or (find t (numbers_from (suc low) count)) d < n → unwrap_or (find t (numbers_from low (suc count))) d < n
    by true e rest = rw e (omega arith)
    by false e rest = rw e rest

-- a width spans at least one place, and few
steps_some : (axis : Axis) (width : ℕ) → 0 < steps_of axis width
steps_some axis width = omega arith

steps_most : (axis : Axis) (width : ℕ) → width ≤ 10 ^ 12 → axis.points ≤ 2 ^ 28 → steps_of axis width ≤ 10 ^ 12 * 2 ^ 28
steps_most axis width few points =
    let last : last_place axis ≤ 2 ^ 28 = omega arith in
    let product = mul-le-mul {n₁ = width} {m₁ = last_place axis} {n₂ = 10 ^ 12} {m₂ = 2 ^ 28} few last in
    let quotient = div-le_self (width * last_place axis) (nat_abs (axis.high -ℤ axis.low)) in
    omega (arith, product, quotient)

width_abs : (width : ℤ) → IsWidth width → nat_abs width ≤ 10 ^ 12
width_abs width h = omega (arith, ints, h.0, h.1)

-- so a peak's slopes are sound, and a limit's
peak_sound : (axis : Axis) (peak : Peak) → axis.points ≤ 2 ^ 28 → IsPeak peak → AreSlopes (peak_slopes axis peak)
peak_sound axis peak few is =
    let max = nat_abs peak.max in
    let loss = nat_abs peak.summitdelta in
    let top = steps_of axis (nat_abs peak.peakwidth) in
    let within = loss_within peak.summitdelta peak.max is.some is.within in
    let above : pos 0 ≤ℤ peak.max = omega (arith, ints, is.some, is.within) in
    record {
      some = steps_some axis (nat_abs peak.basewidth);
      within = omega (arith, div-mul-le_self loss top, within);
      one = omega (arith, div-le_self loss top, within);
      most = most_abs peak.max above is.most;
      top = steps_most axis (nat_abs peak.peakwidth) (width_abs peak.peakwidth is.peakwidth) few;
      foot = steps_most axis (nat_abs peak.basewidth) (width_abs peak.basewidth is.basewidth) few;
    }

limit_sound : (axis : Axis) (basewidth max : ℕ) → axis.points ≤ 2 ^ 28 → basewidth ≤ 10 ^ 12 → max ≤ 100000 → AreSlopes (limit_slopes axis basewidth max)
limit_sound axis basewidth max few width most = record {
  some = steps_some axis basewidth;
  within = omega arith;
  one = omega arith;
  most = most;
  top = omega arith;
  foot = steps_most axis basewidth width few;
}

-- the profile of a peak is one of its axis
peak_fits : (axis : Axis) (peak : Peak) → 0 < axis.points → axis.points ≤ 2 ^ 28 → IsPeak peak → IsProfileOf axis.points (peak_profile axis peak)
peak_fits axis peak some few is =
    let place : near axis peak.summit < axis.points = nearest_below (miss axis peak.summit) axis.points 0 0 axis.points some (omega arith) in
    by (wraps axis) refl place
  where
    by : (b : Bool) → wraps axis ≡ b → near axis peak.summit < axis.points → IsProfileOf axis.points (peak_profile axis peak)
    by true e place = rw e (record { slopes = peak_sound axis peak few is; crest = (place, refl); level = tt })
    by false e place = rw e (record { slopes = peak_sound axis peak few is; crest = place; level = tt })

-- what a shape along an axis is worth
along_worth : (axes : List Axis) (n : ℕ) (p : Profile) → is_domain axes ≡ true → n < length axes → Has axes n → IsProfileOf (axis_on axes n).points p → AreWorth axes (pieces_along axes n p) (λ point. utility_along p (slice_index point.at n))
along_worth axes n p lawful less on profile =
    let over : IsProfileOf (size_on n axes) p = subst (λ (count : ℕ). IsProfileOf count p) on.same profile in
    let same = on.same in
    let points = on.few in
    let few : size_on n axes ≤ 2 ^ 28 = omega arith in
    let h = fits axes n p lawful less few over in
    record { partition = partition axes n p h; value = value axes n p h }

pub flat_worth : FlatIsWorth
flat_worth axes v = record { partition = flat_count axes (pos v); value = flat_value axes (pos v) }

pub peak_worth : PeakIsWorth
peak_worth axes n peak lawful less is =
    let on = has axes n lawful less in
    along_worth axes n (peak_profile (axis_on axes n) peak) lawful less on (peak_fits (axis_on axes n) peak on.some on.few is)

pub at_most_worth : AtMostIsWorth
at_most_worth axes n limit basewidth max lawful less width most =
    let on = has axes n lawful less in
    let axis = axis_on axes n in
    let place : last_up_to axis limit < axis.points = last_below_all (λ place. int_le (value_on axis place) limit) axis.points None 0 axis.points on.some (omega arith) in
    along_worth axes n (at_most_profile axis limit basewidth max) lawful less on
    (record { slopes = limit_sound axis basewidth max on.few width most; crest = place; level = (refl, refl) })

pub at_least_worth : AtLeastIsWorth
at_least_worth axes n limit basewidth max lawful less width most =
    let on = has axes n lawful less in
    let axis = axis_on axes n in
    let some = on.some in
    let last : last_place axis < axis.points = omega arith in
    let place : first_from axis limit < axis.points = first_below_all (λ place. int_le limit (value_on axis place)) axis.points (last_place axis) 0 axis.points last (omega arith) in
    along_worth axes n (at_least_profile axis limit basewidth max) lawful less on
    (record { slopes = limit_sound axis basewidth max on.few width most; crest = place; level = (refl, refl) })

pub couple_worth : CoupleIsWorth
couple_worth axes ps qs f g one other = record { partition = whole_partition; value = sums }
  where
    whole_partition : IsPartition axes (couple_pieces ps qs)
    whole_partition point inside = count_at-couple ps qs point ∙ rw (one.partition point inside, other.partition point inside) refl

    added : (x y : ℤ) (a b : ℕ) → x ≡ pos a → y ≡ pos b → x +ℤ y ≡ pos (a + b)
    added x y a b e e' = omega (arith, ints)

    sums : (point : Point) → is_point axes point ≡ true → value_at (couple_pieces ps qs) point ≡ pos (f point + g point)
    sums point inside =
        let p = find_some ps point (omega (arith, one.partition point inside)) in
        let q = find_some qs point (omega (arith, other.partition point inside)) in
        let found = find-couple ps qs point q.piece q.found ∙ ap (option_map (λ (p : Piece). sum_of_pieces p q.piece (common p.area q.piece.area))) p.found in
        ap (λ (o : Option Piece). value_in o point) found ∙ piece_value-sum p.piece q.piece (common p.piece.area q.piece.area) point
        ∙ sym (ap (λ (o : Option Piece). value_in o point +ℤ value_at qs point) p.found ∙ ap (λ (o : Option Piece). piece_value p.piece point +ℤ value_in o point) q.found)
        ∙ added (value_at ps point) (value_at qs point) (f point) (g point) (one.value point inside) (other.value point inside)
