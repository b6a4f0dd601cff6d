-- Utilities sampled on boxes: which box has which number, how small slopes are, and where even growth stays in range.
use Rattle.std.proofs.Common.{◌≡◌, ℕ, zero, suc, Bool, true, false, ◌&&◌, ◌+◌, ◌-◌, ◌*◌, ◌/◌, ◌%◌, ◌^◌, ◌<◌, ◌≤◌, ℤ, pos, negsuc, neg_ℤ, ◌+ℤ◌, ◌-ℤ◌, ◌*ℤ◌, ◌≤ℤ◌, FitsSigned, to_z, of_z, w64, Some, List, [], ◌∷◌, refl, sym, subst, ap, ◌∙◌, zero-add, arith}
use Rattle.std.specs.Int.{int_max, int_min}
use Rattle.std.specs.Prelude.{int_div, int_le, slice_get, slice_index, slice_index_or, slice_set}
use Rattle.std.proofs.Math.Nat.{div-le_self, div-mul-le_self, mul-le-mul}
use Rattle.std.proofs.lemmas.Bool.{and_parts, le-leb}
use Rattle.std.proofs.lemmas.Bool.Decides.{nat_tests}
use Rattle.std.proofs.lemmas.Int.{int_max_is, int_min_is, ints}
use Rattle.ivp_domain.specs.declared.axis.Axis.{Axis}
use Rattle.ivp_domain.specs.declared.boxes.BoxN.{BoxN}
use Rattle.ivp_domain.specs.declared.boxes.Point.{Point}
use Rattle.ivp_domain.specs.Boxes.{has_point, is_box, point_from, points_in, side_of, volume_of}
use Rattle.ivp_domain.specs.Domains.{is_domain, size_of, size_on, whole}
use Rattle.ivp_domain.proofs.BoxLemmas.{listed_point, point_listed, slice_get-points_in}
use Rattle.ivp_domain.proofs.Ranges.{digits}
use Rattle.ivp_domain.proofs.Sizes.{few, few_on, positive}
use Rattle.ivp_func.specs.Pieces.{is_slope, is_value}
use Rattle.ivp_func.proofs.Cutting.{one_of_four}
use Rattle.ivp_func.proofs.Facts.{has_point-from, low_le_high, passes_at, passes_each, place_in}
use Rattle.ivp_build.specs.Sampled.{IsRise, all_runs, grown_at, high_end, least_growth, most_growth, stays_in_range}

-- the runs on each axis are no more than its places, and all boxes no more than the points
pub boxes_few : (axes : List Axis) (size : ℕ) → is_domain axes ≡ true → volume_of (all_runs axes size) ≤ 2 ^ 28
boxes_few axes size h =
    let at : (k : ℕ) → (size_on k axes - 1) / size + 1 - 0 ≤ size_on k axes = λ k. let most = div-le_self (size_on k axes - 1) size in let some = positive axes h k in omega arith in
    let all : volume_of (all_runs axes size) ≤ size_of axes = mul-le-mul (mul-le-mul (mul-le-mul (at 0) (at 1)) (at 2)) (at 3) in
    omega (arith, all, few axes h)

-- the last place of an axis is one below how many it has
pub last_place_of : (axes : List Axis) (k : ℕ) → is_domain axes ≡ true → k < 4 → (slice_index (whole axes).high k + 1 ≡ size_on k axes) × (size_on k axes ≤ 2 ^ 28)
last_place_of axes k h p =
    let at : slice_index (whole axes).high k ≡ size_on k axes - 1 = one_of_four (λ axis. size_on axis axes - 1) k p in
    let some = positive axes h k in
    (omega (arith, at, some), few_on axes h k p)

-- the runs of a number, where the low corner is that of number 0
pub runs_listed : (area : BoxN) (n : ℕ) → area.low ≡ 0 ∷ 0 ∷ 0 ∷ 0 ∷ [] → n < volume_of area
    → let b = slice_index area.high 1 + 1 in let c = slice_index area.high 2 + 1 in let d = slice_index area.high 3 + 1 in (slice_get (points_in area) n ≡ Some (point_from (n / d / c / b) (n / d / c % b) (n / d % c) (n % d))) × (((n / d / c / b * b + n / d / c % b) * c + n / d % c) * d + n % d ≡ n)
runs_listed area n e h =
    let low : (k : ℕ) → slice_index area.low k ≡ slice_index (0 ∷ 0 ∷ 0 ∷ 0 ∷ []) k = λ k. ap (λ (places : List ℕ). slice_index places k) e in
    let a = slice_index area.high 0 + 1 in
    let b = slice_index area.high 1 + 1 in
    let c = slice_index area.high 2 + 1 in
    let d = slice_index area.high 3 + 1 in
    let zeroth : slice_index area.low 0 ≡ 0 = low 0 in
    let first : slice_index area.low 1 ≡ 0 = low 1 in
    let second : slice_index area.low 2 ≡ 0 = low 2 in
    let third : slice_index area.low 3 ≡ 0 = low 3 in
    let side_a : side_of 0 area ≡ a = omega arith in
    let side_b : side_of 1 area ≡ b = omega arith in
    let side_c : side_of 2 area ≡ c = omega arith in
    let side_d : side_of 3 area ≡ d = omega arith in
    let below : n < a * b * c * d = rw (sym side_a, sym side_b, sym side_c, sym side_d) h in
    let some_b : 0 < b = omega arith in
    let some_c : 0 < c = omega arith in
    let some_d : 0 < d = omega arith in
    let back = digits n a b c d some_b some_c some_d below in
    let i = n / d / c / b in
    let j = n / d / c % b in
    let k = n / d % c in
    let l = n % d in
    let there = slice_get-points_in area i j k l (omega (arith, back.0)) (omega arith) (omega arith) (omega arith) in
    let index : ((i * side_of 1 area + j) * side_of 2 area + k) * side_of 3 area + l ≡ n = rw (side_b, side_c, side_d) back.1 in
    let same : point_from (slice_index area.low 0 + i) (slice_index area.low 1 + j) (slice_index area.low 2 + k) (slice_index area.low 3 + l) ≡ point_from i j k l = rw (zeroth, first, second, third, zero-add i, zero-add j, zero-add k, zero-add l) refl in
    (ap (slice_get (points_in area)) (sym index) ∙ there ∙ ap Some same, back.1)

-- a run within an axis begins on it
pub run_begins : (last size run : ℕ) → run ≤ last / size → run * size ≤ last
run_begins last size run h =
    let same : size ≤ size = omega arith in
    let part : run * size ≤ last / size * size = mul-le-mul h same in
    omega (arith, part, div-mul-le_self last size)

-- a change by place is no greater than the whole change
quot_small : (change : ℤ) (places : ℕ) → neg_ℤ (pos 100000) ≤ℤ change → change ≤ℤ pos 100000 → (neg_ℤ (pos 100000) ≤ℤ int_div change (pos places)) × (int_div change (pos places) ≤ℤ pos 100000)
quot_small (pos n) places h k =
    let part = div-le_self n places in
    (omega (arith, ints), omega (arith, ints))
quot_small (negsuc n) places h k =
    let part = div-le_self (suc n) places in
    (omega (arith, ints), omega (arith, ints))

slope_good : (z : ℤ) → neg_ℤ (pos 100000) ≤ℤ z → z ≤ℤ pos 100000 → is_slope z ≡ true
slope_good z a b = grind (arith, nat_tests, ints)

pub value_bounds : (z : ℤ) → is_value z ≡ true → (pos 0 ≤ℤ z) × (z ≤ℤ pos 100000)
value_bounds z h = (grind (arith, nat_tests, ints), grind (arith, nat_tests, ints))

pub by_place_small : (high low : ℤ) (places : ℕ) → is_value high ≡ true → is_value low ≡ true → is_slope (int_div (high -ℤ low) (pos places)) ≡ true
by_place_small high low places h k =
    let one = value_bounds high h in
    let other = value_bounds low k in
    let part = quot_small (high -ℤ low) places (omega (arith, ints)) (omega (arith, ints)) in
    slope_good (int_div (high -ℤ low) (pos places)) part.0 part.1

-- the high end on an axis is a point of the box
set_above : (xs : List ℕ) (i k v : ℕ) → slice_index xs i ≤ v → slice_index xs k ≤ slice_index (slice_set xs i v) k
set_above [] i k v h = omega arith
set_above (x ∷ xs) zero zero v h = h
set_above (x ∷ xs) zero (suc k) v h = omega arith
set_above (x ∷ xs) (suc i) zero v h = omega arith
set_above (x ∷ xs) (suc i) (suc k) v h = set_above xs i k v h

set_below : (xs : List ℕ) (i k v top : ℕ) → slice_index xs k ≤ top → (k ≡ i → v ≤ top) → slice_index (slice_set xs i v) k ≤ top
set_below [] i k v top h here = h
set_below (x ∷ xs) zero zero v top h here = here refl
set_below (x ∷ xs) zero (suc k) v top h here = h
set_below (x ∷ xs) (suc i) zero v top h here = h
set_below (x ∷ xs) (suc i) (suc k) v top h here = set_below xs i k v top h (λ e. here (ap suc e))

pub end_inside : (area : BoxN) (axis : ℕ) → axis < 4 → is_box area ≡ true → has_point area (high_end area axis) ≡ true
end_inside area axis p proper =
    let high : ℕ = slice_index area.high axis in
    has_point-from area (high_end area axis) (λ k within. (
      set_above area.low axis k high (low_le_high area proper axis p),
      set_below area.low axis k high (slice_index area.high k) (low_le_high area proper k within) (λ e. let same : slice_index area.high k ≡ high = ap (λ (n : ℕ). slice_index area.high n) e in omega (arith, same)),
    ))

-- between no place and the last one a slope adds no more than at one of them, either way
pub grows_between : (s : ℤ) (x n : ℕ) → x ≤ n → (int_min (s *ℤ pos n) (pos 0) ≤ℤ (s *ℤ pos x)) × ((s *ℤ pos x) ≤ℤ int_max (s *ℤ pos n) (pos 0))
grows_between (pos s) x n h =
    let same : s ≤ s = omega arith in
    let product = mul-le-mul {n₁ = s} {m₁ = x} {n₂ = s} {m₂ = n} same h in
    (omega (arith, ints, int_min_is (pos s *ℤ pos n) (pos 0)), omega (arith, ints, int_max_is (pos s *ℤ pos n) (pos 0)))
grows_between (negsuc s) x n h =
    let same : suc s ≤ suc s = omega arith in
    let product = mul-le-mul {n₁ = suc s} {m₁ = x} {n₂ = suc s} {m₂ = n} same h in
    (omega (arith, ints, int_min_is (negsuc s *ℤ pos n) (pos 0)), omega (arith, ints, int_max_is (negsuc s *ℤ pos n) (pos 0)))

-- and at one of them it adds just that
pub record Reached (s : ℤ) (low high : ℕ) (growth : ℤ) : Type 0 where
  pub place : ℕ
  pub above : low ≤ place
  pub below : place ≤ high
  pub there : s *ℤ pos (place - low) ≡ growth

none_from : (low : ℕ) (s : ℤ) → s *ℤ pos (low - low) ≡ pos 0
none_from low (pos s) = let none : low - low ≡ 0 = omega arith in rw none (omega (arith, ints))
none_from low (negsuc s) = let none : low - low ≡ 0 = omega arith in rw none (omega (arith, ints))

pub reached_most : (s : ℤ) (low high : ℕ) → low ≤ high → Reached s low high (int_max (s *ℤ pos (high - low)) (pos 0))
reached_most (pos s) low high h = record { place = high; above = h; below = omega arith; there = omega (arith, ints, int_max_is (pos s *ℤ pos (high - low)) (pos 0)) }
reached_most (negsuc s) low high h = record { place = low; above = omega arith; below = h; there = none_from low (negsuc s) ∙ omega (arith, ints, int_max_is (negsuc s *ℤ pos (high - low)) (pos 0)) }

pub reached_least : (s : ℤ) (low high : ℕ) → low ≤ high → Reached s low high (int_min (s *ℤ pos (high - low)) (pos 0))
reached_least (pos s) low high h = record { place = low; above = omega arith; below = h; there = none_from low (pos s) ∙ omega (arith, ints, int_min_is (pos s *ℤ pos (high - low)) (pos 0)) }
reached_least (negsuc s) low high h = record { place = high; above = h; below = omega arith; there = omega (arith, ints, int_min_is (negsuc s *ℤ pos (high - low)) (pos 0)) }

-- even growth stays in range where it does at the two corners to which it falls and rises most, and there alone
abbrev pub least_value : BoxN → ℤ → List ℤ → ℤ
least_value area value slopes = value +ℤ least_growth area slopes 0 +ℤ least_growth area slopes 1 +ℤ least_growth area slopes 2 +ℤ least_growth area slopes 3

abbrev pub most_value : BoxN → ℤ → List ℤ → ℤ
most_value area value slopes = value +ℤ most_growth area slopes 0 +ℤ most_growth area slopes 1 +ℤ most_growth area slopes 2 +ℤ most_growth area slopes 3

five_least : (v a b c d a' b' c' d' : ℤ) → pos 0 ≤ℤ (v +ℤ a +ℤ b +ℤ c +ℤ d) → a ≤ℤ a' → b ≤ℤ b' → c ≤ℤ c' → d ≤ℤ d' → pos 0 ≤ℤ (v +ℤ a' +ℤ b' +ℤ c' +ℤ d')
five_least v a b c d a' b' c' d' h p q r s = omega (arith, ints)

five_most : (v a b c d a' b' c' d' : ℤ) → (v +ℤ a' +ℤ b' +ℤ c' +ℤ d') ≤ℤ pos 100000 → a ≤ℤ a' → b ≤ℤ b' → c ≤ℤ c' → d ≤ℤ d' → (v +ℤ a +ℤ b +ℤ c +ℤ d) ≤ℤ pos 100000
five_most v a b c d a' b' c' d' h p q r s = omega (arith, ints)

pub five_same : (v a b c d a' b' c' d' : ℤ) → a ≡ a' → b ≡ b' → c ≡ c' → d ≡ d' → (v +ℤ a +ℤ b +ℤ c +ℤ d) ≡ (v +ℤ a' +ℤ b' +ℤ c' +ℤ d')
five_same v a b c d a' b' c' d' e f g h = rw (e, f, g, h) refl

good_value : (z : ℤ) → pos 0 ≤ℤ z → z ≤ℤ pos 100000 → is_value z ≡ true
good_value z h k = grind (arith, nat_tests, ints)

pub within_range : (area : BoxN) (value : ℤ) (slopes : List ℤ) → pos 0 ≤ℤ least_value area value slopes → most_value area value slopes ≤ℤ pos 100000
    → (point : Point) → has_point area point ≡ true → is_value (grown_at area value slopes point) ≡ true
within_range area value slopes least most point inside =
    let at : ℕ → ℤ = λ k. slice_index_or slopes k (pos 0) *ℤ pos (slice_index point.at k - slice_index area.low k) in
    let place = place_in area point inside in
    let between : (k : ℕ) → k < 4 → (least_growth area slopes k ≤ℤ at k) × (at k ≤ℤ most_growth area slopes k) = λ k p. grows_between (slice_index_or slopes k (pos 0)) (slice_index point.at k - slice_index area.low k) (slice_index area.high k - slice_index area.low k) (omega (arith, (place k p).0, (place k p).1)) in
    let a = between 0 (omega arith) in
    let b = between 1 (omega arith) in
    let c = between 2 (omega arith) in
    let d = between 3 (omega arith) in
    good_value (grown_at area value slopes point)
    (five_least value (least_growth area slopes 0) (least_growth area slopes 1) (least_growth area slopes 2) (least_growth area slopes 3) (at 0) (at 1) (at 2) (at 3) least a.0 b.0 c.0 d.0)
    (five_most value (at 0) (at 1) (at 2) (at 3) (most_growth area slopes 0) (most_growth area slopes 1) (most_growth area slopes 2) (most_growth area slopes 3) most a.1 b.1 c.1 d.1)

-- what holds at each point of a box holds at one with these places
corner_of : (area : BoxN) (value : ℤ) (slopes : List ℤ) (g : ℕ → ℤ) → stays_in_range area value slopes ≡ true
    → ((k : ℕ) → k < 4 → Reached (slice_index_or slopes k (pos 0)) (slice_index area.low k) (slice_index area.high k) (g k)) → is_value (value +ℤ g 0 +ℤ g 1 +ℤ g 2 +ℤ g 3) ≡ true
corner_of area value slopes g stays at =
    let a = at 0 (omega arith) in
    let b = at 1 (omega arith) in
    let c = at 2 (omega arith) in
    let d = at 3 (omega arith) in
    let point : Point = point_from a.place b.place c.place d.place in
    let inside : has_point area point ≡ true = four_in area a.place b.place c.place d.place a.above a.below b.above b.below c.above c.below d.above d.below in
    let there = point_listed area point refl inside in
    let good = passes_at (λ (p : Point). is_value (grown_at area value slopes p)) (points_in area) there.0 point stays there.1 in
    subst (λ (z : ℤ). is_value z ≡ true) (five_same value _ _ _ _ (g 0) (g 1) (g 2) (g 3) a.there b.there c.there d.there) good
  where
    four_in : (area : BoxN) (i j k l : ℕ) → slice_index area.low 0 ≤ i → i ≤ slice_index area.high 0 → slice_index area.low 1 ≤ j → j ≤ slice_index area.high 1 → slice_index area.low 2 ≤ k → k ≤ slice_index area.high 2
        → slice_index area.low 3 ≤ l → l ≤ slice_index area.high 3 → has_point area (point_from i j k l) ≡ true
    four_in area i j k l a b c d e f g h = rw (le-leb (slice_index area.low 0) i a, le-leb i (slice_index area.high 0) b, le-leb (slice_index area.low 1) j c, le-leb j (slice_index area.high 1) d, le-leb (slice_index area.low 2) k e, le-leb k (slice_index area.high 2) f, le-leb (slice_index area.low 3) l g, le-leb l (slice_index area.high 3) h) refl

pub range_test : (area : BoxN) (value : ℤ) (slopes : List ℤ) → is_box area ≡ true → (int_le (pos 0) (least_value area value slopes) && int_le (most_value area value slopes) (pos 100000)) ≡ stays_in_range area value slopes
range_test area value slopes proper =
    by (int_le (pos 0) (least_value area value slopes)) (int_le (most_value area value slopes) (pos 100000)) (stays_in_range area value slopes) refl refl refl
  where
    ordered : (k : ℕ) → k < 4 → slice_index area.low k ≤ slice_index area.high k
    ordered k p = low_le_high area proper k p

    above : stays_in_range area value slopes ≡ true → is_value (least_value area value slopes) ≡ true
    above stays = corner_of area value slopes (least_growth area slopes) stays (λ k p. reached_least (slice_index_or slopes k (pos 0)) (slice_index area.low k) (slice_index area.high k) (ordered k p))

    below : stays_in_range area value slopes ≡ true → is_value (most_value area value slopes) ≡ true
    below stays = corner_of area value slopes (most_growth area slopes) stays (λ k p. reached_most (slice_index_or slopes k (pos 0)) (slice_index area.low k) (slice_index area.high k) (ordered k p))

    least_from : (z : ℤ) → int_le (pos 0) z ≡ true → pos 0 ≤ℤ z
    least_from z e = grind (arith, nat_tests, ints)

    most_from : (z : ℤ) → int_le z (pos 100000) ≡ true → z ≤ℤ pos 100000
    most_from z e = grind (arith, nat_tests, ints)

    by : (a b c : Bool) → int_le (pos 0) (least_value area value slopes) ≡ a → int_le (most_value area value slopes) (pos 100000) ≡ b → stays_in_range area value slopes ≡ c → (a && b) ≡ c
    by true true true e f g = refl
    by true true false e f g =
        let all : stays_in_range area value slopes ≡ true = passes_each (λ (p : Point). is_value (grown_at area value slopes p)) (points_in area)
        (λ k p there. within_range area value slopes (least_from (least_value area value slopes) e) (most_from (most_value area value slopes) f) p (listed_point area k p there)) in
        sym all ∙ g
    by true false true e f g = sym (sym (and_parts (int_le (pos 0) (most_value area value slopes)) (int_le (most_value area value slopes) (pos 100000)) (below g)).1 ∙ f)
    by false b true e f g = sym (sym (and_parts (int_le (pos 0) (least_value area value slopes)) (int_le (least_value area value slopes) (pos 100000)) (above g)).0 ∙ e)
    by true false false e f g = refl
    by false b false e f g = refl

-- small numbers add up within 64 bits
pub growth_small : (z : ℤ) → IsRise z → IsRise (int_min z (pos 0)) × IsRise (int_max z (pos 0))
growth_small z h = ((omega (arith, ints, int_min_is z (pos 0)), omega (arith, ints, int_min_is z (pos 0))), (omega (arith, ints, int_max_is z (pos 0)), omega (arith, ints, int_max_is z (pos 0))))

pub value_rise : (z : ℤ) → is_value z ≡ true → IsRise z
value_rise z h = let within = value_bounds z h in (omega (arith, ints), omega (arith, ints))

pub sums_kept : (v a b c d : ℤ) → IsRise v → IsRise a → IsRise b → IsRise c → IsRise d
    → (to_z w64 (of_z w64 v) ≡ v) × (to_z w64 (of_z w64 a) ≡ a) × (to_z w64 (of_z w64 b) ≡ b) × (to_z w64 (of_z w64 c) ≡ c) × (to_z w64 (of_z w64 d) ≡ d)
    × (to_z w64 (of_z w64 (v +ℤ a)) ≡ v +ℤ a) × (to_z w64 (of_z w64 (v +ℤ a +ℤ b)) ≡ v +ℤ a +ℤ b) × (to_z w64 (of_z w64 (v +ℤ a +ℤ b +ℤ c)) ≡ v +ℤ a +ℤ b +ℤ c)
    × (to_z w64 (of_z w64 (v +ℤ a +ℤ b +ℤ c +ℤ d)) ≡ v +ℤ a +ℤ b +ℤ c +ℤ d)
sums_kept v a b c d hv ha hb hc hd = (omega (arith, ints), omega (arith, ints), omega (arith, ints), omega (arith, ints), omega (arith, ints), omega (arith, ints), omega (arith, ints), omega (arith, ints), omega (arith, ints))

pub sums_fit : (v a b c d : ℤ) → IsRise v → IsRise a → IsRise b → IsRise c → IsRise d → (FitsSigned w64 (v +ℤ a)) × (FitsSigned w64 (v +ℤ a +ℤ b)) × (FitsSigned w64 (v +ℤ a +ℤ b +ℤ c)) × (FitsSigned w64 (v +ℤ a +ℤ b +ℤ c +ℤ d))
sums_fit v a b c d hv ha hb hc hd = (omega (arith, ints), omega (arith, ints), omega (arith, ints), omega (arith, ints))
