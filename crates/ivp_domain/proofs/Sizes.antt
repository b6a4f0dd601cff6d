-- The sizes of a domain, its points, and the index of a point.
use Rattle.std.proofs.Common.{◌≡◌, ℕ, zero, suc, ◌+◌, ◌-◌, ◌*◌, ◌/◌, ◌%◌, ◌<◌, ◌≤◌, ◌^◌, min, true, ◌&&◌, nat_le, None, Some, List, [], ◌∷◌, length, refl, ap, sym, ◌∙◌, arith, is_none, nat_lt, leb-true, zero-add, inl, inr}
use Rattle.std.specs.Prelude.{slice_get, slice_index}
use Rattle.std.specs.List.{list_all}
use Rattle.std.proofs.Math.Nat.{le-mul_of_pos_right}
use Rattle.std.proofs.lemmas.Nat.{mul-add-lt}
use Rattle.std.proofs.lemmas.Bool.{and_from, and_parts, cases_lt}
use Rattle.std.proofs.lemmas.Option.{slice_get_within}
use Rattle.std.proofs.lemmas.Bool.Decides.{nat_tests}
use Rattle.ivp_domain.specs.declared.axis.Axis.{Axis}
use Rattle.ivp_domain.specs.declared.boxes.Point.{Point}
use Rattle.ivp_domain.specs.Axes.{is_good_axis}
use Rattle.ivp_domain.specs.Boxes.{point_from, side_of, volume_of}
use Rattle.ivp_domain.specs.Domains.{index_of, is_domain, is_point, points_of, repeated_place, size_of, size_of_axis, size_on, whole}
use Rattle.ivp_domain.proofs.Ranges.{digits, four}
use Rattle.ivp_domain.proofs.BoxLemmas.{length-points_in, product_part, slice_get-points_in}

-- good axes have a place
pub size_positive : (axes : List Axis) → list_all is_good_axis axes ≡ true → (k : ℕ) → 0 < size_on k axes
size_positive [] h k = omega arith
size_positive (axis ∷ axes) h zero = grind (arith, nat_tests)
size_positive (axis ∷ axes) h (suc k) = size_positive axes (and_parts (is_good_axis axis) (list_all is_good_axis axes) h).1 k

-- what makes a domain
pub good_axes : (axes : List Axis) → is_domain axes ≡ true → list_all is_good_axis axes ≡ true
good_axes axes h =
    let front = and_parts (nat_lt 0 (length axes) && nat_le (length axes) 4 && list_all is_good_axis axes && nat_le (size_of axes) (2 ^ 28)) (is_none (repeated_place axes)) h in
    let front' = and_parts (nat_lt 0 (length axes) && nat_le (length axes) 4 && list_all is_good_axis axes) (nat_le (size_of axes) (2 ^ 28)) front.0 in
    (and_parts (nat_lt 0 (length axes) && nat_le (length axes) 4) (list_all is_good_axis axes) front'.0).1

pub few : (axes : List Axis) → is_domain axes ≡ true → size_of axes ≤ 2 ^ 28
few axes h =
    let front = and_parts (nat_lt 0 (length axes) && nat_le (length axes) 4 && list_all is_good_axis axes && nat_le (size_of axes) (2 ^ 28)) (is_none (repeated_place axes)) h in
    leb-true (size_of axes) (2 ^ 28) (and_parts (nat_lt 0 (length axes) && nat_le (length axes) 4 && list_all is_good_axis axes) (nat_le (size_of axes) (2 ^ 28)) front.0).1

pub four_axes : (axes : List Axis) → is_domain axes ≡ true → length axes ≤ 4
four_axes axes h =
    let front = and_parts (nat_lt 0 (length axes) && nat_le (length axes) 4 && list_all is_good_axis axes && nat_le (size_of axes) (2 ^ 28)) (is_none (repeated_place axes)) h in
    let front' = and_parts (nat_lt 0 (length axes) && nat_le (length axes) 4 && list_all is_good_axis axes) (nat_le (size_of axes) (2 ^ 28)) front.0 in
    let front'' = and_parts (nat_lt 0 (length axes) && nat_le (length axes) 4) (list_all is_good_axis axes) front'.0 in
    leb-true (length axes) 4 (and_parts (nat_lt 0 (length axes)) (nat_le (length axes) 4) front''.0).1

pub positive : (axes : List Axis) → is_domain axes ≡ true → (k : ℕ) → 0 < size_on k axes
positive axes h k = size_positive axes (good_axes axes h) k

-- the box of all points has the domain's sizes
side_of-whole : (axes : List Axis) → is_domain axes ≡ true → (side_of 0 (whole axes) ≡ size_on 0 axes) × (side_of 1 (whole axes) ≡ size_on 1 axes) × (side_of 2 (whole axes) ≡ size_on 2 axes) × (side_of 3 (whole axes) ≡ size_on 3 axes)
side_of-whole axes h = (omega (arith, positive axes h 0), omega (arith, positive axes h 1), omega (arith, positive axes h 2), omega (arith, positive axes h 3))

pub volume_of-whole : (axes : List Axis) → is_domain axes ≡ true → volume_of (whole axes) ≡ size_of axes
volume_of-whole axes h = let e = side_of-whole axes h in rw (e.0, e.1, e.2, e.3) refl

pub length-points_of : (axes : List Axis) → is_domain axes ≡ true → length (points_of axes) ≡ size_of axes
length-points_of axes h =
    let e = side_of-whole axes h in
    length-points_in (whole axes) ∙ rw (e.0, e.1, e.2, e.3) refl

-- the places of a point are below the sizes
pub places_below : (axes : List Axis) (p : Point) → is_domain axes ≡ true → is_point axes p ≡ true → (slice_index p.at 0 < size_on 0 axes) × (slice_index p.at 1 < size_on 1 axes) × (slice_index p.at 2 < size_on 2 axes) × (slice_index p.at 3 < size_on 3 axes)
places_below axes p h inside =
    below (slice_index p.at 0) (slice_index p.at 1) (slice_index p.at 2) (slice_index p.at 3) (size_on 0 axes) (size_on 1 axes) (size_on 2 axes) (size_on 3 axes) (positive axes h 0) (positive axes h 1) (positive axes h 2) (positive axes h 3) inside
  where
    below : (i j k l a b c d : ℕ) → 0 < a → 0 < b → 0 < c → 0 < d → ((nat_le 0 i && nat_le i (a - 1)) && (nat_le 0 j && nat_le j (b - 1)) && (nat_le 0 k && nat_le k (c - 1)) && (nat_le 0 l && nat_le l (d - 1))) ≡ true → (i < a) × (j < b) × (k < c) × (l < d)
    below i j k l a b c d p q r s h = (grind (arith, nat_tests), grind (arith, nat_tests), grind (arith, nat_tests), grind (arith, nat_tests))

-- and a point whose places are below them is one of the domain
pub is_point-from : (axes : List Axis) (p : Point) → slice_index p.at 0 < size_on 0 axes → slice_index p.at 1 < size_on 1 axes → slice_index p.at 2 < size_on 2 axes → slice_index p.at 3 < size_on 3 axes → is_point axes p ≡ true
is_point-from axes p a b c d = grind (arith, nat_tests)

pub is_point-of : (axes : List Axis) (i j k l : ℕ) → i < size_on 0 axes → j < size_on 1 axes → k < size_on 2 axes → l < size_on 3 axes → is_point axes (point_from i j k l) ≡ true
is_point-of axes i j k l p q r s = is_point-from axes (point_from i j k l) p q r s

-- mixed radix stays below the product
pub radix : (i j k l a b c d : ℕ) → i < a → j < b → k < c → l < d → (i * b + j < a * b) × ((i * b + j) * c + k < a * b * c) × (((i * b + j) * c + k) * d + l < a * b * c * d)
radix i j k l a b c d p q r s =
    let two : i * b + j < b * a = mul-add-lt i b j a p q in
    let three : (i * b + j) * c + k < c * (b * a) = mul-add-lt (i * b + j) c k (b * a) two r in
    let all : ((i * b + j) * c + k) * d + l < d * (c * (b * a)) = mul-add-lt ((i * b + j) * c + k) d l (c * (b * a)) three s in
    (omega arith, omega arith, omega arith)

-- a point and its index belong together
pub record IsPointAt (axes : List Axis) (n : ℕ) (p : Point) : Type 0 where
  pub index : index_of axes p ≡ n
  pub listed : slice_get (points_of axes) n ≡ Some p
  pub inside : is_point axes p ≡ true

-- the point at these places stands at its index
pub point_in_list : (axes : List Axis) → is_domain axes ≡ true → (i j k l : ℕ) → i < size_on 0 axes → j < size_on 1 axes → k < size_on 2 axes → l < size_on 3 axes → slice_get (points_of axes) (index_of axes (point_from i j k l)) ≡ Some (point_from i j k l)
point_in_list axes h i j k l p q r s =
    let e = side_of-whole axes h in
    let b = size_on 1 axes in
    let c = size_on 2 axes in
    let d = size_on 3 axes in
    let index : ((i * b + j) * c + k) * d + l ≡ ((i * side_of 1 (whole axes) + j) * side_of 2 (whole axes) + k) * side_of 3 (whole axes) + l = rw (e.1, e.2, e.3) refl in
    let same : point_from (0 + i) (0 + j) (0 + k) (0 + l) ≡ point_from i j k l = rw (zero-add i, zero-add j, zero-add k, zero-add l) refl in
    ap (slice_get (points_of axes)) index ∙ (slice_get-points_in (whole axes) i j k l (omega (arith, e.0)) (omega (arith, e.1)) (omega (arith, e.2)) (omega (arith, e.3)) ∙ ap Some same)

-- a point is that at its places
pub point_in_list_at : (axes : List Axis) (p : Point) → is_domain axes ≡ true → is_point axes p ≡ true → length p.at ≡ 4 → slice_get (points_of axes) (index_of axes p) ≡ Some p
point_in_list_at axes p h inside four_places =
    let at = places_below axes p h inside in
    let same : point_from (slice_index p.at 0) (slice_index p.at 1) (slice_index p.at 2) (slice_index p.at 3) ≡ p = ap (λ (places : List ℕ). let q : Point = record { at = places } in q) (sym (four p.at four_places)) in
    point_in_list axes h (slice_index p.at 0) (slice_index p.at 1) (slice_index p.at 2) (slice_index p.at 3) at.0 at.1 at.2 at.3 ∙ ap Some same

-- a capped product
pub min-min_mul : (a b c : ℕ) → min (min a c * b) c ≡ min (a * b) c
min-min_mul a zero c = omega arith
min-min_mul a (suc b) c = elim (cases_lt c a) [ inl h ↦ capped a b c h | inr h ↦ let m : min a c ≡ a = omega arith in rw m refl ]
  where
    capped : (a b c : ℕ) → c < a → min (min a c * suc b) c ≡ min (a * suc b) c
    capped a b c h =
        let m : min a c ≡ c = omega arith in
        let some : 0 < suc b = omega arith in
        let more : c ≤ c * suc b = le-mul_of_pos_right c some in
        let more' : a ≤ a * suc b = le-mul_of_pos_right a some in
        rw m (omega arith)

pub few_in_all : (a b c d m : ℕ) → nat_le (min (min (min (min (1 * a) (m + 1) * b) (m + 1) * c) (m + 1) * d) (m + 1)) m ≡ nat_le (a * b * c * d) m
few_in_all a b c d m =
    let one : 1 * a ≡ a = omega arith in
    rw (one, min-min_mul a b (m + 1), min-min_mul (a * b) c (m + 1), min-min_mul (a * b * c) d (m + 1)) (grind (arith, nat_tests))

-- no part of the product is above its bound
pub product_within : (axes : List Axis) → is_domain axes ≡ true → (size_on 0 axes * size_on 1 axes ≤ 2 ^ 28) × (size_on 0 axes * size_on 1 axes * size_on 2 axes ≤ 2 ^ 28)
product_within axes h =
    let m = few axes h in
    let part = product_part (size_on 0 axes) (size_on 1 axes) (size_on 2 axes) (size_on 3 axes) (2 ^ 28 + 1) (positive axes h 2) (positive axes h 3) (omega (arith, m)) in
    (omega (arith, part.0), omega (arith, part.1))

-- nor is a size
pub few_on : (axes : List Axis) → is_domain axes ≡ true → (k : ℕ) → k < 4 → size_on k axes ≤ 2 ^ 28
few_on axes h k p =
    let a = size_on 0 axes in
    let b = size_on 1 axes in
    let c = size_on 2 axes in
    let d = size_on 3 axes in
    let within = product_within axes h in
    let whole : a * b * c * d ≤ 2 ^ 28 = few axes h in
    let one : a ≤ a * b = le-mul_of_pos_right a (positive axes h 1) in
    let two : b ≤ b * a = le-mul_of_pos_right b (positive axes h 0) in
    let some : 0 < a * b = omega (arith, one, positive axes h 0) in
    let three : c ≤ c * (a * b) = le-mul_of_pos_right c some in
    let some' : 0 < a * b * c = omega (arith, le-mul_of_pos_right (a * b) (positive axes h 2), some) in
    let four_of : d ≤ d * (a * b * c) = le-mul_of_pos_right d some' in
    at k p (omega (arith, one, within.0)) (omega (arith, two, within.0)) (omega (arith, three, within.1)) (omega (arith, four_of, whole))
  where
    at : (k : ℕ) → k < 4 → size_on 0 axes ≤ 2 ^ 28 → size_on 1 axes ≤ 2 ^ 28 → size_on 2 axes ≤ 2 ^ 28 → size_on 3 axes ≤ 2 ^ 28 → size_on k axes ≤ 2 ^ 28
    at zero p a b c d = a
    at (suc zero) p a b c d = b
    at (suc (suc zero)) p a b c d = c
    at (suc (suc (suc zero))) p a b c d = d
    at (suc (suc (suc (suc k)))) p a b c d = absurd (omega arith)

-- an axis of the domain
pub few_at : (axes : List Axis) (k : ℕ) (axis : Axis) → is_domain axes ≡ true → slice_get axes k ≡ Some axis → axis.points ≤ 2 ^ 28
few_at axes k axis h e =
    let within : k < length axes = slice_get_within axes k axis e in
    let size : size_on k axes ≡ axis.points = ap size_of_axis e in
    omega (arith, few_on axes h k (omega (arith, within, four_axes axes h)), size)

-- the facts that make a domain, together
pub is_domain-from : (axes : List Axis) → 0 < length axes → length axes ≤ 4 → list_all is_good_axis axes ≡ true → nat_le (size_of axes) (2 ^ 28) ≡ true → repeated_place axes ≡ None → is_domain axes ≡ true
is_domain-from axes some most good few one =
    and_from (nat_lt 0 (length axes) && nat_le (length axes) 4 && list_all is_good_axis axes && nat_le (size_of axes) (2 ^ 28)) (is_none (repeated_place axes))
    (and_from (nat_lt 0 (length axes) && nat_le (length axes) 4 && list_all is_good_axis axes) (nat_le (size_of axes) (2 ^ 28))
    (and_from (nat_lt 0 (length axes) && nat_le (length axes) 4) (list_all is_good_axis axes) (grind (arith, nat_tests)) good) few)
    (ap is_none one)

-- the digits of an index below the number of points
pub point_of_index : (axes : List Axis) (n : ℕ) → is_domain axes ≡ true → n < length (points_of axes) → IsPointAt axes n (point_from (n / size_on 3 axes / size_on 2 axes / size_on 1 axes) (n / size_on 3 axes / size_on 2 axes % size_on 1 axes) (n / size_on 3 axes % size_on 2 axes) (n % size_on 3 axes))
point_of_index axes n h within =
    let a = size_on 0 axes in
    let b = size_on 1 axes in
    let c = size_on 2 axes in
    let d = size_on 3 axes in
    let below : n < a * b * c * d = omega (arith, within, length-points_of axes h) in
    let p : 0 < b = positive axes h 1 in
    let q : 0 < c = positive axes h 2 in
    let r : 0 < d = positive axes h 3 in
    let back = digits n a b c d p q r below in
    let j : n / d / c % b < b = omega arith in
    let k : n / d % c < c = omega arith in
    let l : n % d < d = omega arith in
    record {
      index = back.1;
      listed = ap (slice_get (points_of axes)) (sym back.1) ∙ point_in_list axes h (n / d / c / b) (n / d / c % b) (n / d % c) (n % d) back.0 j k l;
      inside = is_point-of axes (n / d / c / b) (n / d / c % b) (n / d % c) (n % d) back.0 j k l;
    }

-- an index and what it is built from are at most the number of points
pub index_within : (axes : List Axis) (p : Point) → is_domain axes ≡ true → is_point axes p ≡ true → (slice_index p.at 0 * size_on 1 axes + slice_index p.at 1 ≤ 2 ^ 28) × ((slice_index p.at 0 * size_on 1 axes + slice_index p.at 1) * size_on 2 axes + slice_index p.at 2 ≤ 2 ^ 28) × (index_of axes p ≤ 2 ^ 28)
index_within axes p h inside =
    let at = places_below axes p h inside in
    let digit = radix (slice_index p.at 0) (slice_index p.at 1) (slice_index p.at 2) (slice_index p.at 3) (size_on 0 axes) (size_on 1 axes) (size_on 2 axes) (size_on 3 axes) at.0 at.1 at.2 at.3 in
    let part = product_within axes h in
    (omega (arith, digit.0, part.0), omega (arith, digit.1, part.1), omega (arith, digit.2, few axes h))
