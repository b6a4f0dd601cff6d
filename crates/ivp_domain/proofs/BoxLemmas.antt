-- Boxes: how many points one has and which stands where, and the common points of two.
use Rattle.std.proofs.Common.{◌≡◌, ℕ, ◌+◌, ◌-◌, ◌*◌, ◌/◌, ◌%◌, ◌<◌, ◌≤◌, max, min, Bool, true, false, ◌&&◌, List, length, map, Some, refl, ap, ◌∙◌, sym, arith, nat_le}
use Rattle.std.specs.Prelude.{slice_get, slice_index, option_map}
use Rattle.std.specs.List.{flat_map}
use Rattle.std.proofs.Math.Nat.{le-mul_of_pos_right}
use Rattle.std.proofs.lemmas.List.{length-map}
use Rattle.std.proofs.lemmas.Nat.{mul-add-lt}
use Rattle.std.proofs.lemmas.Bool.{false_from_ne_true}
use Rattle.std.proofs.lemmas.Option.{slice_get-map, slice_get_within}
use Rattle.std.proofs.lemmas.Bool.Decides.{nat_tests}
use Rattle.ivp_domain.specs.declared.boxes.Point.{Point}
use Rattle.ivp_domain.specs.declared.boxes.BoxN.{BoxN}
use Rattle.ivp_domain.specs.Boxes.{common, has_place, has_point, is_box, places_on, point_from, points_in, side_of, volume_of}
use Rattle.ivp_domain.proofs.Ranges.{digits, factors, four, length-numbers_from, length-flat, slice_get-numbers_from, slice_get-flat}

-- the points with these places on the first axes
abbrev last : BoxN → ℕ → ℕ → ℕ → List Point
last area i j k = map (point_from i j k) (places_on 3 area)

abbrev last_two : BoxN → ℕ → ℕ → List Point
last_two area i j = flat_map (last area i j) (places_on 2 area)

abbrev last_three : BoxN → ℕ → List Point
last_three area i = flat_map (last_two area i) (places_on 1 area)

length-last : (area : BoxN) (i j k : ℕ) → length (last area i j k) ≡ side_of 3 area
length-last area i j k = simp (length-map, length-numbers_from)

length-last_two : (area : BoxN) (i j : ℕ) → length (last_two area i j) ≡ side_of 2 area * side_of 3 area
length-last_two area i j = length-flat (last area i j) (side_of 3 area) (length-last area i j) (slice_index area.low 2) (side_of 2 area)

length-last_three : (area : BoxN) (i : ℕ) → length (last_three area i) ≡ side_of 1 area * (side_of 2 area * side_of 3 area)
length-last_three area i = length-flat (last_two area i) (side_of 2 area * side_of 3 area) (length-last_two area i) (slice_index area.low 1) (side_of 1 area)

-- the volume is the number of points
pub length-points_in : (area : BoxN) → length (points_in area) ≡ volume_of area
length-points_in area =
    let e = length-flat (last_three area) (side_of 1 area * (side_of 2 area * side_of 3 area)) (length-last_three area) (slice_index area.low 0) (side_of 0 area) in
    omega (arith, e)

-- the point at these places from the low corner stands at their mixed radix
pub slice_get-points_in : (area : BoxN) (i j k l : ℕ) → i < side_of 0 area → j < side_of 1 area → k < side_of 2 area → l < side_of 3 area → slice_get (points_in area) (((i * side_of 1 area + j) * side_of 2 area + k) * side_of 3 area + l) ≡ Some (point_from (slice_index area.low 0 + i) (slice_index area.low 1 + j) (slice_index area.low 2 + k) (slice_index area.low 3 + l))
slice_get-points_in area i j k l p q r s =
    let b = side_of 1 area in
    let c = side_of 2 area in
    let d = side_of 3 area in
    let i' = slice_index area.low 0 + i in
    let j' = slice_index area.low 1 + j in
    let k' = slice_index area.low 2 + k in
    let in_two : k * d + l < c * d = omega (arith, mul-add-lt k d l c r s) in
    let in_three : j * (c * d) + (k * d + l) < b * (c * d) = omega (arith, mul-add-lt j (c * d) (k * d + l) b q in_two) in
    let e : ((i * b + j) * c + k) * d + l ≡ i * (b * (c * d)) + (j * (c * d) + (k * d + l)) = omega arith in
    rw e (slice_get-flat (last_three area) (b * (c * d)) (length-last_three area) (slice_index area.low 0) (side_of 0 area) i (j * (c * d) + (k * d + l)) p in_three
    ∙ (slice_get-flat (last_two area i') (c * d) (length-last_two area i') (slice_index area.low 1) (side_of 1 area) j (k * d + l) q in_two
    ∙ (slice_get-flat (last area i' j') d (length-last area i' j') (slice_index area.low 2) (side_of 2 area) k l r s
    ∙ (slice_get-map (point_from i' j' k') (places_on 3 area) l ∙ ap (option_map (point_from i' j' k')) (slice_get-numbers_from (slice_index area.low 3) (side_of 3 area) l s)))))

-- a place is in the common span exactly where it is in both
in_common : (a b c d x : ℕ) → (nat_le (max a b) x && nat_le x (min c d)) ≡ ((nat_le a x && nat_le x c) && (nat_le b x && nat_le x d))
in_common a b c d x = grind (arith, nat_tests)

and_swap : (a b c d : Bool) → ((a && b) && (c && d)) ≡ ((a && c) && (b && d))
and_swap true true c d = refl
and_swap true false true d = refl
and_swap true false false d = refl
and_swap false b c d = refl

-- both conjunctions, axis by axis
in_both : (a b c d a' b' c' d' : Bool) → ((a && a') && (b && b') && (c && c') && (d && d')) ≡ ((a && b && c && d) && (a' && b' && c' && d'))
in_both a b c d a' b' c' d' =
    ap (λ x. x && (c && c') && (d && d')) (and_swap a a' b b')
    ∙ (ap (λ x. x && (d && d')) (and_swap (a && b) (a' && b') c c') ∙ and_swap (a && b && c) (a' && b' && c') d d')

-- the common box has the points of both
pub has_point-common : (a b : BoxN) (p : Point) → has_point (common a b) p ≡ (has_point a p && has_point b p)
has_point-common a b p =
    let at : ℕ → ℕ = slice_index p.at in
    let e : (k : ℕ) → (nat_le (max (slice_index a.low k) (slice_index b.low k)) (at k) && nat_le (at k) (min (slice_index a.high k) (slice_index b.high k))) ≡ (has_place k a p && has_place k b p) = λ k. in_common (slice_index a.low k) (slice_index b.low k) (slice_index a.high k) (slice_index b.high k) (at k) in
    rw (e 0, e 1, e 2, e 3) (in_both (has_place 0 a p) (has_place 1 a p) (has_place 2 a p) (has_place 3 a p) (has_place 0 b p) (has_place 1 b p) (has_place 2 b p) (has_place 3 b p))

-- a box that has a point is one, and one that is one has its low corner
pub is_box-from_point : (area : BoxN) (p : Point) → has_point area p ≡ true → is_box area ≡ true
is_box-from_point area p h = grind (arith, nat_tests)

pub has_low_corner : (area : BoxN) → is_box area ≡ true → has_point area (record { at = area.low }) ≡ true
has_low_corner area h = grind (arith, nat_tests)

pub meet_has_point : (a b : BoxN) → is_box (common a b) ≡ true → ((p : Point) → (has_point a p && has_point b p) ≡ false) → true ≡ false
meet_has_point a b h none =
    let corner : Point = record { at = (common a b).low } in
    sym (sym (has_point-common a b corner) ∙ has_low_corner (common a b) h) ∙ none corner

pub none_in_both : (a b : BoxN) → is_box (common a b) ≡ false → (p : Point) → (has_point a p && has_point b p) ≡ false
none_in_both a b h p =
    false_from_ne_true (has_point a p && has_point b p) (λ both. let e : true ≡ false = sym (is_box-from_point (common a b) p (has_point-common a b p ∙ both)) ∙ h in cc)

-- part of a product of positive numbers
pub product_part : (a b c d m : ℕ) → 0 < c → 0 < d → a * b * c * d < m → (a * b < m) × (a * b * c < m)
product_part a b c d m p q h =
    let e : a * b ≤ a * b * c = le-mul_of_pos_right (a * b) p in
    let e' : a * b * c ≤ a * b * c * d = le-mul_of_pos_right (a * b * c) q in
    (omega arith, omega arith)

pub side_positive : (area : BoxN) → is_box area ≡ true → (0 < side_of 0 area) × (0 < side_of 1 area) × (0 < side_of 2 area) × (0 < side_of 3 area)
side_positive area h = (grind (arith, nat_tests), grind (arith, nat_tests), grind (arith, nat_tests), grind (arith, nat_tests))

pub volume_part : (area : BoxN) (m : ℕ) → is_box area ≡ true → volume_of area < m → (side_of 0 area * side_of 1 area < m) × (side_of 0 area * side_of 1 area * side_of 2 area < m)
volume_part area m h fits =
    let positive = side_positive area h in
    product_part (side_of 0 area) (side_of 1 area) (side_of 2 area) (side_of 3 area) m positive.2 positive.3 fits

-- a box has the points of its list
pub listed_point : (area : BoxN) (n : ℕ) (p : Point) → slice_get (points_in area) n ≡ Some p → has_point area p ≡ true
listed_point area n p e =
    let a = side_of 0 area in
    let b = side_of 1 area in
    let c = side_of 2 area in
    let d = side_of 3 area in
    let within : n < a * b * c * d = omega (arith, slice_get_within (points_in area) n p e, length-points_in area) in
    let some = factors n a b c d within in
    let back = digits n a b c d some.0 some.1 some.2 within in
    let i = n / d / c / b in
    let j = n / d / c % b in
    let k = n / d % c in
    let l = n % d in
    let j_below : j < b = let q = some.0 in omega arith in
    let k_below : k < c = let q = some.1 in omega arith in
    let l_below : l < d = let q = some.2 in omega arith in
    let there = slice_get-points_in area i j k l back.0 j_below k_below l_below in
    let same : Some (point_from (slice_index area.low 0 + i) (slice_index area.low 1 + j) (slice_index area.low 2 + k) (slice_index area.low 3 + l)) ≡ Some p = sym there ∙ (ap (slice_get (points_in area)) back.1 ∙ e) in
    let point : point_from (slice_index area.low 0 + i) (slice_index area.low 1 + j) (slice_index area.low 2 + k) (slice_index area.low 3 + l) ≡ p = cc in
    ap (has_point area) (sym point) ∙ inside (slice_index area.low 0) (slice_index area.low 1) (slice_index area.low 2) (slice_index area.low 3) (slice_index area.high 0) (slice_index area.high 1) (slice_index area.high 2) (slice_index area.high 3) i j k l back.0 j_below k_below l_below
  where
    inside : (a b c d a' b' c' d' i j k l : ℕ) → i < a' + 1 - a → j < b' + 1 - b → k < c' + 1 - c → l < d' + 1 - d → ((nat_le a (a + i) && nat_le (a + i) a') && (nat_le b (b + j) && nat_le (b + j) b') && (nat_le c (c + k) && nat_le (c + k) c') && (nat_le d (d + l) && nat_le (d + l) d')) ≡ true
    inside a b c d a' b' c' d' i j k l p q r s = grind (arith, nat_tests)

-- and each of its points stands in the list
pub point_listed : (area : BoxN) (p : Point) → length p.at ≡ 4 → has_point area p ≡ true → (n : ℕ) × (slice_get (points_in area) n ≡ Some p)
point_listed area p four_places h =
    let at : ℕ → ℕ = slice_index p.at in
    let low : ℕ → ℕ = slice_index area.low in
    let high : ℕ → ℕ = slice_index area.high in
    let places = spans (at 0) (at 1) (at 2) (at 3) (low 0) (low 1) (low 2) (low 3) (high 0) (high 1) (high 2) (high 3) h in
    let one : low 0 + (at 0 - low 0) ≡ at 0 = omega (arith, places.0) in
    let two : low 1 + (at 1 - low 1) ≡ at 1 = omega (arith, places.1) in
    let three : low 2 + (at 2 - low 2) ≡ at 2 = omega (arith, places.2) in
    let four_th : low 3 + (at 3 - low 3) ≡ at 3 = omega (arith, places.3) in
    let same : point_from (low 0 + (at 0 - low 0)) (low 1 + (at 1 - low 1)) (low 2 + (at 2 - low 2)) (low 3 + (at 3 - low 3)) ≡ p = rw (one, two, three, four_th) (ap (λ (places : List ℕ). let q : Point = record { at = places } in q) (sym (four p.at four_places))) in (
      (((at 0 - low 0) * side_of 1 area + (at 1 - low 1)) * side_of 2 area + (at 2 - low 2)) * side_of 3 area + (at 3 - low 3),
      slice_get-points_in area (at 0 - low 0) (at 1 - low 1) (at 2 - low 2) (at 3 - low 3) (omega (arith, places.0)) (omega (arith, places.1)) (omega (arith, places.2)) (omega (arith, places.3)) ∙ ap Some same,
    )
  where
    spans : (i j k l a b c d a' b' c' d' : ℕ) → ((nat_le a i && nat_le i a') && (nat_le b j && nat_le j b') && (nat_le c k && nat_le k c') && (nat_le d l && nat_le l d')) ≡ true → ((a ≤ i) × (i ≤ a')) × ((b ≤ j) × (j ≤ b')) × ((c ≤ k) × (k ≤ c')) × ((d ≤ l) × (l ≤ d'))
    spans i j k l a b c d a' b' c' d' h = ((grind (arith, nat_tests), grind (arith, nat_tests)), (grind (arith, nat_tests), grind (arith, nat_tests)), (grind (arith, nat_tests), grind (arith, nat_tests)), (grind (arith, nat_tests), grind (arith, nat_tests)))
