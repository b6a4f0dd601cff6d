-- The sum of two functions: it fits, it is a partition, and its values are the sums.
use Rattle.std.proofs.Common.{◌≡◌, ℕ, zero, suc, Bool, true, false, ◌+◌, ◌*◌, ◌^◌, ◌<◌, ◌≤◌, ℤ, pos, negsuc, neg_ℤ, ◌⊎◌, inl, inr, Some, Option, List, [], ◌∷◌, length, ◌+ℤ◌, ◌*ℤ◌, ◌≤ℤ◌, FitsSigned, to_z, of_z, w64, refl, sym, subst, ap, ◌∙◌, arith}
use Rattle.std.proofs.lemmas.List.Folds.{list_all-append}
use Rattle.std.specs.Option.{option_map}
use Rattle.std.specs.Ordering.{int_eq}
use Rattle.std.specs.Prelude.{int_le, min, nat_lt, slice_get, slice_index, ◌&&◌, ◌||◌}
use Rattle.std.proofs.Math.Nat.{mul-le-mul, mul-le-mul_right}
use Rattle.std.proofs.lemmas.Bool.{and_from, and_parts, lt-ltb, or_cases}
use Rattle.std.proofs.lemmas.Bool.Decides.{Decides-int_eq, nat_tests}
use Rattle.std.proofs.lemmas.Int.{ints, fits_signed_from_abs, to_z-of_z}
use Rattle.ivp_domain.specs.declared.axis.Axis.{Axis}
use Rattle.ivp_domain.specs.declared.boxes.BoxN.{BoxN}
use Rattle.ivp_domain.specs.declared.boxes.Point.{Point}
use Rattle.ivp_domain.specs.Boxes.{common, has_point, is_box}
use Rattle.ivp_domain.specs.Domains.{is_domain, is_point, size_on}
use Rattle.ivp_domain.proofs.BoxLemmas.{has_low_corner, has_point-common}
use Rattle.ivp_domain.proofs.Sizes.{few, places_below}
use Rattle.ivp_func.specs.declared.piece.Piece.{Piece}
use Rattle.ivp_func.specs.Functions.{Function, HasValues, IsFunction, IsPartition}
use Rattle.ivp_func.specs.Pieces.{are_pieces_of, is_base, is_box_of, is_flat_past, is_piece_of, is_slope, is_small, is_value, piece_value, rise_on, slope_on, value_at, value_in}
use Rattle.ivp_func.proofs.Counting.{find_some, value_at-only}
use Rattle.ivp_func.proofs.Facts.{box_parts, passes_at, piece_parts, piece_point}
use Rattle.ivp_func.proofs.Rises.{base_within, small_parts}
use Rattle.ivp_build.specs.Sums.{HaveRoom, couple_at, couple_pieces, is_level_on, met_sums, slope_apart, sum_of_pieces}
use Rattle.ivp_build.proofs.Meets.{count_at-couple, find-couple, front_apart, front_met}

-- two numbers that are bases have a sum of 64 bits
kept : (a : ℤ) → is_base a ≡ true → to_z w64 (of_z w64 a) ≡ a
kept a h = let within = base_within a h in omega (arith, ints)

together : (a b : ℤ) → is_base a ≡ true → is_base b ≡ true → FitsSigned w64 (a +ℤ b)
together a b h k = let one = base_within a h in let other = base_within b k in fits_signed_from_abs w64 (a +ℤ b) (omega (arith, ints))

pub bases_fit : (a b : ℤ) → is_base a ≡ true → is_base b ≡ true → FitsSigned w64 (to_z w64 (of_z w64 a) +ℤ to_z w64 (of_z w64 b))
bases_fit a b h k = rw (kept a h, kept b k) (together a b h k)

pub bases_are : (a b : ℤ) → is_base a ≡ true → is_base b ≡ true → to_z w64 (of_z w64 (to_z w64 (of_z w64 a) +ℤ to_z w64 (of_z w64 b))) ≡ a +ℤ b
bases_are a b h k = rw (kept a h, kept b k) (to_z-of_z w64 (a +ℤ b) (together a b h k))

-- a slope is less than a base may be
wide : (z : ℤ) → is_slope z ≡ true → is_base z ≡ true
wide z h = grind (arith, nat_tests, ints)

pub slope_of_small : (piece : Piece) (axis : ℕ) → is_small piece ≡ true → axis < 4 → is_slope (slope_on axis piece) ≡ true
slope_of_small piece zero h within = (small_parts piece h).1
slope_of_small piece (suc zero) h within = (small_parts piece h).2
slope_of_small piece (suc (suc zero)) h within = (small_parts piece h).3
slope_of_small piece (suc (suc (suc zero))) h within = (small_parts piece h).4
slope_of_small piece (suc (suc (suc (suc n)))) h within = absurd (omega arith)

pub slope_base : (piece : Piece) (axis : ℕ) → is_small piece ≡ true → axis < 4 → is_base (slope_on axis piece) ≡ true
slope_base piece axis h within = wide (slope_on axis piece) (slope_of_small piece axis h within)

-- a place goes into a sum
times_zero : (z : ℤ) → (z *ℤ pos 0) ≡ pos 0
times_zero (pos z) = omega (arith, ints)
times_zero (negsuc z) = omega (arith, ints)

times_suc : (z : ℤ) (n : ℕ) → (z *ℤ pos (suc n)) ≡ ((z *ℤ pos n) +ℤ z)
times_suc (pos z) n = omega (arith, ints)
times_suc (negsuc z) n = omega (arith, ints)

times_sum : (a b : ℤ) (n : ℕ) → ((a +ℤ b) *ℤ pos n) ≡ ((a *ℤ pos n) +ℤ (b *ℤ pos n))
times_sum a b zero = rw (times_zero (a +ℤ b), times_zero a, times_zero b) refl
times_sum a b (suc n) = let rest = times_sum a b n in omega (arith, ints, times_suc (a +ℤ b) n, times_suc a n, times_suc b n)

regrouped : (b b' s s' t t' u u' v v' : ℤ) → ((b +ℤ b') +ℤ (s +ℤ s') +ℤ (t +ℤ t') +ℤ (u +ℤ u') +ℤ (v +ℤ v')) ≡ ((b +ℤ s +ℤ t +ℤ u +ℤ v) +ℤ (b' +ℤ s' +ℤ t' +ℤ u' +ℤ v'))
regrouped b b' s s' t t' u u' v v' = omega (arith, ints)

-- the value of a sum of pieces is the sum of their values
pub piece_value-sum : (p q : Piece) (area : BoxN) (point : Point) → piece_value (sum_of_pieces p q area) point ≡ piece_value p point +ℤ piece_value q point
piece_value-sum p q area point =
    rw (times_sum (slope_on 0 p) (slope_on 0 q) (slice_index point.at 0), times_sum (slope_on 1 p) (slope_on 1 q) (slice_index point.at 1), times_sum (slope_on 2 p) (slope_on 2 q) (slice_index point.at 2), times_sum (slope_on 3 p) (slope_on 3 q) (slice_index point.at 3))
    (regrouped p.base q.base (rise_on 0 p point) (rise_on 0 q point) (rise_on 1 p point) (rise_on 1 q point) (rise_on 2 p point) (rise_on 2 q point) (rise_on 3 p point) (rise_on 3 q point))

-- what holds of two functions whose sum is made
pub record AreCoupled (axes : List Axis) (ps qs : List Piece) : Type 0 where
  pub domain : is_domain axes ≡ true
  pub first : IsFunction (record { axes = axes; pieces = ps })
  pub second : IsFunction (record { axes = axes; pieces = qs })
  pub room : HaveRoom axes ps qs
  pub apart : slope_apart ps qs ≡ true

pub coupled : (f g : Function) → IsFunction f → IsFunction g → f.axes ≡ g.axes → HaveRoom f.axes f.pieces g.pieces → slope_apart f.pieces g.pieces ≡ true → AreCoupled f.axes f.pieces g.pieces
coupled f g one other same room apart =
    let function_on : List Axis → Type 0 = λ axes. IsFunction (record { axes = axes; pieces = g.pieces }) in
    record { domain = one.domain; first = one; second = subst function_on (sym same) other; room = room; apart = apart }

-- each point lies in one of the sums
pub couple_partition : (axes : List Axis) (ps qs : List Piece) → AreCoupled axes ps qs → IsPartition axes (couple_pieces ps qs)
couple_partition axes ps qs h point inside =
    let one = h.first.partition point inside in
    let other = h.second.partition point inside in
    count_at-couple ps qs point ∙ rw (one, other) refl

-- and its value there is the sum of the values
pub couple_value : (axes : List Axis) (ps qs : List Piece) → AreCoupled axes ps qs → (point : Point) → is_point axes point ≡ true → value_at (couple_pieces ps qs) point ≡ couple_at (value_at ps) (value_at qs) point
couple_value axes ps qs h point inside =
    let one = find_some ps point (omega (arith, h.first.partition point inside)) in
    let other = find_some qs point (omega (arith, h.second.partition point inside)) in
    let found = find-couple ps qs point other.piece other.found ∙ ap (option_map (λ (p : Piece). sum_of_pieces p other.piece (common p.area other.piece.area))) one.found in
    ap (λ (o : Option Piece). value_in o point) found ∙ piece_value-sum one.piece other.piece (common one.piece.area other.piece.area) point
    ∙ sym (ap (λ (o : Option Piece). value_in o point +ℤ value_at qs point) one.found ∙ ap (λ (o : Option Piece). piece_value one.piece point +ℤ value_in o point) other.found)

least_value : (z : ℤ) → is_value z ≡ true → pos 0 ≤ℤ z
least_value z h = grind (arith, nat_tests, ints)

good_value : (z : ℤ) → pos 0 ≤ℤ z → z ≤ℤ pos 100000 → is_value z ≡ true
good_value z h k = grind (arith, nat_tests, ints)

-- which is in range
pub couple_within : (axes : List Axis) (ps qs : List Piece) → AreCoupled axes ps qs → (point : Point) → is_point axes point ≡ true → is_value (couple_at (value_at ps) (value_at qs) point) ≡ true
couple_within axes ps qs h point inside =
    let one = least_value (value_at ps point) (h.first.values point inside) in
    let other = least_value (value_at qs point) (h.second.values point inside) in
    good_value (value_at ps point +ℤ value_at qs point) (omega (arith, ints)) (h.room point inside)

pub couple_values : (axes : List Axis) (ps qs : List Piece) → AreCoupled axes ps qs → HasValues axes (couple_pieces ps qs)
couple_values axes ps qs h point inside = ap is_value (couple_value axes ps qs h point inside) ∙ couple_within axes ps qs h point inside

-- so a base that fits a value in range at a place is a base that pieces may have
slope_times : (s : ℤ) (x : ℕ) → is_slope s ≡ true → (neg_ℤ (pos (100000 * x)) ≤ℤ (s *ℤ pos x)) × ((s *ℤ pos x) ≤ℤ pos (100000 * x))
slope_times (pos s) x h =
    let most : s ≤ 100000 = grind (arith, nat_tests, ints) in
    let product = mul-le-mul_right x most in
    (omega (arith, ints), omega (arith, ints))
slope_times (negsuc s) x h =
    let most : suc s ≤ 100000 = grind (arith, nat_tests, ints) in
    let product = mul-le-mul_right x most in
    (omega (arith, ints), omega (arith, ints))

base_from : (z : ℤ) → neg_ℤ (pos (10 ^ 14)) ≤ℤ z → z ≤ℤ pos (10 ^ 14) → is_base z ≡ true
base_from z h k = grind (arith, nat_tests, ints)

base_by_value : (b r s t u : ℤ) (x : ℕ) → pos 0 ≤ℤ (b +ℤ r +ℤ s +ℤ t +ℤ u) → (b +ℤ r +ℤ s +ℤ t +ℤ u) ≤ℤ pos 100000 → x < 2 ^ 28
    → neg_ℤ (pos (100000 * x)) ≤ℤ (r +ℤ s +ℤ t +ℤ u) → (r +ℤ s +ℤ t +ℤ u) ≤ℤ pos (100000 * x) → is_base b ≡ true
base_by_value b r s t u x least most small low high = base_from b (omega (arith, ints)) (omega (arith, ints))

four_low : (r s t u : ℤ) (i j k l : ℕ) → neg_ℤ (pos (100000 * i)) ≤ℤ r → neg_ℤ (pos (100000 * j)) ≤ℤ s → neg_ℤ (pos (100000 * k)) ≤ℤ t → neg_ℤ (pos (100000 * l)) ≤ℤ u → neg_ℤ (pos (100000 * (i + j + k + l))) ≤ℤ (r +ℤ s +ℤ t +ℤ u)
four_low r s t u i j k l a b c d = omega (arith, ints)

four_high : (r s t u : ℤ) (i j k l : ℕ) → r ≤ℤ pos (100000 * i) → s ≤ℤ pos (100000 * j) → t ≤ℤ pos (100000 * k) → u ≤ℤ pos (100000 * l) → (r +ℤ s +ℤ t +ℤ u) ≤ℤ pos (100000 * (i + j + k + l))
four_high r s t u i j k l a b c d = omega (arith, ints)

-- places on two axes together are fewer than the points
two_places : (x y a b : ℕ) → x < a → y < b → x + y < a * b
two_places x y a b h k =
    let product : suc x * suc y ≤ a * b = mul-le-mul {n₁ = suc x} {m₁ = suc y} {n₂ = a} {m₂ = b} (omega arith) (omega arith) in
    omega arith

places_few : (axes : List Axis) (p : Point) → is_domain axes ≡ true → is_point axes p ≡ true → slice_index p.at 0 + slice_index p.at 1 + slice_index p.at 2 + slice_index p.at 3 < 2 ^ 28
places_few axes p domain inside =
    let below = places_below axes p domain inside in
    let two = two_places (slice_index p.at 0) (slice_index p.at 1) (size_on 0 axes) (size_on 1 axes) below.0 below.1 in
    let three = two_places (slice_index p.at 0 + slice_index p.at 1) (slice_index p.at 2) (size_on 0 axes * size_on 1 axes) (size_on 2 axes) two below.2 in
    let four = two_places (slice_index p.at 0 + slice_index p.at 1 + slice_index p.at 2) (slice_index p.at 3) (size_on 0 axes * size_on 1 axes * size_on 2 axes) (size_on 3 axes) three below.3 in
    omega (arith, few axes domain, four)

pub base_of_value : (axes : List Axis) (piece : Piece) (p : Point) → is_domain axes ≡ true → is_point axes p ≡ true → is_slope (slope_on 0 piece) ≡ true → is_slope (slope_on 1 piece) ≡ true → is_slope (slope_on 2 piece) ≡ true → is_slope (slope_on 3 piece) ≡ true
    → pos 0 ≤ℤ piece_value piece p → piece_value piece p ≤ℤ pos 100000 → is_base piece.base ≡ true
base_of_value axes piece p domain inside s t u v least most =
    let at : ℕ → ℕ = slice_index p.at in
    let a = slope_times (slope_on 0 piece) (at 0) s in
    let b = slope_times (slope_on 1 piece) (at 1) t in
    let c = slope_times (slope_on 2 piece) (at 2) u in
    let d = slope_times (slope_on 3 piece) (at 3) v in
    base_by_value piece.base (rise_on 0 piece p) (rise_on 1 piece p) (rise_on 2 piece p) (rise_on 3 piece p) (at 0 + at 1 + at 2 + at 3) least most (places_few axes p domain inside)
    (four_low (rise_on 0 piece p) (rise_on 1 piece p) (rise_on 2 piece p) (rise_on 3 piece p) (at 0) (at 1) (at 2) (at 3) a.0 b.0 c.0 d.0)
    (four_high (rise_on 0 piece p) (rise_on 1 piece p) (rise_on 2 piece p) (rise_on 3 piece p) (at 0) (at 1) (at 2) (at 3) a.1 b.1 c.1 d.1)

-- on each axis one of the two slopes of a sum is 0
slope_or : (s t : ℤ) → is_slope s ≡ true → is_slope t ≡ true → (s ≡ pos 0) ⊎ (t ≡ pos 0) → is_slope (s +ℤ t) ≡ true
slope_or s t h k (inl e) = let same : s +ℤ t ≡ t = rw e (omega (arith, ints)) in rw same k
slope_or s t h k (inr e) = let same : s +ℤ t ≡ s = rw e (omega (arith, ints)) in rw same h

level_at : (axis : ℕ) (pieces : List Piece) (k : ℕ) (piece : Piece) → is_level_on axis pieces ≡ true → slice_get pieces k ≡ Some piece → slope_on axis piece ≡ pos 0
level_at axis pieces k piece level stands = (Decides-int_eq (slope_on axis piece) (pos 0)).0 (passes_at (λ (piece : Piece). int_eq (slope_on axis piece) (pos 0)) pieces k piece level stands)

sum_slope : (axis : ℕ) (ps qs : List Piece) (i j : ℕ) (p q : Piece) → (is_level_on axis ps || is_level_on axis qs) ≡ true → slice_get ps i ≡ Some p → slice_get qs j ≡ Some q → is_slope (slope_on axis p) ≡ true → is_slope (slope_on axis q) ≡ true → is_slope (slope_on axis p +ℤ slope_on axis q) ≡ true
sum_slope axis ps qs i j p q level one other small small_too =
    slope_or (slope_on axis p) (slope_on axis q) small small_too (elim (or_cases (is_level_on axis ps) (is_level_on axis qs) level) [
      | inl first ↦ inl (level_at axis ps i p first one)
      | inr second ↦ inr (level_at axis qs j q second other)
    ])

flat_or : (b : Bool) (s t : ℤ) → (b || (int_le (pos 0) s && int_le s (pos 0))) ≡ true → (b || (int_le (pos 0) t && int_le t (pos 0))) ≡ true → (b || (int_le (pos 0) (s +ℤ t) && int_le (s +ℤ t) (pos 0))) ≡ true
flat_or true s t h k = refl
flat_or false s t h k = grind (arith, nat_tests, ints)

-- a piece has no slopes past the last axis
piece_flat : (axes : List Axis) (piece : Piece) → is_piece_of axes piece ≡ true → (is_flat_past axes 1 piece ≡ true) × (is_flat_past axes 2 piece ≡ true) × (is_flat_past axes 3 piece ≡ true)
piece_flat axes piece h =
    let a = is_box_of axes piece.area in
    let b = is_small piece in
    let c = is_flat_past axes 1 piece in
    let d = is_flat_past axes 2 piece in
    let e = is_flat_past axes 3 piece in
    let last = and_parts (a && b && c && d) e h in
    let third = and_parts (a && b && c) d last.0 in
    let second = and_parts (a && b) c third.0 in
    (second.1, third.1, last.1)

common_in : (axes : List Axis) (a b : BoxN) → is_box_of axes a ≡ true → is_box (common a b) ≡ true → is_box_of axes (common a b) ≡ true
common_in axes a b fits e =
    let high = box_parts axes a fits in
    let at : (k : ℕ) → slice_index a.high k < size_on k axes → nat_lt (min (slice_index a.high k) (slice_index b.high k)) (size_on k axes) ≡ true = λ k below. lt-ltb (min (slice_index a.high k) (slice_index b.high k)) (size_on k axes) (omega arith) in
    rw (e, at 0 high.1, at 1 high.2, at 2 high.3, at 3 high.4) refl

-- the four slopes of a sum are within their bounds
apart_parts : (ps qs : List Piece) → slope_apart ps qs ≡ true
    → ((is_level_on 0 ps || is_level_on 0 qs) ≡ true) × ((is_level_on 1 ps || is_level_on 1 qs) ≡ true) × ((is_level_on 2 ps || is_level_on 2 qs) ≡ true) × ((is_level_on 3 ps || is_level_on 3 qs) ≡ true)
apart_parts ps qs h =
    let on : ℕ → Bool = λ axis. is_level_on axis ps || is_level_on axis qs in
    let three = and_parts (on 0 && on 1 && on 2) (on 3) h in
    let two = and_parts (on 0 && on 1) (on 2) three.0 in
    let one = and_parts (on 0) (on 1) two.0 in
    (one.0, one.1, two.1, three.1)

-- a sum of two pieces may stand in a function
sum_fits : (axes : List Axis) (ps qs : List Piece) → AreCoupled axes ps qs → (i j : ℕ) (p q : Piece) → slice_get ps i ≡ Some p → slice_get qs j ≡ Some q → is_box (common p.area q.area) ≡ true
    → is_piece_of axes (sum_of_pieces p q (common p.area q.area)) ≡ true
sum_fits axes ps qs h i j p q one other proper =
    let fits = passes_at (is_piece_of axes) ps i p h.first.pieces one in
    let fits_too = passes_at (is_piece_of axes) qs j q h.second.pieces other in
    let area = common p.area q.area in
    let sum : Piece = sum_of_pieces p q area in
    let corner : Point = record { at = area.low } in
    let here = has_low_corner area proper in
    let both = and_parts (has_point p.area corner) (has_point q.area corner) (sym (has_point-common p.area q.area corner) ∙ here) in
    let inside = piece_point axes p corner fits both.0 in
    let first = value_at-only ps i p corner (h.first.partition corner inside) one both.0 in
    let second = value_at-only qs j q corner (h.second.partition corner inside) other both.1 in
    let value : piece_value sum corner ≡ couple_at (value_at ps) (value_at qs) corner = piece_value-sum p q area corner ∙ sym (ap (λ (z : ℤ). z +ℤ value_at qs corner) first ∙ ap (λ (z : ℤ). piece_value p corner +ℤ z) second) in
    let least = subst (λ (z : ℤ). pos 0 ≤ℤ z) (sym value) (least_value (couple_at (value_at ps) (value_at qs) corner) (couple_within axes ps qs h corner inside)) in
    let most = subst (λ (z : ℤ). z ≤ℤ pos 100000) (sym value) (h.room corner inside) in
    let small = (piece_parts axes p fits).1 in
    let small_too = (piece_parts axes q fits_too).1 in
    let level = apart_parts ps qs h.apart in
    let s = sum_slope 0 ps qs i j p q level.0 one other (slope_of_small p 0 small (omega arith)) (slope_of_small q 0 small_too (omega arith)) in
    let t = sum_slope 1 ps qs i j p q level.1 one other (slope_of_small p 1 small (omega arith)) (slope_of_small q 1 small_too (omega arith)) in
    let u = sum_slope 2 ps qs i j p q level.2 one other (slope_of_small p 2 small (omega arith)) (slope_of_small q 2 small_too (omega arith)) in
    let v = sum_slope 3 ps qs i j p q level.3 one other (slope_of_small p 3 small (omega arith)) (slope_of_small q 3 small_too (omega arith)) in
    let base = base_of_value axes sum corner h.domain inside s t u v least most in
    let flat = piece_flat axes p fits in
    let flat_too = piece_flat axes q fits_too in
    let box = common_in axes p.area q.area (piece_parts axes p fits).0 proper in
    let past : (k : ℕ) (x y : ℤ) → (nat_lt k (length axes) || (int_le (pos 0) x && int_le x (pos 0))) ≡ true → (nat_lt k (length axes) || (int_le (pos 0) y && int_le y (pos 0))) ≡ true → (nat_lt k (length axes) || (int_le (pos 0) (x +ℤ y) && int_le (x +ℤ y) (pos 0))) ≡ true = λ k x y. flat_or (nat_lt k (length axes)) x y in
    made_of (is_box_of axes area) (is_base sum.base) (is_slope (slope_on 0 sum)) (is_slope (slope_on 1 sum)) (is_slope (slope_on 2 sum)) (is_slope (slope_on 3 sum)) (is_flat_past axes 1 sum) (is_flat_past axes 2 sum) (is_flat_past axes 3 sum)
    box base s t u v (past 1 (slope_on 1 p) (slope_on 1 q) flat.0 flat_too.0) (past 2 (slope_on 2 p) (slope_on 2 q) flat.1 flat_too.1) (past 3 (slope_on 3 p) (slope_on 3 q) flat.2 flat_too.2)
  where
    made_of : (a b c d e f g i j : Bool) → a ≡ true → b ≡ true → c ≡ true → d ≡ true → e ≡ true → f ≡ true → g ≡ true → i ≡ true → j ≡ true → (a && (b && c && d && e && f) && g && i && j) ≡ true
    made_of a b c d e f g i j h0 h1 h2 h3 h4 h5 h6 h7 h8 = rw (h0, h1, h2, h3, h4, h5, h6, h7, h8) refl

-- so all of them may
row_fits : (axes : List Axis) (p : Piece) (qs : List Piece) → ((j : ℕ) (q : Piece) → slice_get qs j ≡ Some q → is_box (common p.area q.area) ≡ true → is_piece_of axes (sum_of_pieces p q (common p.area q.area)) ≡ true)
    → are_pieces_of axes (met_sums p qs) ≡ true
row_fits axes p [] each = refl
row_fits axes p (q ∷ qs) each = by (is_box (common p.area q.area)) refl (each 0 q refl) (row_fits axes p qs (λ j x stands. each (suc j) x stands))
  where
    by : (b : Bool) → is_box (common p.area q.area) ≡ b → (is_box (common p.area q.area) ≡ true → is_piece_of axes (sum_of_pieces p q (common p.area q.area)) ≡ true) → are_pieces_of axes (met_sums p qs) ≡ true → are_pieces_of axes (met_sums p (q ∷ qs)) ≡ true
    by true e here rest = ap (are_pieces_of axes) (front_met p q qs e) ∙ and_from (is_piece_of axes (sum_of_pieces p q (common p.area q.area))) (are_pieces_of axes (met_sums p qs)) (here e) rest
    by false e here rest = ap (are_pieces_of axes) (front_apart p q qs e) ∙ rest

rows_fit : (axes : List Axis) (ps qs : List Piece) → ((i : ℕ) (p : Piece) → slice_get ps i ≡ Some p → are_pieces_of axes (met_sums p qs) ≡ true) → are_pieces_of axes (couple_pieces ps qs) ≡ true
rows_fit axes [] qs each = refl
rows_fit axes (p ∷ ps) qs each =
    list_all-append (is_piece_of axes) (met_sums p qs) (couple_pieces ps qs) ∙ and_from (are_pieces_of axes (met_sums p qs)) (are_pieces_of axes (couple_pieces ps qs)) (each 0 p refl) (rows_fit axes ps qs (λ i x stands. each (suc i) x stands))

pub couple_fits : (axes : List Axis) (ps qs : List Piece) → AreCoupled axes ps qs → are_pieces_of axes (couple_pieces ps qs) ≡ true
couple_fits axes ps qs h = rows_fit axes ps qs (λ i p one. row_fits axes p qs (λ j q other proper. sum_fits axes ps qs h i j p q one other proper))

-- so few of them are a function
pub couple_function : (axes over : List Axis) (ps qs pieces : List Piece) → AreCoupled axes ps qs → over ≡ axes → pieces ≡ couple_pieces ps qs → length pieces ≤ 4096 → IsFunction (record { axes = over; pieces = pieces })
couple_function axes over ps qs pieces h same all few =
    subst (λ (a : List Axis). IsFunction (record { axes = a; pieces = pieces })) (sym same) (subst (λ (xs : List Piece). IsFunction (record { axes = axes; pieces = xs })) (sym all) (record {
      domain = h.domain;
      few = subst (λ (xs : List Piece). length xs ≤ 4096) all few;
      pieces = couple_fits axes ps qs h;
      partition = couple_partition axes ps qs h;
      values = couple_values axes ps qs h;
    }))
