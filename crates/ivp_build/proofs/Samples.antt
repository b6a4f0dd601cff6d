-- The pieces of a sampled utility: each fits its domain and has the value of its box, and together they are a function.
use Rattle.std.proofs.Common.{◌≡◌, ℕ, zero, suc, Bool, true, false, ◌&&◌, ◌+◌, ◌-◌, ◌*◌, ◌<◌, ◌≤◌, inl, inr, ℤ, pos, negsuc, ◌+ℤ◌, ◌-ℤ◌, ◌*ℤ◌, ◌≤ℤ◌, List, [], ◌∷◌, length, refl, sym, subst, ap, ◌∙◌, arith}
use Rattle.std.specs.Prelude.{if◌then◌else◌, int_le, nat_lt, slice_index, slice_index_or, ◌||◌}
use Rattle.std.proofs.lemmas.Bool.{cases_lt}
use Rattle.std.proofs.lemmas.Bool.Decides.{nat_tests}
use Rattle.std.proofs.lemmas.Int.{ints}
use Rattle.ivp_domain.specs.declared.axis.Axis.{Axis}
use Rattle.ivp_domain.specs.declared.boxes.BoxN.{BoxN}
use Rattle.ivp_domain.specs.declared.boxes.Point.{Point}
use Rattle.ivp_domain.specs.Boxes.{has_point}
use Rattle.ivp_domain.specs.Domains.{is_domain, size_on}
use Rattle.ivp_domain.proofs.BoxLemmas.{has_low_corner}
use Rattle.ivp_func.specs.declared.piece.Piece.{Piece}
use Rattle.ivp_func.specs.Pieces.{is_base, is_box_of, is_flat_past, is_piece_of, is_slope, is_value, piece_value, slope_on}
use Rattle.ivp_func.proofs.Facts.{area_point, box_parts, place_in}
use Rattle.ivp_build.specs.Builders.{level}
use Rattle.ivp_build.specs.Sampled.{IsSample, IsSampled, base_at, grown_at, low_corner, piece_from, stays_in_range}
use Rattle.ivp_build.proofs.Lawful.{flat_sum}
use Rattle.ivp_build.proofs.Sampling.{least_value, most_value, range_test, value_bounds, within_range}
use Rattle.ivp_build.proofs.Totals.{base_of_value}

-- a slope times a place is that times the low end and what it adds from there
product_split : (s : ℤ) (low x : ℕ) → low ≤ x → s *ℤ pos x ≡ s *ℤ pos low +ℤ s *ℤ pos (x - low)
product_split (pos s) low x h = let whole : s * x ≡ s * low + s * (x - low) = split s low x h in omega (arith, ints, whole)
  where
    split : (s low x : ℕ) → low ≤ x → s * x ≡ s * low + s * (x - low)
    split s low x h = let e : x ≡ low + (x - low) = omega arith in subst (λ (y : ℕ). s * y ≡ s * low + s * (x - low)) (sym e) (grind arith)
product_split (negsuc s) low x h = let whole : suc s * x ≡ suc s * low + suc s * (x - low) = split (suc s) low x h in omega (arith, ints, whole)
  where
    split : (s low x : ℕ) → low ≤ x → s * x ≡ s * low + s * (x - low)
    split s low x h = let e : x ≡ low + (x - low) = omega arith in subst (λ (y : ℕ). s * y ≡ s * low + s * (x - low)) (sym e) (grind arith)

regroup : (v a b c d a' b' c' d' : ℤ) → (v -ℤ (a +ℤ b +ℤ c +ℤ d)) +ℤ (a +ℤ a') +ℤ (b +ℤ b') +ℤ (c +ℤ c') +ℤ (d +ℤ d') ≡ v +ℤ a' +ℤ b' +ℤ c' +ℤ d'
regroup v a b c d a' b' c' d' = omega (arith, ints)

-- the piece that grows evenly has the value that does
pub linear_value : (area : BoxN) (value : ℤ) (slopes : List ℤ) (point : Point) → has_point area point ≡ true
    → piece_value (record { area = area; base = base_at area value slopes; slope = slopes }) point ≡ grown_at area value slopes point
linear_value area value slopes point inside =
    let slope : ℕ → ℤ = λ k. slice_index_or slopes k (pos 0) in
    let low : ℕ → ℤ = λ k. slope k *ℤ pos (slice_index area.low k) in
    let more : ℕ → ℤ = λ k. slope k *ℤ pos (slice_index point.at k - slice_index area.low k) in
    let at : (k : ℕ) → k < 4 → slope k *ℤ pos (slice_index point.at k) ≡ low k +ℤ more k = λ k p. product_split (slope k) (slice_index area.low k) (slice_index point.at k) (place_in area point inside k p).0 in
    rw (at 0 (omega arith), at 1 (omega arith), at 2 (omega arith), at 3 (omega arith)) (regroup value (low 0) (low 1) (low 2) (low 3) (more 0) (more 1) (more 2) (more 3))

-- the value on a box, whether it grows or not
abbrev pub value_on_box : BoxN → ℤ → List ℤ → Point → ℤ
value_on_box area value slopes point = if stays_in_range area value slopes then grown_at area value slopes point else value

pub piece_from_value : (area : BoxN) (value : ℤ) (slopes : List ℤ) (point : Point) → has_point area point ≡ true → piece_value (piece_from area value slopes) point ≡ value_on_box area value slopes point
piece_from_value area value slopes point inside = by (stays_in_range area value slopes)
  where
    by : (b : Bool) → piece_value (if b then record { area = area; base = base_at area value slopes; slope = slopes } else record { area = area; base = value; slope = level }) point ≡ (if b then grown_at area value slopes point else value)
    by true = linear_value area value slopes point inside
    by false = flat_sum value (slice_index point.at 0) (slice_index point.at 1) (slice_index point.at 2) (slice_index point.at 3)

-- which is in range
pub value_in_range : (area : BoxN) (value : ℤ) (slopes : List ℤ) → IsSample area value slopes → (point : Point) → has_point area point ≡ true → is_value (value_on_box area value slopes point) ≡ true
value_in_range area value slopes h point inside = by (stays_in_range area value slopes) refl
  where
    least_of : (a b : ℤ) → (int_le (pos 0) a && int_le b (pos 100000)) ≡ true → pos 0 ≤ℤ a
    least_of a b e = grind (arith, nat_tests, ints)

    most_of : (a b : ℤ) → (int_le (pos 0) a && int_le b (pos 100000)) ≡ true → b ≤ℤ pos 100000
    most_of a b e = grind (arith, nat_tests, ints)

    by : (b : Bool) → stays_in_range area value slopes ≡ b → is_value (if b then grown_at area value slopes point else value) ≡ true
    by true e =
        let test = range_test area value slopes h.proper ∙ e in
        within_range area value slopes (least_of (least_value area value slopes) (most_value area value slopes) test) (most_of (least_value area value slopes) (most_value area value slopes) test) point inside
    by false e = h.value_fits

-- past the last axis a domain has one place
size_past : (axes : List Axis) (k : ℕ) → length axes ≤ k → size_on k axes ≡ 1
size_past [] k h = refl
size_past (axis ∷ axes) zero h = absurd (omega arith)
size_past (axis ∷ axes) (suc k) h = size_past axes k (omega arith)

flat_test : (n k : ℕ) (s : ℤ) → (n ≤ k → s ≡ pos 0) → (nat_lt k n || (int_le (pos 0) s && int_le s (pos 0))) ≡ true
flat_test n k s h = elim (cases_lt k n) [ inl below ↦ grind (arith, nat_tests) | inr past ↦ let none = h past in rw none (grind (arith, nat_tests)) ]

fit_together : (a b c d e f g i j : Bool) → a ≡ true → b ≡ true → c ≡ true → d ≡ true → e ≡ true → f ≡ true → g ≡ true → i ≡ true → j ≡ true → (a && (b && c && d && e && f) && g && i && j) ≡ true
fit_together a b c d e f g i j h0 h1 h2 h3 h4 h5 h6 h7 h8 = rw (h0, h1, h2, h3, h4, h5, h6, h7, h8) refl

-- a piece on a box of a domain that has small slopes, none where the box has one place, and a value in range at the low corner
fits_with : (axes : List Axis) (piece : Piece) → is_domain axes ≡ true → is_box_of axes piece.area ≡ true → ((k : ℕ) → k < 4 → is_slope (slope_on k piece) ≡ true)
    → ((k : ℕ) → k < 4 → slice_index piece.area.high k ≤ slice_index piece.area.low k → slope_on k piece ≡ pos 0) → is_value (piece_value piece (low_corner piece.area)) ≡ true → is_piece_of axes piece ≡ true
fits_with axes piece domain box slopes flat good =
    let area = piece.area in
    let parts = box_parts axes area box in
    let corner = low_corner area in
    let inside = area_point axes area corner box (has_low_corner area parts.0) in
    let bounds = value_bounds (piece_value piece corner) good in
    let s = slopes 0 (omega arith) in
    let t = slopes 1 (omega arith) in
    let u = slopes 2 (omega arith) in
    let v = slopes 3 (omega arith) in
    let base = base_of_value axes piece corner domain inside s t u v bounds.0 bounds.1 in
    let past : (k : ℕ) → k < 4 → slice_index area.high k < size_on k axes → is_flat_past axes k piece ≡ true = λ k p below. flat_test (length axes) k (slope_on k piece) (λ none. flat k p (let one = size_past axes k none in omega arith)) in
    fit_together (is_box_of axes area) (is_base piece.base) (is_slope (slope_on 0 piece)) (is_slope (slope_on 1 piece)) (is_slope (slope_on 2 piece)) (is_slope (slope_on 3 piece)) (is_flat_past axes 1 piece) (is_flat_past axes 2 piece) (is_flat_past axes 3 piece)
    box base s t u v (past 1 (omega arith) parts.2) (past 2 (omega arith) parts.3) (past 3 (omega arith) parts.4)

pub sampled_fits : (axes : List Axis) (area : BoxN) (value : ℤ) (slopes : List ℤ) → is_domain axes ≡ true → is_box_of axes area ≡ true → IsSample area value slopes
    → ((k : ℕ) → k < 4 → slice_index area.high k ≤ slice_index area.low k → slice_index_or slopes k (pos 0) ≡ pos 0) → IsSampled axes area (piece_from area value slopes)
sampled_fits axes area value slopes domain box h flat =
    let values : (point : Point) → has_point area point ≡ true → is_value (piece_value (piece_from area value slopes) point) ≡ true = λ point inside. ap is_value (piece_from_value area value slopes point inside) ∙ value_in_range area value slopes h point inside in
    record { here = same (stays_in_range area value slopes); fits = fits (stays_in_range area value slopes) (values (low_corner area) (has_low_corner area h.proper)); values = values }
  where
    same : (b : Bool) → (let piece : Piece = if b then record { area = area; base = base_at area value slopes; slope = slopes } else record { area = area; base = value; slope = level } in piece.area ≡ area)
    same true = refl
    same false = refl

    none : (k : ℕ) → k < 4 → slice_index_or level k (pos 0) ≡ pos 0
    none zero p = refl
    none (suc zero) p = refl
    none (suc (suc zero)) p = refl
    none (suc (suc (suc zero))) p = refl
    none (suc (suc (suc (suc k)))) p = absurd (omega arith)

    fits : (b : Bool) → is_value (piece_value (if b then record { area = area; base = base_at area value slopes; slope = slopes } else record { area = area; base = value; slope = level }) (low_corner area)) ≡ true
        → is_piece_of axes (if b then record { area = area; base = base_at area value slopes; slope = slopes } else record { area = area; base = value; slope = level }) ≡ true
    fits true good = fits_with axes (record { area = area; base = base_at area value slopes; slope = slopes }) domain box h.slopes_fit flat good
    fits false good = fits_with axes (record { area = area; base = value; slope = level }) domain box (λ k p. ap is_slope (none k p)) (λ k p _. none k p) good
