-- Runs and cells: how many there are, and that a point of the domain lies in the cell that is counted for it.
use Rattle.std.proofs.Common.{◌≡◌, ℕ, zero, suc, ◌+◌, ◌-◌, ◌*◌, ◌/◌, ◌%◌, ◌^◌, ◌<◌, ◌≤◌, min, Bool, true, false, ◌==◌, if◌then◌else◌, List, [], ◌∷◌, refl, ap, sym, subst, ◌∙◌, length, arith}
use Rattle.std.specs.Prelude.{slice_index}
use Rattle.std.proofs.Math.Nat.{div-eq_of_lt-le, div-le_self, div-mul-le_self, le-mul_of_pos_right, lt-div-mul-add, mul-le-mul}
use Rattle.std.proofs.lemmas.Nat.{div-mul-add, le-div, mod-mul-add}
use Rattle.ivp_domain.specs.declared.axis.Axis.{Axis}
use Rattle.ivp_domain.specs.declared.boxes.BoxN.{BoxN}
use Rattle.ivp_domain.specs.declared.boxes.Point.{Point}
use Rattle.ivp_domain.specs.Boxes.{has_point}
use Rattle.ivp_domain.specs.Domains.{is_point, size_of, size_on, whole}
use Rattle.ivp_domain.proofs.BoxLemmas.{product_part}
use Rattle.ivp_domain.proofs.Ranges.{digits}
use Rattle.ivp_domain.proofs.Sizes.{radix}
use Rattle.ivp_func.specs.Cuts.{HaveFewPoints, reciprocal_of}
use Rattle.ivp_func.specs.Grids.{cell_at, cell_box, cells_of, last_on, most_runs, run_at, run_high, run_low, run_on, runs_box, runs_on}
use Rattle.ivp_func.proofs.Facts.{has_point-from, place_in}

-- one of four
pub one_of_four : (f : ℕ → ℕ) (k : ℕ) → k < 4 → slice_index (f 0 ∷ f 1 ∷ f 2 ∷ f 3 ∷ []) k ≡ f k
one_of_four f zero p = refl
one_of_four f (suc zero) p = refl
one_of_four f (suc (suc zero)) p = refl
one_of_four f (suc (suc (suc zero))) p = refl
one_of_four f (suc (suc (suc (suc k)))) p = absurd (omega arith)

-- no axis has more places than there are points
most_on : (axes : List Axis) (k : ℕ) → HaveFewPoints axes → k < 4 → size_on k axes ≤ 2 ^ 28
most_on axes k h p =
    let a = size_on 0 axes in
    let b = size_on 1 axes in
    let c = size_on 2 axes in
    let d = size_on 3 axes in
    let all : a * b * c * d ≤ 2 ^ 28 = h.few in
    let two : a * b ≤ a * b * c = le-mul_of_pos_right (a * b) (h.some 2) in
    let three : a * b * c ≤ a * b * c * d = le-mul_of_pos_right (a * b * c) (h.some 3) in
    let first : a ≤ a * b = le-mul_of_pos_right a (h.some 1) in
    let some : 0 < a * b = omega (arith, first, h.some 0) in
    let some' : 0 < a * b * c = omega (arith, some, two) in
    at k p (omega (arith, first, two, three, all)) (omega (arith, le-mul_of_pos_right b (h.some 0), two, three, all)) (omega (arith, le-mul_of_pos_right c some, three, all)) (omega (arith, le-mul_of_pos_right d some', all))
  where
    at : (k : ℕ) → k < 4 → size_on 0 axes ≤ 2 ^ 28 → size_on 1 axes ≤ 2 ^ 28 → size_on 2 axes ≤ 2 ^ 28 → size_on 3 axes ≤ 2 ^ 28 → size_on k axes ≤ 2 ^ 28
    at zero p a b c d = a
    at (suc zero) p a b c d = b
    at (suc (suc zero)) p a b c d = c
    at (suc (suc (suc zero))) p a b c d = d
    at (suc (suc (suc (suc k)))) p a b c d = absurd (omega arith)

-- the last place is one below the size
pub last_size : (axes : List Axis) (k : ℕ) → HaveFewPoints axes → k < 4 → last_on k axes + 1 ≡ size_on k axes
last_size axes k h p = let some = h.some k in let at : last_on k axes ≡ size_on k axes - 1 = one_of_four (λ axis. size_on axis axes - 1) k p in omega (arith, at, some)

pub last_small : (axes : List Axis) (k : ℕ) → HaveFewPoints axes → k < 4 → last_on k axes < 2 ^ 28
last_small axes k h p = omega (arith, last_size axes k h p, most_on axes k h p)

-- a run within the axis begins on it
pub run_fits : (axes : List Axis) (k run : ℕ) → run < runs_on k axes → run_low k axes run ≤ last_on k axes
run_fits axes k run h =
    let last = last_on k axes in
    let places = run_on k axes in
    let most : run ≤ last / places = omega arith in
    let one : run * places ≤ last / places * places = mul-le-mul most (let same : places ≤ places = omega arith in same) in
    omega (arith, one, div-mul-le_self last places)

-- a run has no more places than the axis
pub run_short : (axes : List Axis) (k : ℕ) → run_on k axes ≤ last_on k axes + 1
run_short axes k = omega (arith, div-le_self (last_on k axes) (most_runs (length axes)))

runs_few : (axes : List Axis) (k : ℕ) → HaveFewPoints axes → k < 4 → runs_on k axes ≤ size_on k axes
runs_few axes k h p = omega (arith, div-le_self (last_on k axes) (run_on k axes), last_size axes k h p)

pub runs_some : (axes : List Axis) (k : ℕ) → 0 < runs_on k axes
runs_some axes k = omega arith

-- the cells are no more than the points, and so are those of the first axes
pub cells_few : (axes : List Axis) → HaveFewPoints axes → (runs_on 0 axes * runs_on 1 axes ≤ 2 ^ 28) × (runs_on 0 axes * runs_on 1 axes * runs_on 2 axes ≤ 2 ^ 28) × (cells_of axes ≤ 2 ^ 28)
cells_few axes h =
    let all : cells_of axes ≤ size_of axes = mul-le-mul (mul-le-mul (mul-le-mul (runs_few axes 0 h (omega arith)) (runs_few axes 1 h (omega arith))) (runs_few axes 2 h (omega arith))) (runs_few axes 3 h (omega arith)) in
    let points = h.few in
    let part = product_part (runs_on 0 axes) (runs_on 1 axes) (runs_on 2 axes) (runs_on 3 axes) (2 ^ 28 + 1) (runs_some axes 2) (runs_some axes 3) (omega (arith, all, points)) in
    (omega (arith, part.0), omega (arith, part.1), omega (arith, all, points))

-- the runs of a cell
pub cell_runs : (axes : List Axis) (cell : ℕ) → cell < cells_of axes → (cell / runs_on 3 axes / runs_on 2 axes / runs_on 1 axes < runs_on 0 axes) × (cell / runs_on 3 axes / runs_on 2 axes % runs_on 1 axes < runs_on 1 axes) × (cell / runs_on 3 axes % runs_on 2 axes < runs_on 2 axes) × (cell % runs_on 3 axes < runs_on 3 axes)
cell_runs axes cell h =
    let one = runs_some axes 1 in
    let two = runs_some axes 2 in
    let three = runs_some axes 3 in
    ((digits cell (runs_on 0 axes) (runs_on 1 axes) (runs_on 2 axes) (runs_on 3 axes) one two three h).0, omega arith, omega arith, omega arith)

-- the run of a point's place
div_below : (place last places : ℕ) → 0 < places → place ≤ last → place / places ≤ last / places
div_below place last places some h = le-div (place / places) last places some (omega (arith, div-mul-le_self place places))

pub in_run : (axes : List Axis) (k : ℕ) (p : Point) → slice_index p.at k ≤ last_on k axes → run_at k axes p < runs_on k axes
in_run axes k p h = let some : 0 < run_on k axes = omega arith in omega (arith, div_below (slice_index p.at k) (last_on k axes) (run_on k axes) some h)

-- a run has at most 2^26 places, since an axis is cut into four at least where it has so many
run_small : (axes : List Axis) (k : ℕ) → HaveFewPoints axes → k < 4 → run_on k axes ≤ 2 ^ 26
run_small axes k h p = by_count (length axes == 2) (length axes == 3) (length axes == 4) (last_on k axes) (last_small axes k h p)
  where
    by_count : (two three four : Bool) (last : ℕ) → last < 2 ^ 28 → last / (if two then 16 else if three then 6 else if four then 4 else 256) + 1 ≤ 2 ^ 26
    by_count true three four last small = omega (arith, small)
    by_count false true four last small = omega (arith, small)
    by_count false false true last small = omega (arith, small)
    by_count false false false last small = omega (arith, small)

-- the run of a place by the reciprocal: that is above 1 / places, but for every place of an axis by too little to reach the next run
run_by_reciprocal : (place places : ℕ) → 0 < places → places ≤ 2 ^ 26 → place < 2 ^ 28 → place * reciprocal_of places / 2 ^ 54 ≡ place / places
run_by_reciprocal place places some few small =
    let below = 2 ^ 54 / places in
    let run = place / places in
    let same : (n : ℕ) → n ≤ n = λ n. omega arith in
    let large : 2 ^ 28 ≤ below = le-div (2 ^ 28) (2 ^ 54) places some (omega (arith, few)) in
    let over : 2 ^ 54 < below * places + places = lt-div-mul-add some in
    let short : place < run * places + places = lt-div-mul-add some in
    let one : run * 2 ^ 54 ≤ run * (below * places + places) = mul-le-mul (same run) (omega (arith, over)) in
    let two : run * places * (below + 1) ≤ place * (below + 1) = mul-le-mul (div-mul-le_self place places) (same (below + 1)) in
    let three : (place + 1) * below ≤ (run * places + places) * below = mul-le-mul (omega (arith, short)) (same below) in
    let four : (run + 1) * (below * places) ≤ (run + 1) * 2 ^ 54 = mul-le-mul (same (run + 1)) (div-mul-le_self (2 ^ 54) places) in
    let least : run * 2 ^ 54 ≤ place * (below + 1) = omega (arith, one, two) in
    let most : place * (below + 1) < (run + 1) * 2 ^ 54 = omega (arith, three, four, large, small) in
    div-eq_of_lt-le (2 ^ 54) least most

pub run_at_by_reciprocal : (axes : List Axis) (k : ℕ) (p : Point) → HaveFewPoints axes → k < 4 → slice_index p.at k < 2 ^ 28 → slice_index p.at k * reciprocal_of (run_on k axes) / 2 ^ 54 ≡ run_at k axes p
run_at_by_reciprocal axes k p h within small = let some : 0 < run_on k axes = omega arith in run_by_reciprocal (slice_index p.at k) (run_on k axes) some (run_small axes k h within) small

pub reciprocal_fits : (place places : ℕ) → place < 2 ^ 28 → place * reciprocal_of places < 2 ^ 83
reciprocal_fits place places small =
    let below : place ≤ 2 ^ 28 - 1 = omega (arith, small) in
    let most_of_one : reciprocal_of places ≤ 2 ^ 54 + 1 = omega (arith, div-le_self (2 ^ 54) places) in
    let most : place * reciprocal_of places ≤ (2 ^ 28 - 1) * (2 ^ 54 + 1) = mul-le-mul below most_of_one in
    omega (arith, most)

pub place_small : (axes : List Axis) (p : Point) (k : ℕ) → HaveFewPoints axes → is_point axes p ≡ true → k < 4 → slice_index p.at k < 2 ^ 28
place_small axes p k h inside within = omega (arith, last_small axes k h within, (place_in (whole axes) p inside k within).1)

-- a point's cell, step by step
pub record IsCellOf (axes : List Axis) (p : Point) : Type 0 where
  pub two : run_at 0 axes p * runs_on 1 axes + run_at 1 axes p < runs_on 0 axes * runs_on 1 axes
  pub three : (run_at 0 axes p * runs_on 1 axes + run_at 1 axes p) * runs_on 2 axes + run_at 2 axes p < runs_on 0 axes * runs_on 1 axes * runs_on 2 axes
  pub within : cell_at axes p < cells_of axes

pub cell_of : (axes : List Axis) (p : Point) → is_point axes p ≡ true → IsCellOf axes p
cell_of axes p inside =
    let at : (k : ℕ) → k < 4 → run_at k axes p < runs_on k axes = λ k within. in_run axes k p (place_in (whole axes) p inside k within).1 in
    let steps = radix (run_at 0 axes p) (run_at 1 axes p) (run_at 2 axes p) (run_at 3 axes p) (runs_on 0 axes) (runs_on 1 axes) (runs_on 2 axes) (runs_on 3 axes) (at 0 (omega arith)) (at 1 (omega arith)) (at 2 (omega arith)) (at 3 (omega arith)) in
    record { two = steps.0; three = steps.1; within = steps.2 }

-- a place lies in its run
in_its_run : (place last places : ℕ) → 0 < places → place ≤ last → (place / places * places ≤ place) × (place ≤ min (place / places * places + (places - 1)) last)
in_its_run place last places some h = (div-mul-le_self place places, let above : place < place / places * places + places = lt-div-mul-add some in omega (arith, above, h))

in_runs_box : (axes : List Axis) (p : Point) → is_point axes p ≡ true → has_point (runs_box axes (run_at 0 axes p) (run_at 1 axes p) (run_at 2 axes p) (run_at 3 axes p)) p ≡ true
in_runs_box axes p inside = has_point-from (runs_box axes (run_at 0 axes p) (run_at 1 axes p) (run_at 2 axes p) (run_at 3 axes p)) p (at)
  where
    here : (k : ℕ) → k < 4 → (run_low k axes (run_at k axes p) ≤ slice_index p.at k) × (slice_index p.at k ≤ run_high k axes (run_at k axes p))
    here k within = let some : 0 < run_on k axes = omega arith in in_its_run (slice_index p.at k) (last_on k axes) (run_on k axes) some (place_in (whole axes) p inside k within).1

    at : (k : ℕ) → k < 4 → (slice_index (runs_box axes (run_at 0 axes p) (run_at 1 axes p) (run_at 2 axes p) (run_at 3 axes p)).low k ≤ slice_index p.at k) × (slice_index p.at k ≤ slice_index (runs_box axes (run_at 0 axes p) (run_at 1 axes p) (run_at 2 axes p) (run_at 3 axes p)).high k)
    at zero within = here 0 within
    at (suc zero) within = here 1 within
    at (suc (suc zero)) within = here 2 within
    at (suc (suc (suc zero))) within = here 3 within
    at (suc (suc (suc (suc k)))) within = absurd (omega arith)

-- so a point lies in the cell that is counted for it
radix_back : (i j k l a b c : ℕ) → j < a → k < b → l < c → let n = ((i * a + j) * b + k) * c + l in (n / c / b / a ≡ i) × (n / c / b % a ≡ j) × (n / c % b ≡ k) × (n % c ≡ l)
radix_back i j k l a b c p q r =
    let one = div-mul-add ((i * a + j) * b + k) c l r in
    let two = div-mul-add (i * a + j) b k q in
    (rw (one, two) (div-mul-add i a j p), rw (one, two) (mod-mul-add i a j p), rw one (mod-mul-add (i * a + j) b k q), mod-mul-add ((i * a + j) * b + k) c l r)

-- the box of that cell is that of the point's runs
pub cell_box-cell_at : (axes : List Axis) (p : Point) → is_point axes p ≡ true → cell_box axes (cell_at axes p) ≡ runs_box axes (run_at 0 axes p) (run_at 1 axes p) (run_at 2 axes p) (run_at 3 axes p)
cell_box-cell_at axes p inside =
    let at : (k : ℕ) → k < 4 → run_at k axes p < runs_on k axes = λ k within. in_run axes k p (place_in (whole axes) p inside k within).1 in
    let back = radix_back (run_at 0 axes p) (run_at 1 axes p) (run_at 2 axes p) (run_at 3 axes p) (runs_on 1 axes) (runs_on 2 axes) (runs_on 3 axes) (at 1 (omega arith)) (at 2 (omega arith)) (at 3 (omega arith)) in
    equal back.0 back.1 back.2 back.3
  where
    equal : {i j k l i' j' k' l' : ℕ} → i ≡ i' → j ≡ j' → k ≡ k' → l ≡ l' → runs_box axes i j k l ≡ runs_box axes i' j' k' l'
    equal {i} {j} {k} {l} {i'} {j'} {k'} {l'} e f g h = ap (λ n. runs_box axes n j k l) e ∙ (ap (λ n. runs_box axes i' n k l) f ∙ (ap (λ n. runs_box axes i' j' n l) g ∙ ap (runs_box axes i' j' k') h))

pub in_cell : (axes : List Axis) (p : Point) → is_point axes p ≡ true → has_point (cell_box axes (cell_at axes p)) p ≡ true
in_cell axes p inside = subst (λ (area : BoxN). has_point area p ≡ true) (sym (cell_box-cell_at axes p inside)) (in_runs_box axes p inside)

-- a point whose places are no less has a cell that is no less
pub cells_rise : (axes : List Axis) (p q : Point) → ((k : ℕ) → k < 4 → slice_index p.at k ≤ slice_index q.at k) → cell_at axes p ≤ cell_at axes q
cells_rise axes p q h =
    let at : (k : ℕ) → k < 4 → run_at k axes p ≤ run_at k axes q = λ k within. let some : 0 < run_on k axes = omega arith in div_below (slice_index p.at k) (slice_index q.at k) (run_on k axes) some (h k within) in
    let same : (n : ℕ) → n ≤ n = λ n. omega arith in
    let one : run_at 0 axes p * runs_on 1 axes ≤ run_at 0 axes q * runs_on 1 axes = mul-le-mul (at 0 (omega arith)) (same (runs_on 1 axes)) in
    let two : run_at 0 axes p * runs_on 1 axes + run_at 1 axes p ≤ run_at 0 axes q * runs_on 1 axes + run_at 1 axes q = omega (arith, one, at 1 (omega arith)) in
    let two' : (run_at 0 axes p * runs_on 1 axes + run_at 1 axes p) * runs_on 2 axes ≤ (run_at 0 axes q * runs_on 1 axes + run_at 1 axes q) * runs_on 2 axes = mul-le-mul two (same (runs_on 2 axes)) in
    let three : (run_at 0 axes p * runs_on 1 axes + run_at 1 axes p) * runs_on 2 axes + run_at 2 axes p ≤ (run_at 0 axes q * runs_on 1 axes + run_at 1 axes q) * runs_on 2 axes + run_at 2 axes q = omega (arith, two', at 2 (omega arith)) in
    let three' = mul-le-mul three (same (runs_on 3 axes)) in
    omega (arith, three', at 3 (omega arith))
