-- What a grid keeps of a domain is enough: it can be cut, and an area meets the same pieces as the one that it is clipped to.
use Rattle.std.proofs.Common.{◌≡◌, ℕ, zero, suc, ◌+◌, ◌-◌, ◌*◌, ◌/◌, ◌%◌, ◌==◌, ◌<◌, ◌≤◌, max, min, Bool, true, false, ◌&&◌, if◌then◌else◌, nat_le, ◌⊎◌, Option, Some, None, List, [], ◌∷◌, length, refl, ap, sym, subst, ◌∙◌, inl, inr, arith}
use Rattle.std.specs.Prelude.{slice_get, slice_index}
use Rattle.std.specs.List.{filter, list_all}
use Rattle.std.proofs.Math.Nat.{div-le_self, mul-le-mul}
use Rattle.std.proofs.lemmas.Bool.{and_parts, eqb-true, le-leb}
use Rattle.std.proofs.lemmas.Nat.{div-mul-add}
use Rattle.ivp_domain.specs.declared.axis.Axis.{Axis}
use Rattle.ivp_domain.specs.declared.boxes.BoxN.{BoxN}
use Rattle.ivp_domain.specs.declared.boxes.Point.{Point}
use Rattle.ivp_domain.specs.Boxes.{is_box, numbers_from}
use Rattle.ivp_domain.specs.Domains.{is_domain, is_point, size_of, size_on, whole}
use Rattle.ivp_domain.proofs.Sizes.{few, four_axes, positive}
use Rattle.ivp_func.specs.declared.grid.Grid.{Grid}
use Rattle.ivp_func.specs.declared.piece.Piece.{Piece}
use Rattle.ivp_func.specs.Cells.{HasArea, IsLeast, IsMeeting}
use Rattle.ivp_func.specs.Cuts.{axes_to, CanBeCut, HaveFewPoints}
use Rattle.ivp_func.specs.Grids.{cell_at, cell_box, cells_of, last_on, meeting, meets, most_runs, parts_to, run_high, run_low, run_on, runs_on, share}
use Rattle.ivp_func.specs.Kept.{clipped, kept_axes, spans}
use Rattle.ivp_func.specs.Pieces.{is_box_of}
use Rattle.ivp_func.proofs.Cutting.{cell_box-cell_at, cell_runs, last_size, one_of_four, run_fits}
use Rattle.ivp_func.proofs.Facts.{area_point, box_high, box_of-from, box_parts, has_first_point, is_box-from, low_le_high, passes_at}
use Rattle.ivp_func.proofs.Meetings.{meets_piece_at}

-- a box by its ends, four numbers, and four tests
abbrev the_box : List ℕ → List ℕ → BoxN
the_box low high = record { low = low; high = high }

pub four_of : {a b c d a' b' c' d' : ℕ} → a ≡ a' → b ≡ b' → c ≡ c' → d ≡ d' → (a ∷ b ∷ c ∷ d ∷ []) ≡ (a' ∷ b' ∷ c' ∷ d' ∷ [])
four_of {a} {b} {c} {d} {a'} {b'} {c'} {d'} e f g h = ap (λ n. n ∷ b ∷ c ∷ d ∷ []) e ∙ (ap (λ n. a' ∷ n ∷ c ∷ d ∷ []) f ∙ (ap (λ n. a' ∷ b' ∷ n ∷ d ∷ []) g ∙ ap (λ n. a' ∷ b' ∷ c' ∷ n ∷ []) h))

all_same : {a b c d a' b' c' d' : Bool} → a ≡ a' → b ≡ b' → c ≡ c' → d ≡ d' → (a && b && c && d) ≡ (a' && b' && c' && d')
all_same {a} {b} {c} {d} {a'} {b'} {c'} {d'} e f g h = ap (λ t. t && b && c && d) e ∙ (ap (λ t. a' && t && c && d) f ∙ (ap (λ t. a' && b' && t && d) g ∙ ap (λ t. a' && b' && c' && t) h))

-- the points of a domain, and those of axes up to their last places
domain_points : (axes : List Axis) → is_domain axes ≡ true → HaveFewPoints axes
domain_points axes h = record { some = positive axes h; few = few axes h }

some_on : (count : ℕ) (last : List ℕ) (k : ℕ) → 0 < size_on k (axes_to count last)
some_on zero last k = omega arith
some_on (suc n) [] k = omega arith
some_on (suc n) (x ∷ xs) zero = omega arith
some_on (suc n) (x ∷ xs) (suc k) = some_on n xs k

pub cut_points : (count : ℕ) (last : List ℕ) → CanBeCut count last → HaveFewPoints (axes_to count last)
cut_points count last h = record { some = some_on count last; few = h.few }

-- the last place of an axis, or 0 on some
abbrev kept : List Axis → (ℕ → Bool) → ℕ → ℕ
kept axes left k = if left k then 0 else last_on k axes

abbrev all_kept : List Axis → (ℕ → Bool) → List ℕ
all_kept axes left = kept axes left 0 ∷ kept axes left 1 ∷ kept axes left 2 ∷ kept axes left 3 ∷ []

kept_of_none : (b : Bool) → ◌≡◌ {A = ℕ} (if b then 0 else 0) 0
kept_of_none true = refl
kept_of_none false = refl

last_of : (n : ℕ) → suc n - 1 ≡ n
last_of n = omega arith

kept_high : (axes : List Axis) (left : ℕ → Bool) → length axes ≤ 4 → (whole (axes_to (length axes) (all_kept axes left))).high ≡ all_kept axes left
kept_high [] left p = four_of (sym (kept_of_none (left 0))) (sym (kept_of_none (left 1))) (sym (kept_of_none (left 2))) (sym (kept_of_none (left 3)))
kept_high (a ∷ []) left p = four_of (last_of _) (sym (kept_of_none (left 1))) (sym (kept_of_none (left 2))) (sym (kept_of_none (left 3)))
kept_high (a ∷ b ∷ []) left p = four_of (last_of _) (last_of _) (sym (kept_of_none (left 2))) (sym (kept_of_none (left 3)))
kept_high (a ∷ b ∷ c ∷ []) left p = four_of (last_of _) (last_of _) (last_of _) (sym (kept_of_none (left 3)))
kept_high (a ∷ b ∷ c ∷ d ∷ []) left p = four_of (last_of _) (last_of _) (last_of _) (last_of _)
kept_high (a ∷ b ∷ c ∷ d ∷ e ∷ more) left p = absurd (omega arith)

count_to : (axes : List Axis) (a b c d : ℕ) → length axes ≤ 4 → length (axes_to (length axes) (a ∷ b ∷ c ∷ d ∷ [])) ≡ length axes
count_to [] a b c d p = refl
count_to (e ∷ []) a b c d p = refl
count_to (e ∷ f ∷ []) a b c d p = refl
count_to (e ∷ f ∷ g ∷ []) a b c d p = refl
count_to (e ∷ f ∷ g ∷ h ∷ []) a b c d p = refl
count_to (e ∷ f ∷ g ∷ h ∷ i ∷ more) a b c d p = absurd (omega arith)

kept_last : (axes : List Axis) (left : ℕ → Bool) (k : ℕ) → length axes ≤ 4 → k < 4 → last_on k (axes_to (length axes) (all_kept axes left)) ≡ kept axes left k
kept_last axes left k p within = ap (λ all. slice_index all k) (kept_high axes left p) ∙ one_of_four (kept axes left) k within

-- what cells come to by the number of axes and their last places alone
abbrev run_by : ℕ → List ℕ → ℕ → ℕ
run_by count high axis = parts_to (slice_index high axis) (most_runs count)

abbrev runs_by : ℕ → List ℕ → ℕ → ℕ
runs_by count high axis = parts_to (slice_index high axis) (run_by count high axis)

abbrev cells_by : ℕ → List ℕ → ℕ
cells_by count high = runs_by count high 0 * runs_by count high 1 * runs_by count high 2 * runs_by count high 3

abbrev end_by : ℕ → List ℕ → ℕ → ℕ → ℕ
end_by count high axis run = min (run * run_by count high axis + (run_by count high axis - 1)) (slice_index high axis)

abbrev box_of_runs : ℕ → List ℕ → ℕ → ℕ → ℕ → ℕ → BoxN
box_of_runs count high i j k l =
    the_box (i * run_by count high 0 ∷ j * run_by count high 1 ∷ k * run_by count high 2 ∷ l * run_by count high 3 ∷ [])
    (end_by count high 0 i ∷ end_by count high 1 j ∷ end_by count high 2 k ∷ end_by count high 3 l ∷ [])

abbrev box_by : ℕ → ℕ → List ℕ → BoxN
box_by cell count high =
    let a = runs_by count high 1 in
    let b = runs_by count high 2 in
    let c = runs_by count high 3 in
    box_of_runs count high (cell / c / b / a) (cell / c / b % a) (cell / c % b) (cell % c)

-- so the axes of a domain up to their last places have its cells
same_by : {X : Type 0} (f : ℕ → List ℕ → X) (axes : List Axis) → is_domain axes ≡ true → f (length (axes_to (length axes) (whole axes).high)) (whole (axes_to (length axes) (whole axes).high)).high ≡ f (length axes) (whole axes).high
same_by f axes h =
    let four = four_axes axes h in
    let like = axes_to (length axes) (whole axes).high in
    let count : length like ≡ length axes = count_to axes (last_on 0 axes) (last_on 1 axes) (last_on 2 axes) (last_on 3 axes) four in
    let ends : (whole like).high ≡ (whole axes).high = kept_high axes (λ _. false) four in
    ap (λ n. f n (whole like).high) count ∙ ap (f (length axes)) ends

pub like_domain : (axes : List Axis) → is_domain axes ≡ true → let like = axes_to (length axes) (whole axes).high in (cells_of like ≡ cells_of axes) × ((cell : ℕ) → cell_box like cell ≡ cell_box axes cell)
like_domain axes h = (same_by cells_by axes h, λ cell. same_by (box_by cell) axes h)

kept_within : (b : Bool) (last : ℕ) → (if b then 0 else last) ≤ last
kept_within true last = omega arith
kept_within false last = omega arith

-- so what is kept can be cut
pub can_be_cut : (axes : List Axis) (left : ℕ → Bool) → is_domain axes ≡ true → CanBeCut (length axes) (all_kept axes left)
can_be_cut axes left h =
    let four = four_axes axes h in
    let like = axes_to (length axes) (all_kept axes left) in
    let size : (k : ℕ) → k < 4 → size_on k like ≤ size_on k axes = λ k p.
    let at : last_on k like ≡ size_on k like - 1 = one_of_four (λ axis. size_on axis like - 1) k p in
    omega (arith, at, kept_last axes left k four p, kept_within (left k) (last_on k axes), last_size axes k (domain_points axes h) p) in
    let all : size_of like ≤ size_of axes = mul-le-mul (mul-le-mul (mul-le-mul (size 0 (omega arith)) (size 1 (omega arith))) (size 2 (omega arith))) (size 3 (omega arith)) in
    record {
      counted = count_to axes (kept axes left 0) (kept axes left 1) (kept axes left 2) (kept axes left 3) four;
      ends = sym (kept_high axes left four);
      few = omega (arith, all, few axes h);
    }

-- the axes that every piece spans
abbrev pub spanned : List Axis → List Piece → ℕ → Bool
spanned axes pieces k = list_all (spans k (last_on k axes)) pieces

pub kept_points : (axes : List Axis) (pieces : List Piece) → is_domain axes ≡ true → HaveFewPoints (kept_axes axes pieces)
kept_points axes pieces h = cut_points (length axes) (all_kept axes (spanned axes pieces)) (can_be_cut axes (spanned axes pieces) h)

-- on an axis all places are kept, or each piece spans it
whole_or_spanned : (axes : List Axis) (pieces : List Piece) (k : ℕ) → is_domain axes ≡ true → k < 4 → (last_on k (kept_axes axes pieces) ≡ last_on k axes) ⊎ ((last_on k (kept_axes axes pieces) ≡ 0) × (spanned axes pieces k ≡ true))
whole_or_spanned axes pieces k h p = by (spanned axes pieces k) refl
  where
    at : last_on k (kept_axes axes pieces) ≡ (if spanned axes pieces k then 0 else last_on k axes)
    at = kept_last axes (spanned axes pieces) k (four_axes axes h) p

    by : (b : Bool) → spanned axes pieces k ≡ b → (last_on k (kept_axes axes pieces) ≡ last_on k axes) ⊎ ((last_on k (kept_axes axes pieces) ≡ 0) × (spanned axes pieces k ≡ true))
    by true e = inr (at ∙ ap (λ b. if b then 0 else last_on k axes) e, e)
    by false e = inl (at ∙ ap (λ b. if b then 0 else last_on k axes) e)

-- on one axis the clipped area overlaps a piece where the area does
overlap_kept : (low high from to last most : ℕ) → low ≤ high → high ≤ last → (most ≡ last) ⊎ ((most ≡ 0) × (from ≡ 0) × (to ≡ last)) → nat_le (max (min low most) from) (min (min high most) to) ≡ nat_le (max low from) (min high to)
overlap_kept low high from to last most some within (inl all) =
    let a : min low most ≡ low = omega (arith, some, within, all) in
    let b : min high most ≡ high = omega (arith, within, all) in
    ap (λ n. nat_le (max n from) (min (min high most) to)) a ∙ ap (λ n. nat_le (max low from) (min n to)) b
overlap_kept low high from to last most some within (inr across) =
    let none = across.0 in
    let first = across.1 in
    let end = across.2 in
    le-leb (max (min low most) from) (min (min high most) to) (omega (arith, none, first, end)) ∙ sym (le-leb (max low from) (min high to) (omega (arith, some, within, first, end)))

overlap_on : (axes : List Axis) (pieces : List Piece) (area : BoxN) (n : ℕ) (piece : Piece) (k : ℕ) → is_domain axes ≡ true → is_box_of axes area ≡ true → slice_get pieces n ≡ Some piece → k < 4 →
    nat_le (max (min (slice_index area.low k) (last_on k (kept_axes axes pieces))) (slice_index piece.area.low k)) (min (min (slice_index area.high k) (last_on k (kept_axes axes pieces))) (slice_index piece.area.high k)) ≡ nat_le (max (slice_index area.low k) (slice_index piece.area.low k)) (min (slice_index area.high k) (slice_index piece.area.high k))
overlap_on axes pieces area n piece k h fits stands p =
    let high = box_high axes area fits k p in
    let proper = low_le_high area (box_parts axes area fits).0 k p in
    let within : slice_index area.high k ≤ last_on k axes = omega (arith, high, last_size axes k (domain_points axes h) p) in
    overlap_kept (slice_index area.low k) (slice_index area.high k) (slice_index piece.area.low k) (slice_index piece.area.high k) (last_on k axes) (last_on k (kept_axes axes pieces)) proper within (elim (whole_or_spanned axes pieces k h p) [
      | inl all ↦ inl all
      | inr left ↦
          let across = and_parts (slice_index piece.area.low k == 0) (slice_index piece.area.high k == last_on k axes) (passes_at (spans k (last_on k axes)) pieces n piece left.1 stands) in
          inr (left.0, eqb-true (slice_index piece.area.low k) 0 across.0, eqb-true (slice_index piece.area.high k) (last_on k axes) across.1)
    ])

-- so both meet the same pieces
pub clipped_meets : (axes : List Axis) (pieces : List Piece) (area : BoxN) (n : ℕ) → is_domain axes ≡ true → is_box_of axes area ≡ true → meets pieces (clipped (kept_axes axes pieces) area) n ≡ meets pieces area n
clipped_meets axes pieces area n h fits = by (slice_get pieces n) refl
  where
    by : (o : Option Piece) → slice_get pieces n ≡ o → meets pieces (clipped (kept_axes axes pieces) area) n ≡ meets pieces area n
    by None e = rw e refl
    by (Some piece) e =
        let on : (k : ℕ) → k < 4 → nat_le (max (min (slice_index area.low k) (last_on k (kept_axes axes pieces))) (slice_index piece.area.low k)) (min (min (slice_index area.high k) (last_on k (kept_axes axes pieces))) (slice_index piece.area.high k)) ≡ nat_le (max (slice_index area.low k) (slice_index piece.area.low k)) (min (slice_index area.high k) (slice_index piece.area.high k)) = λ k p. overlap_on axes pieces area n piece k h fits e p in
        let same : share (clipped (kept_axes axes pieces) area) piece.area ≡ share area piece.area = all_same (on 0 (omega arith)) (on 1 (omega arith)) (on 2 (omega arith)) (on 3 (omega arith)) in
        meets_piece_at pieces (clipped (kept_axes axes pieces) area) n piece e ∙ (same ∙ sym (meets_piece_at pieces area n piece e))

-- and the clipped area lies in what is kept
pub clipped_fits : (axes : List Axis) (area : BoxN) → HaveFewPoints axes → is_box area ≡ true → is_box_of axes (clipped axes area) ≡ true
clipped_fits axes area h proper = box_of-from axes (clipped axes area) (is_box-from (clipped axes area) (sides)) (high 0 (omega arith)) (high 1 (omega arith)) (high 2 (omega arith)) (high 3 (omega arith))
  where
    sides : (k : ℕ) → k < 4 → slice_index (clipped axes area).low k ≤ slice_index (clipped axes area).high k
    sides k p =
        let some = low_le_high area proper k p in
        let low : slice_index (clipped axes area).low k ≡ min (slice_index area.low k) (last_on k axes) = one_of_four (λ j. min (slice_index area.low j) (last_on j axes)) k p in
        let high : slice_index (clipped axes area).high k ≡ min (slice_index area.high k) (last_on k axes) = one_of_four (λ j. min (slice_index area.high j) (last_on j axes)) k p in
        omega (arith, some, low, high)

    high : (k : ℕ) → k < 4 → min (slice_index area.high k) (last_on k axes) < size_on k axes
    high k p = omega (arith, last_size axes k h p)

-- a cell of the domain lies in it
run_some : (axes : List Axis) (k run : ℕ) → run < runs_on k axes → run_low k axes run ≤ run_high k axes run
run_some axes k run h = omega (arith, run_fits axes k run h)

pub cell_fits : (axes : List Axis) (number : ℕ) → is_domain axes ≡ true → number < cells_of axes → is_box_of axes (cell_box axes number) ≡ true
cell_fits axes number h within =
    let runs = cell_runs axes number within in
    let points = domain_points axes h in
    let end : (k run : ℕ) → k < 4 → run_high k axes run < size_on k axes = λ k run p. omega (arith, last_size axes k points p) in
    box_of-from axes (cell_box axes number) (is_box-from (cell_box axes number) (side (run_some axes 0 _ runs.0) (run_some axes 1 _ runs.1) (run_some axes 2 _ runs.2) (run_some axes 3 _ runs.3)))
    (end 0 _ (omega arith)) (end 1 _ (omega arith)) (end 2 _ (omega arith)) (end 3 _ (omega arith))
  where
    side : {a b c d a' b' c' d' : ℕ} → a ≤ a' → b ≤ b' → c ≤ c' → d ≤ d' → (k : ℕ) → k < 4 → slice_index (a ∷ b ∷ c ∷ d ∷ []) k ≤ slice_index (a' ∷ b' ∷ c' ∷ d' ∷ []) k
    side e f g i zero p = e
    side e f g i (suc zero) p = f
    side e f g i (suc (suc zero)) p = g
    side e f g i (suc (suc (suc zero))) p = i
    side e f g i (suc (suc (suc (suc k)))) p = absurd (omega arith)

-- the run of a cell on one axis, clipped, is the run of its own low end: all of it, or place 0
abbrev Clips : ℕ → ℕ → ℕ → ℕ → Type 0
Clips low high size last = (min low last / size * size ≡ min low last) × (min (min low last / size * size + (size - 1)) last ≡ min high last)

whole_run : (run size last : ℕ) → 0 < size → run * size ≤ last → Clips (run * size) (min (run * size + (size - 1)) last) size last
whole_run run size last some fits =
    let place : min (run * size) last ≡ run * size = omega (arith, fits) in
    let exact : run * size ≡ run * size + 0 = omega arith in
    let back : run * size / size ≡ run = ap (λ n. n / size) exact ∙ div-mul-add run size 0 some in
    let first : min (run * size) last / size * size ≡ min (run * size) last = ap (λ n. n / size * size) place ∙ (ap (λ n. n * size) back ∙ sym place) in
    let twice : min (run * size + (size - 1)) last ≡ min (min (run * size + (size - 1)) last) last = omega arith in
    (first, ap (λ n. min (n + (size - 1)) last) (first ∙ place) ∙ twice)

first_place : (low high : ℕ) → Clips low high 1 0
first_place low high = (omega arith, omega arith)

clips_on : (axes : List Axis) (pieces : List Piece) (k run : ℕ) → is_domain axes ≡ true → k < 4 → run < runs_on k axes → Clips (run_low k axes run) (run_high k axes run) (run_on k (kept_axes axes pieces)) (last_on k (kept_axes axes pieces))
clips_on axes pieces k run h p below =
    let left = kept_axes axes pieces in
    let low = run_low k axes run in
    let high = run_high k axes run in
    elim (whole_or_spanned axes pieces k h p) [
      | inl all ↦
          let count : length left ≡ length axes = (can_be_cut axes (spanned axes pieces) h).counted in
          let size : run_on k left ≡ run_on k axes = ap (λ n. parts_to n (most_runs (length left))) all ∙ ap (λ n. parts_to (last_on k axes) (most_runs n)) count in
          let some : 0 < run_on k axes = omega arith in
          subst (λ n. Clips low high n (last_on k left)) (sym size) (subst (λ n. Clips low high (run_on k axes) n) (sym all) (whole_run run (run_on k axes) (last_on k axes) some (run_fits axes k run below)))
      | inr none ↦
          let size : run_on k left ≡ 1 = omega (arith, none.0, div-le_self (last_on k left) (most_runs (length left))) in
          subst (λ n. Clips low high n (last_on k left)) (sym size) (subst (λ n. Clips low high 1 n) (sym none.0) (first_place low high))
    ]

-- so a cell of the domain, clipped, is the cell in which its low corner lies
abbrev clipped_cell : List Axis → List Piece → ℕ → BoxN
clipped_cell axes pieces number = clipped (kept_axes axes pieces) (cell_box axes number)

boxes : {low high low' high' : List ℕ} → low ≡ low' → high ≡ high' → the_box low high ≡ the_box low' high'
boxes {low} {high} {low'} {high'} e f = ap (λ n. the_box n high) e ∙ ap (λ n. the_box low' n) f

pub clipped_cell_fits : (axes : List Axis) (pieces : List Piece) (number : ℕ) → is_domain axes ≡ true → number < cells_of axes → is_box_of (kept_axes axes pieces) (clipped_cell axes pieces number) ≡ true
clipped_cell_fits axes pieces number h within = clipped_fits (kept_axes axes pieces) (cell_box axes number) (kept_points axes pieces h) (box_parts axes (cell_box axes number) (cell_fits axes number h within)).0

-- the low corner of a box in some axes is a point of them
pub corner_in : (axes : List Axis) (area : BoxN) → is_box_of axes area ≡ true → is_point axes (record { at = area.low }) ≡ true
corner_in axes area fits =
    let corner : Point = record { at = area.low } in
    area_point axes area corner fits (has_first_point area corner (box_parts axes area fits).0 refl)

cell_clipped : (axes : List Axis) (pieces : List Piece) (number : ℕ) → is_domain axes ≡ true → number < cells_of axes → cell_box (kept_axes axes pieces) (cell_at (kept_axes axes pieces) (record { at = (clipped_cell axes pieces number).low })) ≡ clipped_cell axes pieces number
cell_clipped axes pieces number h within =
    let runs = cell_runs axes number within in
    let one = clips_on axes pieces 0 _ h (omega arith) runs.0 in
    let two = clips_on axes pieces 1 _ h (omega arith) runs.1 in
    let three = clips_on axes pieces 2 _ h (omega arith) runs.2 in
    let four = clips_on axes pieces 3 _ h (omega arith) runs.3 in
    cell_box-cell_at (kept_axes axes pieces) (record { at = (clipped_cell axes pieces number).low }) (corner_in (kept_axes axes pieces) (clipped_cell axes pieces number) (clipped_cell_fits axes pieces number h within))
    ∙ boxes (four_of one.0 two.0 three.0 four.0) (four_of one.1 two.1 three.1 four.1)

-- and has the pieces that the cell of the domain has
filter_alike : (t u : ℕ → Bool) (xs : List ℕ) → ((n : ℕ) → t n ≡ u n) → filter t xs ≡ filter u xs
filter_alike t u [] same = refl
filter_alike t u (x ∷ xs) same = rw (same x, filter_alike t u xs same) refl

pub clipped_list : (axes : List Axis) (pieces : List Piece) (number : ℕ) → is_domain axes ≡ true → number < cells_of axes → meeting pieces (cell_box (kept_axes axes pieces) (cell_at (kept_axes axes pieces) (record { at = (clipped (kept_axes axes pieces) (cell_box axes number)).low }))) ≡ meeting pieces (cell_box axes number)
clipped_list axes pieces number h within =
    ap (meeting pieces) (cell_clipped axes pieces number h within)
    ∙ filter_alike (meets pieces (clipped_cell axes pieces number)) (meets pieces (cell_box axes number)) (numbers_from 0 (length pieces)) (λ n. clipped_meets axes pieces (cell_box axes number) n h (cell_fits axes number h within))

-- what is found of the clipped area is found of the area
same_meets : (pieces : List Piece) (area : BoxN) (grid : Grid) (n : ℕ) → HasArea pieces area grid → meets pieces (clipped grid.cuts area) n ≡ meets pieces area n
same_meets pieces area grid n h = subst (λ (cuts : List Axis). meets pieces (clipped cuts area) n ≡ meets pieces area n) (sym h.1.cuts) (clipped_meets h.0 pieces area n h.1.domain h.2)

pub area_kept : (pieces : List Piece) (area : BoxN) (grid : Grid) → HasArea pieces area grid → is_box_of grid.cuts (clipped grid.cuts area) ≡ true
area_kept pieces area grid h = subst (λ (cuts : List Axis). is_box_of cuts (clipped cuts area) ≡ true) (sym h.1.cuts) (clipped_fits (kept_axes h.0 pieces) area (kept_points h.0 pieces h.1.domain) (box_parts h.0 area h.2).0)

pub meeting_kept : (pieces : List Piece) (area : BoxN) (grid : Grid) (from until next : ℕ) → HasArea pieces area grid → IsMeeting pieces (clipped grid.cuts area) from until next → IsMeeting pieces area from until next
meeting_kept pieces area grid from until next h is = record { most = is.most; found = λ below. let found = is.found below in (found.0, sym (same_meets pieces area grid next h) ∙ found.1) }

pub least_kept : (pieces : List Piece) (area : BoxN) (grid : Grid) (from next : ℕ) → HasArea pieces area grid → IsLeast pieces (clipped grid.cuts area) from next → IsLeast pieces area from next
least_kept pieces area grid from next h least n above met = least n above (same_meets pieces area grid n h ∙ met)
