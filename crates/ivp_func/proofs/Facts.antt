-- Boxes axis by axis, and what a piece that fits a domain keeps.
use Rattle.std.proofs.Common.{◌≡◌, ℕ, zero, suc, ◌+◌, ◌<◌, ◌≤◌, Bool, true, ◌&&◌, nat_le, nat_lt, Some, pos, length, get_or, refl, subst, inl, inr, List, [], leb-true, ltb-true, arith}
use Rattle.std.specs.Prelude.{slice_get, slice_index}
use Rattle.std.specs.List.{list_all}
use Rattle.std.proofs.Math.Nat.{one-le-mul}
use Rattle.std.proofs.lemmas.Bool.{and_from, and_parts, cases_eq, lt-ltb}
use Rattle.std.proofs.lemmas.List.Sums.{AllPass-from_list_all, list_all-from_AllPass}
use Rattle.std.proofs.lemmas.Option.{get_or_from_slice_get, slice_get-get_or, slice_get_within}
use Rattle.std.proofs.lemmas.Bool.Decides.{nat_tests}
use Rattle.ivp_domain.specs.declared.axis.Axis.{Axis}
use Rattle.ivp_domain.specs.declared.boxes.Point.{Point}
use Rattle.ivp_domain.specs.declared.boxes.BoxN.{BoxN}
use Rattle.ivp_domain.specs.Boxes.{has_place, has_point, is_box, volume_of, side_of}
use Rattle.ivp_domain.specs.Domains.{is_point, size_on}
use Rattle.ivp_domain.proofs.Sizes.{is_point-from}
use Rattle.ivp_func.specs.declared.piece.Piece.{Piece}
use Rattle.ivp_func.specs.Cells.{lies_in, lies_on}
use Rattle.ivp_func.specs.Pieces.{are_pieces_of, piece_has, is_box_of, is_flat_past, is_piece_of, is_small}

-- four tests, one for each axis
each_of : (t : ℕ → Bool) → (t 0 && t 1 && t 2 && t 3) ≡ true → (k : ℕ) → k < 4 → t k ≡ true
each_of t h zero p = (and_parts (t 0) (t 1) (and_parts (t 0 && t 1) (t 2) (and_parts (t 0 && t 1 && t 2) (t 3) h).0).0).0
each_of t h (suc zero) p = (and_parts (t 0) (t 1) (and_parts (t 0 && t 1) (t 2) (and_parts (t 0 && t 1 && t 2) (t 3) h).0).0).1
each_of t h (suc (suc zero)) p = (and_parts (t 0 && t 1) (t 2) (and_parts (t 0 && t 1 && t 2) (t 3) h).0).1
each_of t h (suc (suc (suc zero))) p = (and_parts (t 0 && t 1 && t 2) (t 3) h).1
each_of t h (suc (suc (suc (suc k)))) p = absurd (omega arith)

all_of : (t : ℕ → Bool) → ((k : ℕ) → k < 4 → t k ≡ true) → (t 0 && t 1 && t 2 && t 3) ≡ true
all_of t h = and_from (t 0 && t 1 && t 2) (t 3) (and_from (t 0 && t 1) (t 2) (and_from (t 0) (t 1) (h 0 (omega arith)) (h 1 (omega arith))) (h 2 (omega arith))) (h 3 (omega arith))

-- a place of the box on each axis
pub place_in : (area : BoxN) (p : Point) → has_point area p ≡ true → (k : ℕ) → k < 4 → (slice_index area.low k ≤ slice_index p.at k) × (slice_index p.at k ≤ slice_index area.high k)
place_in area p h k within =
    let here = and_parts (nat_le (slice_index area.low k) (slice_index p.at k)) (nat_le (slice_index p.at k) (slice_index area.high k)) (each_of (λ j. has_place j area p) h k within) in
    (leb-true (slice_index area.low k) (slice_index p.at k) here.0, leb-true (slice_index p.at k) (slice_index area.high k) here.1)

pub has_point-from : (area : BoxN) (p : Point) → ((k : ℕ) → k < 4 → (slice_index area.low k ≤ slice_index p.at k) × (slice_index p.at k ≤ slice_index area.high k)) → has_point area p ≡ true
has_point-from area p h = all_of (λ j. has_place j area p) (λ k within. let here = h k within in grind (arith, nat_tests))

-- a point of a box that lies in another
pub point_in : (area around : BoxN) (p : Point) → lies_in area around ≡ true → has_point area p ≡ true → has_point around p ≡ true
point_in area around p h inside =
    has_point-from around p (λ k within.
    let here = and_parts (nat_le (slice_index around.low k) (slice_index area.low k)) (nat_le (slice_index area.high k) (slice_index around.high k)) (each_of (λ j. lies_on j area around) h k within) in
    let place = place_in area p inside k within in
    let low = leb-true (slice_index around.low k) (slice_index area.low k) here.0 in
    let high = leb-true (slice_index area.high k) (slice_index around.high k) here.1 in
    (omega (arith, low, place.0), omega (arith, place.1, high)))

pub low_le_high : (area : BoxN) → is_box area ≡ true → (k : ℕ) → k < 4 → slice_index area.low k ≤ slice_index area.high k
low_le_high area h k within = leb-true (slice_index area.low k) (slice_index area.high k) (each_of (λ j. nat_le (slice_index area.low j) (slice_index area.high j)) h k within)

pub is_box-from : (area : BoxN) → ((k : ℕ) → k < 4 → slice_index area.low k ≤ slice_index area.high k) → is_box area ≡ true
is_box-from area h = all_of (λ j. nat_le (slice_index area.low j) (slice_index area.high j)) (λ k within. let here = h k within in grind (arith, nat_tests))

pub volume_positive : (area : BoxN) → is_box area ≡ true → 0 < volume_of area
volume_positive area h =
    let side : (k : ℕ) → k < 4 → 1 ≤ side_of k area = λ k within. let some = low_le_high area h k within in omega arith in
    one-le-mul (one-le-mul (one-le-mul (side 0 (omega arith)) (side 1 (omega arith))) (side 2 (omega arith))) (side 3 (omega arith))

-- a point with the low corner's places is in the box
pub has_first_point : (area : BoxN) (p : Point) → is_box area ≡ true → p.at ≡ area.low → has_point area p ≡ true
has_first_point area p h e = has_point-from area p (λ k within. let below = low_le_high area h k within in rw e (omega arith, below))

-- a piece that fits: its box, its size
pub piece_parts : (axes : List Axis) (piece : Piece) → is_piece_of axes piece ≡ true → (is_box_of axes piece.area ≡ true) × (is_small piece ≡ true)
piece_parts axes piece h =
    let a = is_box_of axes piece.area in
    let b = is_small piece in
    let c = is_flat_past axes 1 piece in
    let d = is_flat_past axes 2 piece in
    let e = is_flat_past axes 3 piece in
    and_parts a b (and_parts (a && b) c (and_parts (a && b && c) d (and_parts (a && b && c && d) e h).0).0).0

pub box_parts : (axes : List Axis) (area : BoxN) → is_box_of axes area ≡ true → (is_box area ≡ true) × (slice_index area.high 0 < size_on 0 axes) × (slice_index area.high 1 < size_on 1 axes) × (slice_index area.high 2 < size_on 2 axes) × (slice_index area.high 3 < size_on 3 axes)
box_parts axes area h =
    let a = is_box area in
    let b = nat_lt (slice_index area.high 0) (size_on 0 axes) in
    let c = nat_lt (slice_index area.high 1) (size_on 1 axes) in
    let d = nat_lt (slice_index area.high 2) (size_on 2 axes) in
    let e = nat_lt (slice_index area.high 3) (size_on 3 axes) in
    let four = and_parts (a && b && c && d) e h in
    let three = and_parts (a && b && c) d four.0 in
    let two = and_parts (a && b) c three.0 in
    let one = and_parts a b two.0 in (
      one.0,
      ltb-true (slice_index area.high 0) (size_on 0 axes) one.1,
      ltb-true (slice_index area.high 1) (size_on 1 axes) two.1,
      ltb-true (slice_index area.high 2) (size_on 2 axes) three.1,
      ltb-true (slice_index area.high 3) (size_on 3 axes) four.1,
    )

pub box_high : (axes : List Axis) (area : BoxN) → is_box_of axes area ≡ true → (k : ℕ) → k < 4 → slice_index area.high k < size_on k axes
box_high axes area fits zero p = (box_parts axes area fits).1
box_high axes area fits (suc zero) p = (box_parts axes area fits).2
box_high axes area fits (suc (suc zero)) p = (box_parts axes area fits).3
box_high axes area fits (suc (suc (suc zero))) p = (box_parts axes area fits).4
box_high axes area fits (suc (suc (suc (suc k)))) p = absurd (omega arith)

pub box_of-from : (axes : List Axis) (area : BoxN) → is_box area ≡ true → slice_index area.high 0 < size_on 0 axes → slice_index area.high 1 < size_on 1 axes → slice_index area.high 2 < size_on 2 axes → slice_index area.high 3 < size_on 3 axes → is_box_of axes area ≡ true
box_of-from axes area proper p q r s = rw (proper, lt-ltb _ _ p, lt-ltb _ _ q, lt-ltb _ _ r, lt-ltb _ _ s) refl

-- a point of a box in the domain is one of the domain, and so is one of a piece
pub area_point : (axes : List Axis) (area : BoxN) (p : Point) → is_box_of axes area ≡ true → has_point area p ≡ true → is_point axes p ≡ true
area_point axes area p fits h =
    let high = box_parts axes area fits in
    is_point-from axes p
    (omega (arith, (place_in area p h 0 (omega arith)).1, high.1)) (omega (arith, (place_in area p h 1 (omega arith)).1, high.2)) (omega (arith, (place_in area p h 2 (omega arith)).1, high.3)) (omega (arith, (place_in area p h 3 (omega arith)).1, high.4))

pub piece_point : (axes : List Axis) (piece : Piece) (p : Point) → is_piece_of axes piece ≡ true → piece_has p piece ≡ true → is_point axes p ≡ true
piece_point axes piece p fits h = area_point axes piece.area p (piece_parts axes piece fits).0 h

-- each of a list that passes
pub passes_at : {X : Type 0} (t : X → Bool) (xs : List X) (k : ℕ) (x : X) → list_all t xs ≡ true → slice_get xs k ≡ Some x → t x ≡ true
passes_at t xs k x h e = subst (λ y. t y ≡ true) (get_or_from_slice_get xs k x x e) (AllPass-from_list_all t xs h k x (slice_get_within xs k x e))

pub passes_each : {X : Type 0} (t : X → Bool) (xs : List X) → ((k : ℕ) (x : X) → slice_get xs k ≡ Some x → t x ≡ true) → list_all t xs ≡ true
passes_each t xs each = list_all-from_AllPass t xs (λ k d within. each k (get_or xs k d) (slice_get-get_or xs k d within))

-- what stands past the end of a list of pieces
abbrev pub blank : Piece
blank = record { area = record { low = []; high = [] }; base = pos 0; slope = [] }

pub fits_at : (axes : List Axis) (xs : List Piece) (k : ℕ) → are_pieces_of axes xs ≡ true → k < length xs → is_piece_of axes (get_or xs k blank) ≡ true
fits_at axes xs k h within = passes_at (is_piece_of axes) xs k (get_or xs k blank) h (slice_get-get_or xs k blank within)

-- what holds of each piece below a place, and of that at the place, holds below the next
pub each_more : (P : Piece → Type 0) (xs : List Piece) (i : ℕ) → ((k : ℕ) (x : Piece) → k < i → slice_get xs k ≡ Some x → P x) → P (get_or xs i blank) → (k : ℕ) (x : Piece) → k < i + 1 → slice_get xs k ≡ Some x → P x
each_more P xs i before here k x within e =
    elim (cases_eq k i) [
      | inl same ↦ let at : get_or xs i blank ≡ x = subst (λ j. get_or xs j blank ≡ x) same (get_or_from_slice_get xs k x blank e) in subst P at here
      | inr other ↦ before k x (omega arith) e
    ]

-- a piece that fits is over a proper box, and small
pub piece_at : (axes : List Axis) (xs : List Piece) (k : ℕ) → are_pieces_of axes xs ≡ true → k < length xs → (is_box (get_or xs k blank).area ≡ true) × (is_small (get_or xs k blank) ≡ true)
piece_at axes xs k fit within =
    let piece = get_or xs k blank in
    let parts = piece_parts axes piece (fits_at axes xs k fit within) in
    ((box_parts axes piece.area parts.0).0, parts.1)
