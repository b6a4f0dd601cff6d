-- Volumes of boxes and of what pieces cover in them, added up over a cut.
use Rattle.std.proofs.Common.{◌≡◌, ◌≢◌, ℕ, zero, suc, ◌+◌, ◌-◌, ◌*◌, ◌<◌, ◌≤◌, min, max, Bool, true, false, cond, ◌&&◌, nat_le, Some, None, List, [], ◌∷◌, refl, ap, ◌∙◌, inl, inr, arith}
use Rattle.std.specs.Prelude.{slice_index}
use Rattle.std.proofs.lemmas.List.Sums.{sum_by-cons}
use Rattle.std.proofs.Math.Nat.{mul-le-mul}
use Rattle.std.proofs.lemmas.Bool.{cases_lt}
use Rattle.std.proofs.lemmas.Bool.Decides.{nat_tests}
use Rattle.ivp_domain.specs.declared.boxes.BoxN.{BoxN}
use Rattle.ivp_domain.specs.declared.boxes.Point.{Point}
use Rattle.ivp_domain.specs.Boxes.{common, meet_of, is_box, side_of, volume_of}
use Rattle.ivp_func.specs.declared.piece.Piece.{Piece}
use Rattle.ivp_func.specs.Covering.{covered_in, shared_with, CutOn, SameOn}
use Rattle.ivp_func.specs.Pieces.{count_at, piece_has}
use Rattle.ivp_func.proofs.Counting.{count_at-cons, one_if}
use Rattle.ivp_func.proofs.Facts.{is_box-from}

-- a product of four numbers of which one is a sum
merged : (k : ℕ) → k < 4 → (s l r : ℕ → ℕ) → s k ≡ l k + r k → ((j : ℕ) → j ≢ k → (l j ≡ s j) × (r j ≡ s j)) → s 0 * s 1 * s 2 * s 3 ≡ l 0 * l 1 * l 2 * l 3 + r 0 * r 1 * r 2 * r 3
merged zero p s l r e f =
    let one = f 1 (omega arith) in
    let two = f 2 (omega arith) in
    let three = f 3 (omega arith) in
    rw (e, one.0, one.1, two.0, two.1, three.0, three.1) (omega arith)
merged (suc zero) p s l r e f =
    let one = f 0 (omega arith) in
    let two = f 2 (omega arith) in
    let three = f 3 (omega arith) in
    rw (e, one.0, one.1, two.0, two.1, three.0, three.1) (omega arith)
merged (suc (suc zero)) p s l r e f =
    let one = f 0 (omega arith) in
    let two = f 1 (omega arith) in
    let three = f 3 (omega arith) in
    rw (e, one.0, one.1, two.0, two.1, three.0, three.1) (omega arith)
merged (suc (suc (suc zero))) p s l r e f =
    let one = f 0 (omega arith) in
    let two = f 1 (omega arith) in
    let three = f 2 (omega arith) in
    rw (e, one.0, one.1, two.0, two.1, three.0, three.1) (omega arith)
merged (suc (suc (suc (suc k)))) p s l r e f = absurd (omega arith)

-- a cut on one axis, the other axes kept
pub record Cut (k : ℕ) (whole left right : BoxN) : Type 0 where
  pub axis : k < 4
  pub cut : CutOn k whole left right
  pub same : (j : ℕ) → j ≢ k → SameOn j whole left right

-- the two parts have the points of the whole
pub volume_of-cut : (k : ℕ) (whole left right : BoxN) → Cut k whole left right → volume_of whole ≡ volume_of left + volume_of right
volume_of-cut k whole left right h =
    merged k h.axis (λ j. side_of j whole) (λ j. side_of j left) (λ j. side_of j right) (let cut = h.cut in omega (arith, cut.left_low, cut.right_high, cut.next, cut.some, cut.rest)) (λ j other. let same = h.same j other in (rw (same.left_low, same.left_high) refl, rw (same.right_low, same.right_high) refl))

-- how many places two boxes have in common on an axis
abbrev shared_side : BoxN → BoxN → ℕ → ℕ
shared_side a b k = min (slice_index a.high k) (slice_index b.high k) + 1 - max (slice_index a.low k) (slice_index b.low k)

cut_side : (l m h a b : ℕ) → l ≤ m → m < h → min h b + 1 - max l a ≡ (min m b + 1 - max l a) + (min h b + 1 - max (suc m) a)
cut_side l m h a b p q = omega arith

pub shared_with-cut : (k : ℕ) (whole left right : BoxN) (x : Piece) → Cut k whole left right → shared_with whole x ≡ shared_with left x + shared_with right x
shared_with-cut k whole left right x h =
    merged k h.axis (shared_side whole x.area) (shared_side left x.area) (shared_side right x.area) (let cut = h.cut in rw (cut.left_low, cut.right_high, cut.next) (cut_side (slice_index whole.low k) (slice_index left.high k) (slice_index whole.high k) (slice_index x.area.low k) (slice_index x.area.high k) cut.some cut.rest)) (λ j other. let same = h.same j other in (rw (same.left_low, same.left_high) refl, rw (same.right_low, same.right_high) refl))

pub covered_in-cons : (area : BoxN) (x : Piece) (xs : List Piece) → covered_in area (x ∷ xs) ≡ shared_with area x + covered_in area xs
covered_in-cons area x xs = sum_by-cons (shared_with area) x xs

pub covered_in-cut : (k : ℕ) (whole left right : BoxN) (xs : List Piece) → Cut k whole left right → covered_in whole xs ≡ covered_in left xs + covered_in right xs
covered_in-cut k whole left right [] h = refl
covered_in-cut k whole left right (x ∷ xs) h =
    omega (arith, covered_in-cons whole x xs, covered_in-cons left x xs, covered_in-cons right x xs, shared_with-cut k whole left right x h, covered_in-cut k whole left right xs h)

-- a box of one point
one_side : (l h a b : ℕ) → l ≡ h → min h b + 1 - max l a ≡ one_if (nat_le a l && nat_le l b)
one_side l h a b e = grind (arith, nat_tests)

one_if-and : (a b : Bool) → one_if a * one_if b ≡ one_if (a && b)
one_if-and true true = refl
one_if-and true false = refl
one_if-and false true = refl
one_if-and false false = refl

ones : (s : ℕ → ℕ) (t : ℕ → Bool) → ((k : ℕ) → k < 4 → s k ≡ one_if (t k)) → s 0 * s 1 * s 2 * s 3 ≡ one_if (t 0 && t 1 && t 2 && t 3)
ones s t h =
    rw (h 0 (omega arith), h 1 (omega arith), h 2 (omega arith), h 3 (omega arith))
    (ap (λ n. n * one_if (t 2) * one_if (t 3)) (one_if-and (t 0) (t 1)) ∙ (ap (λ n. n * one_if (t 3)) (one_if-and (t 0 && t 1) (t 2)) ∙ one_if-and (t 0 && t 1 && t 2) (t 3)))

-- a single point: each place of the box is the low one
abbrev pub IsSingle : BoxN → Type 0
IsSingle area = (k : ℕ) → k < 4 → slice_index area.low k ≡ slice_index area.high k

pub shared_with-single : (area : BoxN) (p : Point) (x : Piece) → IsSingle area → p.at ≡ area.low → shared_with area x ≡ one_if (piece_has p x)
shared_with-single area p x h e =
    let inside : ℕ → Bool = λ k. nat_le (slice_index x.area.low k) (slice_index area.low k) && nat_le (slice_index area.low k) (slice_index x.area.high k) in
    rw e (ones (shared_side area x.area) inside (λ k within. one_side (slice_index area.low k) (slice_index area.high k) (slice_index x.area.low k) (slice_index x.area.high k) (h k within)))

pub covered_in-single : (area : BoxN) (p : Point) (xs : List Piece) → IsSingle area → p.at ≡ area.low → covered_in area xs ≡ count_at xs p
covered_in-single area p [] h e = refl
covered_in-single area p (x ∷ xs) h e = omega (arith, covered_in-cons area x xs, count_at-cons x xs p, shared_with-single area p x h e, covered_in-single area p xs h e)

pub volume_of-single : (area : BoxN) → IsSingle area → volume_of area ≡ 1
volume_of-single area h =
    let side : (k : ℕ) → k < 4 → side_of k area ≡ 1 = λ k within. let one = h k within in omega arith in
    rw (side 0 (omega arith), side 1 (omega arith), side 2 (omega arith), side 3 (omega arith)) refl

-- no more in common with a piece than the box has
pub shared_with-le : (area : BoxN) (x : Piece) → shared_with area x ≤ volume_of area
shared_with-le area x =
    let side : (k : ℕ) → shared_side area x.area k ≤ side_of k area = λ k. omega arith in
    mul-le-mul (mul-le-mul (mul-le-mul (side 0) (side 1)) (side 2)) (side 3)

-- nothing where they do not meet
pub shared_with-none : (area : BoxN) (x : Piece) → is_box (common area x.area) ≡ false → shared_with area x ≡ 0
shared_with-none area x h =
    elim (cases_lt 0 (shared_with area x)) [
      | inl some ↦ let e : is_box (common area x.area) ≡ true = is_box-from (common area x.area) (meets area x.area some) in absurd (cc)
      | inr none ↦ omega arith
    ]
  where
    factor : (a b c d : ℕ) → 0 < a * b * c * d → (0 < a) × (0 < b) × (0 < c) × (0 < d)
    factor zero b c d h = absurd (omega arith)
    factor (suc a) zero c d h = absurd (omega arith)
    factor (suc a) (suc b) zero d h = absurd (omega arith)
    factor (suc a) (suc b) (suc c) zero h = absurd (omega arith)
    factor (suc a) (suc b) (suc c) (suc d) h = (omega arith, omega arith, omega arith, omega arith)

    meets : (a b : BoxN) → 0 < volume_of (common a b) → (k : ℕ) → k < 4 → slice_index (common a b).low k ≤ slice_index (common a b).high k
    meets a b h zero within = omega (arith, (factor (shared_side a b 0) (shared_side a b 1) (shared_side a b 2) (shared_side a b 3) h).0)
    meets a b h (suc zero) within = omega (arith, (factor (shared_side a b 0) (shared_side a b 1) (shared_side a b 2) (shared_side a b 3) h).1)
    meets a b h (suc (suc zero)) within = omega (arith, (factor (shared_side a b 0) (shared_side a b 1) (shared_side a b 2) (shared_side a b 3) h).2)
    meets a b h (suc (suc (suc zero))) within = omega (arith, (factor (shared_side a b 0) (shared_side a b 1) (shared_side a b 2) (shared_side a b 3) h).3)
    meets a b h (suc (suc (suc (suc k)))) within = absurd (omega arith)

-- what a meet says of the common box
pub common_of : (a b c : BoxN) → Some c ≡ meet_of a b → c ≡ common a b
common_of a b c h = elim (is_box (common a b)) as (λ t. Some c ≡ cond t (Some (common a b)) None → c ≡ common a b) [ true ↦ λ e. cc | false ↦ λ e. absurd (cc) ] h

pub none_of : (a b : BoxN) → None ≡ meet_of a b → is_box (common a b) ≡ false
none_of a b h = elim (is_box (common a b)) as (λ t. None ≡ cond t (Some (common a b)) None → t ≡ false) [ true ↦ λ e. absurd (cc) | false ↦ λ e. refl ] h
