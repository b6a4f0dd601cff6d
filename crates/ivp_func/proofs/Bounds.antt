-- Disjoint pieces cover no more of a box than it has, and less where they miss a point of it.
use Rattle.std.proofs.Common.{◌≡◌, ◌≢◌, ℕ, zero, suc, ◌+◌, ◌-◌, ◌<◌, ◌≤◌, true, List, [], ◌∷◌, refl, sym, ◌∙◌, subst, inl, inr, arith}
use Rattle.std.specs.Prelude.{slice_index}
use Rattle.std.proofs.lemmas.Bool.{cases_lt, cases_eq}
use Rattle.ivp_domain.specs.declared.boxes.BoxN.{BoxN}
use Rattle.ivp_domain.specs.declared.boxes.Point.{Point}
use Rattle.ivp_domain.specs.Boxes.{has_point, is_box, volume_of}
use Rattle.ivp_func.specs.declared.piece.Piece.{Piece}
use Rattle.ivp_func.specs.Covering.{covered_in, SameOn, Shorter}
use Rattle.ivp_func.specs.Pieces.{count_at, piece_has}
use Rattle.ivp_func.proofs.Counting.{count_at-cons}
use Rattle.ivp_func.proofs.Cover.{covered_in-cut, covered_in-single, Cut, IsSingle, volume_of-cut, volume_of-single}
use Rattle.ivp_func.proofs.Facts.{has_point-from, is_box-from, low_le_high, place_in, volume_positive}

-- a point of the whole is one of a part, and the other way round
pub in_left : (k : ℕ) (whole left right : BoxN) (p : Point) → Cut k whole left right → has_point whole p ≡ true → slice_index p.at k ≤ slice_index left.high k → has_point left p ≡ true
in_left k whole left right p h inside below = has_point-from left p (λ j within. let at = place_in whole p inside j within in elim (cases_eq j k) [
  | inl here ↦ let cut = h.cut in let low : slice_index whole.low k ≤ slice_index p.at k = subst (λ i. slice_index whole.low i ≤ slice_index p.at i) here at.0 in subst (λ i. (slice_index left.low i ≤ slice_index p.at i) × (slice_index p.at i ≤ slice_index left.high i)) (sym here) (omega arith, below)
  | inr other ↦ let same = h.same j other in (omega arith, omega arith)
])

pub in_right : (k : ℕ) (whole left right : BoxN) (p : Point) → Cut k whole left right → has_point whole p ≡ true → slice_index left.high k < slice_index p.at k → has_point right p ≡ true
in_right k whole left right p h inside above = has_point-from right p (λ j within. let at = place_in whole p inside j within in elim (cases_eq j k) [
  | inl here ↦ let cut = h.cut in let high : slice_index p.at k ≤ slice_index whole.high k = subst (λ i. slice_index p.at i ≤ slice_index whole.high i) here at.1 in subst (λ i. (slice_index right.low i ≤ slice_index p.at i) × (slice_index p.at i ≤ slice_index right.high i)) (sym here) (omega arith, omega arith)
  | inr other ↦ let same = h.same j other in (omega arith, omega arith)
])

pub left_in : (k : ℕ) (whole left right : BoxN) (p : Point) → Cut k whole left right → has_point left p ≡ true → has_point whole p ≡ true
left_in k whole left right p h inside = has_point-from whole p (λ j within. let at = place_in left p inside j within in elim (cases_eq j k) [
  | inl here ↦ let cut = h.cut in let at' = subst (λ i. (slice_index left.low i ≤ slice_index p.at i) × (slice_index p.at i ≤ slice_index left.high i)) here at in subst (λ i. (slice_index whole.low i ≤ slice_index p.at i) × (slice_index p.at i ≤ slice_index whole.high i)) (sym here) (omega arith, omega arith)
  | inr other ↦ let same = h.same j other in (omega arith, omega arith)
])

pub right_in : (k : ℕ) (whole left right : BoxN) (p : Point) → Cut k whole left right → has_point right p ≡ true → has_point whole p ≡ true
right_in k whole left right p h inside = has_point-from whole p (λ j within. let at = place_in right p inside j within in elim (cases_eq j k) [
  | inl here ↦ let cut = h.cut in let at' = subst (λ i. (slice_index right.low i ≤ slice_index p.at i) × (slice_index p.at i ≤ slice_index right.high i)) here at in subst (λ i. (slice_index whole.low i ≤ slice_index p.at i) × (slice_index p.at i ≤ slice_index whole.high i)) (sym here) (omega arith, omega arith)
  | inr other ↦ let same = h.same j other in (omega arith, omega arith)
])

-- the claim, of one box
pub record Bounded (xs : List Piece) (area : BoxN) : Type 0 where
  pub most : covered_in area xs ≤ volume_of area
  pub short : (p : Point) → has_point area p ≡ true → count_at xs p ≡ 0 → covered_in area xs < volume_of area

-- points that agree on each axis are in the same pieces
holds_same : (x : Piece) (p q : Point) → ((k : ℕ) → k < 4 → slice_index p.at k ≡ slice_index q.at k) → piece_has p x ≡ piece_has q x
holds_same x p q h = rw (h 0 (omega arith), h 1 (omega arith), h 2 (omega arith), h 3 (omega arith)) refl

count_same : (xs : List Piece) (p q : Point) → ((k : ℕ) → k < 4 → slice_index p.at k ≡ slice_index q.at k) → count_at xs p ≡ count_at xs q
count_same [] p q h = refl
count_same (x ∷ xs) p q h = count_at-cons x xs p ∙ (rw (holds_same x p q h, count_same xs p q h) refl ∙ sym (count_at-cons x xs q))

bounded-single : (xs : List Piece) (area : BoxN) → ((p : Point) → count_at xs p ≤ 1) → IsSingle area → Bounded xs area
bounded-single xs area one single =
    let first : Point = record { at = area.low } in
    let covered : covered_in area xs ≡ count_at xs first = covered_in-single area first xs single refl in
    let volume : volume_of area ≡ 1 = volume_of-single area single in
    record {
      most = omega (arith, covered, volume, one first);
      short = λ p inside none. let same : count_at xs p ≡ count_at xs first = count_same xs p first (λ k within. let at = place_in area p inside k within in let here = single k within in omega arith) in omega (arith, covered, volume, same, none);
    }

bounded-cut : (xs : List Piece) (k : ℕ) (whole left right : BoxN) → Cut k whole left right → Bounded xs left → Bounded xs right → Bounded xs whole
bounded-cut xs k whole left right h l r =
    let volume = volume_of-cut k whole left right h in
    let covered = covered_in-cut k whole left right xs h in
    record {
      most = omega (arith, volume, covered, l.most, r.most);
      short = λ p inside none. elim (cases_lt (slice_index left.high k) (slice_index p.at k)) [
        | inl above ↦ omega (arith, volume, covered, l.most, r.short p (in_right k whole left right p h inside above) none)
        | inr below ↦ omega (arith, volume, covered, r.most, l.short p (in_left k whole left right p h inside below) none)
      ];
    }

-- what holds at each number, and of a span where it holds of its two parts, holds of each span
along : (P : ℕ → ℕ → Type 0) → ((i : ℕ) → P i i) → ((l m h : ℕ) → l ≤ m → m < h → P l m → P (suc m) h → P l h) → (n l : ℕ) → P l (l + n)
along P one join zero l = let e : l + 0 ≡ l = omega arith in subst (P l) (sym e) (one l)
along P one join (suc n) l =
    let e : suc l + n ≡ l + suc n = omega arith in
    join l l (l + suc n) (omega arith) (omega arith) (one l) (subst (P (suc l)) e (along P one join n (suc l)))

over_span : (P : ℕ → ℕ → Type 0) → ((i : ℕ) → P i i) → ((l m h : ℕ) → l ≤ m → m < h → P l m → P (suc m) h → P l h) → (l h : ℕ) → l ≤ h → P l h
over_span P one join l h le = let e : l + (h - l) ≡ h = omega arith in subst (P l) e (along P one join (h - l) l)

-- a box by its spans
abbrev span_box : (a b c d e f g h : ℕ) → BoxN
span_box a b c d e f g h = record { low = a ∷ c ∷ e ∷ g ∷ []; high = b ∷ d ∷ f ∷ h ∷ [] }

same0 : (a b c d e f g h m j : ℕ) → j ≢ 0 → SameOn j (span_box a b c d e f g h) (span_box a m c d e f g h) (span_box (suc m) b c d e f g h)
same0 a b c d e f g h m zero other = absurd (other refl)
same0 a b c d e f g h m (suc j) other = record { left_low = refl; left_high = refl; right_low = refl; right_high = refl }

cut0 : (a b c d e f g h m : ℕ) → a ≤ m → m < b → Cut 0 (span_box a b c d e f g h) (span_box a m c d e f g h) (span_box (suc m) b c d e f g h)
cut0 a b c d e f g h m p q = record { axis = omega arith; cut = record { left_low = refl; right_high = refl; next = refl; some = p; rest = q }; same = same0 a b c d e f g h m }

same1 : (a b c d e f g h m j : ℕ) → j ≢ 1 → SameOn j (span_box a b c d e f g h) (span_box a b c m e f g h) (span_box a b (suc m) d e f g h)
same1 a b c d e f g h m zero other = record { left_low = refl; left_high = refl; right_low = refl; right_high = refl }
same1 a b c d e f g h m (suc zero) other = absurd (other refl)
same1 a b c d e f g h m (suc (suc j)) other = record { left_low = refl; left_high = refl; right_low = refl; right_high = refl }

cut1 : (a b c d e f g h m : ℕ) → c ≤ m → m < d → Cut 1 (span_box a b c d e f g h) (span_box a b c m e f g h) (span_box a b (suc m) d e f g h)
cut1 a b c d e f g h m p q = record { axis = omega arith; cut = record { left_low = refl; right_high = refl; next = refl; some = p; rest = q }; same = same1 a b c d e f g h m }

same2 : (a b c d e f g h m j : ℕ) → j ≢ 2 → SameOn j (span_box a b c d e f g h) (span_box a b c d e m g h) (span_box a b c d (suc m) f g h)
same2 a b c d e f g h m zero other = record { left_low = refl; left_high = refl; right_low = refl; right_high = refl }
same2 a b c d e f g h m (suc zero) other = record { left_low = refl; left_high = refl; right_low = refl; right_high = refl }
same2 a b c d e f g h m (suc (suc zero)) other = absurd (other refl)
same2 a b c d e f g h m (suc (suc (suc j))) other = record { left_low = refl; left_high = refl; right_low = refl; right_high = refl }

cut2 : (a b c d e f g h m : ℕ) → e ≤ m → m < f → Cut 2 (span_box a b c d e f g h) (span_box a b c d e m g h) (span_box a b c d (suc m) f g h)
cut2 a b c d e f g h m p q = record { axis = omega arith; cut = record { left_low = refl; right_high = refl; next = refl; some = p; rest = q }; same = same2 a b c d e f g h m }

same3 : (a b c d e f g h m j : ℕ) → j ≢ 3 → SameOn j (span_box a b c d e f g h) (span_box a b c d e f g m) (span_box a b c d e f (suc m) h)
same3 a b c d e f g h m zero other = record { left_low = refl; left_high = refl; right_low = refl; right_high = refl }
same3 a b c d e f g h m (suc zero) other = record { left_low = refl; left_high = refl; right_low = refl; right_high = refl }
same3 a b c d e f g h m (suc (suc zero)) other = record { left_low = refl; left_high = refl; right_low = refl; right_high = refl }
same3 a b c d e f g h m (suc (suc (suc zero))) other = absurd (other refl)
same3 a b c d e f g h m (suc (suc (suc (suc j)))) other = record { left_low = refl; left_high = refl; right_low = refl; right_high = refl }

cut3 : (a b c d e f g h m : ℕ) → g ≤ m → m < h → Cut 3 (span_box a b c d e f g h) (span_box a b c d e f g m) (span_box a b c d e f (suc m) h)
cut3 a b c d e f g h m p q = record { axis = omega arith; cut = record { left_low = refl; right_high = refl; next = refl; some = p; rest = q }; same = same3 a b c d e f g h m }

bounded-span : (xs : List Piece) → ((p : Point) → count_at xs p ≤ 1) → (a b c d e f g h : ℕ) → a ≤ b → c ≤ d → e ≤ f → g ≤ h → Bounded xs (span_box a b c d e f g h)
bounded-span xs one a b c d e f g h p q r s =
    over_span (λ i j. Bounded xs (span_box i j c d e f g h))
    (λ i. over_span (λ j k. Bounded xs (span_box i i j k e f g h))
    (λ j. over_span (λ k l. Bounded xs (span_box i i j j k l g h))
    (λ k. over_span (λ l m. Bounded xs (span_box i i j j k k l m))
    (λ l. bounded-single xs (span_box i i j j k k l l) one (single i j k l))
    (λ l m n t u left right. bounded-cut xs 3 _ _ _ (cut3 i i j j k k l n m t u) left right) g h s)
    (λ l m n t u left right. bounded-cut xs 2 _ _ _ (cut2 i i j j l n g h m t u) left right) e f r)
    (λ l m n t u left right. bounded-cut xs 1 _ _ _ (cut1 i i l n e f g h m t u) left right) c d q)
    (λ l m n t u left right. bounded-cut xs 0 _ _ _ (cut0 l n c d e f g h m t u) left right) a b p
  where
    single : (i j k l : ℕ) → IsSingle (span_box i i j j k k l l)
    single i j k l zero within = refl
    single i j k l (suc zero) within = refl
    single i j k l (suc (suc zero)) within = refl
    single i j k l (suc (suc (suc n))) within = refl

-- pieces of which no two hold one point cover at most the box, and less where a point of it is in none
pub bounded : (xs : List Piece) (area : BoxN) → ((p : Point) → count_at xs p ≤ 1) → is_box area ≡ true → Bounded xs area
bounded xs area one proper =
    let side : (k : ℕ) → k < 4 → slice_index area.low k ≤ slice_index area.high k = low_le_high area proper in
    let of_spans = bounded-span xs one (slice_index area.low 0) (slice_index area.high 0) (slice_index area.low 1) (slice_index area.high 1) (slice_index area.low 2) (slice_index area.high 2) (slice_index area.low 3) (slice_index area.high 3) (side 0 (omega arith)) (side 1 (omega arith)) (side 2 (omega arith)) (side 3 (omega arith)) in
    record { most = of_spans.most; short = of_spans.short }

-- so where they cover all of it, each point of it is in exactly one
pub exactly_one : (xs : List Piece) (area : BoxN) → ((p : Point) → count_at xs p ≤ 1) → is_box area ≡ true → volume_of area ≤ covered_in area xs → (p : Point) → has_point area p ≡ true → count_at xs p ≡ 1
exactly_one xs area one proper all p inside =
    let bound = bounded xs area one proper in
    elim (cases_lt 0 (count_at xs p)) [
      | inl some ↦ omega (arith, one p)
      | inr none ↦ absurd (omega (arith, bound.short p inside (omega arith), all))
    ]

-- the parts of a cut are boxes
pub left_box : (k : ℕ) (whole left right : BoxN) → Cut k whole left right → is_box whole ≡ true → is_box left ≡ true
left_box k whole left right h proper = is_box-from left (λ j within. let side = low_le_high whole proper j within in elim (cases_eq j k) [
  | inl here ↦ let cut = h.cut in subst (λ i. slice_index left.low i ≤ slice_index left.high i) (sym here) (omega arith)
  | inr other ↦ let same = h.same j other in omega arith
])

pub right_box : (k : ℕ) (whole left right : BoxN) → Cut k whole left right → is_box whole ≡ true → is_box right ≡ true
right_box k whole left right h proper = is_box-from right (λ j within. let side = low_le_high whole proper j within in elim (cases_eq j k) [
  | inl here ↦ let cut = h.cut in subst (λ i. slice_index right.low i ≤ slice_index right.high i) (sym here) (omega arith)
  | inr other ↦ let same = h.same j other in omega arith
])

-- the half of a box that is covered short
pub left_short : (xs : List Piece) (k : ℕ) (whole left right : BoxN) → Cut k whole left right → is_box whole ≡ true → covered_in left xs < volume_of left → Shorter xs whole left
left_short xs k whole left right h proper short =
    record {
      proper = left_box k whole left right h proper;
      smaller = omega (arith, volume_of-cut k whole left right h, volume_positive right (right_box k whole left right h proper));
      short = short;
      inside = λ p. left_in k whole left right p h;
    }

pub right_short : (xs : List Piece) (k : ℕ) (whole left right : BoxN) → Cut k whole left right → is_box whole ≡ true → covered_in whole xs < volume_of whole → volume_of left ≤ covered_in left xs → Shorter xs whole right
right_short xs k whole left right h proper short full =
    record {
      proper = right_box k whole left right h proper;
      smaller = omega (arith, volume_of-cut k whole left right h, volume_positive left (left_box k whole left right h proper));
      short = omega (arith, volume_of-cut k whole left right h, covered_in-cut k whole left right xs h, short, full);
      inside = λ p. right_in k whole left right p h;
    }

-- a single point that is covered short is in no piece
pub gap_at : (xs : List Piece) (area : BoxN) (p : Point) → is_box area ≡ true → ((k : ℕ) → k < 4 → slice_index area.high k ≤ slice_index area.low k) → covered_in area xs < volume_of area → p.at ≡ area.low → count_at xs p ≡ 0
gap_at xs area p proper narrow short e =
    let single : IsSingle area = λ k within. let side = low_le_high area proper k within in let other = narrow k within in omega arith in
    omega (arith, covered_in-single area p xs single e, volume_of-single area single, short)
