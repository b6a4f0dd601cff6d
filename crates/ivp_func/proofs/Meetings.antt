-- Which pieces meet an area: the numbers that a cell lists, and the points that two boxes share.
use Rattle.std.proofs.Common.{◌≡◌, ℕ, zero, suc, ◌+◌, ◌<◌, ◌≤◌, Bool, true, false, cond, Option, Some, None, List, [], ◌∷◌, ◌++◌, ◌⊎◌, length, refl, ap, sym, ◌∙◌, inl, inr, arith, add-one}
use Rattle.std.specs.Prelude.{slice_get, slice_index}
use Rattle.std.specs.List.{All, filter}
use Rattle.std.specs.List.Sorted.{IsNonDecreasingBy}
use Rattle.std.proofs.lemmas.List.{get_or_default}
use Rattle.std.proofs.lemmas.Bool.{and_from, and_parts, cases_lt}
use Rattle.std.proofs.lemmas.Option.{slice_get_within}
use Rattle.ivp_domain.specs.declared.boxes.BoxN.{BoxN}
use Rattle.ivp_domain.specs.declared.boxes.Point.{Point}
use Rattle.ivp_domain.specs.Boxes.{common, has_point, numbers_from}
use Rattle.ivp_domain.proofs.BoxLemmas.{has_low_corner, has_point-common, is_box-from_point}
use Rattle.ivp_func.specs.declared.piece.Piece.{Piece}
use Rattle.ivp_func.specs.Cells.{IsRising, lies_in}
use Rattle.ivp_func.proofs.Facts.{point_in}
use Rattle.ivp_func.specs.Grids.{meeting, meets, share}
use Rattle.ivp_func.specs.Pieces.{piece_has}

-- boxes that share a point, and the low corner of what they share
pub share_from : (a b : BoxN) (p : Point) → has_point a p ≡ true → has_point b p ≡ true → share a b ≡ true
share_from a b p h h' = is_box-from_point (common a b) p (has_point-common a b p ∙ and_from (has_point a p) (has_point b p) h h')

pub shared_corner : (a b : BoxN) → share a b ≡ true → let corner : Point = record { at = (common a b).low } in (has_point a corner ≡ true) × (has_point b corner ≡ true)
shared_corner a b h =
    let corner : Point = record { at = (common a b).low } in
    and_parts (has_point a corner) (has_point b corner) (sym (has_point-common a b corner) ∙ has_low_corner (common a b) h)

-- a piece of this number that shares a point with the area
pub record Meets (pieces : List Piece) (area : BoxN) (number : ℕ) : Type 0 where
  pub piece : Piece
  pub stands : slice_get pieces number ≡ Some piece
  pub point : Point
  pub inside : has_point area point ≡ true
  pub held : piece_has point piece ≡ true

pub meets_from : (pieces : List Piece) (area : BoxN) (number : ℕ) (piece : Piece) (p : Point) → slice_get pieces number ≡ Some piece → has_point area p ≡ true → piece_has p piece ≡ true → meets pieces area number ≡ true
meets_from pieces area number piece p stands inside held = rw stands (share_from area piece.area p inside held)

pub meets_piece_at : (pieces : List Piece) (area : BoxN) (number : ℕ) (piece : Piece) → slice_get pieces number ≡ Some piece → meets pieces area number ≡ share area piece.area
meets_piece_at pieces area number piece stands = rw stands refl

pub meets_to : (pieces : List Piece) (area : BoxN) (number : ℕ) → meets pieces area number ≡ true → Meets pieces area number
meets_to pieces area number h = by (slice_get pieces number) refl
  where
    by : (o : Option Piece) → slice_get pieces number ≡ o → Meets pieces area number
    by None e = let none : meets pieces area number ≡ false = rw e refl in absurd (cc)
    by (Some piece) e =
        let both = shared_corner area piece.area (sym (meets_piece_at pieces area number piece e) ∙ h) in
        record { piece = piece; stands = e; point = record { at = (common area piece.area).low }; inside = both.0; held = both.1 }

pub meets_within : (pieces : List Piece) (area : BoxN) (number : ℕ) → meets pieces area number ≡ true → number < length pieces
meets_within pieces area number h = let met = meets_to pieces area number h in slice_get_within pieces number met.piece met.stands

-- numbers, and one more
pub numbers_more : (low n : ℕ) → numbers_from low (suc n) ≡ numbers_from low n ++ (low + n) ∷ []
numbers_more low zero = ap (λ k. k ∷ []) (omega arith)
numbers_more low (suc n) = let same : suc low + n ≡ low + suc n = omega arith in ap (λ rest. low ∷ rest) (numbers_more (suc low) n ∙ ap (λ k. numbers_from (suc low) n ++ k ∷ []) same)

pub numbers_up : (n : ℕ) → numbers_from 0 (n + 1) ≡ numbers_from 0 n ++ n ∷ []
numbers_up n = let last : 0 + n ≡ n = omega arith in ap (numbers_from 0) (add-one n) ∙ (numbers_more 0 n ∙ ap (λ k. numbers_from 0 n ++ k ∷ []) last)

-- each of the numbers from one on is below their end
below_end : (low n : ℕ) → All (λ number. number < low + n) (numbers_from low n)
below_end low zero k d h = absurd (omega arith)
below_end low (suc n) zero d h = omega arith
below_end low (suc n) (suc k) d h = let rest = below_end (suc low) n k d (omega arith) in omega (arith, rest)

pub numbers_below : (n : ℕ) → All (λ number. number < n) (numbers_from 0 n)
numbers_below n k d h = let rest = below_end 0 n k d h in omega (arith, rest)

-- what is kept by one test of what another test keeps, which passes all that the first passes
pub kept_of_kept : (t u : ℕ → Bool) (xs : List ℕ) → ((n : ℕ) → t n ≡ true → u n ≡ true) → filter t (filter u xs) ≡ filter t xs
kept_of_kept t u [] wider = refl
kept_of_kept t u (x ∷ xs) wider = by (t x) (u x) refl refl (kept_of_kept t u xs wider)
  where
    by : (b d : Bool) → t x ≡ b → u x ≡ d → filter t (filter u xs) ≡ filter t xs → filter t (cond d (x ∷ filter u xs) (filter u xs)) ≡ cond b (x ∷ filter t xs) (filter t xs)
    by true true e f rest = rw e (ap (λ kept. x ∷ kept) rest)
    by true false e f rest = let passes : u x ≡ true = wider x e in absurd (cc)
    by false true e f rest = rw e rest
    by false false e f rest = rest

-- each number that is kept is one of them
kept_from : (t : ℕ → Bool) (low n i : ℕ) → i < length (filter t (numbers_from low n)) → slice_index (filter t (numbers_from low n)) i < low + n
kept_from t low zero i h = absurd (omega arith)
kept_from t low (suc n) i h = by (t low) (λ j within. kept_from t (suc low) n j within) i h
  where
    by : (b : Bool) → ((j : ℕ) → j < length (filter t (numbers_from (suc low) n)) → slice_index (filter t (numbers_from (suc low) n)) j < suc low + n) → (j : ℕ) → j < length (cond b (low ∷ filter t (numbers_from (suc low) n)) (filter t (numbers_from (suc low) n))) → slice_index (cond b (low ∷ filter t (numbers_from (suc low) n)) (filter t (numbers_from (suc low) n))) j < low + suc n
    by true rest zero within = omega arith
    by true rest (suc j) within = omega (arith, rest j (omega arith))
    by false rest j within = omega (arith, rest j within)

-- and each of them that passes is kept
pub record IsKept (xs : List ℕ) (number : ℕ) : Type 0 where
  pub place : ℕ
  pub within : place < length xs
  pub here : slice_index xs place ≡ number

kept_in : (t : ℕ → Bool) (low n number : ℕ) → low ≤ number → number < low + n → t number ≡ true → IsKept (filter t (numbers_from low n)) number
kept_in t low zero number from below h = absurd (omega arith)
kept_in t low (suc n) number from below h = by (t low) refl (cases_lt low number) (λ later. kept_in t (suc low) n number later (omega arith) h)
  where
    by : (b : Bool) → t low ≡ b → (low < number) ⊎ (number ≤ low) → (suc low ≤ number → IsKept (filter t (numbers_from (suc low) n)) number) → IsKept (cond b (low ∷ filter t (numbers_from (suc low) n)) (filter t (numbers_from (suc low) n))) number
    by true e (inl later) rest = let found = rest (omega arith) in record { place = suc found.place; within = omega (arith, found.within); here = found.here }
    by true e (inr first) rest = record { place = 0; within = omega arith; here = omega arith }
    by false e (inl later) rest = rest (omega arith)
    by false e (inr first) rest = let same : low ≡ number = omega arith in let fails : t number ≡ false = ap t (sym same) ∙ e in absurd (cc)

-- what is kept rises
kept_above : (t : ℕ → Bool) (low n i : ℕ) → i < length (filter t (numbers_from low n)) → low ≤ slice_index (filter t (numbers_from low n)) i
kept_above t low zero i h = absurd (omega arith)
kept_above t low (suc n) i h = by (t low) (λ j within. kept_above t (suc low) n j within) i h
  where
    by : (b : Bool) → ((j : ℕ) → j < length (filter t (numbers_from (suc low) n)) → suc low ≤ slice_index (filter t (numbers_from (suc low) n)) j) → (j : ℕ) → j < length (cond b (low ∷ filter t (numbers_from (suc low) n)) (filter t (numbers_from (suc low) n))) → low ≤ slice_index (cond b (low ∷ filter t (numbers_from (suc low) n)) (filter t (numbers_from (suc low) n))) j
    by true rest zero within = omega arith
    by true rest (suc j) within = omega (arith, rest j (omega arith))
    by false rest j within = omega (arith, rest j within)

kept_rising : (t : ℕ → Bool) (low n : ℕ) → IsRising (filter t (numbers_from low n))
kept_rising t low zero i j up h = absurd (omega arith)
kept_rising t low (suc n) i j up h = by (t low) (kept_above t (suc low) n) (kept_rising t (suc low) n) i j up h
  where
    by : (b : Bool) → ((j : ℕ) → j < length (filter t (numbers_from (suc low) n)) → suc low ≤ slice_index (filter t (numbers_from (suc low) n)) j) → IsRising (filter t (numbers_from (suc low) n)) → IsRising (cond b (low ∷ filter t (numbers_from (suc low) n)) (filter t (numbers_from (suc low) n)))
    by true above rises zero zero up within = omega arith
    by true above rises zero (suc j) up within = omega (arith, above j (omega arith))
    by true above rises (suc i) zero up within = absurd (omega arith)
    by true above rises (suc i) (suc j) up within = rises i j (omega arith) (omega arith)
    by false above rises i j up within = rises i j up within

-- the pieces that meet a box, sought among those that meet a box around it
pub listed_among : (pieces : List Piece) (area around : BoxN) → lies_in area around ≡ true → filter (meets pieces area) (meeting pieces around) ≡ meeting pieces area
listed_among pieces area around inside =
    kept_of_kept (meets pieces area) (meets pieces around) (numbers_from 0 (length pieces)) (λ n h.
    let met = meets_to pieces area n h in meets_from pieces around n met.piece met.point met.stands (point_in area around met.point inside met.inside) met.held)

pub listed_rising : (pieces : List Piece) (area : BoxN) → IsRising (meeting pieces area)
listed_rising pieces area = kept_rising (meets pieces area) 0 (length pieces)

pub listed_within : (pieces : List Piece) (area : BoxN) (i : ℕ) → i < length (meeting pieces area) → slice_index (meeting pieces area) i < length pieces
listed_within pieces area i h = omega (arith, kept_from (meets pieces area) 0 (length pieces) i h)

pub listed_all : (pieces : List Piece) (area : BoxN) (number : ℕ) → meets pieces area number ≡ true → IsKept (meeting pieces area) number
listed_all pieces area number h = kept_in (meets pieces area) 0 (length pieces) number (omega arith) (omega (arith, meets_within pieces area number h)) h

-- numbers that rise, whatever is read where there is none
pub rises_by : (numbers : List ℕ) → IsRising numbers → IsNonDecreasingBy (λ number. number) numbers
rises_by numbers rises i j d up within =
    let first = get_or_default numbers i d 0 (omega arith) in
    let later = get_or_default numbers j d 0 within in
    rw (first, later) (rises i j up within)
