-- How many pieces hold a point, and which one is found.
use Rattle.std.proofs.Common.{◌≡◌, ℕ, zero, suc, ◌+◌, ◌<◌, ◌≤◌, Bool, true, false, cond, Some, List, [], ◌∷◌, length, drop, drop-cons, add-one, get_or, refl, ap, ◌∙◌, inl, inr, arith}
use Rattle.std.specs.Prelude.{slice_get, find}
use Rattle.std.proofs.lemmas.Bool.{cases_Bool}
use Rattle.std.proofs.lemmas.Option.{slice_get_within}
use Rattle.std.proofs.lemmas.List.Sums.{sum_by-cons}
use Rattle.ivp_domain.specs.declared.axis.Axis.{Axis}
use Rattle.ivp_domain.specs.declared.boxes.Point.{Point}
use Rattle.ivp_domain.specs.Domains.{is_point}
use Rattle.ivp_func.specs.declared.piece.Piece.{Piece}
use Rattle.ivp_func.specs.Pieces.{are_pieces_of, count_at, piece_has, is_piece_of, value_at, piece_value, value_in}
use Rattle.ivp_func.proofs.Facts.{blank, passes_at, piece_point}

-- one for a piece that holds the point
abbrev pub one_if : Bool → ℕ
one_if b = cond b 1 0

pub count_at-cons : (x : Piece) (xs : List Piece) (p : Point) → count_at (x ∷ xs) p ≡ one_if (piece_has p x) + count_at xs p
count_at-cons x xs p = sum_by-cons (λ y. one_if (piece_has p y)) x xs

-- a piece that holds the point counts
pub count_positive : (xs : List Piece) (k : ℕ) (x : Piece) (p : Point) → slice_get xs k ≡ Some x → piece_has p x ≡ true → 0 < count_at xs p
count_positive [] k x p e h = absurd (cc)
count_positive (y ∷ ys) zero x p e h =
    let same : piece_has p y ≡ true = let at : y ≡ x = cc in ap (piece_has p) at ∙ h in
    let one : one_if (piece_has p y) ≡ 1 = ap one_if same in
    omega (arith, count_at-cons y ys p, one)
count_positive (y ∷ ys) (suc k) x p e h = omega (arith, count_at-cons y ys p, count_positive ys k x p e h)

-- the only piece that holds the point is the one that is found
pub find_only : (xs : List Piece) (k : ℕ) (x : Piece) (p : Point) → count_at xs p ≡ 1 → slice_get xs k ≡ Some x → piece_has p x ≡ true → find (piece_has p) xs ≡ Some x
find_only [] k x p one e h = absurd (cc)
find_only (y ∷ ys) zero x p one e h = let at : y ≡ x = cc in let same : piece_has p y ≡ true = ap (piece_has p) at ∙ h in rw same (ap Some at)
find_only (y ∷ ys) (suc k) x p one e h =
    let others : 0 < count_at ys p = count_positive ys k x p e h in
    elim (piece_has p y) as (λ b. piece_has p y ≡ b → cond b (Some y) (find (piece_has p) ys) ≡ Some x) [
      | true ↦ λ first. let counts : one_if (piece_has p y) ≡ 1 = ap one_if first in absurd (omega (arith, count_at-cons y ys p, counts, others, one))
      | false ↦ λ first. let counts : one_if (piece_has p y) ≡ 0 = ap one_if first in find_only ys k x p (omega (arith, count_at-cons y ys p, counts, one)) e h
    ] refl

pub value_at-only : (xs : List Piece) (k : ℕ) (x : Piece) (p : Point) → count_at xs p ≡ 1 → slice_get xs k ≡ Some x → piece_has p x ≡ true → value_at xs p ≡ piece_value x p
value_at-only xs k x p one e h = ap (λ found. value_in found p) (find_only xs k x p one e h)

-- where some piece holds the point, one is found
pub record Found (xs : List Piece) (p : Point) : Type 0 where
  pub place : ℕ
  pub piece : Piece
  pub stands : slice_get xs place ≡ Some piece
  pub holds_it : piece_has p piece ≡ true
  pub found : find (piece_has p) xs ≡ Some piece

found_later : (y : Piece) (ys : List Piece) (p : Point) → piece_has p y ≡ false → Found ys p → Found (y ∷ ys) p
found_later y ys p first rest = record { place = suc rest.place; piece = rest.piece; stands = rest.stands; holds_it = rest.holds_it; found = rw first rest.found }

pub find_some : (xs : List Piece) (p : Point) → 0 < count_at xs p → Found xs p
find_some [] p h = absurd (omega arith)
find_some (y ∷ ys) p h =
    elim (piece_has p y) as (λ b. piece_has p y ≡ b → Found (y ∷ ys) p) [
      | true ↦ λ first. record { place = 0; piece = y; stands = refl; holds_it = first; found = rw first refl }
      | false ↦ λ first.
          let counts : one_if (piece_has p y) ≡ 0 = ap one_if first in
          found_later y ys p first (find_some ys p (omega (arith, count_at-cons y ys p, counts, h)))
    ] refl

-- a point that a fitting piece holds is one of the domain
pub held_point : (axes : List Axis) (xs : List Piece) (p : Point) → are_pieces_of axes xs ≡ true → 0 < count_at xs p → is_point axes p ≡ true
held_point axes xs p fit h = let one = find_some xs p h in piece_point axes one.piece p (passes_at (is_piece_of axes) xs one.place one.piece fit one.stands) one.holds_it

-- two pieces that hold a point count twice
pub two_hold : (xs : List Piece) (i j : ℕ) (x y : Piece) (p : Point) → i < j → slice_get xs i ≡ Some x → slice_get xs j ≡ Some y → piece_has p x ≡ true → piece_has p y ≡ true → 1 < count_at xs p
two_hold [] i j x y p lt e e' h h' = absurd (cc)
two_hold (z ∷ zs) i zero x y p lt e e' h h' = absurd (omega arith)
two_hold (z ∷ zs) zero (suc j) x y p lt e e' h h' =
    let same : piece_has p z ≡ true = let at : z ≡ x = cc in ap (piece_has p) at ∙ h in
    let one : one_if (piece_has p z) ≡ 1 = ap one_if same in
    omega (arith, count_at-cons z zs p, one, count_positive zs j y p e' h')
two_hold (z ∷ zs) (suc i) (suc j) x y p lt e e' h h' = omega (arith, count_at-cons z zs p, two_hold zs i j x y p (omega arith) e e' h h')

none_hold : (xs : List Piece) (p : Point) → ((k : ℕ) (x : Piece) → slice_get xs k ≡ Some x → piece_has p x ≡ false) → count_at xs p ≡ 0
none_hold [] p h = refl
none_hold (x ∷ xs) p h =
    let one : one_if (piece_has p x) ≡ 0 = ap one_if (h 0 x refl) in
    omega (arith, count_at-cons x xs p, one, none_hold xs p (λ k y e. h (suc k) y e))

-- where no two of them do, at most one holds it
pub no_two : (xs : List Piece) (p : Point) → ((i j : ℕ) (x y : Piece) → i < j → slice_get xs i ≡ Some x → slice_get xs j ≡ Some y → piece_has p x ≡ true → piece_has p y ≡ false) → count_at xs p ≤ 1
no_two [] p h = omega arith
no_two (x ∷ xs) p h =
    let rest = no_two xs p (λ i j y z lt e e'. h (suc i) (suc j) y z (omega arith) e e') in
    elim (cases_Bool (piece_has p x)) [
      | inl is ↦
          let one : one_if (piece_has p x) ≡ 1 = ap one_if is in
          let none = none_hold xs p (λ k y e. h 0 (suc k) x y (omega arith) refl e is) in
          omega (arith, count_at-cons x xs p, one, none)
      | inr other ↦ let none : one_if (piece_has p x) ≡ 0 = ap one_if other in omega (arith, count_at-cons x xs p, none, rest)
    ]

-- the value that the pieces from a place on give
pub value_at-here : (xs : List Piece) (i : ℕ) (p : Point) → i < length xs → piece_has p (get_or xs i blank) ≡ true → value_at (drop i xs) p ≡ piece_value (get_or xs i blank) p
value_at-here xs i p within h = rw (drop-cons xs i blank) (rw h refl)

pub value_at-later : (xs : List Piece) (i : ℕ) (p : Point) → i < length xs → piece_has p (get_or xs i blank) ≡ false → value_at (drop i xs) p ≡ value_at (drop (i + 1) xs) p
value_at-later xs i p within h = rw (add-one, drop-cons xs i blank) (rw h refl)

-- the piece whose value is that at a point of the domain
pub record FoundValue (xs : List Piece) (p : Point) : Type 0 where
  pub place : ℕ
  pub piece : Piece
  pub within : place < length xs
  pub stands : slice_get xs place ≡ Some piece
  pub holds_it : piece_has p piece ≡ true
  pub value : value_at xs p ≡ piece_value piece p

pub find_at : (xs : List Piece) (p : Point) → count_at xs p ≡ 1 → FoundValue xs p
find_at xs p one =
    let found = find_some xs p (omega arith) in
    record {
      place = found.place;
      piece = found.piece;
      within = slice_get_within xs found.place found.piece found.stands;
      stands = found.stands;
      holds_it = found.holds_it;
      value = ap (λ piece. value_in piece p) found.found;
    }
