-- What the terms of a problem keep: their weighted values at points of the domain, and their tops.
use Rattle.std.proofs.Common.{◌≡◌, ℕ, zero, suc, ◌*◌, ◌^◌, ◌≤◌, true, false, cond, ℤ, pos, negsuc, ◌*ℤ◌, ◌≤ℤ◌, Some, List, [], ◌∷◌, length, take, drop, refl, sym, ap, subst, ◌∙◌, arith}
use Rattle.std.specs.Prelude.{nat_abs, slice_get, slice_index}
use Rattle.std.specs.List.{find, sum_by}
use Rattle.std.proofs.Math.Nat.{mul-le-mul, mul-le-mul_left}
use Rattle.std.proofs.lemmas.Bool.Decides.{nat_tests}
use Rattle.std.proofs.lemmas.Int.{ints}
use Rattle.std.proofs.lemmas.List.Sums.{sum_by-cons}
use Rattle.ivp_domain.specs.declared.axis.Axis.{Axis}
use Rattle.ivp_domain.specs.declared.boxes.BoxN.{BoxN}
use Rattle.ivp_domain.specs.declared.boxes.Point.{Point}
use Rattle.ivp_domain.specs.Boxes.{has_point, point_from, points_in}
use Rattle.ivp_domain.specs.Domains.{is_point, points_of, whole}
use Rattle.ivp_domain.proofs.BoxLemmas.{listed_point, point_listed}
use Rattle.ivp_func.specs.declared.piece.Piece.{Piece}
use Rattle.ivp_func.specs.Functions.{HasValues, IsTop}
use Rattle.ivp_func.specs.Pieces.{piece_has, is_value, value_at, value_in}
use Rattle.ivp_problem.specs.declared.term.Term.{Term}
use Rattle.ivp_problem.specs.Problems.{IsTermOf}
use Rattle.ivp_problem.specs.Sums.{greatest, weighted_at, weighted_sum}
use Rattle.ivp_problem.specs.Trees.{own_top, top_of}
use Rattle.ivp_problem.proofs.Slopes.{weight_most}
use Rattle.ivp_problem.proofs.Totals.{greatest_each, greatest_is, greatest_within}

-- each of these terms is one over the domain
abbrev pub AreTerms : List Axis → List Term → Type 0
AreTerms axes terms = (place : ℕ) (term : Term) → slice_get terms place ≡ Some term → IsTermOf axes term

pub each_drop : (axes : List Axis) (n : ℕ) (terms : List Term) → AreTerms axes terms → AreTerms axes (drop n terms)
each_drop axes zero terms h = h
each_drop axes (suc n) [] h = h
each_drop axes (suc n) (t ∷ ts) h = each_drop axes n ts (λ k. h (suc k))

pub each_take : (axes : List Axis) (n : ℕ) (terms : List Term) → AreTerms axes terms → AreTerms axes (take n terms)
each_take axes zero terms h k t e = absurd (cc)
each_take axes (suc n) [] h k t e = absurd (cc)
each_take axes (suc n) (t ∷ ts) h zero u e = h zero u e
each_take axes (suc n) (t ∷ ts) h (suc k) u e = each_take axes n ts (λ j. h (suc j)) k u e

-- the point at the places of this one, and no others
abbrev pub at_places : Point → Point
at_places p = point_from (slice_index p.at 0) (slice_index p.at 1) (slice_index p.at 2) (slice_index p.at 3)

-- it stands in the list of a box that has the point
pub listed_at : (area : BoxN) (p : Point) → has_point area p ≡ true → (n : ℕ) × (slice_get (points_in area) n ≡ Some (at_places p))
listed_at area p h = point_listed area (at_places p) refl h

-- and it has the same values
pub value_places : (xs : List Piece) (p : Point) → value_at xs (at_places p) ≡ value_at xs p
value_places [] p = refl
value_places (x ∷ xs) p =
    elim (piece_has p x) as (λ b. value_in (cond b (Some x) (find (piece_has (at_places p)) xs)) (at_places p) ≡ value_in (cond b (Some x) (find (piece_has p) xs)) p) [ true ↦ refl | false ↦ value_places xs p ]

pub weighted_places : (term : Term) (p : Point) → weighted_at (at_places p) term ≡ weighted_at p term
weighted_places term p = ap (λ z. term.weight * nat_abs z) (value_places term.func.pieces p)

pub weighted_sums_places : (terms : List Term) (p : Point) → weighted_sum terms (at_places p) ≡ weighted_sum terms p
weighted_sums_places [] p = refl
weighted_sums_places (t ∷ ts) p = omega (arith, sum_by-cons (weighted_at (at_places p)) t ts, sum_by-cons (weighted_at p) t ts, weighted_places t p, weighted_sums_places ts p)

-- a value is a natural number up to 100,000
pub value_natural : (z : ℤ) → is_value z ≡ true → (pos (nat_abs z) ≡ z) × (nat_abs z ≤ 100000)
value_natural (pos z) h = (refl, grind (arith, nat_tests, ints))
value_natural (negsuc z) h = absurd (grind (arith, nat_tests, ints))

pub value_of_term : (axes : List Axis) (term : Term) (p : Point) → IsTermOf axes term → is_point axes p ≡ true → is_value (value_at term.func.pieces p) ≡ true
value_of_term axes term p h inside =
    let values = subst (λ (a : List Axis). HasValues a term.func.pieces) h.domain h.func.values in
    values p inside

-- a weighted value and a top are at most 10^12
pub weighted_most : (axes : List Axis) (term : Term) (p : Point) → IsTermOf axes term → is_point axes p ≡ true → weighted_at p term ≤ 10 ^ 12
weighted_most axes term p h inside =
    let value = nat_abs (value_at term.func.pieces p) in
    let small : value ≤ 100000 = (value_natural (value_at term.func.pieces p) (value_of_term axes term p h inside)).1 in
    let product = mul-le-mul {n₁ = term.weight} {m₁ = value} {n₂ = 10000000} {m₂ = 100000} (weight_most term.weight h.weight).1 small in
    omega arith

-- a weighted value as an integer
pub weighted_signed : (axes : List Axis) (term : Term) (p : Point) → IsTermOf axes term → is_point axes p ≡ true → (pos term.weight *ℤ value_at term.func.pieces p) ≡ pos (weighted_at p term)
weighted_signed axes term p h inside =
    let natural = (value_natural (value_at term.func.pieces p) (value_of_term axes term p h inside)).0 in
    ap (λ z. pos term.weight *ℤ z) (sym natural)

pub weighted_sums_most : (axes : List Axis) (terms : List Term) (p : Point) → AreTerms axes terms → is_point axes p ≡ true → weighted_sum terms p ≤ 10 ^ 12 * length terms
weighted_sums_most axes [] p h inside = omega arith
weighted_sums_most axes (t ∷ ts) p h inside =
    let rest = weighted_sums_most axes ts p (λ k. h (suc k)) inside in
    let first = weighted_most axes t p (h 0 t refl) inside in
    omega (arith, sum_by-cons (weighted_at p) t ts)

-- the greatest value of a term
abbrev pub most_of : List Axis → Term → ℕ
most_of axes term = greatest (λ point. nat_abs (value_at term.func.pieces point)) (points_of axes)

pub top_most : (axes : List Axis) (term : Term) → IsTermOf axes term → top_of axes term ≤ 10 ^ 12
top_most axes term h =
    let small : most_of axes term ≤ 100000 = greatest_within (λ point. nat_abs (value_at term.func.pieces point)) (points_of axes) 100000 (λ n p e. (value_natural (value_at term.func.pieces p) (value_of_term axes term p h (listed_point (whole axes) n p e))).1) in
    let product = mul-le-mul {n₁ = term.weight} {m₁ = most_of axes term} {n₂ = 10000000} {m₂ = 100000} (weight_most term.weight h.weight).1 small in
    omega arith

-- no weighted value is above the top
pub weighted_top : (axes : List Axis) (term : Term) (p : Point) → is_point axes p ≡ true → weighted_at p term ≤ top_of axes term
weighted_top axes term p inside =
    let at = listed_at (whole axes) p inside in
    let most : nat_abs (value_at term.func.pieces p) ≤ most_of axes term = subst (λ z. nat_abs z ≤ most_of axes term) (value_places term.func.pieces p) (greatest_each (λ point. nat_abs (value_at term.func.pieces point)) (points_of axes) at.0 (at_places p) at.1) in
    mul-le-mul_left term.weight most

pub weighted_sums_tops : (axes : List Axis) (terms : List Term) (p : Point) → is_point axes p ≡ true → weighted_sum terms p ≤ sum_by (top_of axes) terms
weighted_sums_tops axes [] p inside = omega arith
weighted_sums_tops axes (t ∷ ts) p inside =
    let rest = weighted_sums_tops axes ts p inside in
    omega (arith, sum_by-cons (weighted_at p) t ts, sum_by-cons (top_of axes) t ts, weighted_top axes t p inside)

pub tops_most : (axes : List Axis) (terms : List Term) → AreTerms axes terms → sum_by (top_of axes) terms ≤ 10 ^ 12 * length terms
tops_most axes [] h = omega arith
tops_most axes (t ∷ ts) h =
    let rest = tops_most axes ts (λ k. h (suc k)) in
    omega (arith, sum_by-cons (top_of axes) t ts, top_most axes t (h 0 t refl))

-- the greatest value is the top
pub top_is : (axes : List Axis) (xs : List Piece) (top : ℤ) → HasValues axes xs → IsTop axes xs top → nat_abs top ≡ greatest (λ point. nat_abs (value_at xs point)) (points_of axes)
top_is axes xs top values h =
    let best = h.attained.0 in
    let at = listed_at (whole axes) best h.attained.1 in
    sym
    (greatest_is (λ point. nat_abs (value_at xs point)) (points_of axes) (nat_abs top) at.0 (at_places best) at.1 (ap nat_abs (value_places xs best ∙ h.attained.2))
    (λ k q e.
    let inside = listed_point (whole axes) k q e in
    no_more (value_at xs q) top (values q inside) (h.greatest q inside)))
  where
    no_more : (a b : ℤ) → is_value a ≡ true → a ≤ℤ b → nat_abs a ≤ nat_abs b
    no_more (pos a) (pos b) h le = omega (arith, ints)
    no_more (pos a) (negsuc b) h le = absurd (omega (arith, ints))
    no_more (negsuc a) b h le = absurd (grind (arith, nat_tests, ints))

-- over the domain of all the own tops are the tops
pub own_tops : (axes : List Axis) (terms : List Term) → AreTerms axes terms → sum_by own_top terms ≡ sum_by (top_of axes) terms
own_tops axes [] h = refl
own_tops axes (t ∷ ts) h =
    let rest = own_tops axes ts (λ k. h (suc k)) in
    let first : own_top t ≡ top_of axes t = ap (λ (a : List Axis). top_of a t) (h 0 t refl).domain in
    omega (arith, sum_by-cons own_top t ts, sum_by-cons (top_of axes) t ts)
