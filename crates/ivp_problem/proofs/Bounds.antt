-- The bound of a node: attained at the corner where each slope adds most, and no key in the node is above it.
use Rattle.std.proofs.Common.{◌≡◌, ℕ, ◌+◌, ◌<◌, ◌≤◌, ◌⊎◌, inl, inr, true, false, cond, Bool, nat_lt, ℤ, pos, ◌+ℤ◌, ◌<ℤ◌, List, length, take, drop, refl, sym, ap, subst, ◌∙◌, arith}
use Rattle.std.specs.Prelude.{slice_index}
use Rattle.std.proofs.lemmas.Bool.Decides.{nat_tests}
use Rattle.std.proofs.lemmas.Int.{ints}
use Rattle.std.proofs.lemmas.List.{take_all}
use Rattle.std.proofs.lemmas.List.Sums.{sum_by-take-drop}
use Rattle.ivp_domain.specs.declared.axis.Axis.{Axis}
use Rattle.ivp_domain.specs.declared.boxes.BoxN.{BoxN}
use Rattle.ivp_domain.specs.declared.boxes.Point.{Point}
use Rattle.ivp_domain.specs.Boxes.{has_point, is_box, points_in}
use Rattle.ivp_domain.specs.Domains.{index_of, size_on}
use Rattle.ivp_domain.proofs.BoxLemmas.{has_low_corner, listed_point}
use Rattle.ivp_func.proofs.Facts.{area_point, box_parts, has_first_point, place_in}
use Rattle.ivp_problem.specs.declared.node.Node.{Node}
use Rattle.ivp_problem.specs.declared.key.Key.{Key}
use Rattle.ivp_problem.specs.Keys.{AtMost, key_of}
use Rattle.ivp_problem.specs.Problems.{IsProblem, WeightedSum}
use Rattle.ivp_problem.specs.Sums.{best_among, greatest, key_at, least, sum_at, weighted_at, weighted_sum}
use Rattle.ivp_problem.specs.Corners.{Beats}
use Rattle.ivp_problem.specs.Trees.{bound_of, chosen_at, partial_bound, rest_of, slope_at}
use Rattle.ivp_problem.proofs.KeyOrder.{among_each, among_is, among_one, at_most_from, index_le, key_places}
use Rattle.ivp_problem.proofs.Nodes.{Keeps}
use Rattle.ivp_problem.proofs.Terms.{at_places, listed_at, weighted_sums_places, weighted_sums_tops}
use Rattle.ivp_problem.proofs.Totals.{greatest_each, greatest_is, least_each, least_is}

-- more, or as much and P
abbrev Ahead : ℤ → ℤ → Type 0 → Type 0
Ahead a b P = (b <ℤ a) ⊎ ((b ≡ a) × P)

ahead_both : (a b a' b' : ℤ) (P Q : Type 0) → Ahead a b P → Ahead a' b' Q → Ahead (a +ℤ a') (b +ℤ b') (P × Q)
ahead_both a b a' b' P Q (inl less) (inl less') = inl (omega (arith, ints))
ahead_both a b a' b' P Q (inl less) (inr (same, q)) = inl (omega (arith, ints))
ahead_both a b a' b' P Q (inr (same, p)) (inl less') = inl (omega (arith, ints))
ahead_both a b a' b' P Q (inr (same, p)) (inr (same', q)) = inr (omega (arith, ints), (p, q))

-- the corner of a node where each slope adds most
pub record IsHighCorner (node : Node) (corner : Point) : Type 0 where
  pub inside : has_point node.area corner ≡ true
  pub most : (k x : ℕ) → k < 4 → slice_index node.area.low k ≤ x → x ≤ slice_index node.area.high k → Beats (slope_at node k) (slice_index corner.at k) x

abbrev NoFurther : Point → Point → Type 0
NoFurther a b = ((((Unit {0} × (slice_index a.at 0 ≤ slice_index b.at 0)) × (slice_index a.at 1 ≤ slice_index b.at 1)) × (slice_index a.at 2 ≤ slice_index b.at 2)) × (slice_index a.at 3 ≤ slice_index b.at 3))

corner_ahead : (node : Node) (corner p : Point) → IsHighCorner node corner → has_point node.area p ≡ true → Ahead (chosen_at node corner) (chosen_at node p) (NoFurther corner p)
corner_ahead node corner p h inside =
    let at : (k : ℕ) → k < 4 → Beats (slope_at node k) (slice_index corner.at k) (slice_index p.at k) = λ k within. let place = place_in node.area p inside k within in h.most k (slice_index p.at k) within place.0 place.1 in
    let start : Ahead node.base node.base (Unit {0}) = inr (refl, tt) in
    ahead_both _ _ _ _ _ _ (ahead_both _ _ _ _ _ _ (ahead_both _ _ _ _ _ _ (ahead_both _ _ _ _ _ _ start (at 0 (omega arith))) (at 1 (omega arith))) (at 2 (omega arith))) (at 3 (omega arith))

-- no chosen sum in the node is above the one at the corner, and of equal ones the corner has the least index
pub corner_most : (problem : WeightedSum) (node : Node) (corner p : Point) → Keeps problem node → IsHighCorner node corner → has_point node.area p ≡ true → (weighted_sum (take node.depth problem.terms) p < weighted_sum (take node.depth problem.terms) corner) ⊎ ((weighted_sum (take node.depth problem.terms) p ≡ weighted_sum (take node.depth problem.terms) corner) × (index_of problem.axes corner ≤ index_of problem.axes p))
corner_most problem node corner p keeps h inside =
    let there = keeps.sum p inside in
    let here = keeps.sum corner h.inside in
    by (chosen_at node corner) (chosen_at node p) (weighted_sum (take node.depth problem.terms) corner) (weighted_sum (take node.depth problem.terms) p) here there (corner_ahead node corner p h inside)
  where
    by : (a b : ℤ) (m n : ℕ) → a ≡ pos m → b ≡ pos n → Ahead a b (NoFurther corner p) → (n < m) ⊎ ((n ≡ m) × (index_of problem.axes corner ≤ index_of problem.axes p))
    by a b m n e e' (inl less) = inl (omega (arith, ints))
    by a b m n e e' (inr (same, before)) = inr (omega (arith, ints), index_le (slice_index corner.at 0) (slice_index corner.at 1) (slice_index corner.at 2) (slice_index corner.at 3) (slice_index p.at 0) (slice_index p.at 1) (slice_index p.at 2) (slice_index p.at 3) (size_on 1 problem.axes) (size_on 2 problem.axes) (size_on 3 problem.axes) before.0.0.0.1 before.0.0.1 before.0.1 before.1)

-- the greatest chosen sum in the node
pub greatest_chosen : (problem : WeightedSum) (node : Node) (corner : Point) → Keeps problem node → IsHighCorner node corner → greatest (weighted_sum (take node.depth problem.terms)) (points_in node.area) ≡ weighted_sum (take node.depth problem.terms) corner
greatest_chosen problem node corner keeps h =
    let terms = take node.depth problem.terms in
    let at = listed_at node.area corner h.inside in
    greatest_is (weighted_sum terms) (points_in node.area) (weighted_sum terms corner) at.0 (at_places corner) at.1 (weighted_sums_places terms corner)
    (λ k q e. elim (corner_most problem node corner q keeps h (listed_point node.area k q e)) [ inl less ↦ omega arith | inr (same, index) ↦ omega arith ])

-- the point of greatest key in a node of full depth
pub greatest_key : (problem : WeightedSum) (node : Node) (corner : Point) → Keeps problem node → IsHighCorner node corner → length problem.terms ≤ node.depth → key_at problem (best_among problem (points_in node.area)) ≡ key_at problem corner
greatest_key problem node corner keeps h full =
    let all : take node.depth problem.terms ≡ problem.terms = take_all node.depth problem.terms full in
    let at = listed_at node.area corner h.inside in
    among_is problem (points_in node.area) at.0 (at_places corner) corner at.1 (key_places problem corner)
    (λ k q e. subst (λ ts. (weighted_sum ts q < weighted_sum ts corner) ⊎ ((weighted_sum ts q ≡ weighted_sum ts corner) × (index_of problem.axes corner ≤ index_of problem.axes q))) all (corner_most problem node corner q keeps h (listed_point node.area k q e)))

-- the least index in a box is that of its low corner
pub least_index : (axes : List Axis) (area : BoxN) (first : Point) → is_box area ≡ true → first.at ≡ area.low → least (index_of axes) (points_in area) ≡ index_of axes first
least_index axes area first proper low =
    let at = listed_at area first (has_first_point area first proper low) in
    least_is (index_of axes) (points_in area) (index_of axes first) at.0 (at_places first) at.1 refl
    (λ k q e.
    let place : (j : ℕ) → j < 4 → slice_index first.at j ≤ slice_index q.at j = λ j within. subst (λ (l : List ℕ). slice_index l j ≤ slice_index q.at j) (sym low) (place_in area q (listed_point area k q e) j within).0 in
    index_le (slice_index first.at 0) (slice_index first.at 1) (slice_index first.at 2) (slice_index first.at 3) (slice_index q.at 0) (slice_index q.at 1) (slice_index q.at 2) (slice_index q.at 3) (size_on 1 axes) (size_on 2 axes) (size_on 3 axes) (place 0 (omega arith)) (place 1 (omega arith)) (place 2 (omega arith)) (place 3 (omega arith)))

-- no key in a node is above its bound
pub key_bound : (problem : WeightedSum) (node : Node) (p : Point) → Keeps problem node → has_point node.area p ≡ true → AtMost (key_at problem p) (bound_of problem node)
key_bound problem node p keeps inside = by (nat_lt node.depth (length problem.terms))
  where
    by : (t : Bool) → AtMost (key_at problem p) (cond t (partial_bound problem node) (key_at problem (best_among problem (points_in node.area))))
    by true =
        let at = listed_at node.area p inside in
        let terms = take node.depth problem.terms in
        let most : weighted_sum terms p ≤ greatest (weighted_sum terms) (points_in node.area) = subst (λ n. n ≤ greatest (weighted_sum terms) (points_in node.area)) (weighted_sums_places terms p) (greatest_each (weighted_sum terms) (points_in node.area) at.0 (at_places p) at.1) in
        let others = weighted_sums_tops problem.axes (drop node.depth problem.terms) p (area_point problem.axes node.area p keeps.inside inside) in
        let first : least (index_of problem.axes) (points_in node.area) ≤ index_of problem.axes p = least_each (index_of problem.axes) (points_in node.area) at.0 (at_places p) at.1 in
        let whole = sum_by-take-drop (weighted_at p) problem.terms node.depth in
        let sum : sum_at problem p ≤ greatest (weighted_sum terms) (points_in node.area) + rest_of problem node = omega arith in
        at_most_from (key_at problem p) (partial_bound problem node) sum first
    by false =
        let at = listed_at node.area p inside in
        subst (λ (k : Key). AtMost k (key_at problem (best_among problem (points_in node.area)))) (key_places problem p) (among_each problem (points_in node.area) at.0 (at_places p) at.1)

-- what the bound is, by the corner
pub bound_below : (problem : WeightedSum) (node : Node) (corner first : Point) → Keeps problem node → IsHighCorner node corner → first.at ≡ node.area.low → node.depth < length problem.terms → key_of (weighted_sum (take node.depth problem.terms) corner + rest_of problem node) (index_of problem.axes first) ≡ bound_of problem node
bound_below problem node corner first keeps h low below =
    let proper = (box_parts problem.axes node.area keeps.inside).0 in
    let test : nat_lt node.depth (length problem.terms) ≡ true = grind (arith, nat_tests) in
    rw test (sym (rw (greatest_chosen problem node corner keeps h, least_index problem.axes node.area first proper low) refl))

pub bound_full : (problem : WeightedSum) (node : Node) (corner : Point) → Keeps problem node → IsHighCorner node corner → length problem.terms ≤ node.depth → key_at problem corner ≡ bound_of problem node
bound_full problem node corner keeps h full =
    let test : nat_lt node.depth (length problem.terms) ≡ false = grind (arith, nat_tests) in
    rw test (sym (greatest_key problem node corner keeps h full))

-- the same, by the chosen sum
pub bound_chosen : (problem : WeightedSum) (node : Node) (corner : Point) → Keeps problem node → IsHighCorner node corner → length problem.terms ≤ node.depth → key_of (weighted_sum (take node.depth problem.terms) corner) (index_of problem.axes corner) ≡ bound_of problem node
bound_chosen problem node corner keeps h full =
    let all = take_all node.depth problem.terms full in
    ap (λ ts. key_of (weighted_sum ts corner) (index_of problem.axes corner)) all ∙ bound_full problem node corner keeps h full

-- at full depth the bound is the key of a point of the node
pub bound_attained : (problem : WeightedSum) (node : Node) → IsProblem problem → Keeps problem node → length problem.terms ≤ node.depth → (p : Point) × (has_point node.area p ≡ true) × (key_at problem p ≡ bound_of problem node)
bound_attained problem node h keeps full =
    let low : Point = record { at = node.area.low } in
    let inside = has_low_corner node.area (box_parts problem.axes node.area keeps.inside).0 in
    let at = listed_at node.area low inside in
    let test : nat_lt node.depth (length problem.terms) ≡ false = grind (arith, nat_tests) in
    let one = among_one problem (points_in node.area) at.0 (at_places low) at.1 in
    (best_among problem (points_in node.area), listed_point node.area one.0 (best_among problem (points_in node.area)) one.1, rw test refl)
