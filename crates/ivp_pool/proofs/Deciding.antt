-- What a whole search decides: the best key, and its point.
use Rattle.std.proofs.Common.{◌≡◌, ℕ, ◌<◌, ◌≤◌, inl, inr, Option, Some, List, length, sym, ap, ◌∙◌, subst, arith}
use Rattle.std.specs.Prelude.{IsTrue, slice_get}
use Rattle.std.proofs.lemmas.Option.{slice_get_within}
use Rattle.ivp_domain.specs.declared.axis.Axis.{Axis}
use Rattle.ivp_domain.specs.declared.boxes.Point.{Point}
use Rattle.ivp_domain.specs.Domains.{index_of, is_point, points_of}
use Rattle.ivp_problem.specs.Found.{IsKnownSum, IsOwnKey}
use Rattle.ivp_problem.specs.Problems.{WeightedSum}
use Rattle.ivp_problem.specs.declared.key.Key.{Key}
use Rattle.ivp_problem.specs.Keys.{AtMost, Reaches}
use Rattle.ivp_problem.specs.Sums.{best_of, key_at, sum_at}
use Rattle.ivp_problem.proofs.KeyOrder.{at_most_both, at_most_sum}
use Rattle.ivp_pool.specs.Parts.{KnowsMore, knows_only, Outdoes}

-- no known sum is above that of a best key
pub known_most : (problem : WeightedSum) (sum : ℕ) (best : Point) → IsKnownSum problem sum → ((p : Point) → IsTrue (is_point problem.axes p) → AtMost (key_at problem p) (key_at problem best)) → sum ≤ sum_at problem best
known_most problem sum best (inl none) most = omega (arith, none)
known_most problem sum best (inr (p, inside, is)) most = omega (arith, is, at_most_sum (key_at problem p) (key_at problem best) (most p inside))

-- where all keys are outdone, the own key is the best one
pub best_own : (problem : WeightedSum) (low : ℕ) (own : Option Key) (best : Point) → IsOwnKey problem own → low ≤ sum_at problem best → Outdoes (record { low = low; own = own }) (key_at problem best) → ((p : Point) → IsTrue (is_point problem.axes p) → AtMost (key_at problem p) (key_at problem best)) → own ≡ Some (key_at problem best)
best_own problem low own best owned within (inl less) most = absurd (omega (arith, less, within))
best_own problem low own best (inl none) within (inr reach) most = absurd (subst (λ o. Reaches o (key_at problem best)) none reach)
best_own problem low own best (inr (p, inside, is)) within (inr reach) most =
    let up : AtMost (key_at problem best) (key_at problem p) = subst (λ o. Reaches o (key_at problem best)) is reach in
    is ∙ ap Some (at_most_both (key_at problem p) (key_at problem best) (most p inside) up)

-- and outdoes what the best key does alone
pub only_best : (low : ℕ) (own : Option Key) (key : Key) → low ≤ key.sum → own ≡ Some key → KnowsMore (record { low = low; own = own }) (knows_only key)
only_best low own key within is other (inl less) = inr (inl (omega (arith, less, within)))
only_best low own key within is other (inr reach) = inr (subst (λ o. Reaches o other) is reach)

-- the best point stands among all points at its index
abbrev pub IsListed : WeightedSum → Type 0
IsListed problem = slice_get (points_of problem.axes) (index_of problem.axes (best_of problem)) ≡ Some (best_of problem)

-- so its index is that of a point
pub best_within : (problem : WeightedSum) (axes : List Axis) (index : ℕ) → axes ≡ problem.axes → index ≡ index_of problem.axes (best_of problem) → IsListed problem → index < length (points_of axes)
best_within problem axes index same at listed =
    subst (λ (a : List Axis). index < length (points_of a)) (sym same)
    (subst (λ (n : ℕ). n < length (points_of problem.axes)) (sym at) (slice_get_within (points_of problem.axes) (index_of problem.axes (best_of problem)) (best_of problem) listed))

-- and the point at that index is the best one
pub best_at : (problem : WeightedSum) (axes : List Axis) (index : ℕ) (point : Point) → axes ≡ problem.axes → index ≡ index_of problem.axes (best_of problem) → IsListed problem → slice_get (points_of axes) index ≡ Some point → point ≡ best_of problem
best_at problem axes index point same at listed there =
    let moved : slice_get (points_of problem.axes) index ≡ Some point = subst (λ (a : List Axis). slice_get (points_of a) index ≡ Some point) same there in
    let here : slice_get (points_of problem.axes) (index_of problem.axes (best_of problem)) ≡ Some point = subst (λ (n : ℕ). slice_get (points_of problem.axes) n ≡ Some point) at moved in
    let both : Some point ≡ Some (best_of problem) = sym here ∙ listed in
    cc
