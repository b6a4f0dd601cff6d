-- The best point stands among all points at its index.
use Rattle.std.proofs.Common.{◌≡◌, ℕ, inl, inr, true, Some, List, refl, sym, ap, subst, ◌∙◌}
use Rattle.std.specs.Prelude.{slice_get}
use Rattle.std.proofs.lemmas.Option.{slice_get_within}
use Rattle.ivp_domain.specs.declared.axis.Axis.{Axis}
use Rattle.ivp_domain.specs.declared.boxes.Point.{Point}
use Rattle.ivp_domain.specs.Boxes.{point_from}
use Rattle.ivp_domain.specs.Domains.{index_of, is_domain, is_point, points_of}
use Rattle.ivp_domain.proofs.Sizes.{IsPointAt, point_in_list_at, point_of_index}
use Rattle.ivp_problem.specs.Problems.{IsProblem, WeightedSum}
use Rattle.ivp_problem.specs.Sums.{best_of}
use Rattle.ivp_problem.proofs.KeyOrder.{best_one, best_point, Chosen}

-- a point that stands among all points stands at its index
listed_index : (axes : List Axis) (n : ℕ) (p : Point) → is_domain axes ≡ true → slice_get (points_of axes) n ≡ Some p → slice_get (points_of axes) (index_of axes p) ≡ Some p
listed_index axes n p h e = by _ (point_of_index axes n h (slice_get_within (points_of axes) n p e))
  where
    by : (q : Point) → IsPointAt axes n q → slice_get (points_of axes) (index_of axes p) ≡ Some p
    by q at =
        let same : Some q ≡ Some p = sym at.listed ∙ e in
        let point : q ≡ p = cc in
        let index : index_of axes p ≡ n = ap (index_of axes) (sym point) ∙ at.index in
        ap (slice_get (points_of axes)) index ∙ e

pub best_listed : (problem : WeightedSum) → IsProblem problem → slice_get (points_of problem.axes) (index_of problem.axes (best_of problem)) ≡ Some (best_of problem)
best_listed problem h = by (best_one problem (point_from 0 0 0 0) (points_of problem.axes))
  where
    by : Chosen (best_of problem) (point_from 0 0 0 0) (points_of problem.axes) → slice_get (points_of problem.axes) (index_of problem.axes (best_of problem)) ≡ Some (best_of problem)
    by (inl first) =
        let inside : is_point problem.axes (point_from 0 0 0 0) ≡ true = ap (is_point problem.axes) (sym first) ∙ best_point problem in
        subst (λ (p : Point). slice_get (points_of problem.axes) (index_of problem.axes p) ≡ Some p) (sym first) (point_in_list_at problem.axes (point_from 0 0 0 0) h.domain inside refl)
    by (inr found) = listed_index problem.axes found.0 (best_of problem) h.domain found.1
