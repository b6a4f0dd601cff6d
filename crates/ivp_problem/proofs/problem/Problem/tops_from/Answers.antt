use Rattle.std.proofs.Common.{◌≡◌, ◌≤◌, drop, length, refl, sym, subst, ◌∙◌}
use Rattle.std.specs.List.{sum_by}
use Rattle.ivp_problem.specs.Problems.{WeightedSum}
use Rattle.ivp_problem.specs.Trees.{top_of}
use Rattle.ivp_problem.proofs.Terms.{each_drop, own_tops}
use Rattle.ivp_problem.proofs.problem.Problem.tops_from.Goals as goal

pub returns : goal.returns
returns c =
    let axes = c.self.inside.domain in
    let terms = c.self.inside.terms.items in
    c.self.invariant.1 c.args.from (subst (λ (s : WeightedSum). c.args.from ≤ length s.terms) (sym c.self.view_is) c.requires)
    ∙ (own_tops axes (drop c.args.from terms) (each_drop axes c.args.from terms c.self.invariant.0.terms) ∙ subst (λ (s : WeightedSum). sum_by (top_of axes) (drop c.args.from terms) ≡ sum_by (top_of s.axes) (drop c.args.from s.terms)) c.self.view_is refl)
