use Rattle.std.proofs.Common.{◌<◌, length, sym, subst, ◌∙◌}
use Rattle.ivp_problem.specs.Problems.{WeightedSum}
use Rattle.ivp_cert.proofs.Sums.{makes_problem}
use Rattle.ivp_cert.proofs.terms.Terms.into_problem.Goals as goal

pub unreachable-requires : goal.unreachable-requires
unreachable-requires c =
    let some = subst (λ (sum : WeightedSum). 0 < length sum.terms) (sym c.self.view_is) c.requires in
    let bad = sym c.in-Err.is ∙ c.make.ensures ∙ makes_problem c.self.inside.domain c.self.inside.terms.items some c.self.invariant.0 c.self.invariant.1 c.self.invariant.2 in cc
