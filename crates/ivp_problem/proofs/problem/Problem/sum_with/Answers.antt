use Rattle.std.proofs.Common.{IsTrue, List, length, refl, sym, subst}
use Rattle.std.proofs.lemmas.Option.{slice_get_read}
use Rattle.ivp_domain.specs.declared.axis.Axis.{Axis}
use Rattle.ivp_domain.specs.Domains.{is_point}
use Rattle.ivp_problem.specs.Problems.{WeightedSum}
use Rattle.ivp_problem.proofs.Terms.{AreTerms}
use Rattle.ivp_problem.proofs.problem.Problem.sum_with.Goals as goal

pub weighted_value-sum-requires-clause-point : goal.weighted_value-sum-requires-clause-point
weighted_value-sum-requires-clause-point g c =
    let terms = c.deref-term-items.result.now in
    let each = subst (AreTerms c.self.inside.domain) (sym c.deref-term-items.ensures.value) c.self.invariant.0.terms in
    let term = each c.loop-term.term-index c.term-item.result (slice_get_read terms (length terms) c.loop-term.term-index c.term-item.result refl c.loop-term-test.true c.term-item.is) in
    subst (λ (a : List Axis). IsTrue (is_point a c.args.p.now)) (sym term.domain) (subst (λ (s : WeightedSum). IsTrue (is_point s.axes c.args.p.now)) (sym c.self.view_is) c.requires.point)

pub weighted_value-sum-requires-clause-weight : goal.weighted_value-sum-requires-clause-weight
weighted_value-sum-requires-clause-weight g c =
    let terms = c.deref-term-items.result.now in
    let each = subst (AreTerms c.self.inside.domain) (sym c.deref-term-items.ensures.value) c.self.invariant.0.terms in
    let term = each c.loop-term.term-index c.term-item.result (slice_get_read terms (length terms) c.loop-term.term-index c.term-item.result refl c.loop-term-test.true c.term-item.is) in
    term.weight
