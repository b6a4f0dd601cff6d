use Rattle.std.proofs.Common.{◌≡◌, List, refl, sym, subst, ◌∙◌}
use Rattle.ivp_domain.specs.declared.axis.Axis.{Axis}
use Rattle.ivp_problem.specs.declared.term.Term.{Term}
use Rattle.ivp_problem.specs.Problems.{AreOver, WeightedSum}
use Rattle.ivp_problem.proofs.Makes.{same_domain-true}
use Rattle.ivp_problem.proofs.problem.Problem.is_same.Goals as goal

abbrev sum_over : List Axis → List Term → WeightedSum
sum_over axes terms = record { axes = axes; terms = terms }

pub returns : goal.returns
returns c = λ told.
    let a = c.self.inside in
    let b = c.other.inside in
    let axes : b.domain ≡ a.domain = same_domain-true a.domain b.domain (sym c.same_domain.ensures ∙ c.if-not-same_domain.false) in
    let over : AreOver a.domain a.terms.items = λ place term e. (c.self.invariant.0.terms place term e).domain in
    let other_over : AreOver a.domain b.terms.items = λ place term e. (c.other.invariant.0.terms place term e).domain ∙ axes in
    let one : c.as_slice.result.now ≡ a.terms.items = c.as_slice.ensures.value in
    let other : c.as_slice-2.result.now ≡ b.terms.items = c.as_slice-2.ensures.value in
    let same = c.are_same.ensures told a.domain (subst (AreOver a.domain) (sym one) over) (subst (AreOver a.domain) (sym other) other_over) in
    let terms : a.terms.items ≡ b.terms.items = sym one ∙ same ∙ other in
    let sums : sum_over a.domain a.terms.items ≡ sum_over b.domain b.terms.items = rw (axes, terms) refl in
    let s = c.self.view_is in let o = c.other.view_is in
    cc
