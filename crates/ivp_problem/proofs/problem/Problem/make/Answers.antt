use Rattle.std.proofs.Common.{◌≡◌, ℕ, ◌<◌, Some, None, length, sym, ap, subst, ◌∙◌, List, rules}
use Rattle.std.specs.Prelude.{slice_get}
use Rattle.ivp_func.specs.Functions.{IsFunction}
use Rattle.ivp_problem.specs.declared.term.Term.{Term}
use Rattle.ivp_problem.specs.Problems.{bad_weight, other_domain}
use Rattle.ivp_problem.specs.Trees.{AreTops}
use Rattle.ivp_problem.proofs.Makes.{domain_from, terms_from}
use Rattle.ivp_problem.proofs.Terms.{AreTerms}
use Rattle.ivp_problem.proofs.problem.Problem.make.Goals as goal

pub invariant_of-result : goal.invariant_of-result
invariant_of-result c =
    let axes = c.args.domain in
    let items = c.args.terms.items in
    let some : 0 < length items = search rules in
    let weights : bad_weight items ≡ None = ap bad_weight (sym c.deref.ensures.value) ∙ (sym c.bad_weight.ensures ∙ c.in_default.is) in
    let domains : other_domain axes items ≡ None = ap (other_domain axes) (sym c.deref-2.ensures.value) ∙ (sym c.other_domain.ensures.place ∙ c.in_default-other_domain.is) in
    let terms : AreTerms axes items = terms_from axes items weights domains (subst (λ (ts : List Term). (place : ℕ) (term : Term) → slice_get ts place ≡ Some term → IsFunction term.func) c.deref-2.ensures.value c.in_default-other_domain.ensures.none) in
    (record { domain = domain_from axes items some terms; some = some; few = search rules; terms = terms }, subst (λ (ts : List Term). AreTops ts c.tops_of-tops.result) c.deref-3.ensures.value c.tops_of-tops.ensures)

pub tops_of-tops-requires-clause-terms : goal.tops_of-tops-requires-clause-terms
tops_of-tops-requires-clause-terms c =
    let axes = c.args.domain in
    let items = c.args.terms.items in
    let weights : bad_weight items ≡ None = ap bad_weight (sym c.deref.ensures.value) ∙ (sym c.bad_weight.ensures ∙ c.in_default.is) in
    let domains : other_domain axes items ≡ None = ap (other_domain axes) (sym c.deref-2.ensures.value) ∙ (sym c.other_domain.ensures.place ∙ c.in_default-other_domain.is) in
    let terms = terms_from axes items weights domains (subst (λ (ts : List Term). (place : ℕ) (term : Term) → slice_get ts place ≡ Some term → IsFunction term.func) c.deref-2.ensures.value c.in_default-other_domain.ensures.none) in
    let here = subst (AreTerms axes) (sym c.deref-3.ensures.value) terms in
    λ place term e. ((here place term e).weight, (here place term e).func)
