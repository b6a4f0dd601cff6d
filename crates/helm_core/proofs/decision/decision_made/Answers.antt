use Rattle.std.proofs.Common.{subst, sym, length, ◌<◌, ap, ◌∙◌, arith}
use Rattle.std.specs.List.{All}
use Rattle.helm_core.specs.Decisions.{IsFitTerm, some_active}
use Rattle.helm_core.proofs.Deciding.{few_terms, fit_terms, some_terms}
use Rattle.helm_core.proofs.decision.decision_made.Goals as goal

pub problem_of-problem-requires-clause-some : goal.problem_of-problem-requires-clause-some
problem_of-problem-requires-clause-some g c =
    subst (λ terms. 0 < length terms) (sym c.in_ok-terms.ensures) (some_terms c.args.domain c.args.showings.items c.requires.fit (ap some_active (sym c.as_slice.ensures.value) ∙ sym c.some_active.ensures ∙ c.if-not-some_active.false))

pub problem_of-problem-requires-clause-few : goal.problem_of-problem-requires-clause-few
problem_of-problem-requires-clause-few g c = let same = ap length c.in_ok-terms.ensures in let most = few_terms c.args.showings.items in omega (arith, c.requires.few)

pub problem_of-problem-requires-clause-fit : goal.problem_of-problem-requires-clause-fit
problem_of-problem-requires-clause-fit g c = subst (All (IsFitTerm c.args.domain)) (sym c.in_ok-terms.ensures) (fit_terms c.args.domain c.args.showings.items c.requires.fit)
