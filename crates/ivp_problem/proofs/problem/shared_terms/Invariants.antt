use Rattle.std.proofs.Common.{◌≡◌, take}
use Rattle.ivp_problem.proofs.problem.shared_terms.Given as goal

abbrev pub invariant-loop-term : goal.invariant-loop-term
invariant-loop-term l = l.shared.items ≡ take l.term-index l.terms
