use Rattle.ivp_problem.specs.declared.term.Term.{Term}
use Rattle.ivp_cert.specs.Printed.{AllOf, HasFourPlaces}
use Rattle.ivp_cert.proofs.EachPart.{Below}
use Rattle.ivp_cert.proofs.printed.problem_prints.Given as goal

abbrev pub invariant-loop-number : goal.invariant-loop-number
invariant-loop-number l = Below (λ (term : Term). AllOf HasFourPlaces term.func.pieces) l.problem.terms l.number
