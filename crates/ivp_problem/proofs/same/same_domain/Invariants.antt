use Rattle.std.proofs.Common.{◌≡◌, drop}
use Rattle.ivp_problem.specs.Problems.{same_domain}
use Rattle.ivp_problem.proofs.same.same_domain.Given as goal

abbrev pub invariant-loop-axis : goal.invariant-loop-axis
invariant-loop-axis l = same_domain (drop l.axis l.a) (drop l.axis l.b) ≡ same_domain l.a l.b
