use Rattle.std.proofs.Common.{◌≡◌, List, take}
use Rattle.ivp_domain.specs.declared.axis.Axis.{Axis}
use Rattle.ivp_problem.specs.Problems.{AreOver}
use Rattle.ivp_problem.proofs.problem.are_same.Given as goal

abbrev pub invariant-loop-place : goal.invariant-loop-place
invariant-loop-place l = (axes : List Axis) → AreOver axes l.a → AreOver axes l.b → take l.place l.a ≡ take l.place l.b
