use Rattle.std.proofs.Common.{◌≡◌, ◌*◌, ◌^◌, ◌≤◌, take}
use Rattle.ivp_problem.specs.Sums.{weighted_sum}
use Rattle.ivp_problem.proofs.problem.Problem.sum_with.Given as goal

abbrev pub invariant-loop-term : goal.invariant-loop-term
invariant-loop-term g l = record { sum : l.sum ≡ weighted_sum (take l.term-index l.term-items) l.p; range : l.sum ≤ 10 ^ 12 * l.term-index }
