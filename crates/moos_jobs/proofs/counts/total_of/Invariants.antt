use Rattle.std.proofs.Common.{◌≡◌, ◌≤◌, ◌*◌, ◌^◌, take}
use Rattle.std.specs.Prelude.{sum_by}
use Rattle.helm_core.specs.declared.iteration.Iteration.{Iteration}
use Rattle.moos_jobs.specs.Summary.{decided_sum}
use Rattle.moos_jobs.proofs.counts.total_of.Given as goal

-- the sums so far
abbrev pub invariant-loop-iteration : goal.invariant-loop-iteration
invariant-loop-iteration l =
    (l.total ≡ sum_by (λ (iteration : Iteration). decided_sum iteration.decision) (take l.iteration-index l.iterations)) × (l.total ≤ l.iteration-index * 2 ^ 64)
