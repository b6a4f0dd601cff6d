use Rattle.std.proofs.Common.{◌≡◌, ◌≤◌, take}
use Rattle.std.specs.Prelude.{count_by, is_some}
use Rattle.helm_core.specs.declared.iteration.Iteration.{Iteration}
use Rattle.moos_jobs.proofs.counts.decisions_in.Given as goal

-- the decisions so far
abbrev pub invariant-loop-iteration : goal.invariant-loop-iteration
invariant-loop-iteration l =
    (l.decisions ≡ count_by (λ (iteration : Iteration). is_some iteration.decision) (take l.iteration-index l.iterations)) × (l.decisions ≤ l.iteration-index)
