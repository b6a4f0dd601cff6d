use Rattle.std.proofs.Common.{◌+◌, ◌-◌, ◌≤◌, length}
use Rattle.ivp_problem.specs.Trees.{has_in}
use Rattle.ivp_search.specs.Incumbents.{IsBest}
use Rattle.ivp_problem.proofs.Pieces.{children_to}
use Rattle.ivp_search.proofs.Closing.{size_under}
use Rattle.ivp_search.proofs.search.+close.Given as goal

abbrev pub decreases-close : goal.decreases-close
decreases-close g l = length l.problem.now.terms - l.node.now.depth

-- the best of the children by the pieces so far, in at most as many steps as there are nodes under them
abbrev pub invariant-loop-next : goal.invariant-loop-next
invariant-loop-next g l =
    record {
      few : l.from ≤ 4096;
      best : IsBest l.problem (has_in (children_to l.problem l.node l.from)) l.fn.incumbent l.best;
      steps : l.steps ≤ l.fn.steps + 1 + size_under l.problem (length l.problem.terms - (l.node.depth + 1)) (children_to l.problem l.node l.from);
    }

abbrev pub decreases-loop-next : goal.decreases-loop-next
decreases-loop-next g l = 4096 - l.from
