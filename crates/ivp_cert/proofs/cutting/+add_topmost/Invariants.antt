use Rattle.std.proofs.Common.{◌≡◌, ◌≤◌, ◌-◌, ◌++◌, length}
use Rattle.ivp_cert.proofs.Stepping.{left, topmost_of}
use Rattle.ivp_cert.proofs.cutting.+add_topmost.Given as goal

abbrev pub decreases-add_topmost : goal.decreases-add_topmost
decreases-add_topmost l = length l.problem.now.terms - l.node.now.depth

-- what was added, with what is left, is the whole
abbrev pub invariant-loop-child : goal.invariant-loop-child
invariant-loop-child l =
    record {
      few : l.from ≤ 4096;
      lines : l.fn.lines.items ++ topmost_of l.problem l.key l.fn.trail l.node ≡ l.lines.items ++ left l.problem l.key l.fn.trail l.node l.from;
      trail : l.trail ≡ l.fn.trail;
    }

abbrev pub decreases-loop-child : goal.decreases-loop-child
decreases-loop-child l = 4096 - l.from
