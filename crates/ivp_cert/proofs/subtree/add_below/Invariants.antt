use Rattle.std.proofs.Common.{◌≡◌, ◌≤◌, ◌-◌, ◌++◌, All}
use Rattle.ivp_cert.specs.Subtrees.{IsSubtree, cut_at, cut_in}
use Rattle.ivp_cert.proofs.Stepping.{left}
use Rattle.ivp_cert.proofs.subtree.add_below.Given as goal

-- what was added, with the lines of the children that are left, is the whole
abbrev pub invariant-loop-child : goal.invariant-loop-child
invariant-loop-child l =
    record {
      few : l.from ≤ 4096;
      lines : cut_in l.problem l.fn.key l.fn.subtrees.items ++ cut_at l.problem l.fn.key l.subtree ≡ cut_in l.problem l.fn.key l.subtrees.items ++ left l.problem l.fn.key l.subtree.path l.subtree.node l.from;
      subtrees : All (IsSubtree l.problem) l.subtrees.items;
    }

abbrev pub decreases-loop-child : goal.decreases-loop-child
decreases-loop-child l = 4096 - l.from
