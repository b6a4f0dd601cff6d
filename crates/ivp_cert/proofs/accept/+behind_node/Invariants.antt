use Rattle.std.proofs.Common.{◌≡◌, ◌≤◌, ◌-◌, drop, length}
use Rattle.ivp_cert.specs.Walks.{behind_node}
use Rattle.ivp_cert.proofs.Stepping.{onward}
use Rattle.ivp_cert.proofs.accept.+behind_node.Given as goal

abbrev pub decreases-behind_node : goal.decreases-behind_node
decreases-behind_node l = length l.problem.now.terms - l.node.now.depth

-- what the walk comes to is what it comes to from here on
abbrev pub invariant-loop-child : goal.invariant-loop-child
invariant-loop-child l =
    record {
      few : l.from ≤ 4096;
      onward : behind_node l.problem l.key (drop l.node.depth l.problem.terms) l.fn.trail l.node (drop l.fn.place l.cert) ≡ onward l.problem l.key l.fn.trail l.node l.from (drop l.place l.cert);
      within : l.place ≤ length l.cert;
      trail : l.trail ≡ l.fn.trail;
    }

abbrev pub decreases-loop-child : goal.decreases-loop-child
decreases-loop-child l = 4096 - l.from
