use Rattle.std.proofs.Common.{◌≡◌, ◌++◌, map, drop}
use Rattle.ivp_cert.specs.Dealing.{dealt_to}
use Rattle.ivp_cert.specs.Subtrees.{cut_at}
use Rattle.ivp_cert.proofs.by_workers.cut_share.Given as goal

-- what was cut, with what is left, is the whole share
abbrev pub invariant-loop-subtree : goal.invariant-loop-subtree
invariant-loop-subtree l =
    map (λ cut. cut.items) l.cuts.items ++ dealt_to l.workers l.wait (map (cut_at l.problem l.key) (drop l.subtree-index l.subtrees))
    ≡ dealt_to l.workers l.number (map (cut_at l.problem l.key) l.subtrees)
