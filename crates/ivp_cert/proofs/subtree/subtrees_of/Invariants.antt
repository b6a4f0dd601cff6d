use Rattle.std.proofs.Common.{◌≡◌, All, []}
use Rattle.ivp_problem.specs.Trees.{root_of}
use Rattle.ivp_cert.specs.Certificates.{topmost}
use Rattle.ivp_cert.specs.Subtrees.{IsSubtree, cut_in}
use Rattle.ivp_cert.proofs.subtree.subtrees_of.Given as goal

abbrev pub invariant-loop : goal.invariant-loop
invariant-loop l =
    record {
      lines : cut_in l.problem l.key l.subtrees.items ≡ topmost l.problem l.key l.problem.terms [] (root_of l.problem);
      subtrees : All (IsSubtree l.problem) l.subtrees.items;
    }
