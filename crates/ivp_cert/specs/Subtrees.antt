-- The subtrees of which a problem's tree is made: the lines that the cut has in each, and how they join.
use Rattle.std.specs.Prelude.{◌≡◌, List, drop, length}
use Rattle.std.specs.List.{flat_map}
use Rattle.ivp_problem.specs.declared.key.Key.{Key}
use Rattle.ivp_problem.specs.Problems.{WeightedSum}
use Rattle.ivp_problem.specs.Trees.{IsNode}
use Rattle.ivp_cert.specs.declared.cert.Line.{Line}
use Rattle.ivp_cert.specs.declared.subtree.Subtree.{Subtree}
use Rattle.ivp_cert.specs.Certificates.{topmost}

-- the lines of a subtree: those of the topmost nodes, from its own on, whose bound is at most the key
abbrev pub cut_at : WeightedSum → Key → Subtree → List Line
cut_at problem key subtree = topmost problem key (drop subtree.node.depth problem.terms) subtree.path subtree.node

-- the lines of some subtrees, joined in their order
abbrev pub cut_in : WeightedSum → Key → List Subtree → List Line
cut_in problem key subtrees = flat_map (cut_at problem key) subtrees

-- the node is one of the tree, and its path has a number for each level
pub record IsSubtree (problem : WeightedSum) (subtree : Subtree) : Type 0 where
  pub node : IsNode problem subtree.node
  pub path : length subtree.path ≡ subtree.node.depth
