-- All nodes of a problem's tree, and how many there are.
use Rattle.std.specs.Prelude.{ℕ, ◌-◌, zero, suc, List, [], ◌∷◌, length}
use Rattle.std.specs.List.{flat_map}
use Rattle.ivp_problem.specs.declared.node.Node.{Node}
use Rattle.ivp_problem.specs.Problems.{WeightedSum}
use Rattle.ivp_problem.specs.Trees.{children_of, root_of}

-- this node and those below it, down `levels` levels: depth first, children in piece order
abbrev pub nodes_from : WeightedSum → ℕ → Node → List Node
nodes_from problem zero node = node ∷ []
nodes_from problem (suc levels) node = node ∷ flat_map (nodes_from problem levels) (children_of problem node)

-- a node and all below it: full depth is the number of functions
abbrev pub nodes_under : WeightedSum → Node → List Node
nodes_under problem node = nodes_from problem (length problem.terms - node.depth) node

-- all nodes of the tree
abbrev pub nodes_of : WeightedSum → List Node
nodes_of problem = nodes_under problem (root_of problem)

-- how many nodes the tree has
abbrev pub tree_size : WeightedSum → ℕ
tree_size problem = length (nodes_of problem)
