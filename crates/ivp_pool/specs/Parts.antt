-- Parts of a tree: what a search made of a node and of the nodes below it.
use Rattle.std.specs.Prelude.{ℕ, ◌+◌, ◌<◌, ◌⊎◌, Option, Some, List, [], ◌∷◌, ◌++◌, length}
use Rattle.ivp_problem.specs.declared.node.Node.{Node}
use Rattle.ivp_problem.specs.declared.key.Key.{Key}
use Rattle.ivp_problem.specs.Keys.{Reaches}
use Rattle.ivp_problem.specs.Problems.{WeightedSum}
use Rattle.ivp_problem.specs.Trees.{bound_of, children_of}

-- what a search knows: 0 or the sum of a point, and none or the key of a point
pub record Incumbent : Type 0 where
  pub low : ℕ
  pub own : Option Key

-- no point of this key or a lesser one is wanted: the key's sum is below the known sum, or the key is at most the own key
abbrev pub Outdoes : Incumbent → Key → Type 0
Outdoes knows key = (key.sum < knows.low) ⊎ Reaches knows.own key

-- as much is known, or more
abbrev pub KnowsMore : Incumbent → Incumbent → Type 0
KnowsMore old new = (key : Key) → Outdoes old key → Outdoes new key

-- what the best key outdoes: no more than that a key is at most it
abbrev pub knows_only : Key → Incumbent
knows_only key = record { low = 0; own = Some key }

mutual
  -- what became of a node: it was pruned with all below it, handed to others, or expanded into its children
  pub data TreePart : Type 0 where
    Pruned : TreePart
    Handed : TreePart
    Expanded : TreeParts → TreePart

  -- what became of each of some nodes, one after the other
  pub data TreeParts : Type 0 where
    Done : TreeParts
    Then : TreePart → TreeParts → TreeParts

abbrev mutual
  -- the part is one of this node: no point of a pruned node's bound is wanted, and an expanded one isn't at full depth and has a
  -- part for each of its children
  pub IsPart : WeightedSum → Incumbent → Node → TreePart → Type 0
  IsPart problem low node Pruned = Outdoes low (bound_of problem node)
  IsPart problem low node Handed = Unit {0}
  IsPart problem low node (Expanded parts) = (node.depth < length problem.terms) × AreParts problem low (children_of problem node) parts

  -- there is one part for each of these nodes
  pub AreParts : WeightedSum → Incumbent → List Node → TreeParts → Type 0
  AreParts problem low [] Done = Unit {0}
  AreParts problem low (node ∷ nodes) Done = ⊥
  AreParts problem low [] (Then part parts) = ⊥
  AreParts problem low (node ∷ nodes) (Then part parts) = IsPart problem low node part × AreParts problem low nodes parts

abbrev mutual
  -- how many nodes a part has
  pub part_size : TreePart → ℕ
  part_size Pruned = 1
  part_size Handed = 1
  part_size (Expanded parts) = 1 + size_in parts

  -- how many nodes several parts have together
  pub size_in : TreeParts → ℕ
  size_in Done = 0
  size_in (Then part parts) = part_size part + size_in parts

abbrev mutual
  -- the nodes of a part that were handed to others, depth first
  pub handed_within : WeightedSum → Node → TreePart → List Node
  handed_within problem node Pruned = []
  handed_within problem node Handed = node ∷ []
  handed_within problem node (Expanded parts) = handed_in problem (children_of problem node) parts

  -- the nodes of several parts that were handed to others, part after part
  pub handed_in : WeightedSum → List Node → TreeParts → List Node
  handed_in problem nodes Done = []
  handed_in problem [] (Then part parts) = []
  handed_in problem (node ∷ nodes) (Then part parts) = handed_within problem node part ++ handed_in problem nodes parts
