-- Tallies: what several calls made of their nodes, each of its own, and how these come together.
use Rattle.std.specs.Prelude.{◌≡◌, ◌≢◌, ℕ, ◌+◌, List, [], length, IsTrue}
use Rattle.std.specs.List.{sum_by}
use Rattle.ivp_domain.specs.declared.boxes.Point.{Point}
use Rattle.ivp_domain.specs.Domains.{is_point}
use Rattle.ivp_problem.specs.declared.node.Node.{Node}
use Rattle.ivp_problem.specs.Problems.{WeightedSum}
use Rattle.ivp_problem.specs.Sums.{key_at}
use Rattle.ivp_problem.specs.Trees.{IsNode, root_of}
use Rattle.ivp_pool.specs.Parts.{Handed, handed_within, IsPart, Incumbent, Outdoes, TreePart, part_size}

-- a node, and the part that was made of it
pub record Tally : Type 0 where
  pub node : Node
  pub part : TreePart

-- the nodes that were handed to others
abbrev pub handed_by : WeightedSum → Tally → List Node
handed_by problem tally = handed_within problem tally.node tally.part

-- a node of the tree that was closed while so much was known
pub record IsTally (problem : WeightedSum) (key : Incumbent) (tally : Tally) : Type 0 where
  pub node : IsNode problem tally.node
  pub is : IsPart problem key tally.node tally.part
  pub here : tally.part ≢ Handed

-- the tallies' nodes are these and all handed ones, each once: whatever nodes weigh, the sums agree
abbrev pub AreLinked : WeightedSum → List Node → List Tally → Type 0
AreLinked problem nodes tallies = (weigh : Node → ℕ) → sum_by (λ tally. weigh tally.node) tallies ≡ sum_by weigh nodes + sum_by (λ tally. sum_by weigh (handed_by problem tally)) tallies

-- together they are one part of the whole tree with nothing handed to others, and as many nodes as all parts without the handed
-- ones; so no point is wanted
pub record IsWholeTree (problem : WeightedSum) (key : Incumbent) (tallies : List Tally) : Type 0 where
  pub part : TreePart
  pub is : IsPart problem key (root_of problem) part
  pub none : handed_within problem (root_of problem) part ≡ []
  pub size : part_size part + sum_by (λ tally. length (handed_by problem tally)) tallies ≡ sum_by (λ tally. part_size tally.part) tallies
  pub most : (p : Point) → IsTrue (is_point problem.axes p) → Outdoes key (key_at problem p)
