-- What closing a node leaves behind: the part that it made of the node's tree.
use Rattle.std.specs.Prelude.{◌≡◌, ◌≢◌, ℕ, ◌+◌, ◌⊎◌, Bool, Option, Some, None, List, [], ◌∷◌, ◌++◌, length, IsTrue}
use Rattle.ivp_domain.specs.declared.boxes.Point.{Point}
use Rattle.ivp_problem.specs.declared.node.Node.{Node}
use Rattle.ivp_problem.specs.Problems.{WeightedSum}
use Rattle.ivp_problem.specs.Sums.{key_at}
use Rattle.ivp_problem.specs.Trees.{has_in}
use Rattle.ivp_pool.specs.Parts.{handed_within, IsPart, Incumbent, Outdoes, TreePart, Handed, part_size}

-- what a tray has taken after a push: the node at the end, or as before, if the node came back
abbrev pub Pushed : List Node → List Node → Node → Option Node → Type 0
Pushed took took' node None = took' ≡ took ++ node ∷ []
Pushed took took' node (Some back) = (back ≡ node) × (took' ≡ took)

-- a node was closed while `low` was known: it has a part, the tray took the handed nodes of that, in order, and `count` nodes
-- were closed, which are all others of the part
pub record Closed (problem : WeightedSum) (low : Incumbent) (took took' : List Node) (node : Node) (count : ℕ) : Type 0 where
  pub part : TreePart
  pub is : IsPart problem low node part
  pub here : part ≢ Handed
  pub taken : took' ≡ took ++ handed_within problem node part
  pub counted : count + length (handed_within problem node part) ≡ part_size part

-- each of these points is unwanted, or lies in a node that the tray took since
abbrev pub AreCovered : WeightedSum → Incumbent → List Node → List Node → (Point → Bool) → Type 0
AreCovered problem low took took' passes =
    (since : List Node) × (took' ≡ took ++ since) × ((p : Point) → IsTrue (passes p) → Outdoes low (key_at problem p) ⊎ IsTrue (has_in since p))
