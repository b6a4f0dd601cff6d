-- A worker's deque of nodes: what each who uses it has put there and taken from it, and the rule that it is under.
use Rattle.std.specs.Prelude.{◌≡◌, ℕ, ◌+◌, List, [], ◌++◌}
use Rattle.std.specs.Global.{Global}
use Rattle.std.specs.List.{sum_by, AllByRecursion as Each}
use Rattle.atomic_blocks.specs.Lent.{RowsId}
use Rattle.ivp_problem.specs.declared.node.Node.{Node}
use Rattle.ivp_problem.specs.Problems.{WeightedSum}
use Rattle.ivp_problem.specs.Trees.{IsNode}
use Rattle.ivp_pool.specs.declared.rule.Hand.{Hand}

-- what one user has put and taken, and its parts of the right to know the whole
abbrev pub hand : ℕ → List Node → List Node → Hand
hand parts put taken = record { parts = parts; put = put; taken = taken }

-- who has no part has put and taken nothing
abbrev pub IsIdleEmpty : Hand → Type 0
IsIdleEmpty held = held.parts ≡ 0 → (held.put ≡ []) × (held.taken ≡ [])

-- the rule of a deque: what was put is what was taken and what is there, each once, so whatever nodes weigh the sums agree; what
-- is there are nodes of the problem's tree
pub record IsBalanced (problem : WeightedSum) (nodes : List Node) (hands : List Hand) : Type 0 where
  pub parts : sum_by (λ held. held.parts) hands ≡ 1024
  pub each_once : (weigh : Node → ℕ) → sum_by (λ held. sum_by weigh held.put) hands ≡ sum_by (λ held. sum_by weigh held.taken) hands + sum_by weigh nodes
  pub idle : Each IsIdleEmpty hands
  pub here : Each (IsNode problem) nodes

-- what a contract sees of a deque or of a door to it: which deque it is, and what was put and taken through this end
pub record EndState : Type 0 where
  pub deque : RowsId × Global
  pub hand : Hand

-- nodes of the problem's tree were taken
abbrev pub AreTaken : WeightedSum → Hand → List Node → Hand → Type 0
AreTaken problem held nodes after = (after ≡ hand held.parts held.put (held.taken ++ nodes)) × Each (IsNode problem) nodes

-- if it has all parts, all that was put was taken, each once
abbrev pub IsSettled : Hand → Type 0
IsSettled held = held.parts ≡ 1024 → (weigh : Node → ℕ) → sum_by weigh held.put ≡ sum_by weigh held.taken

-- what two have put and taken together
abbrev pub both_hands : Hand → Hand → Hand
both_hands held other = hand (held.parts + other.parts) (held.put ++ other.put) (held.taken ++ other.taken)
