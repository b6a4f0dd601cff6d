-- The root's children, in the order in which they are searched.
use Rattle.std.specs.Prelude.{◌≡◌, ℕ, ◌+◌, ◌<◌, List, All, length, map, slice_index_or}
use Rattle.ivp_problem.specs.declared.node.Node.{Node}
use Rattle.ivp_problem.specs.Keys.{AtMost}
use Rattle.ivp_problem.specs.Problems.{WeightedSum}
use Rattle.ivp_problem.specs.Trees.{bound_of}
use Rattle.ivp_pool.specs.declared.root.Child.{Child}

-- the children alone
abbrev pub child_nodes : List Child → List Node
child_nodes children = map (λ (child : Child). child.node) children

-- each has its bound
abbrev pub AreBounded : WeightedSum → List Child → Type 0
AreBounded problem children = All (λ (child : Child). child.bound ≡ bound_of problem child.node) children

-- each has a bound of at most that of the one before it
abbrev pub AreByBound : List Child → Type 0
AreByBound children = (k : ℕ) (d : Child) → k + 1 < length children → AtMost (slice_index_or children (k + 1) d).bound (slice_index_or children k d).bound
