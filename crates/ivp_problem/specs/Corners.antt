-- How large the base and the slopes of a node are, and at which place of a span a slope adds most.
use Rattle.std.specs.Prelude.{◌≡◌, ℕ, ◌*◌, ◌^◌, ◌<◌, ◌≤◌, ◌⊎◌, ℤ, pos, neg_ℤ, ◌*ℤ◌, ◌≤ℤ◌, ◌<ℤ◌}
use Rattle.ivp_problem.specs.declared.node.Node.{Node}
use Rattle.ivp_problem.specs.Trees.{slope_at}

-- base and slopes within those of this many pieces of weight 10,000,000
pub record IsSmall (count : ℕ) (node : Node) : Type 0 where
  pub base : (neg_ℤ (pos (count * 10 ^ 21)) ≤ℤ node.base) × (node.base ≤ℤ pos (count * 10 ^ 21))
  pub slope : (axis : ℕ) → axis < 4 → (neg_ℤ (pos (count * 10 ^ 12)) ≤ℤ slope_at node axis) × (slope_at node axis ≤ℤ pos (count * 10 ^ 12))

-- along a slope one place adds more than another, or as much and is at most the other
abbrev pub Beats : ℤ → ℕ → ℕ → Type 0
Beats slope place other = ((slope *ℤ pos other) <ℤ (slope *ℤ pos place)) ⊎ (((slope *ℤ pos other) ≡ (slope *ℤ pos place)) × (place ≤ other))
