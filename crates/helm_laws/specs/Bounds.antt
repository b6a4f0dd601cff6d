-- Bounds: a behaviour that loses more beyond a bound than all the others together can gain there keeps the decision within it.
use Rattle.std.specs.Prelude.{◌≡◌, ℕ, ℤ, ◌+◌, ◌*◌, ◌/◌, ◌<◌, ◌≤◌, ◌≤ℤ◌, nat_abs, Bool, true, false, IsTrue, IfSome, List, ◌∷◌, ◌++◌, codes, is_some, if◌then◌else◌, sum_by}
use Rattle.ivp_domain.specs.declared.axis.Axis.{Axis}
use Rattle.ivp_domain.specs.declared.boxes.Point.{Point}
use Rattle.ivp_domain.specs.Domains.{is_point}
use Rattle.ivp_build.specs.Places.{steps_of}
use Rattle.bhv_file.specs.declared.spec.Shape.TheVariants.{MaxDepth}
use Rattle.bhv_file.specs.Named.{named_axis}
use Rattle.bhv_file.specs.Params.{has_axis}
use Rattle.bhv_kinds.specs.Changes.{params_at}
use Rattle.bhv_life.specs.Lives.{is_stepped}
use Rattle.helm_core.specs.Behaviors.{BhvSoFar, beginning_at, judged_at, past_so_far}
use Rattle.helm_core.specs.Decisions.{number_on}
use Rattle.helm_core.specs.Iterations.{iteration_at}
use Rattle.helm_core.specs.Lists.{list_at}
use Rattle.helm_core.specs.Plans.{Plan}
use Rattle.helm_core.specs.Ticks.{Seen, Tick, seen_at}
use Rattle.helm_core.specs.Worths.{wanted_at, worth_to, worth_to_all}

-- a behaviour's weight in an iteration, in thousandths: that after its updates
abbrev pub weight_in : List Axis → Seen → BhvSoFar → ℕ
weight_in axes seen one = (params_at one.block.spec (judged_at axes seen one).changes).weight

-- the most that a point can be worth to a behaviour: its weight times 100, if it wants something
abbrev pub most_worth : List Axis → Seen → BhvSoFar → ℕ
most_worth axes seen one = if is_some (wanted_at axes seen one) then weight_in axes seen one * 100000 else 0

-- No point is worth more than this to any behaviour of the list.
abbrev pub WorthIsBounded : Plan → Type 0
WorthIsBounded plan = (ticks : List Tick) (i : ℕ) (before after : List BhvSoFar) (one : BhvSoFar) → list_at plan ticks i ≡ before ++ one ∷ after → (point : Point) → IsTrue (is_point plan.axes point)
    → worth_to plan.axes (seen_at plan.decls ticks i) point one ≤ most_worth plan.axes (seen_at plan.decls ticks i) one

-- each point beyond the bound is worth less to a behaviour than this one, by more than it is worth to the others together
abbrev pub CostsMore : List Axis → Seen → BhvSoFar → List BhvSoFar → (Point → Bool) → Point → Type 0
CostsMore axes seen one others beyond within = (point : Point) → IsTrue (is_point axes point) → beyond point ≡ true
    → worth_to axes seen point one + worth_to_all axes seen others point < worth_to axes seen within one

-- Then what is decided isn't beyond the bound.
abbrev pub BoundsKept : Plan → Type 0
BoundsKept plan = (ticks : List Tick) (i : ℕ) (before after : List BhvSoFar) (one : BhvSoFar) → list_at plan ticks i ≡ before ++ one ∷ after → (beyond : Point → Bool) (within : Point) → IsTrue (is_point plan.axes within)
    → CostsMore plan.axes (seen_at plan.decls ticks i) one (before ++ after) beyond within → IfSome (iteration_at plan ticks i).decision (λ decision. beyond decision.claim.point ≡ false)

-- The behaviour is stepped, and after its updates it is a greatest depth with this width. The axis of depth begins within it. And what it
-- loses from its last place to the next, which is all that it is worth if the width is less than two steps of the axis, is more than all
-- others can be worth together.
pub record OutweighsOthers (axes : List Axis) (seen : Seen) (one : BhvSoFar) (others : List BhvSoFar) (depth width : ℤ) : Type 0 where
  pub stepped : is_stepped one.block.common (past_so_far one) (beginning_at seen one.block.common) ≡ true
  pub shape : (params_at one.block.spec (judged_at axes seen one).changes).shape ≡ MaxDepth depth width
  pub axis : IsTrue (has_axis axes (codes "depth"))
  pub begins : (named_axis axes (codes "depth")).low ≤ℤ depth
  pub loses : sum_by (most_worth axes seen) others < weight_in axes seen one * (100000 / steps_of (named_axis axes (codes "depth")) (nat_abs width))

-- Then the depth that is decided is at most the greatest.
abbrev pub DepthKept : Plan → Type 0
DepthKept plan = (ticks : List Tick) (i : ℕ) (before after : List BhvSoFar) (one : BhvSoFar) → list_at plan ticks i ≡ before ++ one ∷ after → (depth width : ℤ)
    → OutweighsOthers plan.axes (seen_at plan.decls ticks i) one (before ++ after) depth width → IfSome (iteration_at plan ticks i).decision (λ decision. number_on plan.axes (codes "depth") decision.claim.point ≤ℤ depth)
