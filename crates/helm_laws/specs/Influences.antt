-- Which behaviours have a say in an iteration, and that the others have none.
use Rattle.std.specs.Prelude.{◌≡◌, ℕ, nat_lt, Bool, false, ◌&&◌, ◌||◌, List, is_some}
use Rattle.std.specs.List.{filter}
use Rattle.ivp_domain.specs.declared.axis.Axis.{Axis}
use Rattle.helm_core.specs.Behaviors.{BhvSoFar, TurnSoFar, all_begun, all_showings, begun_at, beginning_at, has_fault, past_so_far, weight_now}
use Rattle.bhv_life.specs.Lives.{is_stepped}
use Rattle.helm_core.specs.Decisions.{decision_made}
use Rattle.helm_core.specs.Iterations.{iteration_at}
use Rattle.helm_core.specs.Lists.{list_at}
use Rattle.helm_core.specs.PastIterations.{PastIteration, past_iteration_at}
use Rattle.helm_core.specs.Plans.{Plan}
use Rattle.helm_core.specs.Posts.{allstop_of}
use Rattle.helm_core.specs.Ticks.{Seen, Tick, seen_at}
use Rattle.helm_laws.specs.Said.{desires_at, desires_of}

-- a behaviour has a say: its step raised a fault, or gave a function at a weight above 0
abbrev pub has_say : TurnSoFar → Bool
has_say one = has_fault one || (is_some one.out.func && nat_lt 0 (weight_now one))

-- the turns with a say
abbrev pub turns_with_say : List Axis → Seen → List BhvSoFar → List TurnSoFar
turns_with_say axes seen ones = filter has_say (all_begun axes seen ones)

-- iteration i as it would be with these behaviours in its list
abbrev pub iteration_with : Plan → List Tick → ℕ → List BhvSoFar → PastIteration
iteration_with plan ticks i ones = record (past_iteration_at plan ticks i) { showings = all_showings (seen_at plan.decls ticks i) (all_begun plan.axes (seen_at plan.decls ticks i) ones) }

-- what iteration i decides and desires, and why the vehicle must stop in it, is what it would be with these behaviours
pub record IsDecidedBy (plan : Plan) (ticks : List Tick) (i : ℕ) (ones : List BhvSoFar) : Type 0 where
  pub decision : (iteration_at plan ticks i).decision ≡ decision_made plan.axes (iteration_with plan ticks i ones).showings
  pub desires : desires_at plan ticks i ≡ desires_of plan (iteration_with plan ticks i ones)
  pub reason : allstop_of plan (past_iteration_at plan ticks i) ≡ allstop_of plan (iteration_with plan ticks i ones)

-- So it is with any behaviours whose turns with a say are those of the iteration's list, whatever the others are.
abbrev pub WithoutInfluence : Plan → Type 0
WithoutInfluence plan = (ticks : List Tick) (i : ℕ) (others : List BhvSoFar) → turns_with_say plan.axes (seen_at plan.decls ticks i) (list_at plan ticks i) ≡ turns_with_say plan.axes (seen_at plan.decls ticks i) others
    → IsDecidedBy plan ticks i others

-- A behaviour that isn't stepped has no say: one that is idle, timed out, or completed for good.
abbrev pub SaysNothingUnstepped : Type 0
SaysNothingUnstepped = (axes : List Axis) (seen : Seen) (one : BhvSoFar) → is_stepped one.block.common (past_so_far one) (beginning_at seen one.block.common) ≡ false
    → has_say (begun_at axes seen one) ≡ false
