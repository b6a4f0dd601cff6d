-- What a point is worth to all behaviours of an iteration: each one's weight, in thousandths, times what its utility is worth
-- there (`worth_at`). The sum of a decision's problem is this, and its best point is the first that none exceeds in it.
use Rattle.std.specs.Prelude.{◌≡◌, ℕ, ◌*◌, ◌<◌, ◌≤◌, ◌⊎◌, Bool, true, false, IsTrue, IfSome, List, sum_by, Option, Some, None}
use Rattle.ivp_domain.specs.declared.axis.Axis.{Axis}
use Rattle.ivp_domain.specs.declared.boxes.Point.{Point}
use Rattle.ivp_domain.specs.Domains.{index_of, is_point}
use Rattle.ivp_problem.specs.Sums.{sum_at}
use Rattle.ivp_cert.specs.declared.claim.Decision.{Decision}
use Rattle.bhv_file.specs.declared.file.BhvFile.{BhvFile}
use Rattle.bhv_file.specs.Validity.{IsValidFile, serves}
use Rattle.bhv_kinds.specs.Giving.{gives_at}
use Rattle.bhv_kinds.specs.Changes.{params_at, step_of}
use Rattle.bhv_kinds.specs.Utilities.{Utility, worth_at}
use Rattle.bhv_life.specs.Lives.{is_fresh, is_stepped}
use Rattle.mission_reader.specs.declared.mission.Mission.{Mission}
use Rattle.mission_reader.specs.Validity.{IsValidMission}
use Rattle.helm_core.specs.Behaviors.{BhvSoFar, Judged, beginning_at, judged_at, past_so_far}
use Rattle.helm_core.specs.Iterations.{iteration_at}
use Rattle.helm_core.specs.Lists.{list_at}
use Rattle.helm_core.specs.Plans.{Plan, plan_made}
use Rattle.helm_core.specs.Ticks.{Seen, Tick, seen_at}

-- what a behaviour wants after its updates, if it is stepped
abbrev pub wanted_by_step : List Axis → Seen → BhvSoFar → Judged → Bool → Option Utility
wanted_by_step axes seen one judged true = (gives_at one.block.spec judged.changes (step_of axes seen.known seen.stamp (is_fresh (past_so_far one)))).utility
wanted_by_step axes seen one judged false = None

-- what a behaviour wants in an iteration, or nothing
abbrev pub wanted_at : List Axis → Seen → BhvSoFar → Option Utility
wanted_at axes seen one = wanted_by_step axes seen one (judged_at axes seen one) (is_stepped one.block.common (past_so_far one) (beginning_at seen one.block.common))

-- a weight times what is wanted at a point; nothing if nothing is wanted
abbrev pub times_worth : List Axis → Point → ℕ → Option Utility → ℕ
times_worth axes point weight None = 0
times_worth axes point weight (Some utility) = weight * worth_at axes utility point

-- the priority-weighted worth of a point to one behaviour
abbrev pub worth_to : List Axis → Seen → Point → BhvSoFar → ℕ
worth_to axes seen point one = times_worth axes point (params_at one.block.spec (judged_at axes seen one).changes).weight (wanted_at axes seen one)

-- the priority-weighted worth of a point to all of these behaviours together
abbrev pub worth_to_all : List Axis → Seen → List BhvSoFar → Point → ℕ
worth_to_all axes seen ones point = sum_by (worth_to axes seen point) ones

-- what a point is worth to all behaviours in iteration i
abbrev pub worth_in : Plan → List Tick → ℕ → Point → ℕ
worth_in plan ticks i point = worth_to_all plan.axes (seen_at plan.decls ticks i) (list_at plan ticks i) point

-- The decision is made by worth: its sum at each point is what the point is worth, and its point is the first of those of
-- greatest worth.
pub record IsByWorth (axes : List Axis) (worth : Point → ℕ) (decision : Decision) : Type 0 where
  pub sum : (point : Point) → IsTrue (is_point axes point) → sum_at decision.problem point ≡ worth point
  pub inside : IsTrue (is_point axes decision.claim.point)
  pub claimed : decision.claim.sum ≡ worth decision.claim.point
  pub first : (point : Point) → IsTrue (is_point axes point) → (worth point < worth decision.claim.point)
      ⊎ ((worth point ≡ worth decision.claim.point) × (index_of axes decision.claim.point ≤ index_of axes point))

-- Whatever the helm of this plan hears, what it decides is decided by worth.
abbrev pub DecidesByWorth : Plan → Type 0
DecidesByWorth plan = (ticks : List Tick) (i : ℕ) → IfSome (iteration_at plan ticks i).decision (IsByWorth plan.axes (worth_in plan ticks i))

-- A valid mission and a valid behaviour file whose types its domain serves make such a plan.
abbrev pub ValidFilesDecideByWorth : Type 0
ValidFilesDecideByWorth = (mission : Mission) (file : BhvFile) → IsValidMission mission → IsValidFile file → IsTrue (serves mission.domain file.blocks) → DecidesByWorth (plan_made mission file)
