-- When the vehicle must stop, and what the helm then says.
use Rattle.std.specs.Prelude.{◌≡◌, ℕ, suc, pos, Bool, true, false, not, ◌&&◌, ◌||◌, IsTrue, List, bytes_eq, codes, Some, is_some}
use Rattle.std.specs.List.{list_any}
use Rattle.moos_post.specs.declared.value.Value.TheVariants.{Num}
use Rattle.ivp_domain.specs.declared.axis.Axis.{Axis}
use Rattle.ivp_cert.specs.declared.claim.Decision.{Decision}
use Rattle.bhv_file.specs.Params.{has_axis}
use Rattle.helm_core.specs.Decisions.{number_on}
use Rattle.helm_core.specs.Iterations.{iteration_at}
use Rattle.helm_core.specs.PastIterations.{PastIteration, past_iteration_at}
use Rattle.helm_core.specs.Plans.{Plan}
use Rattle.helm_core.specs.Posts.{allstop_of}
use Rattle.helm_core.specs.Ticks.{Tick}
use Rattle.helm_laws.specs.Said.{DecidesNothing, last_said, posted_before}

-- nothing may steer: the helm is parked, a behaviour raised a fault, or none is active
abbrev pub nothing_steers : PastIteration → Bool
nothing_steers now = now.seen.parked || list_any (λ one. is_some one.out.fault) now.showings || not (list_any (λ one. one.active) now.showings)

-- no active behaviour's function mentions the course, though the domain has one
abbrev pub lacks_course : List Axis → PastIteration → Bool
lacks_course axes now = has_axis axes (codes "course") && not (list_any (λ one. one.active && one.out.course) now.showings)

-- nor the speed
abbrev pub lacks_speed : List Axis → PastIteration → Bool
lacks_speed axes now = has_axis axes (codes "speed") && not (list_any (λ one. one.active && one.out.speed) now.showings)

-- the vehicle must stop: nothing may steer, or the course or the speed is lacking
abbrev pub must_stop : Plan → List Tick → ℕ → Bool
must_stop plan ticks i = nothing_steers (past_iteration_at plan ticks i) || (lacks_course plan.axes (past_iteration_at plan ticks i) || lacks_speed plan.axes (past_iteration_at plan ticks i))

-- In an iteration in which the vehicle must stop, the last word on the speed is 0.
abbrev pub StopsAtOnce : Plan → Type 0
StopsAtOnce plan = (ticks : List Tick) (i : ℕ) → must_stop plan ticks i ≡ true → last_said (codes "DESIRED_SPEED") (iteration_at plan ticks i).posts ≡ Some (Num (pos 0))

-- And so it stays: of all that the helm posted up to an iteration in which the vehicle must stop, the last word on the speed is 0.
abbrev pub StaysStopped : Plan → Type 0
StaysStopped plan = (ticks : List Tick) (i : ℕ) → must_stop plan ticks i ≡ true → last_said (codes "DESIRED_SPEED") (posted_before plan ticks (suc i)) ≡ Some (Num (pos 0))

-- in iteration i something is decided, and the last word on the speed is the decided one
pub record SaysDecidedSpeed (plan : Plan) (ticks : List Tick) (i : ℕ) : Type 0 where
  pub decision : Decision
  pub made : (iteration_at plan ticks i).decision ≡ Some decision
  pub said : last_said (codes "DESIRED_SPEED") (iteration_at plan ticks i).posts ≡ Some (Num (number_on plan.axes (codes "speed") decision.claim.point))

-- In every other iteration, over a domain with a speed, the last word on the speed is the decided one.
abbrev pub DrivesOtherwise : Plan → Type 0
DrivesOtherwise plan = (ticks : List Tick) (i : ℕ) → must_stop plan ticks i ≡ false → IsTrue (has_axis plan.axes (codes "speed")) → SaysDecidedSpeed plan ticks i

-- The reason to stop, which `IVPHELM_ALLSTOP` tells when it changes, is `clear` exactly if the vehicle need not stop.
abbrev pub ReasonIsTold : Plan → Type 0
ReasonIsTold plan = (ticks : List Tick) (i : ℕ) → bytes_eq (allstop_of plan (past_iteration_at plan ticks i)) (codes "clear") ≡ not (must_stop plan ticks i)

-- In an iteration in which nothing may steer, nothing is decided, and the speed 0 is all that is desired: no heading, no depth.
abbrev pub StoppedDecideNothing : Plan → Type 0
StoppedDecideNothing plan = (ticks : List Tick) (i : ℕ) → nothing_steers (past_iteration_at plan ticks i) ≡ true → DecidesNothing plan ticks i
