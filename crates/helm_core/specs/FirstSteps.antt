-- From when the time of an operating region counts: the first step of a behaviour is its first running iteration.
use Rattle.std.specs.Prelude.{◌≡◌, ℕ, List, slice_get, Some, None}
use Rattle.bhv_kinds.specs.Changes.{first_step}
use Rattle.bhv_life.specs.Lives.{first_run}
use Rattle.bhv_life.specs.Runs.{MayLast}
use Rattle.helm_core.specs.Behaviors.{BhvSoFar, past_so_far}
use Rattle.helm_core.specs.Lists.{list_at}
use Rattle.helm_core.specs.Plans.{Plan}
use Rattle.helm_core.specs.Ticks.{Tick}

-- Of every helm, before every iteration: the first step of a behaviour that may last some time was made in the first iteration
-- in which it ran.
abbrev pub CountsFromFirstRun : Type 0
CountsFromFirstRun = (plan : Plan) (ticks : List Tick) (i place : ℕ) (one : BhvSoFar) → slice_get (list_at plan ticks i) place ≡ Some one → MayLast one.block.common → first_step one.changes ≡ first_run (past_so_far one)

-- Of every helm, before every iteration: a behaviour that may last no time was never stepped.
abbrev pub NeverSteppedWithoutTime : Type 0
NeverSteppedWithoutTime = (plan : Plan) (ticks : List Tick) (i place : ℕ) (one : BhvSoFar) → slice_get (list_at plan ticks i) place ≡ Some one → one.block.common.duration ≡ Some 0 → first_step one.changes ≡ None
