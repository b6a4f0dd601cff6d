-- The same input, the same iteration: what an iteration may depend on.
use Rattle.std.specs.Prelude.{◌≡◌, ℕ, suc, List, map, take}
use Rattle.moos_post.specs.declared.value.Pair.{Pair}
use Rattle.helm_core.specs.Iterations.{iteration_at}
use Rattle.helm_core.specs.Plans.{Plan}
use Rattle.helm_core.specs.Ticks.{Tick, pairs_mailed}

-- what is said at a tick: its stamp, and the variables and values of its letters in their order, whoever posted them and when
pub record Input : Type 0 where
  pub stamp : ℕ
  pub letters : List Pair

-- the input of a tick
abbrev pub input_of : Tick → Input
input_of tick = record { stamp = tick.stamp; letters = pairs_mailed tick.mail }

-- Two helms of one plan that heard the same at the same stamps, up to an iteration, have the same iteration there.
abbrev pub SameInputSameIteration : Plan → Type 0
SameInputSameIteration plan = (ticks others : List Tick) (i : ℕ) → map input_of (take (suc i) ticks) ≡ map input_of (take (suc i) others) → iteration_at plan ticks i ≡ iteration_at plan others i
