-- What an iteration saw, answered and says of its behaviours, by all ticks so far.
use Rattle.std.specs.Prelude.{ℕ, zero, suc, List, Option, Some, None}
use Rattle.helm_core.specs.declared.iteration.Update.{Update}
use Rattle.helm_core.specs.declared.showing.TurnShown.{TurnShown}
use Rattle.helm_core.specs.Plans.{Plan}
use Rattle.helm_core.specs.Ticks.{Seen, Tick, seen_at}
use Rattle.helm_core.specs.Lists.{showings_at, spawned_at}

-- what an iteration has before it posts: what it saw, its answers to letters to templates, and what it says of the behaviours of
-- its list
pub record PastIteration : Type 0 where
  pub seen : Seen
  pub answers : List Update
  pub showings : List TurnShown

-- what iteration i saw, answered and says of its behaviours
abbrev pub past_iteration_at : Plan → List Tick → ℕ → PastIteration
past_iteration_at plan ticks i = record { seen = seen_at plan.decls ticks i; answers = (spawned_at plan ticks i).answers; showings = showings_at plan ticks i }

-- what the iteration before iteration i saw, answered and says of its behaviours, if there is one
abbrev pub past_iteration_before : Plan → List Tick → ℕ → Option PastIteration
past_iteration_before plan ticks zero = None
past_iteration_before plan ticks (suc i) = Some (past_iteration_at plan ticks i)
