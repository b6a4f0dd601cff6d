-- What a phase makes of a turn.
use Rattle.std.specs.Prelude.{Bool, true, false, if◌then◌else◌}
use Rattle.bhv_life.specs.declared.outcome.BhvState.{BhvState}
use Rattle.bhv_life.specs.declared.outcome.BhvState.TheVariants.{Idle as IdleState, Running, Active, Completed as CompletedState}
use Rattle.bhv_life.specs.declared.outcome.Phase.{Phase}
use Rattle.bhv_life.specs.declared.outcome.Phase.TheVariants.{Idle, Run, TimedOut, Completed}

-- the behaviour is stepped
abbrev pub steps_in : Phase → Bool
steps_in Idle = false
steps_in (Run fresh) = true
steps_in TimedOut = false
steps_in Completed = false

-- the behaviour runs
abbrev pub runs_in : Phase → Bool
runs_in Idle = false
runs_in (Run fresh) = true
runs_in TimedOut = true
runs_in Completed = false

-- whether the behaviour completes, by whether its step is done
abbrev pub completes_in : Phase → Bool → Bool
completes_in Idle done = false
completes_in (Run fresh) done = done
completes_in TimedOut done = true
completes_in Completed done = false

-- the state of the behaviour after the turn, by whether it gave a function that counts and whether its step is done
abbrev pub state_in : Phase → Bool → Bool → BhvState
state_in Idle gave done = IdleState
state_in (Run fresh) gave done = if done then CompletedState else if gave then Active else Running
state_in TimedOut gave done = CompletedState
state_in Completed gave done = CompletedState
