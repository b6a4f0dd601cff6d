-- How a life stands for the list of a behaviour's turns: each of its numbers is what they came to.
use Rattle.std.specs.Prelude.{◌≡◌, ℕ, ◌+◌, ◌-◌, ◌≤◌, List, Option, Some, None}
use Rattle.bhv_file.specs.declared.common.Common.{Common}
use Rattle.bhv_life.specs.declared.life.Life.{Life}
use Rattle.bhv_life.specs.declared.started.Started.{Started}
use Rattle.bhv_life.specs.Lives.{Beginning, BhvPast, BhvTurn, first_run, has_completed, latest_stamp, past_of, phase_at, since_completion, state_after, time_run, was_stepped}

-- the span from a stamp, if there is one, up to another
abbrev pub span_from : Option ℕ → ℕ → ℕ
span_from None stamp = 0
span_from (Some from) stamp = stamp - from

-- the numbers of a life are those of what came before
pub record Keeps (past : List BhvPast) (life : Life) : Type 0 where
  pub state : life.state ≡ state_after past
  pub completed : life.completed ≡ has_completed past
  pub stepped : life.stepped ≡ was_stepped past
  pub since : life.since ≡ first_run (since_completion past)
  pub time : (stamp : ℕ) → latest_stamp past ≤ stamp → time_run (since_completion past) stamp ≡ life.time + span_from life.running stamp
  pub bound : life.time + span_from life.running (latest_stamp past) ≤ latest_stamp past

-- the life stands for these turns of a behaviour with these parameters
abbrev pub IsLifeOf : Common → List BhvTurn → Life → Type 0
IsLifeOf common turns life = Keeps (past_of common turns) life

-- a turn was begun behind these turns
pub record HasBegun (common : Common) (turns : List BhvTurn) (start : Beginning) (started : Started) : Type 0 where
  pub life : IsLifeOf common turns started.life
  pub stamp : started.stamp ≡ start.stamp
  pub later : latest_stamp (past_of common turns) ≤ start.stamp
  pub phase : started.phase ≡ phase_at common (past_of common turns) start
