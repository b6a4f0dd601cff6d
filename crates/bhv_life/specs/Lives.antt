-- The life of a behaviour: what it is at each of its turns, one turn an iteration, by all its turns before.
use Rattle.std.specs.Prelude.{ℕ, ◌+◌, ◌-◌, Bool, true, false, not, ◌&&◌, ◌||◌, nat_lt, if◌then◌else◌, List, [], ◌∷◌, ◌++◌, map, fold, Option, Some, None, option_map, unwrap_or}
use Rattle.std.specs.List.{after_last, find, last_or, list_all, list_any}
use Rattle.helm_cond.specs.Conditions.{holds}
use Rattle.helm_cond.specs.Learnt.{Knowledge}
use Rattle.bhv_file.specs.declared.common.Common.{Common}
use Rattle.bhv_life.specs.declared.outcome.BhvState.{BhvState}
use Rattle.bhv_life.specs.declared.outcome.BhvState.TheVariants.{Idle, Running, Active, Completed}
use Rattle.bhv_life.specs.declared.outcome.Outcome.{Outcome}
use Rattle.bhv_life.specs.declared.outcome.Phase.{Phase}
use Rattle.bhv_life.specs.declared.outcome.Phase.TheVariants.{Idle as IdlePhase, Run, TimedOut, Completed as CompletedPhase}
use Rattle.bhv_life.specs.Outcomes.{outcome_of}

-- what a turn begins with: whether the helm is parked, whether all conditions hold, and the stamp
pub record Beginning : Type 0 where
  pub parked : Bool
  pub held : Bool
  pub stamp : ℕ

-- what a turn begins with, by what is known, the mode's text, whether the helm is parked, and the stamp
abbrev pub beginning_of : Common → Knowledge → List ℕ → Bool → ℕ → Beginning
beginning_of common known mode parked stamp = record { parked = parked; held = list_all (holds known mode) common.conds; stamp = stamp }

-- a turn: its beginning, whether the behaviour gave a function that counts, and whether its step was done
pub record BhvTurn : Type 0 where
  pub start : Beginning
  pub gave : Bool
  pub done : Bool

-- what a turn came to: when it was, whether the behaviour ran and whether it was stepped, and its outcome
pub record BhvPast : Type 0 where
  pub stamp : ℕ
  pub ran : Bool
  pub stepped : Bool
  pub outcome : Outcome

-- the behaviour completed in one of these turns
abbrev pub has_completed : List BhvPast → Bool
has_completed past = list_any (λ one. one.outcome.ended) past

-- the behaviour can run again: it never completed, or is perpetual
abbrev pub can_run : Common → List BhvPast → Bool
can_run common past = common.perpetual || not (has_completed past)

-- the behaviour runs if the helm isn't parked, its conditions hold and it can run again
abbrev pub runs_at : Common → List BhvPast → Beginning → Bool
runs_at common past start = not start.parked && start.held && can_run common past

-- the behaviour was stepped in the last of these turns
abbrev pub was_stepped : List BhvPast → Bool
was_stepped past = unwrap_or (last_or None (map (λ one. one.stepped) past)) false

-- the behaviour wasn't stepped in the iteration before
abbrev pub is_fresh : List BhvPast → Bool
is_fresh past = not (was_stepped past)

-- the turns after the behaviour's last completion, all if it never completed
abbrev pub since_completion : List BhvPast → List BhvPast
since_completion past = after_last (λ one. one.outcome.ended) past

-- the stamp of the first of these turns, or else this one
abbrev pub first_stamp : List BhvPast → ℕ → ℕ
first_stamp [] stamp = stamp
first_stamp (one ∷ later) stamp = one.stamp

-- the stamp of the first of these turns that ran
abbrev pub first_run : List BhvPast → Option ℕ
first_run turns = option_map (λ one. one.stamp) (find (λ one. one.ran) turns)

-- the time from the first of these turns that ran up to this stamp
abbrev pub time_since_run : List BhvPast → ℕ → ℕ
time_since_run turns stamp = stamp - unwrap_or (first_run turns) stamp

-- the sum of the times from each of these turns that ran to the turn behind it; behind the last of them is a turn at this stamp
abbrev pub time_run : List BhvPast → ℕ → ℕ
time_run [] stamp = 0
time_run (one ∷ later) stamp = (if one.ran then first_stamp later stamp - one.stamp else 0) + time_run later stamp

-- The time that counts against the behaviour's duration, over the turns after its last completion.
abbrev pub passed_at : Common → List BhvPast → ℕ → ℕ
passed_at common past stamp = if common.idle_decay then time_since_run (since_completion past) stamp else time_run (since_completion past) stamp

-- the time is below the duration, if there is one
abbrev pub is_in_time : Option ℕ → ℕ → Bool
is_in_time None time = true
is_in_time (Some duration) time = nat_lt time duration

-- the behaviour runs, and its duration isn't over
abbrev pub is_stepped : Common → List BhvPast → Beginning → Bool
is_stepped common past start = runs_at common past start && is_in_time common.duration (passed_at common past start.stamp)

-- the behaviour completes if it runs and its duration is over, or its step is done
abbrev pub completes_at : Common → List BhvPast → BhvTurn → Bool
completes_at common past turn = runs_at common past turn.start && (turn.done || not (is_stepped common past turn.start))

-- completed in this turn or for good, else idle if it doesn't run, else active if it gave a function that counts
abbrev pub state_at : Common → List BhvPast → BhvTurn → BhvState
state_at common past turn =
    if completes_at common past turn || not (can_run common past) then Completed
    else if not (runs_at common past turn.start) then Idle
    else if turn.gave then Active else Running

-- the state at the last of these turns; before the first one it is idle
abbrev pub state_after : List BhvPast → BhvState
state_after past = unwrap_or (last_or None (map (λ one. one.outcome.now) past)) Idle

-- what a turn comes to
abbrev pub turn_after : Common → List BhvPast → BhvTurn → BhvPast
turn_after common past turn = record {
  stamp = turn.start.stamp;
  ran = runs_at common past turn.start;
  stepped = is_stepped common past turn.start;
  outcome = outcome_of (state_after past) (state_at common past turn) (completes_at common past turn);
}

-- what the turns so far and one more came to
abbrev pub with_turn : Common → List BhvPast → BhvTurn → List BhvPast
with_turn common past turn = past ++ turn_after common past turn ∷ []

-- What the turns of a behaviour came to, in order.
abbrev pub past_of : Common → List BhvTurn → List BhvPast
past_of common turns = fold (with_turn common) [] turns

-- what the behaviour does in a turn before its step
abbrev pub phase_at : Common → List BhvPast → Beginning → Phase
phase_at common past start =
    if is_stepped common past start then Run (is_fresh past)
    else if runs_at common past start then TimedOut
    else if can_run common past then IdlePhase else CompletedPhase

-- the stamp of the last of these turns, or 0
abbrev pub latest_stamp : List BhvPast → ℕ
latest_stamp past = unwrap_or (last_or None (map (λ one. one.stamp) past)) 0
