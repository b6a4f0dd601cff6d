-- Lives worked by hand.
use Rattle.std.proofs.Common.{◌≡◌, ℕ, List, [], ◌∷◌, map, Option, Some, None, refl}
use Rattle.std.specs.Prelude.{Bool, true, false, codes, pos}
use Rattle.moos_post.specs.declared.value.Pair.{Pair}
use Rattle.moos_post.specs.declared.value.Value.TheVariants.{Num}
use Rattle.bhv_file.specs.declared.common.Common.{Common}
use Rattle.bhv_life.specs.declared.outcome.BhvState.{BhvState}
use Rattle.bhv_life.specs.declared.outcome.BhvState.TheVariants.{Idle, Running, Active, Completed}
use Rattle.bhv_life.specs.declared.outcome.Phase.TheVariants.{Idle as IdlePhase, Run, TimedOut, Completed as CompletedPhase}
use Rattle.bhv_life.specs.Lives.{Beginning, BhvTurn, past_of, passed_at, phase_at}
use Rattle.bhv_life.specs.Outcomes.{flags_at}

abbrev flag : List ℕ → List Pair
flag var = record { var = var; value = Num (pos 1000) } ∷ []

-- a behaviour with one flag of each kind: of this duration, with or without idle decay, perpetual or not
abbrev behavior : Option ℕ → Bool → Bool → Common
behavior duration idle_decay perpetual = record {
  name = codes "b";
  conds = [];
  updates = None;
  runflags = flag (codes "RUN");
  idleflags = flag (codes "IDLE");
  activeflags = flag (codes "ACTIVE");
  inactiveflags = flag (codes "INACTIVE");
  endflags = flag (codes "END");
  duration = duration;
  idle_decay = idle_decay;
  perpetual = perpetual;
  template = false;
}

abbrev start : Bool → Bool → ℕ → Beginning
start parked held stamp = record { parked = parked; held = held; stamp = stamp }

-- turns: its conditions hold, also with a function or with the step done; they don't hold; the helm is parked
abbrev on : ℕ → BhvTurn
on stamp = record { start = start false true stamp; gave = false; done = false }

abbrev gives : ℕ → BhvTurn
gives stamp = record { start = start false true stamp; gave = true; done = false }

abbrev ends : ℕ → BhvTurn
ends stamp = record { start = start false true stamp; gave = false; done = true }

abbrev off : ℕ → BhvTurn
off stamp = record { start = start false false stamp; gave = false; done = false }

abbrev parked : ℕ → BhvTurn
parked stamp = record { start = start true true stamp; gave = false; done = false }

abbrev states : Common → List BhvTurn → List BhvState
states common turns = map (λ past. past.outcome.now) (past_of common turns)

-- the flags of each turn, by their names
abbrev flags : Common → List BhvTurn → List (List (List ℕ))
flags common turns = map (λ past. map (λ (pair : Pair). pair.var) (flags_at common past.outcome)) (past_of common turns)

-- Ten seconds: it runs at 0 and at 9.999 s, and completes at 10 s, once.
ten_seconds : states (behavior (Some 10000) true false) (on 0 ∷ on 9999 ∷ on 10000 ∷ on 10001 ∷ off 11000 ∷ [])
    ≡ Running ∷ Running ∷ Completed ∷ Completed ∷ Completed ∷ []
ten_seconds = refl

ended_once : flags (behavior (Some 10000) true false) (on 0 ∷ on 9999 ∷ on 10000 ∷ on 10001 ∷ off 11000 ∷ [])
    ≡ (codes "RUN" ∷ []) ∷ [] ∷ (codes "END" ∷ []) ∷ [] ∷ [] ∷ []
ended_once = refl

-- Without idle decay the last span counts too.
ten_seconds_run : states (behavior (Some 10000) false false) (on 0 ∷ on 9999 ∷ on 10000 ∷ []) ≡ Running ∷ Running ∷ Completed ∷ []
ten_seconds_run = refl

-- It runs at 0, is idle at 5 s, and its conditions hold from 10 s on: with idle decay it completes at 10 s.
decaying : states (behavior (Some 10000) true false) (on 0 ∷ off 5000 ∷ on 10000 ∷ []) ≡ Running ∷ Idle ∷ Completed ∷ []
decaying = refl

-- Without, 5 s have passed at 10 s, and it completes at 15 s, and not before.
waiting_time : passed_at (behavior (Some 10000) false false) (past_of (behavior (Some 10000) false false) (on 0 ∷ off 5000 ∷ [])) 10000 ≡ 5000
waiting_time = refl

waiting : states (behavior (Some 10000) false false) (on 0 ∷ off 5000 ∷ on 10000 ∷ on 14999 ∷ on 15000 ∷ []) ≡ Running ∷ Idle ∷ Running ∷ Running ∷ Completed ∷ []
waiting = refl

-- A parked helm idles it like conditions that don't hold.
parking : states (behavior (Some 10000) false false) (on 0 ∷ parked 5000 ∷ on 10000 ∷ on 15000 ∷ parked 16000 ∷ []) ≡ Running ∷ Idle ∷ Running ∷ Completed ∷ Completed ∷ []
parking = refl

-- A perpetual one runs again at the next turn whose conditions hold, and its clock starts anew there.
again : states (behavior (Some 10000) true true) (on 0 ∷ on 10000 ∷ off 12000 ∷ on 15000 ∷ on 24999 ∷ on 25000 ∷ on 26000 ∷ [])
    ≡ Running ∷ Completed ∷ Idle ∷ Running ∷ Running ∷ Completed ∷ Running ∷ []
again = refl

again_flags : flags (behavior (Some 10000) true true) (on 0 ∷ on 10000 ∷ off 12000 ∷ on 15000 ∷ on 24999 ∷ on 25000 ∷ on 26000 ∷ [])
    ≡ (codes "RUN" ∷ []) ∷ (codes "END" ∷ []) ∷ (codes "IDLE" ∷ []) ∷ (codes "RUN" ∷ []) ∷ [] ∷ (codes "END" ∷ []) ∷ (codes "RUN" ∷ []) ∷ []
again_flags = refl

-- Without idle decay its clock starts anew too, and the span after a completion doesn't count.
again_run : states (behavior (Some 10000) false true) (on 0 ∷ on 10000 ∷ on 15000 ∷ off 20000 ∷ on 30000 ∷ on 34999 ∷ on 35000 ∷ [])
    ≡ Running ∷ Completed ∷ Running ∷ Idle ∷ Running ∷ Running ∷ Completed ∷ []
again_run = refl

-- A step that is done completes it, and it is stepped again in the next turn only where it is perpetual.
done_once : states (behavior None true false) (gives 0 ∷ ends 1000 ∷ gives 2000 ∷ []) ≡ Active ∷ Completed ∷ Completed ∷ []
done_once = refl

done_again : flags (behavior None true true) (gives 0 ∷ ends 1000 ∷ gives 2000 ∷ [])
    ≡ (codes "RUN" ∷ codes "ACTIVE" ∷ []) ∷ (codes "INACTIVE" ∷ codes "END" ∷ []) ∷ (codes "RUN" ∷ codes "ACTIVE" ∷ []) ∷ []
done_again = refl

-- It is fresh where it wasn't stepped in the turn before: after a pause and after its time was up, and not after a step that was done.
fresh_first : phase_at (behavior (Some 10000) true true) [] (start false true 0) ≡ Run true
fresh_first = refl

fresh_done : phase_at (behavior None true true) (past_of (behavior None true true) (on 0 ∷ ends 1000 ∷ [])) (start false true 2000) ≡ Run false
fresh_done = refl

timed_out : phase_at (behavior (Some 10000) true true) (past_of (behavior (Some 10000) true true) (on 0 ∷ [])) (start false true 10000) ≡ TimedOut
timed_out = refl

gone : phase_at (behavior (Some 10000) true false) (past_of (behavior (Some 10000) true false) (on 0 ∷ on 10000 ∷ [])) (start false true 11000) ≡ CompletedPhase
gone = refl

paused : phase_at (behavior (Some 10000) true false) (past_of (behavior (Some 10000) true false) (on 0 ∷ [])) (start true true 10000) ≡ IdlePhase
paused = refl

fresh_out : phase_at (behavior (Some 10000) true true) (past_of (behavior (Some 10000) true true) (on 0 ∷ on 10000 ∷ [])) (start false true 11000) ≡ Run true
fresh_out = refl

-- Its flags follow its states: idle to active, active to running, running to active, active to idle.
flags_by_states : flags (behavior None true false) (off 0 ∷ gives 1000 ∷ on 2000 ∷ gives 3000 ∷ parked 4000 ∷ off 5000 ∷ [])
    ≡ [] ∷ (codes "RUN" ∷ codes "ACTIVE" ∷ []) ∷ (codes "INACTIVE" ∷ []) ∷ (codes "ACTIVE" ∷ []) ∷ (codes "INACTIVE" ∷ codes "IDLE" ∷ []) ∷ [] ∷ []
flags_by_states = refl

-- A duration of 0 is over at once: the behaviour completes without a step.
no_time : states (behavior (Some 0) true true) (on 0 ∷ off 1000 ∷ on 2000 ∷ []) ≡ Completed ∷ Idle ∷ Completed ∷ []
no_time = refl

-- With idle decay the time may be over while it is idle: it completes when it runs again.
late : states (behavior (Some 10000) true false) (on 0 ∷ off 5000 ∷ off 12000 ∷ parked 15000 ∷ on 20000 ∷ []) ≡ Running ∷ Idle ∷ Idle ∷ Idle ∷ Completed ∷ []
late = refl

-- Perpetual ones, by what completes them, and by what the next turns are: on, off or parked.
out_on : states (behavior (Some 1000) true true) (on 0 ∷ on 1000 ∷ on 2000 ∷ on 3000 ∷ on 4000 ∷ []) ≡ Running ∷ Completed ∷ Running ∷ Completed ∷ Running ∷ []
out_on = refl

out_off : states (behavior (Some 1000) true true) (on 0 ∷ on 1000 ∷ off 2000 ∷ off 9000 ∷ on 9500 ∷ on 10000 ∷ on 10500 ∷ [])
    ≡ Running ∷ Completed ∷ Idle ∷ Idle ∷ Running ∷ Running ∷ Completed ∷ []
out_off = refl

out_parked : states (behavior (Some 1000) true true) (on 0 ∷ on 1000 ∷ parked 2000 ∷ on 3000 ∷ []) ≡ Running ∷ Completed ∷ Idle ∷ Running ∷ []
out_parked = refl

done_off : states (behavior (Some 1000) false true) (on 0 ∷ ends 500 ∷ off 2000 ∷ on 3000 ∷ off 3500 ∷ on 9000 ∷ on 9499 ∷ on 9500 ∷ [])
    ≡ Running ∷ Completed ∷ Idle ∷ Running ∷ Idle ∷ Running ∷ Running ∷ Completed ∷ []
done_off = refl

done_parked : states (behavior (Some 1000) false true) (on 0 ∷ ends 500 ∷ parked 1000 ∷ ends 2000 ∷ []) ≡ Running ∷ Completed ∷ Idle ∷ Completed ∷ []
done_parked = refl

-- The flags of two completions in a row, and of one that idles after a completion.
done_twice : flags (behavior None true true) (ends 0 ∷ ends 1000 ∷ off 2000 ∷ [])
    ≡ (codes "END" ∷ []) ∷ (codes "END" ∷ []) ∷ (codes "IDLE" ∷ []) ∷ []
done_twice = refl

-- One that completed for good raises no flag any more.
for_good : flags (behavior None true false) (ends 0 ∷ on 1000 ∷ off 2000 ∷ parked 3000 ∷ []) ≡ (codes "END" ∷ []) ∷ [] ∷ [] ∷ [] ∷ []
for_good = refl
