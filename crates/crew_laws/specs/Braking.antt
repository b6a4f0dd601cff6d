-- How a vehicle slows down that gets no thrust.
use Rattle.std.specs.Prelude.{◌≡◌, ℕ, zero, suc, ◌+◌, ◌<◌, ◌≤◌, ℤ, pos, ◌*ℤ◌, ◌-ℤ◌, ◌≤ℤ◌, List, codes, take, Some}
use Rattle.std.specs.Int.{int_min}
use Rattle.moos_post.specs.declared.value.Pair.{Pair}
use Rattle.sim_clients.specs.Clients.{drive_by, hull_after_turns, number_by}
use Rattle.sim_vehicle.specs.declared.settings.CraftSettings.{CraftSettings}
use Rattle.sim_vehicle.specs.Motion.{most_change, speed_after, thrust_taken}
use Rattle.sim_vehicle.specs.Settings.{AreAllowed}
use Rattle.sim_vehicle.specs.Steering.{Lies}

-- what a step of so many milliseconds takes off at most: `decel` for that time, rounded down to thousandths
abbrev pub braking : CraftSettings → ℕ → ℤ
braking craft dt = most_change craft.decel dt

-- the speed after some steps without thrust
abbrev pub coasting : CraftSettings → ℕ → ℤ → ℕ → ℤ
coasting craft dt speed zero = speed
coasting craft dt speed (suc n) = speed_after craft (coasting craft dt speed n) (pos 0) dt

-- A step without thrust takes off what a step takes off at most, or all that is left.
abbrev pub SlowsByBraking : Type 0
SlowsByBraking = (craft : CraftSettings) → AreAllowed craft → (speed : ℤ) (dt : ℕ) → Lies (pos 0) craft.max_speed speed → speed_after craft speed (pos 0) dt ≡ speed -ℤ int_min speed (braking craft dt)

-- So the speed is 0 after so many steps that together they may take off the greatest speed: that divided by what one takes off, rounded up.
abbrev pub StopsInSteps : Type 0
StopsInSteps = (craft : CraftSettings) → AreAllowed craft → (speed : ℤ) (dt n : ℕ) → Lies (pos 0) craft.max_speed speed → craft.max_speed ≤ℤ (pos n *ℤ braking craft dt) → coasting craft dt speed n ≡ pos 0

-- But it stays for ever as it is if a step takes off nothing: if `decel` for its time is less than a thousandth.
abbrev pub NeverSlows : Type 0
NeverSlows = (craft : CraftSettings) → AreAllowed craft → (speed : ℤ) (dt n : ℕ) → Lies (pos 0) craft.max_speed speed → braking craft dt ≡ pos 0 → coasting craft dt speed n ≡ speed

-- The controller asks for no thrust if the latest `DESIRED_SPEED` that was mailed to it is 0.
abbrev pub NoThrustAtZero : Type 0
NoThrustAtZero = (craft : CraftSettings) → AreAllowed craft → (mails : List (List Pair)) → number_by mails (codes "DESIRED_SPEED") ≡ Some (pos 0) → (drive_by craft mails).thrust ≡ pos 0

-- Nor has the simulated vehicle a thrust in these turns: the latest `DESIRED_THRUST` that was mailed is taken as 0.
abbrev pub HasNoThrust : List (List Pair) → ℕ → ℕ → Type 0
HasNoThrust mails from n = (j : ℕ) → from ≤ j → j < from + n → thrust_taken (number_by (take (suc j) mails) (codes "DESIRED_THRUST")) ≡ pos 0

-- So the simulated vehicle lies still after that many turns without thrust, and stays so while it gets none.
abbrev pub StopsInTurns : Type 0
StopsInTurns = (craft : CraftSettings) → AreAllowed craft → (period : ℕ) (mails : List (List Pair)) (from n : ℕ) → HasNoThrust mails from n → craft.max_speed ≤ℤ (pos n *ℤ braking craft period) → (hull_after_turns craft period mails (from + n)).speed ≡ pos 0
