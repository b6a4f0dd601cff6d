-- A vehicle without thrust slows down step by step, and lies still in the end.
use Rattle.std.proofs.Common.{◌≡◌, ℕ, zero, suc, ◌+◌, ◌*◌, refl, ap, ◌∙◌, arith}
use Rattle.std.specs.Prelude.{ℤ, pos, negsuc, neg_ℤ, ◌+ℤ◌, ◌-ℤ◌, ◌*ℤ◌, ◌≤ℤ◌, int_div, codes, take, List, Option}
use Rattle.std.specs.Int.{int_min}
use Rattle.std.proofs.Common.{◌⊎◌, inl, inr}
use Rattle.std.proofs.Math.Nat.{suc-mul, zero-mul}
use Rattle.std.proofs.lemmas.Bool.{cases_lt}
use Rattle.std.proofs.lemmas.Int.{clamps, ints}
use Rattle.moos_post.specs.declared.value.Pair.{Pair}
use Rattle.sim_clients.specs.Clients.{hull_after_turns, number_by}
use Rattle.sim_vehicle.specs.declared.hull.Hull.{Hull}
use Rattle.sim_vehicle.specs.declared.setting.CraftSetting.TheVariants.{Accel, Decel, MaxThrust}
use Rattle.sim_vehicle.specs.declared.settings.CraftSettings.{CraftSettings}
use Rattle.sim_vehicle.specs.Motion.{hull_after, IsHull, most_change, speed_after, start_hull, target_speed}
use Rattle.sim_vehicle.specs.Settings.{AreAllowed}
use Rattle.sim_vehicle.specs.Steering.{clamped, Lies, thrust_of}
use Rattle.crew_laws.specs.Braking.{braking, coasting, HasNoThrust, NeverSlows, NoThrustAtZero, SlowsByBraking, StopsInSteps, StopsInTurns}

-- no quantity changes by less than nothing
some_change : (rate : ℤ) (dt : ℕ) → pos 0 ≤ℤ rate → pos 0 ≤ℤ most_change rate dt
some_change (pos rate) dt some = omega (arith, ints)
some_change (negsuc rate) dt some = absurd (omega (arith, ints, some))

nothing_times : (n : ℤ) → pos 0 *ℤ n ≡ pos 0
nothing_times (pos n) = ap pos (zero-mul n)
nothing_times (negsuc n) = ap (λ m. neg_ℤ (pos m)) (zero-mul (suc n))

-- without thrust no speed is aimed at
no_target : (craft : CraftSettings) → target_speed craft (pos 0) ≡ pos 0
no_target craft = ap (λ share. int_div share (pos 100000)) (nothing_times craft.max_speed)

slower : (speed down up : ℤ) → pos 0 ≤ℤ speed → pos 0 ≤ℤ down → pos 0 ≤ℤ up → speed +ℤ clamped (neg_ℤ down) up (pos 0 -ℤ speed) ≡ speed -ℤ int_min speed down
slower speed down up forward slows quickens = omega (arith, ints, clamps, forward, slows, quickens)

pub slows_by_braking : SlowsByBraking
slows_by_braking craft allowed speed dt within =
    ap (λ target. speed +ℤ clamped (neg_ℤ (most_change craft.decel dt)) (most_change craft.accel dt) (target -ℤ speed)) (no_target craft)
    ∙ slower speed (most_change craft.decel dt) (most_change craft.accel dt) within.0 (some_change craft.decel dt (allowed Decel).0) (some_change craft.accel dt (allowed Accel).0)

compared : (v : ℤ) (m : ℕ) → pos 0 ≤ℤ v → (v ≤ℤ pos m) ⊎ (pos m ≤ℤ v)
compared (negsuc a) m some = absurd (omega (arith, ints, some))
compared (pos a) m some =
    elim (cases_lt a m) [
      | inl less ↦ inl (omega (arith, ints, less))
      | inr more ↦ inr (omega (arith, ints, more))
    ]

-- what is left of a speed after some steps that take off as much each
left_after : (craft : CraftSettings) → AreAllowed craft → (speed : ℤ) (dt m : ℕ) → Lies (pos 0) craft.max_speed speed → braking craft dt ≡ pos m → (n : ℕ)
    → Lies (pos 0) craft.max_speed (coasting craft dt speed n) × ((coasting craft dt speed n ≡ pos 0) ⊎ ((coasting craft dt speed n +ℤ pos (n * m)) ≤ℤ speed))
left_after craft allowed speed dt m within is zero = (within, inr (omega (arith, ints, zero-mul m)))
left_after craft allowed speed dt m within is (suc n) = by (coasting craft dt speed n) (left_after craft allowed speed dt m within is n)
  where
    step : (v : ℤ) → Lies (pos 0) craft.max_speed v → speed_after craft v (pos 0) dt ≡ v -ℤ int_min v (pos m)
    step v lies = slows_by_braking craft allowed v dt lies ∙ ap (λ most. v -ℤ int_min v most) is

    by : (v : ℤ) → Lies (pos 0) craft.max_speed v × ((v ≡ pos 0) ⊎ ((v +ℤ pos (n * m)) ≤ℤ speed))
        → Lies (pos 0) craft.max_speed (speed_after craft v (pos 0) dt) × ((speed_after craft v (pos 0) dt ≡ pos 0) ⊎ ((speed_after craft v (pos 0) dt +ℤ pos (suc n * m)) ≤ℤ speed))
    by v (lies, inl still) =
        let after = step v lies in ((omega (arith, ints, clamps, after, lies.0), omega (arith, ints, clamps, after, lies.0, lies.1)), inl (omega (arith, ints, clamps, after, still)))
    by v (lies, inr left) = ((omega (arith, ints, clamps, step v lies, lies.0), omega (arith, ints, clamps, step v lies, lies.0, lies.1)), more (compared v m lies.0))
      where
        more : (v ≤ℤ pos m) ⊎ (pos m ≤ℤ v) → (speed_after craft v (pos 0) dt ≡ pos 0) ⊎ ((speed_after craft v (pos 0) dt +ℤ pos (suc n * m)) ≤ℤ speed)
        more (inl low) = inl (omega (arith, ints, clamps, step v lies, low))
        more (inr high) = inr (omega (arith, ints, clamps, step v lies, high, left, suc-mul n m))

-- so nothing is left once they may take off the greatest speed
gone_after : (craft : CraftSettings) (v speed most : ℤ) (n m : ℕ) → (v ≡ pos 0) ⊎ ((v +ℤ pos (n * m)) ≤ℤ speed) → pos 0 ≤ℤ v → speed ≤ℤ most → most ≤ℤ pos (n * m) → v ≡ pos 0
gone_after craft v speed most n m (inl still) some within enough = still
gone_after craft v speed most n m (inr left) some within enough = omega (arith, ints, left, some, within, enough)

pub stops_in_steps : StopsInSteps
stops_in_steps craft allowed speed dt n within enough = by (braking craft dt) refl (some_change craft.decel dt (allowed Decel).0) enough
  where
    by : (c : ℤ) → braking craft dt ≡ c → pos 0 ≤ℤ c → craft.max_speed ≤ℤ (pos n *ℤ c) → coasting craft dt speed n ≡ pos 0
    by (pos m) is some enough =
        let left = left_after craft allowed speed dt m within is n in
        gone_after craft (coasting craft dt speed n) speed craft.max_speed n m left.1 left.0.0 within.1 enough
    by (negsuc m) is some enough = absurd (omega (arith, ints, some))

pub never_slows : NeverSlows
never_slows craft allowed speed dt zero within none = refl
never_slows craft allowed speed dt (suc n) within none =
    ap (λ v. speed_after craft v (pos 0) dt) (never_slows craft allowed speed dt n within none) ∙ slows_by_braking craft allowed speed dt within
    ∙ ap (λ most. speed -ℤ int_min speed most) none ∙ omega (arith, ints, clamps, within.0)

pub no_thrust_at_zero : NoThrustAtZero
no_thrust_at_zero craft allowed mails is =
    ap (thrust_of craft) is ∙ ap (λ share. clamped (pos 0) craft.max_thrust (int_div share (pos 1000))) (nothing_times craft.speed_factor) ∙ held craft.max_thrust (allowed MaxThrust).0
  where
    held : (most : ℤ) → pos 0 ≤ℤ most → clamped (pos 0) most (pos 0) ≡ pos 0
    held most some = omega (arith, ints, clamps, some)

-- the vehicle's speed turn by turn
coasts : (craft : CraftSettings) (period : ℕ) (mails : List (List Pair)) (from n : ℕ) → HasNoThrust mails from n
    → (hull_after_turns craft period mails (from + n)).speed ≡ coasting craft period (hull_after_turns craft period mails from).speed n
coasts craft period mails from zero none = (let here : from + 0 ≡ from = omega arith in ap (λ i. (hull_after_turns craft period mails i).speed) here)
coasts craft period mails from (suc n) none =
    ap (λ i. (hull_after_turns craft period mails i).speed) next
    ∙ ap (λ thrust. speed_after craft (hull_after_turns craft period mails (from + n)).speed thrust period) (none (from + n) (omega arith) (omega arith))
    ∙ ap (λ v. speed_after craft v (pos 0) period) (coasts craft period mails from n (λ j above below. none j above (omega (arith, below))))
  where
    next : from + suc n ≡ suc (from + n)
    next = omega arith

-- which is always in its range
abbrev pub StartsWithin : Type 0
StartsWithin = (craft : CraftSettings) → AreAllowed craft → IsHull craft (start_hull craft)

abbrev pub StaysWithin : Type 0
StaysWithin = (craft : CraftSettings) → AreAllowed craft → (hull : Hull) → IsHull craft hull → (rudder thrust want_depth : Option ℤ) (dt : ℕ) → IsHull craft (hull_after craft hull rudder thrust want_depth dt)

hull_within : StartsWithin → StaysWithin → (craft : CraftSettings) → AreAllowed craft → (period : ℕ) (mails : List (List Pair)) (i : ℕ) → IsHull craft (hull_after_turns craft period mails i)
hull_within start step craft allowed period mails zero = start craft allowed
hull_within start step craft allowed period mails (suc i) =
    step craft allowed (hull_after_turns craft period mails i) (hull_within start step craft allowed period mails i) (number_by (take (suc i) mails) (codes "DESIRED_RUDDER")) (number_by (take (suc i) mails) (codes "DESIRED_THRUST"))
    (number_by (take (suc i) mails) (codes "DESIRED_DEPTH")) period

pub stops_in_turns : StartsWithin → StaysWithin → StopsInTurns
stops_in_turns start step craft allowed period mails from n none enough =
    coasts craft period mails from n none ∙ stops_in_steps craft allowed (hull_after_turns craft period mails from).speed period n (hull_within start step craft allowed period mails from).speed enough
