-- What the controller asks for, and where the vehicle is after a step, is in its ranges, whatever is wanted.
use Rattle.std.proofs.Common.{ℕ, ◌%◌, ◌^◌, ◌<◌, arith}
use Rattle.std.specs.Prelude.{ℤ, pos, negsuc, neg_ℤ, ◌+ℤ◌, ◌-ℤ◌, ◌*ℤ◌, ◌≤ℤ◌, int_div, unwrap_or, Option, None, Some}
use Rattle.std.specs.Int.{int_rem_euclid}
use Rattle.std.proofs.Math.Nat.{mod-lt}
use Rattle.std.proofs.lemmas.Int.{clamps, ints}
use Rattle.helm_geo.specs.Angles.{cos4, sin4}
use Rattle.sim_vehicle.specs.declared.hull.Hull.{Hull}
use Rattle.sim_vehicle.specs.declared.setting.CraftSetting.TheVariants.{StartX, StartY, StartHeading, StartDepth, MaxSpeed, Accel, Decel, MaxRudder, MaxThrust}
use Rattle.sim_vehicle.specs.declared.settings.CraftSettings.{CraftSettings}
use Rattle.sim_vehicle.specs.Motion.{depth_error, heading_after, heading_change, hull_after, IsHull, most_change, rudder_taken, speed_after, start_hull, target_speed, thrust_taken, whole_degrees}
use Rattle.sim_vehicle.specs.Settings.{AreAllowed}
use Rattle.sim_vehicle.specs.Steering.{clamped, drive_of, Lies, limited, rig_after, RigState}
use Rattle.sim_vehicle.proofs.Sizes.{share_within, toward_high, toward_low}

-- a number held within two bounds lies within them
clamped_lies : (low high number : ℤ) → low ≤ℤ high → Lies low high (clamped low high number)
clamped_lies low high number rising = (omega (arith, ints, clamps), omega (arith, ints, clamps, rising))

limited_lies : (limit number : ℤ) → pos 0 ≤ℤ limit → Lies (neg_ℤ limit) limit (limited limit number)
limited_lies limit number some = clamped_lies (neg_ℤ limit) limit number (omega (arith, ints, some))

-- ---- the controller

pub rudder_lies : (craft : CraftSettings) → AreAllowed craft → (rig : RigState) (error : ℤ) (speed : Option ℤ) → Lies (neg_ℤ craft.max_rudder) craft.max_rudder (drive_of craft rig error speed).rudder
rudder_lies craft allowed rig error speed = limited_lies craft.max_rudder (int_div (error *ℤ craft.yaw_kp +ℤ (rig_after craft rig error).integral *ℤ craft.yaw_ki +ℤ (error -ℤ rig.last_error) *ℤ craft.yaw_kd) (pos 1000)) (allowed MaxRudder).0

pub thrust_lies : (craft : CraftSettings) → AreAllowed craft → (rig : RigState) (error : ℤ) (speed : Option ℤ) → Lies (pos 0) craft.max_thrust (drive_of craft rig error speed).thrust
thrust_lies craft allowed rig error None = (omega (arith, ints), (allowed MaxThrust).0)
thrust_lies craft allowed rig error (Some speed) = clamped_lies (pos 0) craft.max_thrust (int_div (speed *ℤ craft.speed_factor) (pos 1000)) (allowed MaxThrust).0

-- ---- the vehicle

pub start_within : (craft : CraftSettings) → AreAllowed craft → IsHull craft (start_hull craft)
start_within craft allowed = record {
  x = let x = allowed StartX in (omega (arith, ints, x.0), omega (arith, ints, x.1));
  y = let y = allowed StartY in (omega (arith, ints, y.0), omega (arith, ints, y.1));
  heading = allowed StartHeading;
  speed = (omega (arith, ints), omega (arith, ints, (allowed MaxSpeed).0));
  depth = allowed StartDepth;
}

-- no quantity changes by less than nothing
some_change : (rate : ℤ) (dt : ℕ) → pos 0 ≤ℤ rate → pos 0 ≤ℤ most_change rate dt
some_change (pos rate) dt some = omega (arith, ints)
some_change (negsuc rate) dt some = absurd (omega (arith, ints, some))

speed_within : (craft : CraftSettings) → AreAllowed craft → (speed thrust : ℤ) (dt : ℕ) → Lies (pos 0) craft.max_speed speed → Lies (pos 0) (pos 100000) thrust → Lies (pos 0) craft.max_speed (speed_after craft speed thrust dt)
speed_within craft allowed speed thrust dt within taken = (
  toward_low speed target down up within.0 aim.0 slows quickens,
  toward_high speed target down up craft.max_speed slows quickens within.1 aim.1,
)
  where
    target : ℤ
    target = target_speed craft thrust

    down : ℤ
    down = most_change craft.decel dt

    up : ℤ
    up = most_change craft.accel dt

    aim : Lies (pos 0) craft.max_speed target
    aim = share_within thrust craft.max_speed taken (omega (arith, ints, (allowed MaxSpeed).0))

    slows : pos 0 ≤ℤ down
    slows = some_change craft.decel dt (allowed Decel).0

    quickens : pos 0 ≤ℤ up
    quickens = some_change craft.accel dt (allowed Accel).0

heading_within : (angle : ℤ) → Lies (pos 0) (pos 359999) (int_rem_euclid angle (pos 360000))
heading_within (pos a) = let less : a % 360000 < 360000 = mod-lt a (omega arith) in (omega (arith, ints), omega (arith, ints, less))
heading_within (negsuc a) = (omega (arith, ints), omega (arith, ints))

pub step_within : (craft : CraftSettings) → AreAllowed craft → (hull : Hull) → IsHull craft hull → (rudder thrust want_depth : Option ℤ) (dt : ℕ) → IsHull craft (hull_after craft hull rudder thrust want_depth dt)
step_within craft allowed hull within rudder thrust want_depth dt = record {
  x = limited_lies (pos (10 ^ 12)) (hull.x +ℤ int_div (speed *ℤ pos dt *ℤ sin4 (whole_degrees heading)) (pos (10 ^ 7))) (omega (arith, ints));
  y = limited_lies (pos (10 ^ 12)) (hull.y +ℤ int_div (speed *ℤ pos dt *ℤ cos4 (whole_degrees heading)) (pos (10 ^ 7))) (omega (arith, ints));
  heading = heading_within (hull.heading +ℤ heading_change craft (rudder_taken rudder) speed dt);
  speed = speed_within craft allowed hull.speed (thrust_taken thrust) dt within.speed (clamped_lies (pos 0) (pos 100000) (unwrap_or thrust (pos 0)) (omega (arith, ints)));
  depth = clamped_lies (pos 0) (pos (10 ^ 7)) (hull.depth +ℤ limited (most_change craft.dive dt) (depth_error hull.depth want_depth)) (omega (arith, ints));
}
  where
    speed : ℤ
    speed = speed_after craft hull.speed (thrust_taken thrust) dt

    heading : ℤ
    heading = heading_after craft hull.heading (rudder_taken rudder) speed dt
