-- The controller: the rudder and the thrust that it asks for, from what the helm wants and where the vehicle heads. All
-- numbers are thousandths, and division is toward zero.
use Rattle.std.specs.Prelude.{◌≤ℤ◌, ℤ, pos, neg_ℤ, ◌+ℤ◌, ◌-ℤ◌, ◌*ℤ◌, int_div, int_lt, if◌then◌else◌, Option, Some, None}
use Rattle.std.specs.Int.{int_max, int_min, int_rem_euclid}
use Rattle.sim_vehicle.specs.declared.rig.Drive.{Drive}
use Rattle.sim_vehicle.specs.declared.settings.CraftSettings.{CraftSettings}

-- a number held within two bounds
abbrev pub clamped : ℤ → ℤ → ℤ → ℤ
clamped low high number = int_max low (int_min number high)

-- a number held within a limit either way
abbrev pub limited : ℤ → ℤ → ℤ
limited limit number = clamped (neg_ℤ limit) limit number

-- a number lies within two bounds
abbrev pub Lies : ℤ → ℤ → ℤ → Type 0
Lies low high number = (low ≤ℤ number) × (number ≤ℤ high)

-- an angle from 0 to below 360 degrees, taken above -180 degrees and at most 180
abbrev pub signed_angle : ℤ → ℤ
signed_angle angle = if int_lt (pos 180000) angle then angle -ℤ pos 360000 else angle

-- the error: how far clockwise of the own heading the wanted one lies; 0 if one of them is unknown
abbrev pub heading_error : Option ℤ → Option ℤ → ℤ
heading_error None heading = pos 0
heading_error (Some want) None = pos 0
heading_error (Some want) (Some heading) = signed_angle (int_rem_euclid (want -ℤ heading) (pos 360000))

-- what the controller keeps from step to step: the integral of the errors, and the last of them
pub record RigState : Type 0 where
  pub integral : ℤ
  pub last_error : ℤ

-- before the first step
abbrev pub fresh_rig : RigState
fresh_rig = record { integral = pos 0; last_error = pos 0 }

-- after a step with this error: it is added to the integral, which is held within its limit either way
abbrev pub rig_after : CraftSettings → RigState → ℤ → RigState
rig_after craft rig error = record { integral = limited craft.integral_limit (rig.integral +ℤ error); last_error = error }

-- the rudder of a step with this error: in proportion to the error, to the integral with it, and to its change
abbrev pub rudder_of : CraftSettings → RigState → ℤ → ℤ
rudder_of craft rig error =
    limited craft.max_rudder
    (int_div
    (error *ℤ craft.yaw_kp +ℤ (rig_after craft rig error).integral *ℤ craft.yaw_ki +ℤ (error -ℤ rig.last_error) *ℤ craft.yaw_kd)
    (pos 1000))

-- the thrust for a wanted speed: in proportion to it; 0 if none is known
abbrev pub thrust_of : CraftSettings → Option ℤ → ℤ
thrust_of craft None = pos 0
thrust_of craft (Some speed) = clamped (pos 0) craft.max_thrust (int_div (speed *ℤ craft.speed_factor) (pos 1000))

-- What the controller asks for in a step with this error and this wanted speed.
abbrev pub drive_of : CraftSettings → RigState → ℤ → Option ℤ → Drive
drive_of craft rig error speed = record { rudder = rudder_of craft rig error; thrust = thrust_of craft speed }
