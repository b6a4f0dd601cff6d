-- The numbers that a vehicle file may set: their names, their ranges and what they are by default, in thousandths.
use Rattle.std.specs.Prelude.{ℕ, ℤ, pos, neg_ℤ, ◌^◌, ◌≤ℤ◌, int_le, Bool, ◌&&◌, List, [], ◌∷◌, codes, find, Option}
use Rattle.std.specs.Str.{str_eq_ignore_ascii_case}
use Rattle.sim_vehicle.specs.declared.setting.CraftSetting.{CraftSetting}
use Rattle.sim_vehicle.specs.declared.setting.CraftSetting.TheVariants.{StartX, StartY, StartHeading, StartDepth, MaxSpeed, TurnRate, Accel, Decel, Dive, YawKp, YawKi, YawKd, IntegralLimit, MaxRudder, MaxThrust, SpeedFactor}
use Rattle.sim_vehicle.specs.declared.settings.CraftSettings.{CraftSettings}

-- the name of a setting
abbrev pub setting_name : CraftSetting → List ℕ
setting_name StartX = codes "start_x"
setting_name StartY = codes "start_y"
setting_name StartHeading = codes "start_heading"
setting_name StartDepth = codes "start_depth"
setting_name MaxSpeed = codes "max_speed"
setting_name TurnRate = codes "turn_rate"
setting_name Accel = codes "accel"
setting_name Decel = codes "decel"
setting_name Dive = codes "dive"
setting_name YawKp = codes "yaw_kp"
setting_name YawKi = codes "yaw_ki"
setting_name YawKd = codes "yaw_kd"
setting_name IntegralLimit = codes "integral_limit"
setting_name MaxRudder = codes "max_rudder"
setting_name MaxThrust = codes "max_thrust"
setting_name SpeedFactor = codes "speed_factor"

-- the least that a setting may be
abbrev pub setting_low : CraftSetting → ℤ
setting_low StartX = neg_ℤ (pos (10 ^ 9))
setting_low StartY = neg_ℤ (pos (10 ^ 9))
setting_low MaxSpeed = pos 1
setting_low other = pos 0

-- the most that a setting may be
abbrev pub setting_high : CraftSetting → ℤ
setting_high StartX = pos (10 ^ 9)
setting_high StartY = pos (10 ^ 9)
setting_high StartHeading = pos 359999
setting_high StartDepth = pos (10 ^ 7)
setting_high MaxSpeed = pos 100000
setting_high TurnRate = pos 360000
setting_high Accel = pos 100000
setting_high Decel = pos 100000
setting_high Dive = pos 100000
setting_high YawKp = pos (10 ^ 6)
setting_high YawKi = pos (10 ^ 6)
setting_high YawKd = pos (10 ^ 6)
setting_high IntegralLimit = pos (10 ^ 9)
setting_high MaxRudder = pos 100000
setting_high MaxThrust = pos 100000
setting_high SpeedFactor = pos (10 ^ 6)

-- the number is in the range of the setting
abbrev pub is_allowed : CraftSetting → ℤ → Bool
is_allowed setting number = int_le (setting_low setting) number && int_le number (setting_high setting)

-- all settings
abbrev pub settings : List CraftSetting
settings =
    StartX ∷ StartY ∷ StartHeading ∷ StartDepth ∷ MaxSpeed ∷ TurnRate ∷ Accel ∷ Decel ∷ Dive ∷ YawKp ∷ YawKi ∷ YawKd ∷ IntegralLimit ∷
    MaxRudder ∷ MaxThrust ∷ SpeedFactor ∷ []

-- the name is the setting's, in letters of either case
abbrev pub is_setting_name : List ℕ → CraftSetting → Bool
is_setting_name name setting = str_eq_ignore_ascii_case name (setting_name setting)

-- the setting of this name, if one has it
abbrev pub setting_named : List ℕ → Option CraftSetting
setting_named name = find (is_setting_name name) settings

-- the settings if a file sets nothing
abbrev pub default_settings : CraftSettings
default_settings =
    record {
      start_x = pos 0;
      start_y = pos 0;
      start_heading = pos 0;
      start_depth = pos 0;
      max_speed = pos 2000;
      turn_rate = pos 20000;
      accel = pos 1000;
      decel = pos 1000;
      dive = pos 500;
      yaw_kp = pos 1000;
      yaw_ki = pos 0;
      yaw_kd = pos 0;
      integral_limit = pos 1000000;
      max_rudder = pos 100000;
      max_thrust = pos 100000;
      speed_factor = pos 50000;
    }

-- the number of this setting
abbrev pub setting_value : CraftSettings → CraftSetting → ℤ
setting_value settings StartX = settings.start_x
setting_value settings StartY = settings.start_y
setting_value settings StartHeading = settings.start_heading
setting_value settings StartDepth = settings.start_depth
setting_value settings MaxSpeed = settings.max_speed
setting_value settings TurnRate = settings.turn_rate
setting_value settings Accel = settings.accel
setting_value settings Decel = settings.decel
setting_value settings Dive = settings.dive
setting_value settings YawKp = settings.yaw_kp
setting_value settings YawKi = settings.yaw_ki
setting_value settings YawKd = settings.yaw_kd
setting_value settings IntegralLimit = settings.integral_limit
setting_value settings MaxRudder = settings.max_rudder
setting_value settings MaxThrust = settings.max_thrust
setting_value settings SpeedFactor = settings.speed_factor

-- the settings with this number for one of them
abbrev pub set_to : CraftSettings → CraftSetting → ℤ → CraftSettings
set_to settings StartX number = record settings { start_x = number }
set_to settings StartY number = record settings { start_y = number }
set_to settings StartHeading number = record settings { start_heading = number }
set_to settings StartDepth number = record settings { start_depth = number }
set_to settings MaxSpeed number = record settings { max_speed = number }
set_to settings TurnRate number = record settings { turn_rate = number }
set_to settings Accel number = record settings { accel = number }
set_to settings Decel number = record settings { decel = number }
set_to settings Dive number = record settings { dive = number }
set_to settings YawKp number = record settings { yaw_kp = number }
set_to settings YawKi number = record settings { yaw_ki = number }
set_to settings YawKd number = record settings { yaw_kd = number }
set_to settings IntegralLimit number = record settings { integral_limit = number }
set_to settings MaxRudder number = record settings { max_rudder = number }
set_to settings MaxThrust number = record settings { max_thrust = number }
set_to settings SpeedFactor number = record settings { speed_factor = number }

-- each of the numbers is in its range
abbrev pub AreAllowed : CraftSettings → Type 0
AreAllowed settings = (setting : CraftSetting) → (setting_low setting ≤ℤ setting_value settings setting) × (setting_value settings setting ≤ℤ setting_high setting)
