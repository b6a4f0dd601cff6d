-- The defaults are in their ranges, and settings stay in theirs where one of them becomes another number of its range.
use Rattle.std.proofs.Common.{arith}
use Rattle.std.proofs.lemmas.Int.{ints}
use Rattle.std.specs.Prelude.{ℤ, ◌≤ℤ◌, IsTrue}
use Rattle.sim_vehicle.specs.declared.setting.CraftSetting.{CraftSetting}
use Rattle.sim_vehicle.specs.declared.setting.CraftSetting.TheVariants.{StartX, StartY, StartHeading, StartDepth, MaxSpeed, TurnRate, Accel, Decel, Dive, YawKp, YawKi, YawKd, IntegralLimit, MaxRudder, MaxThrust, SpeedFactor}
use Rattle.sim_vehicle.specs.declared.settings.CraftSettings.{CraftSettings}
use Rattle.sim_vehicle.specs.Settings.{AreAllowed, default_settings, is_allowed, set_to, setting_high, setting_low, setting_value}

-- the number is in the range of the setting
abbrev Within : CraftSetting → ℤ → Type 0
Within setting number = (setting_low setting ≤ℤ number) × (number ≤ℤ setting_high setting)

allowed_within : (setting : CraftSetting) (number : ℤ) → IsTrue (is_allowed setting number) → Within setting number
allowed_within setting number is = (grind (arith, ints), grind (arith, ints))

-- the setting that is given the number has it, and each other one its own
kept : (settings : CraftSettings) (setting other : CraftSetting) (number : ℤ) → Within setting number → AreAllowed settings → Within other (setting_value (set_to settings setting number) other)
kept settings StartX StartX number new old = new
kept settings StartX other number new old = old other
kept settings StartY StartY number new old = new
kept settings StartY other number new old = old other
kept settings StartHeading StartHeading number new old = new
kept settings StartHeading other number new old = old other
kept settings StartDepth StartDepth number new old = new
kept settings StartDepth other number new old = old other
kept settings MaxSpeed MaxSpeed number new old = new
kept settings MaxSpeed other number new old = old other
kept settings TurnRate TurnRate number new old = new
kept settings TurnRate other number new old = old other
kept settings Accel Accel number new old = new
kept settings Accel other number new old = old other
kept settings Decel Decel number new old = new
kept settings Decel other number new old = old other
kept settings Dive Dive number new old = new
kept settings Dive other number new old = old other
kept settings YawKp YawKp number new old = new
kept settings YawKp other number new old = old other
kept settings YawKi YawKi number new old = new
kept settings YawKi other number new old = old other
kept settings YawKd YawKd number new old = new
kept settings YawKd other number new old = old other
kept settings IntegralLimit IntegralLimit number new old = new
kept settings IntegralLimit other number new old = old other
kept settings MaxRudder MaxRudder number new old = new
kept settings MaxRudder other number new old = old other
kept settings MaxThrust MaxThrust number new old = new
kept settings MaxThrust other number new old = old other
kept settings SpeedFactor SpeedFactor number new old = new
kept settings SpeedFactor other number new old = old other

pub set_to_allowed : (settings : CraftSettings) (setting : CraftSetting) (number : ℤ) → IsTrue (is_allowed setting number) → AreAllowed settings → AreAllowed (set_to settings setting number)
set_to_allowed settings setting number is old other = kept settings setting other number (allowed_within setting number is) old

-- each default
default_is : (setting : CraftSetting) → Within setting (setting_value default_settings setting)
default_is StartX = (omega (arith, ints), omega (arith, ints))
default_is StartY = (omega (arith, ints), omega (arith, ints))
default_is StartHeading = (omega (arith, ints), omega (arith, ints))
default_is StartDepth = (omega (arith, ints), omega (arith, ints))
default_is MaxSpeed = (omega (arith, ints), omega (arith, ints))
default_is TurnRate = (omega (arith, ints), omega (arith, ints))
default_is Accel = (omega (arith, ints), omega (arith, ints))
default_is Decel = (omega (arith, ints), omega (arith, ints))
default_is Dive = (omega (arith, ints), omega (arith, ints))
default_is YawKp = (omega (arith, ints), omega (arith, ints))
default_is YawKi = (omega (arith, ints), omega (arith, ints))
default_is YawKd = (omega (arith, ints), omega (arith, ints))
default_is IntegralLimit = (omega (arith, ints), omega (arith, ints))
default_is MaxRudder = (omega (arith, ints), omega (arith, ints))
default_is MaxThrust = (omega (arith, ints), omega (arith, ints))
default_is SpeedFactor = (omega (arith, ints), omega (arith, ints))

pub defaults_allowed : AreAllowed default_settings
defaults_allowed setting = default_is setting
