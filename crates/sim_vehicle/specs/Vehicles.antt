-- What the bytes of a vehicle file stand for: the settings of a vehicle, or the first refusal with its line and cause.
use Rattle.std.specs.Prelude.{ℕ, ℤ, if◌then◌else◌, List, [], ◌∷◌, Option, Some, None, Result, Ok, Err}
use Rattle.moos_text.specs.declared.cause.Cause.{Cause}
use Rattle.moos_text.specs.declared.cause.Cause.TheVariants.{V1, V2}
use Rattle.moos_text.specs.declared.cause.ReadFault.{ReadFault}
use Rattle.moos_text.specs.Numbers.{milli_of}
use Rattle.moos_text.specs.Pairs.{Sides, sides_of}
use Rattle.moos_text.specs.Sections.{made_of, made_of_all, Statement, statements_of}
use Rattle.sim_vehicle.specs.declared.setting.CraftSetting.{CraftSetting}
use Rattle.sim_vehicle.specs.declared.settings.CraftSettings.{CraftSettings}
use Rattle.sim_vehicle.specs.Settings.{default_settings, is_allowed, set_to, setting_named}

-- the setting becomes this number, which must be in its range
abbrev pub set_checked : CraftSettings → CraftSetting → Option ℤ → Result CraftSettings Cause
set_checked settings setting None = Err V2
set_checked settings setting (Some number) = if is_allowed setting number then Ok (set_to settings setting number) else Err V2

-- the setting that a line names becomes this number; a line that names none is refused
abbrev pub set_by_name : CraftSettings → Option CraftSetting → Option ℤ → Result CraftSettings Cause
set_by_name settings None number = Err V1
set_by_name settings (Some setting) number = set_checked settings setting number

-- what `name = value` sets: of several lines with one name the last one counts, since each sets the number anew
abbrev pub set_by_sides : CraftSettings → Option Sides → Result CraftSettings Cause
set_by_sides settings None = Err V1
set_by_sides settings (Some set) = set_by_name settings (setting_named set.name) (milli_of set.value)

-- the settings after a line that says something
abbrev pub set_by_statement : CraftSettings → Statement → Result CraftSettings Cause
set_by_statement settings said = set_by_sides settings (sides_of said.text)

-- What the bytes of a vehicle file stand for: line by line they change the defaults. Lines are counted from 1.
abbrev pub vehicle_of : List ℕ → Result CraftSettings ReadFault
vehicle_of bytes = made_of_all V1 set_by_statement default_settings (statements_of bytes)

-- a line by its number and what it says, which is nothing if it is blank; for the reader alone
abbrev pub set_by_text : ℕ → CraftSettings → List ℕ → Result CraftSettings ReadFault
set_by_text line settings [] = Ok settings
set_by_text line settings (byte ∷ bytes) = made_of V1 set_by_statement settings (record { line = line; text = byte ∷ bytes })
