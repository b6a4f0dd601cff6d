-- The mission and the behaviours of a generated mission: those of the alpha survey.
use Rattle.std.specs.Prelude.{ℕ, List, Result, Ok}
use Rattle.bhv_file.specs.declared.file.BhvFile.{BhvFile}
use Rattle.bhv_reader.specs.Behaviors.{behaviors_of}
use Rattle.mission_reader.specs.declared.mission.Mission.{Mission}
use Rattle.mission_reader.specs.Missions.{mission_of}
use Rattle.moos_text.specs.declared.cause.ReadFault.{ReadFault}
use Rattle.moos_text.specs.Refusals.{and_then}
use Rattle.mission_maker.specs.declared.survey.TheConstants.{SURVEY_BEHAVIORS, SURVEY_MISSION}

-- the mission with two ticks a second
abbrev pub with_two_ticks : Mission → Result Mission ReadFault
with_two_ticks mission = Ok (record mission { period = 500 })

-- the survey's mission, with two ticks a second
unfoldable pub generated_mission : Result Mission ReadFault
generated_mission = and_then with_two_ticks (mission_of SURVEY_MISSION.now)

-- what the bytes of a behaviour file stand for over a mission's domain
abbrev pub behaviors_over : List ℕ → Mission → Result BhvFile ReadFault
behaviors_over bytes mission = behaviors_of mission.domain bytes

-- the survey's behaviours, over that mission's domain
unfoldable pub generated_behaviors : Result BhvFile ReadFault
generated_behaviors = and_then (behaviors_over SURVEY_BEHAVIORS.now) generated_mission
