-- Of which plans a law holds.
use Rattle.std.specs.Prelude.{IsTrue}
use Rattle.bhv_file.specs.declared.file.BhvFile.{BhvFile}
use Rattle.bhv_file.specs.Validity.{IsValidFile, serves}
use Rattle.mission_reader.specs.declared.mission.Mission.{Mission}
use Rattle.mission_reader.specs.Validity.{IsValidMission}
use Rattle.helm_core.specs.Plans.{Plan, plan_made}

-- This holds of the helm of every plan.
abbrev pub OfEveryPlan : (Plan → Type 0) → Type 0
OfEveryPlan Holds = (plan : Plan) → Holds plan

-- This holds of the helm of a valid mission and a valid behaviour file whose types the mission's domain serves.
abbrev pub OfValidFiles : (Plan → Type 0) → Type 0
OfValidFiles Holds = (mission : Mission) (file : BhvFile) → IsValidMission mission → IsValidFile file → IsTrue (serves mission.domain file.blocks) → Holds (plan_made mission file)
