-- What is lawful for a script and a helm, and what is lawful for their schedule.
use Rattle.std.specs.Prelude.{◌≡◌, IfSome}
use Rattle.moos_post.specs.History.{History}
use Rattle.moos_lawful.specs.Schedules.{IsLawfulFor}
use Rattle.moos_play.specs.Lawful.{helm_number}
use Rattle.script_reader.specs.Validity.{IsValid}
use Rattle.moos_verdict.specs.Cases.{Case, case_schedule, IsLawfulIn}

-- the script is one that was read, and the helm, if there is one, has the number behind its clients
pub record IsProperCase (case : Case) : Type 0 where
  pub valid : IsValid case.script
  pub number : IfSome case.helm (λ helm. helm.client ≡ helm_number case.script)

-- what is lawful in a case is lawful for its schedule
abbrev pub LawfulIsScheduled : Type 0
LawfulIsScheduled = (case : Case) (history : History) → IsProperCase case → IsLawfulIn case history → IsLawfulFor (case_schedule case) history

-- and the other way round
abbrev pub ScheduledIsLawful : Type 0
ScheduledIsLawful = (case : Case) (history : History) → IsProperCase case → IsLawfulFor (case_schedule case) history → IsLawfulIn case history
