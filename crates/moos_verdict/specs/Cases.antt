-- What a text is judged by: a script in an order, with a helm or without one, and what a report tells of the helm's files. And which
-- texts are reports then.
use Rattle.std.specs.Prelude.{◌≡◌, ℕ, List, ◌++◌, Option}
use Rattle.moos_post.specs.History.{History}
use Rattle.helm_core.specs.declared.iteration.Iteration.{Iteration}
use Rattle.helm_core.specs.Ticks.{Tick}
use Rattle.moos_lawful.specs.Schedules.{Schedule}
use Rattle.moos_play.specs.Lawful.{HelmSetup, heard_of, helm_number, IsLawful, iterations, names_with}
use Rattle.moos_play.specs.Schedules.{schedule_with}
use Rattle.moos_report.specs.declared.setup.Setup.{Setup}
use Rattle.moos_report.specs.Report.{report_text}
use Rattle.script_reader.specs.declared.script.Order.{Order}
use Rattle.script_reader.specs.declared.script.Script.{Script}

-- a script in an order, the helm if there is one, and what a report tells of its files
pub record Case : Type 0 where
  pub order : Order
  pub script : Script
  pub helm : Option HelmSetup
  pub setup : Setup

-- the names of its clients
abbrev pub case_names : Case → List (List ℕ)
case_names case = names_with case.script case.helm

-- its schedule
abbrev pub case_schedule : Case → Schedule Tick
case_schedule case = schedule_with case.order case.script case.helm (case_names case)

-- a history that is lawful in it
abbrev pub IsLawfulIn : Case → History → Type 0
IsLawfulIn case history = IsLawful case.order case.script case.helm (case_names case) history

-- the iterations that the helm's own mails in a history come to
abbrev pub case_iterations : Case → History → List Iteration
case_iterations case history = iterations case.helm case.script.stop (heard_of (case_names case) (helm_number case.script) history)

-- the report of a history
abbrev pub case_report : Case → History → List ℕ
case_report case history = report_text case.setup (case_names case) history (case_iterations case history)

-- the text is the report of a lawful history
pub record IsReportIn (case : Case) (text : List ℕ) : Type 0 where
  pub history : History
  pub lawful : IsLawfulIn case history
  pub printed : text ≡ case_report case history

-- the text is how the report of a lawful history begins
pub record BeginsReportIn (case : Case) (text : List ℕ) : Type 0 where
  pub rest : List ℕ
  pub whole : IsReportIn case (text ++ rest)
