-- What a run of a generated mission leaves. This serves `generate_job` alone.
use Rattle.std.specs.Prelude.{◌≡◌, ℕ, Some, Ok, List, IsTrue}
use Rattle.helm_core.specs.Helms.{plan_of}
use Rattle.helm_core.specs.Plans.{plan_made}
use Rattle.mission_maker.specs.Generated.{generated_script}
use Rattle.mission_maker.specs.Stamps.{rise_within}
use Rattle.mission_maker.specs.Survey.{generated_behaviors, generated_mission}
use Rattle.moos_play.specs.declared.run.HelmRun.{HelmRun}
use Rattle.moos_play.specs.Lawful.{MayStart, names_with}
use Rattle.moos_post.specs.History.{History}
use Rattle.moos_jobs.specs.Jobs.{IsLawfulWith, iterations_on}
use Rattle.moos_jobs.specs.declared.helm_files.HelmFiles.{HelmFiles}
use Rattle.moos_jobs.specs.declared.counts.IterationCounts.{IterationCounts}
use Rattle.moos_jobs.specs.Loading.{AreValidFiles}
use Rattle.moos_jobs.specs.Summary.{iterations_counted}
use Rattle.script_reader.specs.declared.script.Order.TheVariants.{Stamp}

-- the survey's helm before its first tick
pub record IsSurvey (run : HelmRun) : Type 0 where
  pub files : HelmFiles
  pub mission : generated_mission ≡ Ok files.mission
  pub behaviors : generated_behaviors ≡ Ok files.file
  pub plan : plan_of run.helm ≡ plan_made files.mission files.file
  pub period : run.period ≡ files.mission.period
  pub valid : AreValidFiles files
  pub start : MayStart run

-- the clients' names, a lawful history of the mission with this number, and what is counted of the helm's iterations in it
pub record WasGenerated (number : ℕ) (names : List (List ℕ)) (history : History) (counted : IterationCounts) : Type 0 where
  pub files : HelmFiles
  pub mission : generated_mission ≡ Ok files.mission
  pub behaviors : generated_behaviors ≡ Ok files.file
  pub valid : AreValidFiles files
  pub rises : IsTrue (rise_within 0 600000 (generated_script number).lines)
  pub named : names ≡ names_with (generated_script number) (Some files)
  pub lawful : IsLawfulWith Stamp (generated_script number) (Some files) history
  pub iterations : counted ≡ iterations_counted (iterations_on (generated_script number) (Some files) history)
