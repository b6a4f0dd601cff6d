-- From the run of a generated mission to its summary.
use Rattle.std.proofs.Common.{◌≡◌, ℕ, List, [], ◌++◌, ap, append-nil, sym, ◌∙◌, subst, true, Some}
use Rattle.std.specs.Prelude.{Ok}
use Rattle.helm_core.specs.declared.iteration.Iteration.{Iteration}
use Rattle.helm_core.specs.Helms.{plan_of}
use Rattle.helm_core.specs.Plans.{plan_made}
use Rattle.helm_core.specs.Names.{ValidFilesNameOnce}
use Rattle.helm_core.specs.Worths.{ValidFilesDecideByWorth}
use Rattle.helm_laws.specs.Files.{OfValidFiles}
use Rattle.helm_laws.specs.Reliance.{IsReliable}
use Rattle.mission_maker.specs.Generated.{generated_script}
use Rattle.mission_maker.specs.Stamps.{rise_within}
use Rattle.mission_maker.specs.Survey.{generated_behaviors, generated_mission}
use Rattle.moos_play.specs.declared.run.HelmRun.{HelmRun}
use Rattle.moos_play.specs.Lawful.{IsLawful, heard_of, helm_number, iterations, names_with, helm_setup_with}
use Rattle.moos_play.specs.Plays.{clients_in, helm_in, history_in, IsPlayedOut, iterations_made, order_played, Playing, script_played}
use Rattle.moos_post.specs.History.{History}
use Rattle.moos_jobs.specs.Generating.{WasGenerated}
use Rattle.moos_jobs.specs.Jobs.{IsLawfulWith, IsSummary, iterations_on}
use Rattle.moos_jobs.proofs.PlayRounds.{IsAlone, run_as}
use Rattle.moos_jobs.specs.declared.helm_files.HelmFiles.{HelmFiles}
use Rattle.moos_jobs.specs.HelmFiles.{helm_setup_by}
use Rattle.moos_jobs.specs.declared.counts.IterationCounts.{IterationCounts}
use Rattle.moos_jobs.specs.SoleHistory.{RisingIsSole}
use Rattle.moos_jobs.specs.Loading.{AreValidFiles}
use Rattle.moos_jobs.specs.Summary.{counts_of, counts_text, iterations_counted, summary_text}
use Rattle.script_reader.specs.declared.script.Order.TheVariants.{Stamp}
use Rattle.script_reader.specs.declared.script.Script.{Script}

-- the names of a run with a helm and without further clients
pub names_alone : (script : Script) (run : HelmRun) (further names : List (List ℕ)) → further ≡ [] → names ≡ names_with script (Some run) ++ further → names ≡ names_with script (Some run)
names_alone script run further names none is = is ∙ ap (λ further. names_with script (Some run) ++ further) none ∙ append-nil (names_with script (Some run))

-- what was counted of a run of the script that was made, with a helm of the files that were made
pub was_generated : (number : ℕ) (script : Script) (files : HelmFiles) (run : HelmRun) (names : List (List ℕ)) (history : History) (iterated : List Iteration) (counted : IterationCounts)
    → script ≡ generated_script number → rise_within 0 600000 script.lines ≡ true → generated_mission ≡ Ok files.mission → generated_behaviors ≡ Ok files.file → AreValidFiles files
    → plan_of run.helm ≡ plan_made files.mission files.file → run.period ≡ files.mission.period → names ≡ names_with script (Some run)
    → IsLawful Stamp script (Some (helm_setup_with script run)) names history
    → iterated ≡ iterations (Some (helm_setup_with script run)) script.stop (heard_of names (helm_number script) history) → counted ≡ iterations_counted iterated → WasGenerated number names history counted
was_generated number script files run names history iterated counted is rises mission behaviors valid plan period named lawful made all = record {
  files = files;
  mission = mission;
  behaviors = behaviors;
  valid = valid;
  rises = subst (λ (script : Script). rise_within 0 600000 script.lines ≡ true) is rises;
  named = named ∙ ap (λ (script : Script). names_with script (Some files)) is;
  lawful = subst (λ script. IsLawfulWith Stamp script (Some files) history) is
      (subst (λ helm. IsLawful Stamp script (Some helm) (names_with script (Some files)) history) same (subst (λ names. IsLawful Stamp script (Some (helm_setup_with script run)) names history) named lawful));
  iterations = all
      ∙ ap iterations_counted
      (made
      ∙ ap (λ helm. iterations (Some helm) script.stop (heard_of names (helm_number script) history)) same
      ∙ ap (λ names. iterations (Some (helm_setup_by script files)) script.stop (heard_of names (helm_number script) history)) named
      ∙ ap (λ (script : Script). iterations_on script (Some files) history) is);
}
  where
    same : helm_setup_with script run ≡ helm_setup_by script files
    same = λ i. record { client = helm_number script; plan = plan i; period = period i }

-- the same of a run that was played out and closed
pub was_played_out : (number : ℕ) (script : Script) (files : HelmFiles) (run : HelmRun) (play : Playing) (names : List (List ℕ)) (history : History) (counted : IterationCounts)
    → script ≡ generated_script number → rise_within 0 600000 script.lines ≡ true → generated_mission ≡ Ok files.mission → generated_behaviors ≡ Ok files.file → AreValidFiles files
    → plan_of run.helm ≡ plan_made files.mission files.file → run.period ≡ files.mission.period → order_played play ≡ Stamp → script_played play ≡ script
    → helm_in play ≡ Some (helm_setup_with script run) → clients_in play ≡ names_with script (Some run) → IsPlayedOut play → names ≡ clients_in play → history ≡ history_in play
    → counted ≡ iterations_counted (iterations_made play) → WasGenerated number names history counted
was_played_out number script files run play names history counted is rises mission behaviors valid plan period order played helm named over names_same history_same all =
    subst (λ names. WasGenerated number names history counted) (sym names_same)
    (subst (λ history. WasGenerated number (clients_in play) history counted) (sym history_same)
    (was_generated number script files run (clients_in play) (history_in play) (iterations_made play) counted is rises mission behaviors valid plan period named left.0 left.1 all))
  where
    alone : IsAlone play
    alone = named ∙ (λ i. names_with (sym played i) (sym helm i))

    left : IsLawful Stamp script (Some (helm_setup_with script run)) (clients_in play) (history_in play)
        × (iterations_made play ≡ iterations (Some (helm_setup_with script run)) script.stop (heard_of (clients_in play) (helm_number script) (history_in play)))
    left = run_as
        (λ order script helm. IsLawful order script helm (clients_in play) (history_in play) × (iterations_made play ≡ iterations helm script.stop (heard_of (clients_in play) (helm_number script) (history_in play))))
        order played helm (over.alone alone, over.iterations)

-- its summary is that of the only lawful history
pub summarized : (number : ℕ) (names : List (List ℕ)) (history : History) (counted : IterationCounts) → RisingIsSole → ValidFilesDecideByWorth → ValidFilesNameOnce → OfValidFiles IsReliable → WasGenerated number names history counted
    → IsSummary number (counts_text number (counts_of names history counted))
summarized number names history counted tell worth names_once reliable was = record {
  files = was.files;
  mission = was.mission;
  behaviors = was.behaviors;
  history = history;
  lawful = was.lawful;
  printed = ap (λ counted. counts_text number (counts_of names history counted)) was.iterations
      ∙ ap (λ names. summary_text number names history (iterations_on (generated_script number) (Some was.files) history)) was.named;
  sole = λ other is.
      tell (generated_script number) (Some (helm_setup_by (generated_script number) was.files)) (names_with (generated_script number) (Some was.files)) 0 600000 history other was.rises was.lawful is;
  steers = record {
    worth = worth was.files.mission was.files.file was.valid.mission was.valid.file was.valid.served;
    once = names_once was.files.mission was.files.file was.valid.file;
    reliable = reliable was.files.mission was.files.file was.valid.mission was.valid.file was.valid.served;
  };
}
