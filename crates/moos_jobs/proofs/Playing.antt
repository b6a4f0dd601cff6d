-- From a lawful history to its report.
use Rattle.std.proofs.Common.{◌≡◌, List, ◌++◌, refl, ap, sym, ◌∙◌, subst, Option, None, Some, ℕ}
use Rattle.std.specs.Prelude.{IfSome, option_map}
use Rattle.moos_post.specs.History.{History}
use Rattle.helm_core.specs.Plans.{plan_made}
use Rattle.helm_core.specs.Ticks.{Tick}
use Rattle.moos_play.specs.Lawful.{IsLawful, heard_of, helm_number, iterations, names_with, HelmSetup}
use Rattle.moos_report.specs.declared.setup.Setup.{Setup}
use Rattle.moos_report.specs.IterationLines.{helm_fetches}
use Rattle.moos_report.specs.Parts.{front_text}
use Rattle.moos_report.specs.Report.{report_text, ReportsTell}
use Rattle.command_line.specs.Turns.{Ready}
use Rattle.moos_jobs.specs.Jobs.{IsLawfulWith, IsPartOutput, IsReport, report_on, outcomes}
use Rattle.moos_jobs.proofs.HelmCommunities.{AreGoodFiles, stand_on_lines}
use Rattle.moos_jobs.specs.declared.helm_files.HelmFiles.{HelmFiles}
use Rattle.moos_jobs.specs.HelmFiles.{setup_of, helm_setup_by}
use Rattle.moos_jobs.specs.declared.task.Task.TheVariants.{Playing}
use Rattle.command_line.specs.declared.status.Status.{Status}
use Rattle.command_line.specs.Endings.{Ended, Sinking}
use Rattle.moos_jobs.specs.PlayTelling.{IsFrontOfLawful, IsOfLawful, TellsLawful}
use Rattle.moos_jobs.proofs.TellingEndings.{ends_told}
use Rattle.moos_jobs.specs.Steering.{SteersWell}
use Rattle.moos_jobs.proofs.PlayedCommunities.{lawful_community}
use Rattle.script_reader.specs.declared.script.Order.{Order}
use Rattle.script_reader.specs.declared.script.Script.{Script}
use Rattle.script_reader.specs.Validity.{IsValid}

-- no other lawful history has the report of one
told_apart : (order : Order) (script : Script) (helm : Option HelmFiles) (history other : History) → ReportsTell → IsValid script → IfSome helm AreGoodFiles
    → IsLawfulWith order script helm history → IsLawfulWith order script helm other → report_on script helm other ≡ report_on script helm history → other ≡ history
told_apart order script helm history other tell valid files lawful is same =
    let names = names_with script helm in
    let setup = setup_of helm in
    let heard : History → List Tick = heard_of names (helm_number script) in
    (tell setup setup names names history other _ _ (lawful_community order script helm history valid files lawful) (lawful_community order script helm other valid files is)
    (stand_on_lines script helm (heard history) files) (stand_on_lines script helm (heard other) files) same).1

-- what a helm of good files decides is decided by worth
steering_of : (helm : Option HelmFiles) → IfSome helm AreGoodFiles → IfSome helm (λ files. SteersWell (plan_made files.mission files.file))
steering_of None good = tt
steering_of (Some files) good = good.steers

reported_as : (order : Order) (script : Script) (helm : Option HelmFiles) (text : List ℕ) (history : History) → ReportsTell → IsValid script → IfSome helm AreGoodFiles
    → IsLawfulWith order script helm history → text ≡ report_on script helm history → IsReport order script helm text
reported_as order script helm text history tell valid files lawful printed = record {
  history = history;
  lawful = lawful;
  printed = printed;
  listed = λ other is also. told_apart order script helm history other tell valid files lawful is (sym also ∙ printed);
  steers = steering_of helm files;
}

-- what was told of a run, with a helm of these files or without one, is what its job may write
module _ (order : Order) (script : Script) (files : Option HelmFiles) (helm : Option HelmSetup) (setup : Setup) (tell : ReportsTell) (valid : IsValid script) (good : IfSome files AreGoodFiles)
    (steered : helm ≡ option_map (helm_setup_by script) files) (told : setup ≡ setup_of files) where
  same_names : (files : Option HelmFiles) → names_with script (option_map (helm_setup_by script) files) ≡ names_with script files
  same_names None = refl
  same_names (Some files) = refl

  output_as : (text : List ℕ) → IsOfLawful order script helm setup text → IsReport order script files text
  output_as text is = of (subst (λ helm. IsOfLawful order script helm setup text) steered is)
    where
      of : IsOfLawful order script (option_map (helm_setup_by script) files) setup text → IsReport order script files text
      of is = reported_as order script files text is.history tell valid good
          (subst (λ names. IsLawful order script (option_map (helm_setup_by script) files) names is.history) (same_names files) is.lawful)
          (is.printed ∙ (λ i. report_text (told i) (same_names files i) is.history (iterations (option_map (helm_setup_by script) files) script.stop (heard_of (same_names files i) (helm_number script) is.history))))

  part_as : (text : List ℕ) → IsFrontOfLawful order script helm setup text → IsPartOutput (Playing order script files) text
  part_as text is = of (subst (λ helm. IsFrontOfLawful order script helm setup text) steered is)
    where
      of : IsFrontOfLawful order script (option_map (helm_setup_by script) files) setup text → IsPartOutput (Playing order script files) text
      of is = record {
        front = is.front;
        rest = is.rest;
        may = subst (λ names. IsLawful order script (option_map (helm_setup_by script) files) names (is.front ++ is.rest)) (same_names files) is.may;
        made = is.made;
        more = is.more;
        iterations = ap (λ names. iterations (option_map (helm_setup_by script) files) script.stop (heard_of names (helm_number script) (is.front ++ is.rest))) (sym (same_names files)) ∙ is.iterations;
        fetched = ap (λ names. helm_fetches names is.front) (sym (same_names files)) ∙ is.fetched;
        printed = is.printed ∙ (λ i. front_text (told i) (same_names files i) is.front is.made);
      }

  pub told_ended : (sink : Sinking) (status : Status) → TellsLawful order script helm setup sink status → Ended outcomes (Ready (Playing order script files)) sink status
  told_ended sink status tells = ends_told outcomes (Playing order script files) (IsOfLawful order script helm setup) (IsFrontOfLawful order script helm setup) output_as part_as sink status tells
