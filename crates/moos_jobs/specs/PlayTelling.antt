-- What may be written of a run, and what may stand of it when no memory is left. This serves `play_telling` alone.
use Rattle.std.specs.Prelude.{◌≡◌, ℕ, List, Option}
use Rattle.moos_play.specs.Lawful.{heard_of, helm_number, IsLawful, iterations, names_with, HelmSetup}
use Rattle.moos_post.specs.History.{History}
use Rattle.moos_report.specs.declared.setup.Setup.{Setup}
use Rattle.moos_report.specs.Report.{report_text}
use Rattle.command_line.specs.declared.status.Status.{Status}
use Rattle.command_line.specs.Endings.{Sinking}
use Rattle.moos_jobs.specs.PrintedFronts.{IsFrontPrinted}
use Rattle.moos_jobs.specs.Telling.{Tells}
use Rattle.script_reader.specs.declared.script.Order.{Order}
use Rattle.script_reader.specs.declared.script.Script.{Script}

-- the text is the report of a lawful history and of the helm's iterations in it
pub record IsOfLawful (order : Order) (script : Script) (helm : Option HelmSetup) (setup : Setup) (text : List ℕ) : Type 0 where
  pub history : History
  pub lawful : IsLawful order script helm (names_with script helm) history
  pub printed : text ≡ report_text setup (names_with script helm) history (iterations helm script.stop (heard_of (names_with script helm) (helm_number script) history))

-- the text is what is printed of a front of a lawful history, and of the helm's iterations in that
abbrev pub IsFrontOfLawful : Order → Script → Option HelmSetup → Setup → List ℕ → Type 0
IsFrontOfLawful order script helm setup text =
    IsFrontPrinted setup (names_with script helm) (IsLawful order script helm (names_with script helm)) (λ history. iterations helm script.stop (heard_of (names_with script helm) (helm_number script) history)) text

-- how a run is told as it comes
abbrev pub TellsLawful : Order → Script → Option HelmSetup → Setup → Sinking → Status → Type 0
TellsLawful order script helm setup sink status = Tells (IsOfLawful order script helm setup) (IsFrontOfLawful order script helm setup) sink status
