-- The runs of a helm that the laws here are of.
use Rattle.std.specs.Prelude.{◌≡◌, ℕ, ◌≤◌, List, Some}
use Rattle.moos_play.specs.Lawful.{helm_number, HelmSetup, IsLawful, ticks_to}
use Rattle.moos_post.specs.History.{History}
use Rattle.script_reader.specs.declared.script.Order.{Order}
use Rattle.script_reader.specs.declared.script.Script.{Script}

-- A script was played in this order with a helm: these are the clients' names, and this is the history that they left.
pub record IsHelmRun (order : Order) (script : Script) (helm : HelmSetup) (names : List (List ℕ)) (history : History) : Type 0 where
  pub number : helm.client ≡ helm_number script
  pub period : 1 ≤ helm.period
  pub lawful : IsLawful order script (Some helm) names history

-- This holds of a helm in each history that a run with it may leave in this order, with the number of its ticks.
abbrev pub OfEveryRun : Order → (ℕ → HelmSetup → List (List ℕ) → History → Type 0) → Type 0
OfEveryRun order Holds = (script : Script) (helm : HelmSetup) (names : List (List ℕ)) (history : History) → IsHelmRun order script helm names history → Holds (ticks_to script.stop helm) helm names history
