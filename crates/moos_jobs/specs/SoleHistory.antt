-- When a script leaves just one history.
use Rattle.std.specs.Prelude.{◌≡◌, ℕ, IsTrue, Option, List}
use Rattle.moos_post.specs.History.{History}
use Rattle.script_reader.specs.declared.script.Order.TheVariants.{Stamp}
use Rattle.script_reader.specs.declared.script.Script.{Script}
use Rattle.mission_maker.specs.Stamps.{rise_within}
use Rattle.moos_play.specs.Lawful.{IsLawful, HelmSetup}

-- A script of which no two lines have one stamp leaves one history in the order of the stamps, whatever helm runs beside it.
abbrev pub RisingIsSole : Type 0
RisingIsSole =
    (script : Script) (helm : Option HelmSetup) (names : List (List ℕ)) (from to : ℕ) (history other : History)
    → IsTrue (rise_within from to script.lines) → IsLawful Stamp script helm names history → IsLawful Stamp script helm names other → other ≡ history
