-- The one lawful history in which the lines of a script stand in the order of its file.
use Rattle.std.specs.Prelude.{◌≡◌, ℕ, zero, suc, ◌*◌, ◌==◌, not, nat_le, nat_lt, IsTrue, IfSome, List, [], ◌∷◌, ◌++◌, filter, Option, None, Some}
use Rattle.helm_core.specs.Ticks.{Tick}
use Rattle.mission_maker.specs.Stamps.{rise_within}
use Rattle.moos_play.specs.Lawful.{HelmSetup, helm_number, IsLawful, mailed_in, opening_of, tick_entries, ticks_to}
use Rattle.moos_post.specs.declared.entry.Entry.{Entry}
use Rattle.moos_post.specs.History.{History}
use Rattle.script_reader.specs.declared.script.Order.TheVariants.{Stamp}
use Rattle.script_reader.specs.declared.script.Script.{Script}
use Rattle.script_reader.specs.Validity.{IsValid}

-- the entries that aren't the helm's
abbrev pub entries_but : ℕ → History → History
entries_but helm history = filter (λ entry. not (entry.client == helm)) history

-- without the helm's entries the history is the script's lines, in the order in which they stand in the file
abbrev pub IsOrdered : Script → History → Type 0
IsOrdered script history = entries_but (helm_number script) history ≡ script.lines

-- the lines up to a stamp
abbrev pub lines_to : ℕ → List Entry → List Entry
lines_to stamp lines = filter (λ line. nat_le line.stamp stamp) lines

-- the lines behind a stamp
abbrev pub lines_behind : ℕ → List Entry → List Entry
lines_behind stamp lines = filter (λ line. nat_lt stamp line.stamp) lines

-- From tick i on, of which `count` are left, behind a past in which this was heard: before each tick the lines up to its stamp, and behind
-- the last one the lines that are left.
abbrev pub ordered_from : List (List ℕ) → HelmSetup → ℕ → ℕ → List Tick → History → List Entry → History
ordered_from names helm i zero heard past lines = lines
ordered_from names helm i (suc count) heard past lines =
    let stamp = i * helm.period in
    let before = lines_to stamp lines in
    let heard' = heard ++ mailed_in names helm.client stamp (past ++ before) ∷ [] in
    let played = before ++ tick_entries helm heard' i in
    played ++ ordered_from names helm (suc i) count heard' (past ++ played) (lines_behind stamp lines)

-- the lines in the order of the file, and each tick of the helm, if there is one, behind the lines of its stamp
abbrev pub ordered_history : Script → Option HelmSetup → List (List ℕ) → History
ordered_history script None names = script.lines
ordered_history script (Some helm) names = opening_of helm ++ ordered_from names helm 0 (ticks_to script.stop helm) [] (opening_of helm) script.lines

-- the helm, if there is one, has the number behind the script's clients
abbrev pub IsHelmOf : Script → Option HelmSetup → Type 0
IsHelmOf script helm = IfSome helm (λ setup. setup.client ≡ helm_number script)

-- that history is lawful and in order
pub record IsLawfulInOrder (script : Script) (helm : Option HelmSetup) (names : List (List ℕ)) : Type 0 where
  pub lawful : IsLawful Stamp script helm names (ordered_history script helm names)
  pub ordered : IsOrdered script (ordered_history script helm names)

-- Every valid script has that history.
abbrev pub EachHasOrdered : Type 0
EachHasOrdered = (script : Script) (helm : Option HelmSetup) (names : List (List ℕ)) → IsValid script → IsHelmOf script helm → IsLawfulInOrder script helm names

-- It has no other one that is lawful in the order of the stamps and in order.
abbrev pub OrderedIsSole : Type 0
OrderedIsSole =
    (script : Script) (helm : Option HelmSetup) (names : List (List ℕ)) (history other : History)
    → IsLawful Stamp script helm names history → IsLawful Stamp script helm names other → IsOrdered script history → IsOrdered script other → other ≡ history

-- If no two lines of a valid script have one stamp, it is the only one that is lawful in the order of the stamps.
abbrev pub RisingIsOrdered : Type 0
RisingIsOrdered =
    (script : Script) (helm : Option HelmSetup) (names : List (List ℕ)) (from to : ℕ) (history : History)
    → IsValid script → IsTrue (rise_within from to script.lines) → IsLawful Stamp script helm names history → history ≡ ordered_history script helm names
