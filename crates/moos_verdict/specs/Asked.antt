-- A report goes on behind what was printed so far with the line of the next entry, whose client it tells.
use Rattle.std.specs.Prelude.{◌≡◌, ℕ, List, [], ◌∷◌, ◌++◌, codes, decimal, length}
use Rattle.std.specs.List.{concat}
use Rattle.moos_post.specs.declared.entry.Entry.{Entry}
use Rattle.moos_post.specs.History.{History, name_of}
use Rattle.moos_text.specs.Numbers.{unsigned_text}
use Rattle.helm_core.specs.declared.iteration.Iteration.{Iteration}
use Rattle.moos_report.specs.declared.setup.Setup.{Setup}
use Rattle.moos_report.specs.Parts.{EndsWithin, front_text}
use Rattle.moos_report.specs.Report.{report_text}

-- an entry's line up to its client's name and the blank behind that
abbrev pub asking_text : List (List ℕ) → ℕ → Entry → List ℕ
asking_text names number entry =
    concat (codes "%% entry " ∷ decimal number ∷ codes " " ∷ unsigned_text entry.stamp ∷ codes " " ∷ name_of names entry.client ∷ codes " " ∷ [])

-- however a history goes on, what its report has behind what was printed so far begins with the line of the next entry
abbrev pub ReportsAsk : Type 0
ReportsAsk =
    (setup : Setup) (names : List (List ℕ)) (history more : History) (entry : Entry) (before iterations : List Iteration) → EndsWithin names [] 0 (length before) history
    → (after : List ℕ) × (report_text setup names (history ++ entry ∷ more) (before ++ iterations) ≡ front_text setup names history before ++ (asking_text names (length history) entry ++ after))
