-- A report that is written while its history grows.
use Rattle.std.specs.Prelude.{◌≡◌, ℕ, ◌+◌, ◌<◌, ◌≤◌, IsTrue, List, [], ◌∷◌, ◌++◌, length}
use Rattle.moos_post.specs.History.{History}
use Rattle.helm_core.specs.declared.iteration.Iteration.{Iteration}
use Rattle.moos_report.specs.declared.setup.Setup.{Setup}
use Rattle.moos_report.specs.IterationLines.{fetches_first, helm_fetches, is_helm_post}
use Rattle.moos_report.specs.Report.{end_text, entries_text, head_text, report_text}

-- what is printed of a history and its iterations so far: how the report begins, and the entries
abbrev pub front_text : Setup → List (List ℕ) → History → List Iteration → List ℕ
front_text setup names history iterations = head_text setup names ++ entries_text setup 0 iterations names [] history

-- an iteration whose Post entry is here has one of the numbers from `first` up to `limit`; the opening is part of none
abbrev pub EndsWithin : List (List ℕ) → History → ℕ → ℕ → History → Type 0
EndsWithin names past first limit [] = Unit {0}
EndsWithin names past first limit (entry ∷ later) =
    (IsTrue (is_helm_post names entry) → 0 < helm_fetches names past → (first < helm_fetches names past) × (helm_fetches names past ≤ limit))
    × EndsWithin names (past ++ entry ∷ []) first limit later

-- The first of `many` iterations, which end in this part, has the number `first`: if the helm fetches here before it posts, it
-- has fetched `first` times before. If it posts first, that ends the iteration whose fetch is before, or is the opening: what is
-- before tells which, and nothing is asked of `first`. Nor is it if no iteration is given.
abbrev pub BeginsWith : List (List ℕ) → History → ℕ → ℕ → History → Type 0
BeginsWith names past first many part = 0 < many → IsTrue (fetches_first names part) → helm_fetches names past ≡ first

-- Wherever a history is cut, what is printed up to there and the part behind are what is printed of both, if each has the
-- iterations whose Post entries are in it.
abbrev pub PartsAddUp : Type 0
PartsAddUp =
    (setup : Setup) (names : List (List ℕ)) (history part : History) (before iterations : List Iteration)
    → EndsWithin names [] 0 (length before) history → EndsWithin names history (length before) (length before + length iterations) part
    → front_text setup names history before ++ entries_text setup (length before) iterations names history part ≡ front_text setup names (history ++ part) (before ++ iterations)

-- However a history goes on, and with whatever iterations, its report begins with what was printed so far; the other entries and
-- the end follow.
abbrev pub FrontsStay : Type 0
FrontsStay =
    (setup : Setup) (names : List (List ℕ)) (history rest : History) (before more : List Iteration) → EndsWithin names [] 0 (length before) history
    → report_text setup names (history ++ rest) (before ++ more)
    ≡ front_text setup names history before ++ (entries_text setup 0 (before ++ more) names history rest ++ end_text (history ++ rest))
