-- What the shared word holds, and what a scout knows of it.
use Rattle.std.specs.Prelude.{◌≡◌, ℕ, ◌≤◌, ◌⊎◌, max, [], ◌∷◌, Some, None}
use mathlib.Core.Option.{some}
use lib.ListN.{get_elem?}
use Rattle.atomic_table.specs.Table.{Me, State, Step}
use Rattle.ivp_problem.specs.Problems.{WeightedSum}
use Rattle.ivp_problem.specs.Found.{IsKnownSum}
use Rattle.best_word.specs.declared.best.View.{View}

-- a scout that isn't spent is one of the problem, and knows no more than the word
abbrev pub IsScoutOf : WeightedSum → ℕ → View → Type 0
IsScoutOf problem word v = (v.about ≡ None) ⊎ ((v.about ≡ Some problem) × (v.low ≤ word))

-- the rule of the word
pub record WordRule (problem : WeightedSum) (s : State (Unit {0}) View) : Type 0 where
  pub word : ℕ
  pub words : s.words ≡ word ∷ []
  pub known : IsKnownSum problem word
  pub each : (seat : ℕ) (v : View) → get_elem? s.views seat ≡ some v → IsScoutOf problem word v

-- the first scout, which knows nothing yet
abbrev pub first_scout : WeightedSum → View
first_scout problem = record { about = Some problem; low = 0 }

-- the word was looked at: what it held becomes the scout's
abbrev pub Looks : Step (Unit {0}) → Me (Unit {0}) View → ℕ → Me (Unit {0}) View → Type 0
Looks step me found after =
    (problem : WeightedSum) → me.0.about ≡ Some problem → (after ≡ (record me.0 { low = found }, me.1)) × (me.0.low ≤ found) × IsKnownSum problem found

-- a sum was offered: the greater of it and of what the word held becomes the scout's
abbrev pub Raises : Step (Unit {0}) → Me (Unit {0}) View → ℕ → Me (Unit {0}) View → Type 0
Raises step me found after =
    (problem : WeightedSum) → me.0.about ≡ Some problem → (after ≡ (record me.0 { low = max found step.first }, me.1)) × (me.0.low ≤ found) × IsKnownSum problem found

-- a scout that took another one in
abbrev pub joined_scout : View → View → View
joined_scout v w = record v { low = max v.low w.low }

-- what is left of a scout that was taken in
abbrev pub spent_scout : View
spent_scout = record { about = None; low = 0 }
