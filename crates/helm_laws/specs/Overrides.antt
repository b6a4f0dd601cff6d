-- The manual override: from which iteration on it holds, and what it forbids.
use Rattle.std.specs.Prelude.{◌≡◌, ℕ, suc, ◌<◌, ◌≤◌, pos, true, not, List, [], ◌∷◌, ◌++◌, codes, Some, None}
use Rattle.moos_post.specs.declared.value.Value.{Value}
use Rattle.helm_core.specs.Iterations.{iteration_at}
use Rattle.helm_core.specs.PastIterations.{past_iteration_at}
use Rattle.helm_core.specs.Plans.{Plan}
use Rattle.helm_core.specs.Posts.{mode_post, number_pair}
use Rattle.helm_core.specs.Ticks.{Tick, heard_at, is_false, latest_override}
use Rattle.helm_laws.specs.Said.{DecidesNothing}

-- Before the first override the helm is parked.
abbrev pub ParkedBeforeOverride : Plan → Type 0
ParkedBeforeOverride plan = (ticks : List Tick) (i : ℕ) → ((j : ℕ) → j ≤ i → latest_override (heard_at ticks j) ≡ None) → (iteration_at plan ticks i).parked ≡ true

-- no mail of the iterations behind one, up to another, has an override
abbrev pub NoOverrideBetween : List Tick → ℕ → ℕ → Type 0
NoOverrideBetween ticks from to = (j : ℕ) → from < j → j ≤ to → latest_override (heard_at ticks j) ≡ None

-- An iteration hears this override, the last one of its mail: in that very iteration, and up to the next one that hears another, the
-- helm is parked, unless it is the text `false`; then the helm drives.
abbrev pub HoldsFromOverride : Plan → Type 0
HoldsFromOverride plan = (ticks : List Tick) (from i : ℕ) (override : Value) → latest_override (heard_at ticks from) ≡ Some override → from ≤ i → NoOverrideBetween ticks from i
    → (iteration_at plan ticks i).parked ≡ not (is_false override)

-- While the helm is parked nothing is decided, and the speed 0 is all that is desired.
abbrev pub ParkedDecideNothing : Plan → Type 0
ParkedDecideNothing plan = (ticks : List Tick) (i : ℕ) → (iteration_at plan ticks i).parked ≡ true → DecidesNothing plan ticks i

-- From the second parked iteration in a row on, the mode, if it changed, and the speed 0 are all that is posted. So only the first one
-- raises flags.
abbrev pub SilentWhileParked : Plan → Type 0
SilentWhileParked plan = (ticks : List Tick) (i : ℕ) → (iteration_at plan ticks i).parked ≡ true → (iteration_at plan ticks (suc i)).parked ≡ true
    → (iteration_at plan ticks (suc i)).posts ≡ mode_post plan (Some (past_iteration_at plan ticks i)) (past_iteration_at plan ticks (suc i)) ++ number_pair (codes "DESIRED_SPEED") (pos 0) ∷ []
