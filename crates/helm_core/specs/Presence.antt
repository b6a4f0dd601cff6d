-- How long a behaviour that a letter made is in the list: from its making until it completes for good.
use Rattle.std.specs.Prelude.{◌≡◌, ◌↔◌, ℕ, ◌<◌, ◌≤◌, ◌⊎◌, false, List, [], ◌∷◌, Some}
use Rattle.bhv_life.specs.Lives.{can_run}
use Rattle.helm_core.specs.Behaviors.{BhvSoFar, Birth, all_after, all_begun, past_so_far}
use Rattle.helm_core.specs.Lists.{list_at}
use Rattle.helm_core.specs.Plans.{Plan}
use Rattle.helm_core.specs.Ticks.{Tick, seen_at}

-- the behaviour that this letter made is one of these
abbrev pub IsThere : Birth → List BhvSoFar → Type 0
IsThere birth [] = ⊥
IsThere birth (one ∷ ones) = (one.born ≡ Some birth) ⊎ IsThere birth ones

-- the behaviour that this letter made is one of these, and has completed for good
abbrev pub HasCompleted : Birth → List BhvSoFar → Type 0
HasCompleted birth [] = ⊥
HasCompleted birth (one ∷ ones) = ((one.born ≡ Some birth) × (can_run one.block.common (past_so_far one) ≡ false)) ⊎ HasCompleted birth ones

-- the behaviours of the list of iteration i, behind its turns
abbrev pub after_at : Plan → List Tick → ℕ → List BhvSoFar
after_at plan ticks i = all_after (seen_at plan.decls ticks i) (all_begun plan.axes (seen_at plan.decls ticks i) (list_at plan ticks i))

-- this letter made a behaviour in iteration i or before, and it hasn't completed for good in an iteration before i
pub record IsMadeAndGoesOn (plan : Plan) (ticks : List Tick) (i : ℕ) (birth : Birth) : Type 0 where
  pub begun : birth.iteration ≤ i
  pub made : IsThere birth (list_at plan ticks birth.iteration)
  pub goes_on : (j : ℕ) → birth.iteration ≤ j → j < i → HasCompleted birth (after_at plan ticks j) → ⊥

-- Of every helm, whatever it hears: the list of an iteration has the behaviour that a letter made exactly from its making until it
-- completes for good.
abbrev pub ThereUntilComplete : Type 0
ThereUntilComplete = (plan : Plan) (ticks : List Tick) (i : ℕ) (birth : Birth) → (IsThere birth (list_at plan ticks i) ↔ IsMadeAndGoesOn plan ticks i birth)
