-- The list of the behaviours in each iteration.
use Rattle.std.specs.Prelude.{◌≡◌, ℕ, zero, suc, ◌<◌, ◌⊎◌, Bool, not, ◌&&◌, IsTrue, List, [], ◌∷◌, ◌++◌, map, Option, Some, None, is_some}
use Rattle.std.specs.List.{All, filter}
use Rattle.bhv_file.specs.declared.file.Block.{Block}
use Rattle.bhv_life.specs.Lives.{can_run}
use Rattle.helm_core.specs.declared.showing.TurnShown.{TurnShown}
use Rattle.helm_core.specs.Plans.{Plan, is_template}
use Rattle.helm_core.specs.Ticks.{Tick, seen_at}
use Rattle.helm_core.specs.Behaviors.{BhvSoFar, Birth, all_after, all_begun, all_showings, past_so_far, unstarted}
use Rattle.helm_core.specs.Templates.{Spawning, spawned}

-- the behaviour stays in the list: one that a letter made leaves it once it completed for good
abbrev pub stays : BhvSoFar → Bool
stays one = not (is_some one.born && not (can_run one.block.common (past_so_far one)))

-- the behaviours of the file before the first iteration: its blocks that are no templates
abbrev pub first_list : List Block → List BhvSoFar
first_list blocks = map unstarted (filter (λ block. not (is_template block)) blocks)

-- what the letters of iteration i to templates make of a list
abbrev pub spawned_in : Plan → List Tick → ℕ → List BhvSoFar → Spawning
spawned_in plan ticks i ones = spawned plan.axes plan.blocks i (seen_at plan.decls ticks i).letters ones

-- the behaviours of the list of iteration i that stay in it behind its turns
abbrev pub staying_after : Plan → List Tick → ℕ → List BhvSoFar → List BhvSoFar
staying_after plan ticks i ones = filter stays (all_after (seen_at plan.decls ticks i) (all_begun plan.axes (seen_at plan.decls ticks i) ones))

-- the list before the letters of iteration i are judged
abbrev pub list_before : Plan → List Tick → ℕ → List BhvSoFar
list_before plan ticks zero = first_list plan.blocks
list_before plan ticks (suc i) = staying_after plan ticks i (spawned_in plan ticks i (list_before plan ticks i)).ones

-- what the letters of iteration i to templates make of the list before them
abbrev pub spawned_at : Plan → List Tick → ℕ → Spawning
spawned_at plan ticks i = spawned_in plan ticks i (list_before plan ticks i)

-- The list of iteration i: the behaviours of the file, and then those that letters made up to there, in the order of making,
-- without those of these that completed for good before.
abbrev pub list_at : Plan → List Tick → ℕ → List BhvSoFar
list_at plan ticks i = (spawned_at plan ticks i).ones

-- What iteration i says of the behaviours of its list, in its order.
abbrev pub showings_at : Plan → List Tick → ℕ → List TurnShown
showings_at plan ticks i = all_showings (seen_at plan.decls ticks i) (all_begun plan.axes (seen_at plan.decls ticks i) (list_at plan ticks i))

-- a letter of an earlier iteration, or an earlier one of the same
abbrev pub IsEarlier : Birth → Birth → Type 0
IsEarlier one other = (one.iteration < other.iteration) ⊎ ((one.iteration ≡ other.iteration) × (one.letter < other.letter))

-- made by a letter, and if one was made before by a later one than that
abbrev pub IsBornBehind : Option Birth → Option Birth → Type 0
IsBornBehind before None = ⊥
IsBornBehind None (Some birth) = Unit {0}
IsBornBehind (Some before) (Some birth) = IsEarlier before birth

-- each is made by a later letter than the one before it, and the first by a later one than this; so no letter made two of them
abbrev pub AreMadeBehind : Option Birth → List BhvSoFar → Type 0
AreMadeBehind before [] = Unit {0}
AreMadeBehind before (one ∷ rest) = IsBornBehind before one.born × AreMadeBehind one.born rest

-- a list of behaviours of a plan: the behaviours of the file in its order without its templates, which are always there, and then
-- those that letters made, each by a later one than the one before it; none of these has completed for good
pub record IsListed (plan : Plan) (ones : List BhvSoFar) : Type 0 where
  pub own : List BhvSoFar
  pub made : List BhvSoFar
  pub parts : ones ≡ own ++ made
  pub of_file : map (λ one. one.block) own ≡ filter (λ block. not (is_template block)) plan.blocks
  pub unmade : All (λ one. one.born ≡ None) own
  pub in_order : AreMadeBehind None made
  pub staying : All (λ one. IsTrue (stays one)) made

-- Of every helm, whatever it hears: its list in each iteration is as `IsListed` says.
abbrev pub AlwaysListed : Type 0
AlwaysListed = (plan : Plan) (ticks : List Tick) (i : ℕ) → IsListed plan (list_at plan ticks i)
