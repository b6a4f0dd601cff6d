-- What the helm posts in an iteration.
use Rattle.std.specs.Prelude.{ℕ, ℤ, pos, Bool, true, false, not, ◌&&◌, ◌||◌, if◌then◌else◌, List, [], ◌∷◌, ◌++◌, codes, bytes_eq, Option, Some, None, option_map, is_some}
use Rattle.std.specs.List.{flat_map, list_any}
use Rattle.moos_post.specs.declared.value.Pair.{Pair}
use Rattle.moos_post.specs.declared.value.Value.TheVariants.{Num, Text}
use Rattle.ivp_domain.specs.declared.axis.Axis.{Axis}
use Rattle.ivp_cert.specs.declared.claim.Decision.{Decision}
use Rattle.bhv_file.specs.declared.decl.Decl.{Decl}
use Rattle.bhv_file.specs.Params.{has_axis}
use Rattle.helm_core.specs.declared.showing.TurnShown.{TurnShown}
use Rattle.helm_core.specs.Decisions.{decision_made, number_on, some_active}
use Rattle.helm_core.specs.Plans.{Plan}
use Rattle.helm_core.specs.Ticks.{Tick}
use Rattle.helm_core.specs.PastIterations.{PastIteration, past_iteration_at, past_iteration_before}

-- the variable is this text
abbrev pub text_pair : List ℕ → List ℕ → Pair
text_pair var text = record { var = var; value = Text text }

-- the variable is this number of thousandths
abbrev pub number_pair : List ℕ → ℤ → Pair
number_pair var number = record { var = var; value = Num number }

-- the state of a helm that is parked or not
abbrev pub state_word : Bool → List ℕ
state_word parked = if parked then codes "PARK" else codes "DRIVE"

-- the helm's state
abbrev pub state_text : PastIteration → List ℕ
state_text now = state_word now.seen.parked

-- an active behaviour's function mentions course
abbrev pub mentions_course : List TurnShown → Bool
mentions_course showings = list_any (λ one. one.active && one.out.course) showings

-- an active behaviour's function mentions speed
abbrev pub mentions_speed : List TurnShown → Bool
mentions_speed showings = list_any (λ one. one.active && one.out.speed) showings

-- an active behaviour's function mentions depth
abbrev pub mentions_depth : List TurnShown → Bool
mentions_depth showings = list_any (λ one. one.active && one.out.depth) showings

-- a behaviour raised a fault
abbrev pub some_fault : List TurnShown → Bool
some_fault showings = list_any (λ one. is_some one.out.fault) showings

-- the domain has course or speed, and no active behaviour's function mentions it
abbrev pub lacks_decision : List Axis → List TurnShown → Bool
lacks_decision axes showings =
    (has_axis axes (codes "course") && not (mentions_course showings)) || (has_axis axes (codes "speed") && not (mentions_speed showings))

-- why the vehicle must stop, or that it need not, by whether the helm is parked and by the behaviours
abbrev pub allstop_by : List Axis → Bool → List TurnShown → List ℕ
allstop_by axes parked showings =
    if parked then codes "ManualOverride" else if some_fault showings then codes "BehaviorError" else if not (some_active showings) then codes "NothingToDo"
    else if lacks_decision axes showings then codes "MissingDecVars" else codes "clear"

-- why the vehicle must stop, or that it need not
abbrev pub allstop_of : Plan → PastIteration → List ℕ
allstop_of plan now = allstop_by plan.axes now.seen.parked now.showings

-- a text is posted unless it is the same as the one before
abbrev pub changed : List ℕ → Option (List ℕ) → List ℕ → List Pair
changed var None now = text_pair var now ∷ []
changed var (Some before) now = if bytes_eq before now then [] else text_pair var now ∷ []

-- a text that each iteration has is posted in the first one, and in a later one unless it is the same as in the one before
abbrev pub on_change : List ℕ → (PastIteration → List ℕ) → Option PastIteration → PastIteration → List Pair
on_change var text before now = changed var (option_map text before) (text now)

-- modes are declared
abbrev pub are_declared_modes : List Decl → Bool
are_declared_modes [] = false
are_declared_modes (decl ∷ decls) = true

-- the mode is posted only if modes are declared
abbrev pub mode_post : Plan → Option PastIteration → PastIteration → List Pair
mode_post plan before now = if are_declared_modes plan.decls then on_change (codes "MODE") (λ past_iteration. past_iteration.seen.mode) before now else []

-- the decided number of an axis, if it is mentioned
abbrev pub desired : List ℕ → List ℕ → Bool → Option Decision → List Pair
desired var name true (Some decision) = number_pair var (number_on decision.problem.axes name decision.claim.point) ∷ []
desired var name true None = []
desired var name false decision = []

-- the speed: 0 if the vehicle must stop, else the decided one if it is mentioned
abbrev pub desired_speed : List ℕ → Bool → Option Decision → List Pair
desired_speed allstop mentioned decision =
    if bytes_eq allstop (codes "clear") then desired (codes "DESIRED_SPEED") (codes "speed") mentioned decision
    else number_pair (codes "DESIRED_SPEED") (pos 0) ∷ []

-- what is decided on: the heading, the speed and the depth
abbrev pub desired_posts : List Axis → Bool → List TurnShown → List Pair
desired_posts axes parked showings =
    desired (codes "DESIRED_HEADING") (codes "course") (mentions_course showings) (decision_made axes showings)
    ++ desired_speed (allstop_by axes parked showings) (mentions_speed showings) (decision_made axes showings)
    ++ desired (codes "DESIRED_DEPTH") (codes "depth") (mentions_depth showings) (decision_made axes showings)

-- the flags that behaviours raise, in the order of the list
abbrev pub flags_raised : List TurnShown → List Pair
flags_raised showings = flat_map (λ one. one.flags) showings

-- what the helm posts in an iteration after this one, in order
abbrev pub posts_made : Plan → Option PastIteration → PastIteration → List Pair
posts_made plan before now =
    on_change (codes "IVPHELM_STATE") state_text before now ++ mode_post plan before now ++ flags_raised now.showings
    ++ desired_posts plan.axes now.seen.parked now.showings ++ on_change (codes "IVPHELM_ALLSTOP") (allstop_of plan) before now

-- What the helm posts in iteration i.
abbrev pub helm_posts : Plan → List Tick → ℕ → List Pair
helm_posts plan ticks i = posts_made plan (past_iteration_before plan ticks i) (past_iteration_at plan ticks i)
