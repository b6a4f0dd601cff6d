-- What the helm keeps, and what an iteration comes to by it: this serves `tick` alone.
use Rattle.std.specs.Prelude.{◌≡◌, ◌≤◌, ℕ, Bool, length, not, if◌then◌else◌, List, [], ◌++◌, fold, map, codes, Option, Some, option_map}
use Rattle.std.specs.List.{All, AllZip, filter, list_any}
use Rattle.moos_post.specs.declared.value.Pair.{Pair}
use Rattle.ivp_domain.specs.declared.axis.Axis.{Axis}
use Rattle.bhv_file.specs.declared.file.Block.{Block}
use Rattle.helm_cond.specs.Learnt.{Knowledge, known_with}
use Rattle.helm_core.specs.declared.allstop.Allstop.{Allstop}
use Rattle.helm_core.specs.declared.behavior.Behavior.{Behavior}
use Rattle.helm_core.specs.declared.helm.Helm.{Helm}
use Rattle.helm_core.specs.declared.iteration.Iteration.{Iteration}
use Rattle.helm_core.specs.declared.iteration.Update.{Update}
use Rattle.helm_core.specs.declared.helm_view.HelmView.{HelmView}
use Rattle.helm_core.specs.declared.showing.TurnShown.{TurnShown}
use Rattle.helm_core.specs.declared.turned.TurnsEnded.{TurnsEnded}
use Rattle.helm_core.specs.Ticks.{Seen, is_false, is_override}
use Rattle.helm_core.specs.Behaviors.{TurnSoFar, BhvSoFar, all_begun, has_fault, showing_of, bhv_after}
use Rattle.helm_core.specs.Lists.{stays}
use Rattle.helm_core.specs.Templates.{Spawning, spawned}
use Rattle.helm_core.specs.Decisions.{decision_made}
use Rattle.helm_core.specs.Posts.{allstop_by, are_declared_modes, changed, desired_posts, flags_raised, state_word}
use Rattle.helm_core.specs.Iterations.{all_faults, all_states, all_updates}
use Rattle.helm_core.specs.Standings.{AreFew, BehaviorListState, IsBehaviorListOf, IsFit, IsFitKept, IsKept, SeesView}
use Rattle.helm_core.specs.Helms.{allstop_text}

-- what is known once these pairs were learnt too
abbrev pub known_after : Knowledge → List Pair → Knowledge
known_after known learnt = fold (λ so_far pair. known_with so_far pair.var pair.value) known learnt

-- whether the helm is parked once this pair was learnt too
abbrev pub parked_with : Bool → Pair → Bool
parked_with parked pair = if is_override pair.var then not (is_false pair.value) else parked

-- whether it is once these were
abbrev pub parked_after : Bool → List Pair → Bool
parked_after parked learnt = fold parked_with parked learnt

-- a text of the last iteration, if there was one
abbrev pub said_before : Helm → List ℕ → Option (List ℕ)
said_before helm text = option_map (λ allstop. text) helm.allstop

-- what the helm posts at this view before the numbers that are decided on
abbrev pub first_posts : Helm → HelmView → List TurnShown → List Pair
first_posts helm now showings =
    changed (codes "IVPHELM_STATE") (said_before helm (state_word helm.helm_view.parked)) (state_word now.parked)
    ++ (if are_declared_modes helm.modes then changed (codes "MODE") (said_before helm helm.helm_view.mode) now.mode else [])
    ++ flags_raised showings

-- what a helm posts, if an iteration says this of the behaviours
abbrev pub posts_by : Helm → HelmView → List TurnShown → List Pair
posts_by helm now showings =
    changed (codes "IVPHELM_STATE") (said_before helm (state_word helm.helm_view.parked)) (state_word now.parked)
    ++ (if are_declared_modes helm.modes then changed (codes "MODE") (said_before helm helm.helm_view.mode) now.mode else [])
    ++ flags_raised showings
    ++ desired_posts helm.behavior_list.axes now.parked showings
    ++ changed (codes "IVPHELM_ALLSTOP") (option_map allstop_text helm.allstop) (allstop_by helm.behavior_list.axes now.parked showings)

-- what is kept of the behaviours that stay, and what an iteration says of all, is what these turns came to, by whether there was a
-- fault
pub record IsTurnedWith (blocks : List Block) (fault : Bool) (seen : Seen) (begun : List TurnSoFar) (turned : TurnsEnded) : Type 0 where
  pub kept : AllZip (IsKept blocks seen.stamp) (filter stays (map (bhv_after seen fault) begun)) turned.kept.items
  pub showings : turned.showings.items ≡ map (showing_of seen fault) begun

-- what is kept and said at the end of an iteration is what these turns came to
abbrev pub IsTurned : List Block → Seen → List TurnSoFar → TurnsEnded → Type 0
IsTurned blocks seen begun turned = IsTurnedWith blocks (list_any has_fault begun) seen begun turned

-- the answers to the letters of an iteration to templates, and then the turns of the list that these make
pub record IsHeardAndTurned (axes : List Axis) (blocks : List Block) (seen : Seen) (spawning : Spawning) (answers : List Update) (turned : TurnsEnded) : Type 0 where
  pub told : answers ≡ spawning.answers
  pub ended : IsTurned blocks seen (all_begun axes seen spawning.ones) turned

-- turns at this view: of whichever behaviours the list stood for, these are the turns in an iteration that sees this
abbrev pub HasTurned : BehaviorListState → ℕ → List Pair → HelmView → TurnsEnded → Type 0
HasTurned behavior_list stamp letters now turned =
    (clock : ℕ) (seen : Seen) (ones : List BhvSoFar) → clock ≤ stamp → SeesView seen stamp letters now → IsBehaviorListOf clock ones behavior_list
    → IsTurned behavior_list.blocks seen (all_begun behavior_list.axes seen ones) turned

-- and with the answers to letters to templates before them, in an iteration of whichever number
abbrev pub HasHeardAndTurned : BehaviorListState → ℕ → List Pair → HelmView → List Update → TurnsEnded → Type 0
HasHeardAndTurned behavior_list stamp letters now answers turned =
    (clock at : ℕ) (seen : Seen) (ones : List BhvSoFar) → clock ≤ stamp → SeesView seen stamp letters now → IsBehaviorListOf clock ones behavior_list
    → IsHeardAndTurned behavior_list.axes behavior_list.blocks seen (spawned behavior_list.axes behavior_list.blocks at letters ones) answers turned

-- what holds of `count` turns over these axes
pub record AreFit (axes : List Axis) (blocks : List Block) (count : ℕ) (turned : TurnsEnded) : Type 0 where
  pub few : length turned.kept.items ≤ count
  pub kept : All (IsFitKept axes blocks) turned.kept.items
  pub showings : length turned.showings.items ≡ count
  pub fit : All (IsFit axes) turned.showings.items

-- what holds of the turns of at most 64 behaviours and templates over these axes
pub record AreFewFit (axes : List Axis) (blocks : List Block) (turned : TurnsEnded) : Type 0 where
  pub count : ℕ
  pub few : AreFew blocks count
  pub fit : AreFit axes blocks count turned

-- the iteration at this view, if these are the answers to letters to templates and it says this of the behaviours
abbrev pub iteration_by : Helm → ℕ → HelmView → List Update → List TurnShown → Iteration
iteration_by helm stamp now answers showings = record {
  stamp = stamp;
  parked = now.parked;
  mode = now.mode;
  updates = all_updates helm.behavior_list.blocks answers showings;
  states = all_states showings;
  faults = all_faults showings;
  decision = decision_made helm.behavior_list.axes showings;
  posts = posts_by helm now showings;
}

-- the iteration, what is kept of the behaviours, and why the vehicle has to stop are what turns at this view came to
pub record IsIterationOfTurns (helm : Helm) (stamp : ℕ) (letters : List Pair) (now : HelmView) (iteration : Iteration) (kept : List Behavior) (allstop : Allstop) : Type 0 where
  pub answers : List Update
  pub turned : TurnsEnded
  pub ended : HasHeardAndTurned helm.behavior_list stamp letters now answers turned
  pub is : iteration ≡ iteration_by helm stamp now answers turned.showings.items
  pub keeps : kept ≡ turned.kept.items
  pub stops : allstop_text allstop ≡ allstop_by helm.behavior_list.axes now.parked turned.showings.items

-- the helm after it
abbrev pub helm_after : Helm → ℕ → HelmView → List Behavior → Allstop → Helm
helm_after helm stamp now kept allstop = record helm {
  behavior_list = record helm.behavior_list { kept = kept };
  helm_view = now;
  allstop = Some allstop;
  clock = stamp;
}
