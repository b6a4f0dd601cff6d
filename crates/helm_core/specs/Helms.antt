-- How a helm stands for the ticks that it has heard, and what one more tick does to it.
use Rattle.std.specs.Prelude.{◌≡◌, ℕ, List, [], ◌∷◌, ◌++◌, length, codes, option_map}
use Rattle.moos_post.specs.declared.value.Pair.{Pair}
use Rattle.moos_db.specs.declared.mail.Letter.{Letter}
use Rattle.helm_cond.specs.Infos.{knowledge_of}
use Rattle.helm_cond.specs.Learnt.{latest_of}
use Rattle.bhv_file.specs.declared.decl.Decl.{Decl}
use Rattle.mode_tree.specs.Modes.{mode_text}
use Rattle.helm_core.specs.declared.allstop.Allstop.{Allstop}
use Rattle.helm_core.specs.declared.allstop.Allstop.TheVariants.{BehaviorError, Clear, ManualOverride, MissingDecVars, NothingToDo}
use Rattle.helm_core.specs.declared.helm.Helm.{Helm}
use Rattle.helm_core.specs.declared.iteration.Iteration.{Iteration}
use Rattle.helm_core.specs.declared.helm_view.HelmView.{HelmView}
use Rattle.helm_core.specs.Plans.{Plan}
use Rattle.helm_core.specs.Ticks.{Tick, heard_in_all, is_parked, pairs_mailed, stamp_of_last, tick_of}
use Rattle.helm_core.specs.PastIterations.{past_iteration_before}
use Rattle.helm_core.specs.Posts.{allstop_of}
use Rattle.helm_core.specs.Iterations.{iteration_at}
use Rattle.helm_core.specs.Lists.{list_before}
use Rattle.helm_core.specs.Standings.{IsBehaviorListOf}

-- what the helm was made of
abbrev pub plan_of : Helm → Plan
plan_of helm = record { axes = helm.behavior_list.axes; opening = helm.opening; decls = helm.modes; blocks = helm.behavior_list.blocks }

-- the stamp of its last tick, 0 before the first
abbrev pub clock_of : Helm → ℕ
clock_of helm = helm.clock

-- the text of a reason to stop, or of none
abbrev pub allstop_text : Allstop → List ℕ
allstop_text ManualOverride = codes "ManualOverride"
allstop_text BehaviorError = codes "BehaviorError"
allstop_text NothingToDo = codes "NothingToDo"
allstop_text MissingDecVars = codes "MissingDecVars"
allstop_text Clear = codes "clear"

-- what is kept of all letters so far: what is known of them, whether they leave the helm parked, and the mode that they give
pub record IsHelmView (decls : List Decl) (learnt : List Pair) (helm_view : HelmView) : Type 0 where
  pub known : knowledge_of helm_view.info ≡ latest_of learnt
  pub parked : helm_view.parked ≡ is_parked learnt
  pub mode : helm_view.mode ≡ mode_text decls (latest_of learnt)

-- of whichever letters the old view was kept, the new one is kept of these with those of this mail behind
abbrev pub HasLearnt : List Decl → List Letter → HelmView → HelmView → Type 0
HasLearnt decls mail old new = (learnt : List Pair) → IsHelmView decls learnt old → IsHelmView decls (learnt ++ pairs_mailed mail) new

-- The helm stands for the ticks that it has heard: it keeps the last one's stamp, what all their letters come to, what has
-- become of its behaviours, and why the vehicle had to stop in the last iteration.
pub record StandsFor (helm : Helm) (ticks : List Tick) : Type 0 where
  pub clock : clock_of helm ≡ stamp_of_last ticks
  pub helm_view : IsHelmView helm.modes (heard_in_all ticks) helm.helm_view
  pub behavior_list : IsBehaviorListOf (clock_of helm) (list_before (plan_of helm) ticks (length ticks)) helm.behavior_list
  pub allstop : option_map allstop_text helm.allstop ≡ option_map (allstop_of (plan_of helm)) (past_iteration_before (plan_of helm) ticks (length ticks))

-- The helm has heard one more tick: of whichever ticks it stood for, it stands for them with this one behind, and the answer is
-- the iteration there.
pub record IsTicked (old new : Helm) (stamp : ℕ) (mail : List Letter) (iteration : Iteration) : Type 0 where
  pub plan : plan_of new ≡ plan_of old
  pub clock : clock_of new ≡ stamp
  pub stands : (ticks : List Tick) → StandsFor old ticks → StandsFor new (ticks ++ tick_of stamp mail ∷ [])
  pub is : (ticks : List Tick) → StandsFor old ticks → iteration ≡ iteration_at (plan_of old) (ticks ++ tick_of stamp mail ∷ []) (length ticks)
