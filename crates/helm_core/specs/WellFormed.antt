-- What a helm says in its community: each of its calls is as a call's type lets it be, and whatever an iteration names is
-- on one line.
use Rattle.std.specs.Prelude.{ℕ, IsTrue, IfSome, List, [], ◌∷◌, ◌++◌, map}
use Rattle.std.specs.List.{All, flat_map}
use Rattle.bhv_file.specs.declared.file.BhvFile.{BhvFile}
use Rattle.bhv_file.specs.Validity.{IsValidFile}
use Rattle.mission_reader.specs.declared.mission.Mission.{Mission}
use Rattle.mission_reader.specs.Validity.{HaveAxisNames, IsValidMission}
use Rattle.moos_post.specs.declared.entry.Call.TheVariants.{Register, Post as Posts}
use Rattle.moos_post.specs.Entries.{IsCall}
use Rattle.moos_post.specs.Words.{is_name, is_text}
use Rattle.helm_core.specs.declared.iteration.How.{How}
use Rattle.helm_core.specs.declared.iteration.How.TheVariants.{Changed, Refused, Spawned}
use Rattle.helm_core.specs.declared.iteration.Iteration.{Iteration}
use Rattle.helm_core.specs.declared.iteration.Update.{Update}
use Rattle.helm_core.specs.Iterations.{iteration_at}
use Rattle.helm_core.specs.Plans.{Plan, plan_made, wants_of}
use Rattle.helm_core.specs.Ticks.{Tick}

-- the name of what an update made, if it made one
abbrev pub name_made : How → List (List ℕ)
name_made Refused = []
name_made Changed = []
name_made (Spawned name) = name ∷ []

-- the names in an update
abbrev pub names_in_update : Update → List (List ℕ)
names_in_update update = update.name ∷ name_made update.how

-- the names that an iteration tells: those in its updates, of its behaviours, and in its faults
abbrev pub names_told : Iteration → List (List ℕ)
names_told iteration =
    flat_map names_in_update iteration.updates ++ (map (λ one. one.name) iteration.states ++ map (λ error. error.name) iteration.faults)

-- what an iteration posts makes a call, its mode is a text, the names that it tells are names, and the axes that it decides
-- over have names
pub record IsWellFormed (iteration : Iteration) : Type 0 where
  pub posts : IsCall (Posts iteration.posts)
  pub mode : IsTrue (is_text iteration.mode)
  pub names : All (λ name. IsTrue (is_name name)) (names_told iteration)
  pub axes : IfSome iteration.decision (λ decision. HaveAxisNames decision.problem.axes)

-- what a helm of this plan registers for makes a call, and what it posts at first; its iterations are well formed, whatever
-- it hears
pub record IsWellFormedPlan (plan : Plan) : Type 0 where
  pub wants : IsCall (Register (wants_of plan))
  pub opening : IsCall (Posts plan.opening)
  pub iterations : (ticks : List Tick) (i : ℕ) → IsWellFormed (iteration_at plan ticks i)

-- A valid mission and a valid behaviour file make a plan that is well formed.
abbrev pub ValidFilesPlanWell : Type 0
ValidFilesPlanWell = (mission : Mission) (file : BhvFile) → IsValidMission mission → IsValidFile file → IsWellFormedPlan (plan_made mission file)
