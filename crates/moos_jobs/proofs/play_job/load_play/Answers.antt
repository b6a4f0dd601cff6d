-- The script is loaded, and then the helm's files, where a mission is named, or one of them isn't there, or is refused.
use Rattle.std.proofs.Common.{◌≡◌, ◌∙◌, ◌∷◌, [], List, None, ℕ, Some, ap, refl}
use Rattle.command_line.specs.declared.job.Job.TheVariants.{Play}
use Rattle.command_line.specs.declared.status.FileKind.TheVariants.{Script as ScriptFile}
use Rattle.command_line.specs.declared.status.Status.TheVariants.{Done}
use Rattle.command_line.specs.Endings.{surroundings}
use Rattle.command_line.specs.Turns.{FileTurn, turn_behind}
use Rattle.moos_jobs.proofs.FilesFirst.{ends_behind, ends_so, file_ends, read_on}
use Rattle.moos_jobs.proofs.TwoSteps.{all_good, has_loaded, task_alone}
use Rattle.moos_jobs.specs.declared.task.Task.{Task}
use Rattle.moos_jobs.specs.declared.task.Task.TheVariants.{Playing}
use Rattle.moos_jobs.specs.Jobs.{helm_played, script_turn, turn_of}
use Rattle.moos_jobs.specs.Loading.{helm_turn, nothing_written}
use Rattle.script_reader.specs.Script.{script_of}
use Rattle.moos_jobs.proofs.play_job.load_play.Goals as goal

pub returns-in-Err-clause-ends : goal.returns-in-Err-clause-ends
returns-in-Err-clause-ends g c = λ workers taken faults.
    let turn : List (List ℕ) → FileTurn Task = turn_of (Play c.args.name.now c.args.mission.now c.args.order workers) in
    file_ends ScriptFile c.args.name.now script_of (λ script files. script_turn c.args.order script c.args.mission.now files) turn refl (λ bytes more. refl) nothing_written turn [] (λ files. refl)
    (surroundings _ _ _ _ _) c.in-Err.status (c.in-Err.ensures.ends taken faults)

-- without a mission
pub returns-in_default-clause-loaded : goal.returns-in_default-clause-loaded
returns-in_default-clause-loaded g c = λ workers.
    let turn : List (List ℕ) → FileTurn Task = turn_of (Play c.args.name.now c.args.mission.now c.args.order workers) in
    let script = c.in-Ok.script in
    let first = c.in-Ok.ensures.read in
    let task : Task = Playing c.args.order script None in
    has_loaded _ [] _ _ turn task
    (read_on (task_alone task) _ _ [] [] _ _ _ _ turn [] ScriptFile c.args.name.now script_of script first Done c.in-Ok.ensures.same.0 refl refl
    (all_good (g.F.Folder.told c.load_script.new.folder) [] (g.F.Folder.heard c.load_script.new.folder) turn (first.bytes ∷ []) task
    (ap (turn_behind ScriptFile (λ script. script_turn c.args.order script c.args.mission.now [])) first.good ∙ ap (λ mission. script_turn c.args.order script mission []) c.in_default.is)))

pub returns-in-Err-load_helm-clause-ends : goal.returns-in-Err-load_helm-clause-ends
returns-in-Err-load_helm-clause-ends g c = λ workers taken faults.
    let turn : List (List ℕ) → FileTurn Task = turn_of (Play c.args.name.now c.args.mission.now c.args.order workers) in
    let script = c.in-Ok.script in
    let first = c.in-Ok.ensures.read in
    let mission = c.in-Some.mission in
    let status = c.in-Err-load_helm.status in
    let behind : (files : List (List ℕ)) → turn (first.bytes ∷ files) ≡ helm_turn (helm_played c.args.order script) script mission files
    = λ files. ap (turn_behind ScriptFile (λ script. script_turn c.args.order script c.args.mission.now files)) first.good ∙ ap (λ mission. script_turn c.args.order script mission files) c.in-Some.is in
    read_on nothing_written _ _ _ _ _ _ _ _ turn [] ScriptFile c.args.name.now script_of script first status c.in-Ok.ensures.same.0 c.in-Ok.ensures.same.1 refl
    (ends_so nothing_written (helm_played c.args.order script) script mission turn (first.bytes ∷ []) behind (surroundings _ _ _ _ _) status (c.in-Err-load_helm.ensures.ends taken faults))

pub returns-clause-loaded : goal.returns-clause-loaded
returns-clause-loaded g c = λ workers.
    let turn : List (List ℕ) → FileTurn Task = turn_of (Play c.args.name.now c.args.mission.now c.args.order workers) in
    let script = c.in-Ok.script in
    let first = c.in-Ok.ensures.read in
    let mission = c.in-Some.mission in
    let files = c.in-Ok-load_helm.files in
    let task : Task = Playing c.args.order script (Some files) in
    let behind : (files : List (List ℕ)) → turn (first.bytes ∷ files) ≡ helm_turn (helm_played c.args.order script) script mission files
    = λ files. ap (turn_behind ScriptFile (λ script. script_turn c.args.order script c.args.mission.now files)) first.good ∙ ap (λ mission. script_turn c.args.order script mission files) c.in-Some.is in
    has_loaded _ [] _ _ turn task
    (read_on (task_alone task) _ _ [] [] _ _ _ _ turn [] ScriptFile c.args.name.now script_of script first Done c.in-Ok.ensures.same.0 refl refl
    (ends_behind (task_alone task) (helm_played c.args.order script) script mission turn (first.bytes ∷ []) behind (surroundings _ [] _ _ _) (surroundings (g.F.Folder.told c.load_helm.new.folder) [] (g.F.Folder.heard c.load_helm.new.folder) (g.F.Folder.heard c.load_helm.new.folder) _)
    (record { told = c.in-Ok-load_helm.ensures.same.0; sure = refl; sink = refl; after = refl }) files c.in-Ok-load_helm.ensures.loaded Done refl
    (record { task = task; good = refl; text = []; output = (refl, refl); took = refl; fared = refl })))
