-- The first script is loaded, then the second one, and then the bridge, or one of them isn't there, or is refused.
use Rattle.std.proofs.Common.{◌≡◌, ◌∙◌, ◌∷◌, [], List, ℕ, ap, refl}
use Rattle.command_line.specs.declared.status.FileKind.TheVariants.{Bridge as BridgeFile, Script as ScriptFile, Second as SecondFile}
use Rattle.command_line.specs.declared.status.Status.TheVariants.{Done}
use Rattle.command_line.specs.Endings.{surroundings}
use Rattle.command_line.specs.Turns.{FileTurn, Ready, turn_behind}
use Rattle.moos_jobs.proofs.FilesFirst.{file_ends, read_on}
use Rattle.moos_jobs.proofs.TwoSteps.{all_good, has_loaded, task_alone}
use Rattle.moos_jobs.specs.declared.task.ShareTask.{ShareTask}
use Rattle.moos_jobs.specs.Loading.{nothing_written}
use Rattle.moos_jobs.specs.Sharing.{bridge_turn, community_of, fitting_of, second_turn, share_turn}
use Rattle.moos_jobs.proofs.share_job.load_share.Goals as goal

pub returns-in-Err-clause-ends : goal.returns-in-Err-clause-ends
returns-in-Err-clause-ends g c = λ taken faults.
    let turn : List (List ℕ) → FileTurn ShareTask = share_turn c.args.first.now c.args.second.now c.args.bridge.now c.args.order in
    file_ends ScriptFile c.args.first.now community_of (λ one files. second_turn c.args.order one c.args.second.now c.args.bridge.now files) turn refl (λ bytes more. refl) nothing_written turn [] (λ files. refl)
    (surroundings _ _ _ _ _) c.in-Err.status (c.in-Err.ensures.ends taken faults)

pub returns-in-Err-load_community-clause-ends : goal.returns-in-Err-load_community-clause-ends
returns-in-Err-load_community-clause-ends g c = λ taken faults.
    let turn : List (List ℕ) → FileTurn ShareTask = share_turn c.args.first.now c.args.second.now c.args.bridge.now c.args.order in
    let one = c.in-Ok.one in
    let first = c.in-Ok.ensures.read in
    let status = c.in-Err-load_community.status in
    read_on nothing_written _ _ _ _ _ _ _ _ turn [] ScriptFile c.args.first.now community_of one first status c.in-Ok.ensures.same.0 c.in-Ok.ensures.same.1 refl
    (file_ends SecondFile c.args.second.now community_of (λ two files. bridge_turn c.args.order one two c.args.bridge.now files) (second_turn c.args.order one c.args.second.now c.args.bridge.now) refl (λ bytes more. refl)
    nothing_written turn (first.bytes ∷ []) (λ files. ap (turn_behind ScriptFile (λ one. second_turn c.args.order one c.args.second.now c.args.bridge.now files)) first.good) (surroundings _ _ _ _ _) status (c.in-Err-load_community.ensures.ends taken faults))

pub returns-in-Err-load_rules-clause-ends : goal.returns-in-Err-load_rules-clause-ends
returns-in-Err-load_rules-clause-ends g c = λ taken faults.
    let turn : List (List ℕ) → FileTurn ShareTask = share_turn c.args.first.now c.args.second.now c.args.bridge.now c.args.order in
    let one = c.in-Ok.one in
    let first = c.in-Ok.ensures.read in
    let two = c.in-Ok-load_community.two in
    let second = c.in-Ok-load_community.ensures.read in
    let status = c.in-Err-load_rules.status in
    let behind : (files : List (List ℕ)) → turn (first.bytes ∷ files) ≡ second_turn c.args.order one c.args.second.now c.args.bridge.now files
    = λ files. ap (turn_behind ScriptFile (λ one. second_turn c.args.order one c.args.second.now c.args.bridge.now files)) first.good in
    read_on nothing_written _ _ _ _ _ _ _ _ turn [] ScriptFile c.args.first.now community_of one first status c.in-Ok.ensures.same.0 c.in-Ok.ensures.same.1 refl
    (read_on nothing_written _ _ _ _ _ _ _ _ turn (first.bytes ∷ []) SecondFile c.args.second.now community_of two second status c.in-Ok-load_community.ensures.same.0 c.in-Ok-load_community.ensures.same.1 (behind [])
    (file_ends BridgeFile c.args.bridge.now (fitting_of one) (λ rules files. Ready (record { order = c.args.order; first = one; second = two; rules = rules })) (bridge_turn c.args.order one two c.args.bridge.now) refl (λ bytes more. refl)
    nothing_written turn (first.bytes ∷ second.bytes ∷ []) (λ files. behind (second.bytes ∷ files) ∙ ap (turn_behind SecondFile (λ two. bridge_turn c.args.order one two c.args.bridge.now files)) second.good) (surroundings _ _ _ _ _) status (c.in-Err-load_rules.ensures.ends taken faults)))

pub returns-clause-loaded : goal.returns-clause-loaded
returns-clause-loaded g c =
    let turn : List (List ℕ) → FileTurn ShareTask = share_turn c.args.first.now c.args.second.now c.args.bridge.now c.args.order in
    let one = c.in-Ok.one in
    let first = c.in-Ok.ensures.read in
    let two = c.in-Ok-load_community.two in
    let second = c.in-Ok-load_community.ensures.read in
    let rules = c.in-Ok-load_rules.rules in
    let third = c.in-Ok-load_rules.ensures.read in
    let task : ShareTask = record { order = c.args.order; first = one; second = two; rules = rules } in
    let behind : (files : List (List ℕ)) → turn (first.bytes ∷ files) ≡ second_turn c.args.order one c.args.second.now c.args.bridge.now files
    = λ files. ap (turn_behind ScriptFile (λ one. second_turn c.args.order one c.args.second.now c.args.bridge.now files)) first.good in
    let further : (files : List (List ℕ)) → turn (first.bytes ∷ second.bytes ∷ files) ≡ bridge_turn c.args.order one two c.args.bridge.now files
    = λ files. behind (second.bytes ∷ files) ∙ ap (turn_behind SecondFile (λ two. bridge_turn c.args.order one two c.args.bridge.now files)) second.good in
    has_loaded _ [] _ _ turn task
    (read_on (task_alone task) _ _ [] [] _ _ _ _ turn [] ScriptFile c.args.first.now community_of one first Done c.in-Ok.ensures.same.0 refl refl
    (read_on (task_alone task) _ _ [] [] _ _ _ _ turn (first.bytes ∷ []) SecondFile c.args.second.now community_of two second Done c.in-Ok-load_community.ensures.same.0 refl (behind [])
    (read_on (task_alone task) _ _ [] [] _ _ _ _ turn (first.bytes ∷ second.bytes ∷ []) BridgeFile c.args.bridge.now (fitting_of one) rules third Done c.in-Ok-load_rules.ensures.same.0 refl (further [])
    (all_good (g.F.Folder.told c.load_rules.new.folder) [] (g.F.Folder.heard c.load_rules.new.folder) turn (first.bytes ∷ second.bytes ∷ third.bytes ∷ []) task
    (further (third.bytes ∷ []) ∙ ap (turn_behind BridgeFile (λ rules. Ready (record { order = c.args.order; first = one; second = two; rules = rules }))) third.good)))))
