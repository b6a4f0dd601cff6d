-- Each job loads its own files.
use Rattle.std.proofs.Common.{◌∷◌, [], List, ap, append-nil, refl, subst, sym}
use Rattle.command_line.specs.declared.job.Job.{Job}
use Rattle.command_line.specs.declared.job.Job.TheVariants.{Check, Play, Solve}
use Rattle.command_line.specs.declared.status.FileKind.TheVariants.{Decision as DecisionFile, Problem as ProblemFile}
use Rattle.command_line.specs.Endings.{surroundings}
use Rattle.command_line.specs.Turns.{Ready, turn_behind}
use Rattle.ivp_cert.specs.Decisions.{decision_of}
use Rattle.ivp_cert.specs.Problems.{problem_of}
use Rattle.moos_files.specs.Asked.{Load}
use Rattle.moos_files.specs.Heard.{Hearing}
use Rattle.moos_jobs.proofs.FilesFirst.{file_ends}
use Rattle.moos_jobs.proofs.TwoSteps.{loaded_as, not_loaded_as}
use Rattle.moos_jobs.specs.declared.task.Task.TheVariants.{Checking, Generating, Sharing, Simulating, Solving}
use Rattle.moos_jobs.specs.Jobs.{turn_of}
use Rattle.moos_jobs.specs.Loading.{HasLoaded, HasNotLoaded, nothing_written}
use Rattle.moos_jobs.specs.Preparing.{workers_named}
use Rattle.moos_jobs.specs.Sharing.{share_turn}
use Rattle.moos_jobs.specs.Simulating.{simulate_turn}
use Rattle.moos_jobs.proofs.loading.load_task.Goals as goal

pub returns-in-Ok-clause-loaded : goal.returns-in-Ok-clause-loaded
returns-in-Ok-clause-loaded g c =
    subst (λ (named : Job). HasLoaded (g.F.Folder.told c.args.folder.now) (g.F.Folder.heard c.args.folder.now) (g.F.Folder.heard c.load_play.new.folder) (turn_of named) c.in-Ok.task) (sym c.in-Play.is)
    (subst (λ workers. HasLoaded (g.F.Folder.told c.args.folder.now) (g.F.Folder.heard c.args.folder.now) (g.F.Folder.heard c.load_play.new.folder) (turn_of (Play c.in-Play.script c.in-Play.mission c.in-Play.order workers)) c.in-Ok.task) (ap workers_named c.in-Play.is) (c.in-Ok.ensures.loaded (workers_named c.args.job.now)))

pub returns-in-Err-clause-ends : goal.returns-in-Err-clause-ends
returns-in-Err-clause-ends g c =
    subst (λ (named : Job). HasNotLoaded (g.F.Folder.told c.args.folder.now) (g.F.Folder.sure c.args.folder.now) (g.F.Folder.heard c.args.folder.now) (g.F.Folder.heard c.load_play.new.folder) (turn_of named) c.in-Err.status) (sym c.in-Play.is)
    (subst (λ workers. HasNotLoaded (g.F.Folder.told c.args.folder.now) (g.F.Folder.sure c.args.folder.now) (g.F.Folder.heard c.args.folder.now) (g.F.Folder.heard c.load_play.new.folder) (turn_of (Play c.in-Play.script c.in-Play.mission c.in-Play.order workers)) c.in-Err.status) (ap workers_named c.in-Play.is) (c.in-Err.ensures.ends (workers_named c.args.job.now)))

pub returns-in-Ok-load_problem-clause-loaded : goal.returns-in-Ok-load_problem-clause-loaded
returns-in-Ok-load_problem-clause-loaded g c =
    let was = c.in-Ok-load_problem.ensures.read in
    subst (λ (named : Job). HasLoaded (g.F.Folder.told c.args.folder.now) (g.F.Folder.heard c.args.folder.now) (g.F.Folder.heard c.load_problem.new.folder) (turn_of named) (Solving c.in-Ok-load_problem.problem)) (sym c.in-Solve.is)
    (record { files = was.bytes ∷ []; loaded = (was.bytes_told, tt); heard = was.heard; ready = ap (turn_behind ProblemFile (λ problem. Ready (Solving problem))) was.good })

pub returns-in-Err-load_problem-clause-ends : goal.returns-in-Err-load_problem-clause-ends
returns-in-Err-load_problem-clause-ends g c =
    let status = c.in-Err-load_problem.status in
    subst (λ (named : Job). HasNotLoaded (g.F.Folder.told c.args.folder.now) (g.F.Folder.sure c.args.folder.now) (g.F.Folder.heard c.args.folder.now) (g.F.Folder.heard c.load_problem.new.folder) (turn_of named) status) (sym c.in-Solve.is)
    (subst (λ workers. HasNotLoaded (g.F.Folder.told c.args.folder.now) (g.F.Folder.sure c.args.folder.now) (g.F.Folder.heard c.args.folder.now) (g.F.Folder.heard c.load_problem.new.folder) (turn_of (Solve c.in-Solve.problem workers)) status) (ap workers_named c.in-Solve.is)
    (λ taken faults. file_ends ProblemFile c.in-Solve.problem problem_of (λ problem files. Ready (Solving problem)) (turn_of (Solve c.in-Solve.problem (workers_named c.args.job.now))) refl (λ bytes more. refl) nothing_written (turn_of (Solve c.in-Solve.problem (workers_named c.args.job.now))) [] (λ files. refl) (surroundings _ _ _ _ _) status
    (c.in-Err-load_problem.ensures.ends taken faults)))

pub returns-in-Ok-load_decision-clause-loaded : goal.returns-in-Ok-load_decision-clause-loaded
returns-in-Ok-load_decision-clause-loaded g c =
    let was = c.in-Ok-load_decision.ensures.read in
    subst (λ (named : Job). HasLoaded (g.F.Folder.told c.args.folder.now) (g.F.Folder.heard c.args.folder.now) (g.F.Folder.heard c.load_decision.new.folder) (turn_of named) (Checking c.in-Ok-load_decision.decision)) (sym c.in-Check.is)
    (record { files = was.bytes ∷ []; loaded = (was.bytes_told, tt); heard = was.heard; ready = ap (turn_behind DecisionFile (λ decision. Ready (Checking decision))) was.good })

pub returns-in-Err-load_decision-clause-ends : goal.returns-in-Err-load_decision-clause-ends
returns-in-Err-load_decision-clause-ends g c =
    let status = c.in-Err-load_decision.status in
    subst (λ (named : Job). HasNotLoaded (g.F.Folder.told c.args.folder.now) (g.F.Folder.sure c.args.folder.now) (g.F.Folder.heard c.args.folder.now) (g.F.Folder.heard c.load_decision.new.folder) (turn_of named) status) (sym c.in-Check.is)
    (λ taken faults. file_ends DecisionFile c.in-Check.decision decision_of (λ decision files. Ready (Checking decision)) (turn_of (Check c.in-Check.decision)) refl (λ bytes more. refl) nothing_written (turn_of (Check c.in-Check.decision)) [] (λ files. refl) (surroundings _ _ _ _ _) status
    (c.in-Err-load_decision.ensures.ends taken faults))

pub returns-in-Generate-clause-loaded : goal.returns-in-Generate-clause-loaded
returns-in-Generate-clause-loaded g c =
    let heard : Hearing = g.F.Folder.heard c.args.folder.now in
    subst (λ (named : Job). HasLoaded (g.F.Folder.told c.args.folder.now) heard heard (turn_of named) (Generating c.in-Generate.number)) (sym c.in-Generate.is)
    (record { files = []; loaded = tt; heard = ap (λ (loads : List Load). record { faults = heard.faults; loads = loads }) (sym (append-nil heard.loads)); ready = refl })

pub returns-in-Ok-load_share-clause-loaded : goal.returns-in-Ok-load_share-clause-loaded
returns-in-Ok-load_share-clause-loaded g c =
    let job = c.in-Share in
    subst (λ (named : Job). HasLoaded (g.F.Folder.told c.args.folder.now) (g.F.Folder.heard c.args.folder.now) (g.F.Folder.heard c.load_share.new.folder) (turn_of named) (Sharing c.in-Ok-load_share.task)) (sym job.is)
    (loaded_as Sharing (g.F.Folder.told c.args.folder.now) [] (g.F.Folder.heard c.args.folder.now) (g.F.Folder.heard c.load_share.new.folder) (share_turn job.first job.second job.bridge job.order) c.in-Ok-load_share.task c.in-Ok-load_share.ensures.loaded)

pub returns-in-Err-load_share-clause-ends : goal.returns-in-Err-load_share-clause-ends
returns-in-Err-load_share-clause-ends g c =
    let job = c.in-Share in
    subst (λ (named : Job). HasNotLoaded (g.F.Folder.told c.args.folder.now) (g.F.Folder.sure c.args.folder.now) (g.F.Folder.heard c.args.folder.now) (g.F.Folder.heard c.load_share.new.folder) (turn_of named) c.in-Err-load_share.status) (sym job.is)
    (not_loaded_as Sharing (g.F.Folder.told c.args.folder.now) (g.F.Folder.sure c.args.folder.now) (g.F.Folder.heard c.args.folder.now) (g.F.Folder.heard c.load_share.new.folder) (share_turn job.first job.second job.bridge job.order) c.in-Err-load_share.status c.in-Err-load_share.ensures.ends)

pub returns-in-Ok-load_simulation-clause-loaded : goal.returns-in-Ok-load_simulation-clause-loaded
returns-in-Ok-load_simulation-clause-loaded g c =
    let job = c.in-Simulate in
    subst (λ (named : Job). HasLoaded (g.F.Folder.told c.args.folder.now) (g.F.Folder.heard c.args.folder.now) (g.F.Folder.heard c.load_simulation.new.folder) (turn_of named) (Simulating c.in-Ok-load_simulation.task)) (sym job.is)
    (loaded_as Simulating (g.F.Folder.told c.args.folder.now) [] (g.F.Folder.heard c.args.folder.now) (g.F.Folder.heard c.load_simulation.new.folder) (simulate_turn job.script job.mission job.vehicle job.contacts) c.in-Ok-load_simulation.task c.in-Ok-load_simulation.ensures.loaded)

pub returns-in-Err-load_simulation-clause-ends : goal.returns-in-Err-load_simulation-clause-ends
returns-in-Err-load_simulation-clause-ends g c =
    let job = c.in-Simulate in
    subst (λ (named : Job). HasNotLoaded (g.F.Folder.told c.args.folder.now) (g.F.Folder.sure c.args.folder.now) (g.F.Folder.heard c.args.folder.now) (g.F.Folder.heard c.load_simulation.new.folder) (turn_of named) c.in-Err-load_simulation.status) (sym job.is)
    (not_loaded_as Simulating (g.F.Folder.told c.args.folder.now) (g.F.Folder.sure c.args.folder.now) (g.F.Folder.heard c.args.folder.now) (g.F.Folder.heard c.load_simulation.new.folder) (simulate_turn job.script job.mission job.vehicle job.contacts) c.in-Err-load_simulation.status c.in-Err-load_simulation.ensures.ends)
