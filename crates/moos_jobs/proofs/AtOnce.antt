-- A run whose words name no job, or of whose files one is missing or isn't good, leaves no task: it is over at once.
use Rattle.std.proofs.Common.{◌≡◌, ◌≤◌, ℕ, List, [], refl, ap, sym, subst, ◌∙◌, arith}
use Rattle.std.proofs.lemmas.List.{append_cancel_left}
use Rattle.std.specs.Prelude.{Err, IfErr, IfOk, None, Ok, OnOk, Result, Some}
use Rattle.command_line.specs.declared.job.Job.{Job}
use Rattle.command_line.specs.declared.job.Job.TheVariants.{Check, Generate, Play, Share, Simulate, Solve}
use Rattle.command_line.specs.declared.status.FileKind.{FileKind}
use Rattle.command_line.specs.declared.status.Status.{Status}
use Rattle.command_line.specs.Endings.{EndsFrom, IsUntouched, Surroundings}
use Rattle.command_line.specs.Jobs.{HasFewWorkers, job_named}
use Rattle.command_line.specs.Turns.{FileTurn, loads_of, Ready, Unfit, Wanted}
use Rattle.moos_files.specs.Heard.{Hearing, with_loads}
use Rattle.moos_jobs.proofs.Endings.{Bad, declines, did, Good, heard_files, IsOver, job_given, misses, none_written, objects, one_job, one_list, refuses, rejects, told_loads, wanted_told}
use Rattle.moos_jobs.proofs.TwoSteps.{did_task}
use Rattle.moos_jobs.specs.declared.task.LoadedTask.{LoadedTask}
use Rattle.moos_jobs.specs.declared.task.Task.{Task}
use Rattle.moos_jobs.specs.Jobs.{outcomes, turn_of}
use Rattle.moos_jobs.specs.Loading.{HasLoaded}
use Rattle.moos_jobs.specs.Preparing.{PreparesTo, DeclinesAtOnce, EndsAsItsTask, IsGoodTask, IsLeftToDo, MayWait, MissesAtOnce, ObjectsAtOnce, RefusesAtOnce, RejectsAtOnce, workers_named}
use Rattle.moos_jobs.specs.Run.{Gave, HasFiles}
use Rattle.moos_text.specs.declared.cause.Cause.{Cause}
use Rattle.moos_text.specs.declared.cause.ReadFault.TheVariants.{At}

-- as the task ends, so does the run
pub finishes : (words : List (List ℕ)) (run : Surroundings) (prepared : LoadedTask) → IsLeftToDo words run prepared → EndsAsItsTask words run prepared
finishes words run prepared left sink status ended =
    did words _ left.job status left.named (did_task outcomes run.told run.sure run.heard_before run.heard_after (turn_of left.job) prepared.task left.loaded sink status ended)

module _ (words : List (List ℕ)) (run : Surroundings) (prepared : LoadedTask) (left : IsLeftToDo words run prepared) (job : Job) (files : List (List ℕ)) where
  -- the files of a task that is left are good, and so those that the folder tells are
  module _ (has : HasFiles words run job files) where
    same_job : left.job ≡ job
    same_job = one_job words run job files has left.job left.named

    all_told : (turn : FileTurn Task) → turn_of job files ≡ turn → IsOver turn → turn ≡ Ready prepared.task
    all_told turn is over =
        let same : left.loaded.files ≡ files = one_list has.told job [] left.loaded.files files (told_loads words run job files has left.job same_job left.loaded.files left.loaded.loaded)
        (told_loads words run job files has job refl files has.loaded) (subst (λ job. IsOver (turn_of job left.loaded.files)) same_job (Good prepared.task left.loaded.ready)) (subst IsOver (sym is) over) in
        sym is ∙ ap (turn_of job) (sym same) ∙ ap (λ job. turn_of job left.loaded.files) (sym same_job) ∙ left.loaded.ready

    none_told : (kind : FileKind) (line : ℕ) (cause : Cause) → turn_of job files ≡ Unfit kind (At line cause) → ⊥
    none_told kind line cause bad = none_written kind (At line cause) prepared.task (all_told (Unfit kind (At line cause)) bad (Bad kind (At line cause) refl))

    none_missing : (kind : FileKind) (name : List ℕ) → turn_of job files ≡ Wanted kind name → has.told name ≡ None → ⊥
    none_missing kind name wanted none =
        let found = wanted_told has.told job [] left.loaded.files files kind name (told_loads words run job files has left.job same_job left.loaded.files left.loaded.loaded)
        (told_loads words run job files has job refl files has.loaded) (subst (λ job. IsOver (turn_of job left.loaded.files)) same_job (Good prepared.task left.loaded.ready)) wanted in
        let both : None ≡ Some found.0 = sym none ∙ found.1 in absurd cc

  -- and so are those that were given
  none_given : (kind : FileKind) (line : ℕ) (cause : Cause) → Gave words run job files → turn_of job files ≡ Unfit kind (At line cause) → ⊥
  none_given kind line cause gave bad =
      let named_job : left.job ≡ job = job_given words run job files gave left.job left.named in
      let same : left.loaded.files ≡ files = heard_files job [] left.loaded.files files
      (append_cancel_left run.heard_before.loads _ _ (ap (λ (heard : Hearing). heard.loads) (ap (λ job. with_loads run.heard_before (loads_of (turn_of job) [] left.loaded.files)) (sym named_job) ∙ sym left.loaded.heard ∙ gave.heard))) in
      none_written kind (At line cause) prepared.task (sym bad ∙ ap (turn_of job) (sym same) ∙ ap (λ job. turn_of job left.loaded.files) (sym named_job) ∙ left.loaded.ready)

pub refuses_at_once : (words : List (List ℕ)) (run : Surroundings) (result : Result LoadedTask Status) → PreparesTo words run result → RefusesAtOnce words run result
refuses_at_once words run (Ok prepared) left job files kind line cause served bad = none_told words run prepared left job files served.has kind line cause bad
refuses_at_once words run (Err status) ran job files kind line cause served bad = refuses words run status ran job files kind line cause served bad

pub declines_at_once : (words : List (List ℕ)) (run : Surroundings) (result : Result LoadedTask Status) → PreparesTo words run result → DeclinesAtOnce words run result
declines_at_once words run (Ok prepared) left job files kind line cause held bad = none_told words run prepared left job files held.has kind line cause bad
declines_at_once words run (Err status) ran job files kind line cause held bad = declines words run status ran job files kind line cause held bad

pub objects_at_once : (words : List (List ℕ)) (run : Surroundings) (result : Result LoadedTask Status) → PreparesTo words run result → ObjectsAtOnce words run result
objects_at_once words run (Ok prepared) left job files kind line cause gave bad = none_given words run prepared left job files kind line cause gave bad
objects_at_once words run (Err status) ran job files kind line cause gave bad = objects words run status ran job files kind line cause gave bad

pub misses_at_once : (words : List (List ℕ)) (run : Surroundings) (result : Result LoadedTask Status) → PreparesTo words run result → MissesAtOnce words run result
misses_at_once words run (Ok prepared) left job files kind name has wanted none = none_missing words run prepared left job files has kind name wanted none
misses_at_once words run (Err status) ran job files kind name has wanted none = misses words run status ran job files kind name has wanted none

pub rejects_at_once : (words : List (List ℕ)) (run : Surroundings) (result : Result LoadedTask Status) → PreparesTo words run result → RejectsAtOnce words result
rejects_at_once words run (Ok prepared) left none = let both : None ≡ Some left.job = sym none ∙ left.named in absurd cc
rejects_at_once words run (Err status) ran none = rejects words run status ran none

-- a job's task is done by few workers
few_workers : (job : Job) → HasFewWorkers job → (1 ≤ workers_named job) × (workers_named job ≤ 16)
few_workers (Play script mission order workers) few = few
few_workers (Solve problem workers) few = few
few_workers (Check decision) few = (omega arith, omega arith)
few_workers (Generate number) few = (omega arith, omega arith)
few_workers (Share first second bridge order) few = (omega arith, omega arith)
few_workers (Simulate script mission vehicle contacts workers) few = few

-- what the job that the words named came to is what the run did
pub comes : (words : List (List ℕ)) (run : Surroundings) (job : Job) (result : Result LoadedTask Status) → job_named words ≡ Some job → HasFewWorkers job
    → IfErr result (EndsFrom outcomes run (turn_of job) []) → IfOk result (λ prepared. HasLoaded run.told run.heard_before run.heard_after (turn_of job) prepared.task)
    → IfOk result (λ prepared. MayWait prepared.task) → IfOk result (λ prepared. IsGoodTask prepared.task) → IfOk result (λ prepared. prepared.workers ≡ workers_named job) → OnOk result (IsUntouched run.sink)
    → PreparesTo words run result
comes words run job (Err status) named few ends loaded waits good workers silent = did words run job status named ends
comes words run job (Ok prepared) named few ends loaded waits good workers silent = record {
  job = job;
  named = named;
  loaded = loaded;
  waits = waits;
  good = good;
  workers = workers;
  few = subst (λ n. (1 ≤ n) × (n ≤ 16)) (sym workers) (few_workers job few);
  silent = silent;
}
