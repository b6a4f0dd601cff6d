-- What a run comes to without waiting for anyone: it is over, or all files of its job are read, and a task is left.
use Rattle.std.specs.Prelude.{◌≡◌, ℕ, ◌≤◌, false, ◌⊎◌, IsTrue, List, Some, None, IfSome, Result, Ok, Err}
use Rattle.std.specs.List.{All, list_any}
use Rattle.command_line.specs.declared.job.Job.{Job}
use Rattle.command_line.specs.declared.job.Job.TheVariants.{Play, Solve, Check, Generate, Share, Simulate}
use Rattle.command_line.specs.declared.status.FileKind.{FileKind}
use Rattle.command_line.specs.declared.status.Status.{Status}
use Rattle.command_line.specs.declared.status.Status.TheVariants.{Usage, LoadFault, NoMemory}
use Rattle.command_line.specs.Endings.{Ended, IsUntouched, Sinking, Surroundings, surroundings}
use Rattle.command_line.specs.Jobs.{job_named}
use Rattle.command_line.specs.Turns.{Ready, Unfit, Wanted}
use Rattle.ivp_domain.specs.Domains.{is_point}
use Rattle.moos_jobs.specs.declared.task.LoadedTask.{LoadedTask}
use Rattle.moos_jobs.specs.declared.task.ShareTask.{ShareTask}
use Rattle.moos_jobs.specs.declared.task.Simulation.{Simulation}
use Rattle.moos_jobs.specs.declared.task.Task.{Task}
use Rattle.moos_jobs.specs.declared.task.Task.TheVariants.{Playing, Checking, Sharing, Simulating}
use Rattle.moos_jobs.specs.Jobs.{outcomes, turn_of}
use Rattle.moos_jobs.specs.Loading.{AreValidFiles, HasLoaded}
use Rattle.moos_jobs.specs.Run.{EndsWith, Gave, HasFiles, IsHeld, IsRefusedBut, IsServed}
use Rattle.moos_jobs.specs.Sharing.{IsWithoutBridge}
use Rattle.moos_share.specs.LongNames.{too_long_line}
use Rattle.moos_share.specs.Validity.{IsRule}
use Rattle.moos_simulate.specs.Simulated.{gear_names}
use Rattle.moos_text.specs.declared.cause.Cause.{Cause}
use Rattle.moos_text.specs.declared.cause.ReadFault.TheVariants.{At}
use Rattle.script_reader.specs.Named.{has_name}
use Rattle.script_reader.specs.Validity.{IsValid}

-- two scripts and the rules of a bridge are as their readers leave them: no client has the bridge's name, and no rule makes a name too long
pub record AreGoodToShare (task : ShareTask) : Type 0 where
  pub first : IsWithoutBridge task.first
  pub second : IsWithoutBridge task.second
  pub rules : All IsRule task.rules
  pub fitting : too_long_line task.rules task.first.lines ≡ None

-- a script and a helm's files are as their readers leave them, and no client has the name of one of the vehicle's
pub record IsGoodToSail (task : Simulation) : Type 0 where
  pub valid : IsValid task.script
  pub apart : list_any (has_name (gear_names task.gear)) task.script.names ≡ false
  pub files : AreValidFiles task.files

-- what a task is made of is as its readers leave it
abbrev pub IsGoodTask : Task → Type 0
IsGoodTask (Playing order script helm) = IsValid script × IfSome helm AreValidFiles
IsGoodTask (Checking decision) = IsTrue (is_point decision.problem.axes decision.claim.point)
IsGoodTask (Sharing task) = AreGoodToShare task
IsGoodTask (Simulating task) = IsGoodToSail task
IsGoodTask task = Unit {0}

-- what is done without waiting isn't left to do: a decision is checked
abbrev pub MayWait : Task → Type 0
MayWait (Checking decision) = ⊥
MayWait task = Unit {0}

-- by how many workers a job is done: one, if the words can't say it
abbrev pub workers_named : Job → ℕ
workers_named (Play script mission order workers) = workers
workers_named (Solve problem workers) = workers
workers_named (Check decision) = 1
workers_named (Generate number) = 1
workers_named (Share first second bridge order) = 1
workers_named (Simulate script mission vehicle contacts workers) = workers

-- The words name a job. All its files are loaded and good, and no other was loaded; nothing was written. This task is what they stand for,
-- and so many workers do it.
pub record IsLeftToDo (words : List (List ℕ)) (run : Surroundings) (prepared : LoadedTask) : Type 0 where
  pub job : Job
  pub named : job_named words ≡ Some job
  pub loaded : HasLoaded run.told run.heard_before run.heard_after (turn_of job) prepared.task
  pub waits : MayWait prepared.task
  pub good : IsGoodTask prepared.task
  pub workers : prepared.workers ≡ workers_named job
  pub few : (1 ≤ prepared.workers) × (prepared.workers ≤ 16)
  pub silent : IsUntouched run.sink

-- What a run with these words came to before it waited: it was over with a status, or a task is left to do.
abbrev pub PreparesTo : List (List ℕ) → Surroundings → Result LoadedTask Status → Type 0
PreparesTo words run (Ok prepared) = IsLeftToDo words run prepared
PreparesTo words run (Err status) = EndsWith words run status

-- it was over, with a status of which this holds
abbrev pub IsOverWith : (Status → Type 0) → Result LoadedTask Status → Type 0
IsOverWith Holds (Ok prepared) = ⊥
IsOverWith Holds (Err status) = Holds status

-- A job of whose files the last one isn't good is over at once, refused with that file's first refusal, if no load failed and no put did.
-- Or no memory was left.
abbrev pub RefusesAtOnce : List (List ℕ) → Surroundings → Result LoadedTask Status → Type 0
RefusesAtOnce words run result =
    (job : Job) (files : List (List ℕ)) (kind : FileKind) (line : ℕ) (cause : Cause) → IsServed words run job files → turn_of job files ≡ Unfit kind (At line cause)
    → IsOverWith (IsRefusedBut kind line cause) result

-- the same if the folder is sure of its files
abbrev pub DeclinesAtOnce : List (List ℕ) → Surroundings → Result LoadedTask Status → Type 0
DeclinesAtOnce words run result =
    (job : Job) (files : List (List ℕ)) (kind : FileKind) (line : ℕ) (cause : Cause) → IsHeld words run job files → turn_of job files ≡ Unfit kind (At line cause)
    → IsOverWith (IsRefusedBut kind line cause) result

-- the same if these files were given to the job's loads, whatever the folder tells
abbrev pub ObjectsAtOnce : List (List ℕ) → Surroundings → Result LoadedTask Status → Type 0
ObjectsAtOnce words run result =
    (job : Job) (files : List (List ℕ)) (kind : FileKind) (line : ℕ) (cause : Cause) → Gave words run job files → turn_of job files ≡ Unfit kind (At line cause)
    → IsOverWith (IsRefusedBut kind line cause) result

-- A job of whose files one isn't there, in a folder that tells its files, is over at once, because that file couldn't be loaded. Or no
-- memory was left.
abbrev pub MissesAtOnce : List (List ℕ) → Surroundings → Result LoadedTask Status → Type 0
MissesAtOnce words run result =
    (job : Job) (files : List (List ℕ)) (kind : FileKind) (name : List ℕ) (has : HasFiles words run job files) → turn_of job files ≡ Wanted kind name → has.told name ≡ None
    → IsOverWith (λ status. (status ≡ LoadFault) ⊎ (status ≡ NoMemory)) result

-- Words that name no job are over at once with Usage. Or no memory was left.
abbrev pub RejectsAtOnce : List (List ℕ) → Result LoadedTask Status → Type 0
RejectsAtOnce words result = job_named words ≡ None → IsOverWith (λ status. (status ≡ Usage) ⊎ (status ≡ NoMemory)) result

-- However the task that is left ends, so does the whole run.
abbrev pub EndsAsItsTask : List (List ℕ) → Surroundings → LoadedTask → Type 0
EndsAsItsTask words run prepared =
    (sink : Sinking) (status : Status) → Ended outcomes (Ready prepared.task) sink status
    → EndsWith words (surroundings run.told run.sure run.heard_before run.heard_after sink) status
