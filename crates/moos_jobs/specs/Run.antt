-- What a run of the program does, by the status that it ends with.
use Rattle.std.specs.Prelude.{◌≡◌, ℕ, ◌+◌, ◌≤◌, true, ◌⊎◌, List, [], length, Option, Some, None}
use Rattle.moos_io.specs.Faults.{Rose}
use Rattle.moos_files.specs.Files.{is_among}
use Rattle.moos_files.specs.Heard.{with_loads}
use Rattle.moos_text.specs.declared.cause.Cause.{Cause}
use Rattle.moos_text.specs.declared.cause.ReadFault.TheVariants.{At}
use Rattle.command_line.specs.declared.job.Job.{Job}
use Rattle.command_line.specs.declared.status.FileKind.{FileKind}
use Rattle.command_line.specs.declared.status.Status.{Status}
use Rattle.command_line.specs.declared.status.Status.TheVariants.{Usage, LoadFault, Refused, NoMemory}
use Rattle.command_line.specs.Endings.{EndsFrom, IsUntouched, Sinking, Surroundings, WroteAll}
use Rattle.command_line.specs.Jobs.{job_named}
use Rattle.command_line.specs.Turns.{AreLoaded, loads_of, Ready, Unfit, Wanted}
use Rattle.moos_jobs.specs.Jobs.{IsOutput, outcomes, turn_of}
use Rattle.moos_jobs.specs.declared.task.Task.{Task}

-- the words name a job, which begins without a file and ends so
pub record DidJob (words : List (List ℕ)) (run : Surroundings) (status : Status) : Type 0 where
  pub job : Job
  pub named : job_named words ≡ Some job
  pub ended : EndsFrom outcomes run (turn_of job) [] status

-- Usage: the words name no job. Nothing was loaded, and nothing was written.
pub record HasNoJob (words : List (List ℕ)) (run : Surroundings) : Type 0 where
  pub unnamed : job_named words ≡ None
  pub heard : run.heard_after ≡ run.heard_before
  pub silent : IsUntouched run.sink

-- no memory was left to find the job: nothing was loaded, and nothing was written
pub record FoundNone (run : Surroundings) : Type 0 where
  pub heard : run.heard_after ≡ run.heard_before
  pub silent : IsUntouched run.sink

-- What a run with these words did that ended with this status.
abbrev pub EndsWith : List (List ℕ) → Surroundings → Status → Type 0
EndsWith words run Usage = HasNoJob words run
EndsWith words run NoMemory = FoundNone run ⊎ DidJob words run NoMemory
EndsWith words run status = DidJob words run status

-- the words name this job, and a folder that tells its files has these, which are the first that the job loads, in order
pub record HasFiles (words : List (List ℕ)) (run : Surroundings) (job : Job) (files : List (List ℕ)) : Type 0 where
  pub told : List ℕ → Option (List ℕ)
  pub telling : run.told ≡ Some told
  pub named : job_named words ≡ Some job
  pub loaded : AreLoaded run.told (turn_of job) [] files

-- the words name this job, a folder that tells its files has these, and neither loading nor writing failed
pub record IsServed (words : List (List ℕ)) (run : Surroundings) (job : Job) (files : List (List ℕ)) : Type 0 where
  pub has : HasFiles words run job files
  pub loads : Rose run.heard_before.faults run.heard_after.faults → ⊥
  pub puts : Rose run.sink.fared_before.faults run.sink.fared_after.faults → ⊥

-- the words name this job, and a folder that tells its files has these, and is sure of each file that it tells
pub record IsHeld (words : List (List ℕ)) (run : Surroundings) (job : Job) (files : List (List ℕ)) : Type 0 where
  pub has : HasFiles words run job files
  pub sure : (name bytes : List ℕ) → has.told name ≡ Some bytes → is_among run.sure name ≡ true

-- the sink tells what it took, and is sure to take each text that the task may write behind that
pub record HasRoomFor (task : Task) (sink : Sinking) : Type 0 where
  pub taken : List ℕ
  pub telling : sink.taken_before ≡ Some taken
  pub room : (status : Status) (text : List ℕ) → IsOutput task status text → length taken + length text ≤ sink.fared_before.firm

-- the run wrote the whole of a text that the task may write with this status, or no memory was left
abbrev pub IsDoneBut : Task → Surroundings → Status → Type 0
IsDoneBut task run status = WroteAll outcomes (Ready task) status run.sink ⊎ (status ≡ NoMemory)

-- the run was refused for this file, line and cause, or no memory was left
abbrev pub IsRefusedBut : FileKind → ℕ → Cause → Status → Type 0
IsRefusedBut kind line cause status = (status ≡ Refused (record { file = kind; line = line; cause = cause })) ⊎ (status ≡ NoMemory)

-- A job whose files are good writes the whole of a text that it may write with this status, if neither loading nor writing
-- failed: it is done, or a check says no. Or no memory was left.
abbrev pub Completes : List (List ℕ) → Surroundings → Status → Type 0
Completes words run status =
    (job : Job) (files : List (List ℕ)) (task : Task) → IsServed words run job files → turn_of job files ≡ Ready task → IsDoneBut task run status

-- A job of whose files the last one isn't good is refused with that file's first refusal, if neither loading nor writing failed.
-- Or no memory was left.
abbrev pub Refuses : List (List ℕ) → Surroundings → Status → Type 0
Refuses words run status =
    (job : Job) (files : List (List ℕ)) (kind : FileKind) (line : ℕ) (cause : Cause) → IsServed words run job files → turn_of job files ≡ Unfit kind (At line cause)
    → IsRefusedBut kind line cause status

-- A job whose files are good writes the whole of a text that it may write with this status, if the folder is sure of its files
-- and the sink has room for each such text. Or no memory was left.
abbrev pub Succeeds : List (List ℕ) → Surroundings → Status → Type 0
Succeeds words run status =
    (job : Job) (files : List (List ℕ)) (task : Task) → IsHeld words run job files → turn_of job files ≡ Ready task → HasRoomFor task run.sink → IsDoneBut task run status

-- A job of whose files the last one isn't good is refused with that file's first refusal, if the folder is sure of its files, and
-- whatever the sink does. Or no memory was left.
abbrev pub Declines : List (List ℕ) → Surroundings → Status → Type 0
Declines words run status =
    (job : Job) (files : List (List ℕ)) (kind : FileKind) (line : ℕ) (cause : Cause) → IsHeld words run job files → turn_of job files ≡ Unfit kind (At line cause)
    → IsRefusedBut kind line cause status

-- the words name this job, and the folder, whatever it tells, gave these files to its loads, one after another, and failed at none
pub record Gave (words : List (List ℕ)) (run : Surroundings) (job : Job) (files : List (List ℕ)) : Type 0 where
  pub named : job_named words ≡ Some job
  pub heard : run.heard_after ≡ with_loads run.heard_before (loads_of (turn_of job) [] files)

-- A job to whose loads good files were given writes the whole of a text that it may write with this status, if no put failed, whatever the
-- folder and the sink tell. Or no memory was left.
abbrev pub Answers : List (List ℕ) → Surroundings → Status → Type 0
Answers words run status =
    (job : Job) (files : List (List ℕ)) (task : Task) → Gave words run job files → turn_of job files ≡ Ready task → (Rose run.sink.fared_before.faults run.sink.fared_after.faults → ⊥) → IsDoneBut task run status

-- A job to whose loads files were given of which the last one isn't good is refused with that file's first refusal, whatever the folder and
-- the sink tell. Or no memory was left.
abbrev pub Objects : List (List ℕ) → Surroundings → Status → Type 0
Objects words run status =
    (job : Job) (files : List (List ℕ)) (kind : FileKind) (line : ℕ) (cause : Cause) → Gave words run job files → turn_of job files ≡ Unfit kind (At line cause) → IsRefusedBut kind line cause status

-- A job of whose files one isn't there, in a folder that tells its files, ends because that file couldn't be loaded, whatever the sink
-- does. Or no memory was left.
abbrev pub Misses : List (List ℕ) → Surroundings → Status → Type 0
Misses words run status =
    (job : Job) (files : List (List ℕ)) (kind : FileKind) (name : List ℕ) (has : HasFiles words run job files) → turn_of job files ≡ Wanted kind name → has.told name ≡ None
    → (status ≡ LoadFault) ⊎ (status ≡ NoMemory)

-- Words that name no job end with Usage. Or no memory was left.
abbrev pub Rejects : List (List ℕ) → Status → Type 0
Rejects words status = job_named words ≡ None → (status ≡ Usage) ⊎ (status ≡ NoMemory)
