-- How a job ends: the files that it loaded, what it wrote, and with which status. All of it is over any job: where one is by
-- the bytes of its files, and what its tasks may write.
use Rattle.std.specs.Prelude.{◌≡◌, ℕ, ◌⊎◌, false, List, [], ◌∷◌, ◌++◌, Option}
use Rattle.moos_files.specs.Asked.{Load}
use Rattle.moos_io.specs.Faults.{Faring, Fell, Rose}
use Rattle.moos_files.specs.Heard.{Hearing, failed_load, with_loads}
use Rattle.moos_files.specs.Files.{is_among}
use Rattle.moos_io.specs.Pieces.{Took, TookFront}
use Rattle.moos_text.specs.declared.cause.ReadFault.{ReadFault}
use Rattle.moos_text.specs.declared.cause.ReadFault.TheVariants.{At, NoMemory as Unread}
use Rattle.command_line.specs.declared.status.FileKind.{FileKind}
use Rattle.command_line.specs.declared.status.Status.{Status}
use Rattle.command_line.specs.declared.status.Status.TheVariants.{Done, CheckNo, Usage, LoadFault, WriteFault, Refused, NoMemory}
use Rattle.command_line.specs.Turns.{AreLoaded, FileTurn, Ready, Unfit, Wanted, loads_of}

-- the status for what a reader of such files answers in place of what a file holds
abbrev pub status_of : FileKind → ReadFault → Status
status_of kind (At line cause) = Refused (record { file = kind; line = line; cause = cause })
status_of kind Unread = NoMemory

-- what the sink took before and after, and how it fared
pub record Sinking : Type 0 where
  pub taken_before : Option (List ℕ)
  pub taken_after : Option (List ℕ)
  pub fared_before : Faring
  pub fared_after : Faring

-- the sink with these parts, in their order
abbrev pub sinking : Option (List ℕ) → Option (List ℕ) → Faring → Faring → Sinking
sinking taken_before taken_after fared_before fared_after =
    record { taken_before = taken_before; taken_after = taken_after; fared_before = fared_before; fared_after = fared_after }

-- nothing was written, and no writing failed
pub record IsUntouched (sink : Sinking) : Type 0 where
  pub taken : sink.taken_after ≡ sink.taken_before
  pub faults : sink.fared_after ≡ sink.fared_before

-- What tasks of one type may come to: which text a task may write with which status; and which text may stand there of a task whose
-- text is written as it comes, when no memory is left. Of any other task, whose text is written once all of it is there, none may.
pub record Outcomes (T : Type 0) : Type 1 where
  pub MayWrite : T → Status → List ℕ → Type 0
  pub MayStand : T → List ℕ → Type 0

-- the sink took all of a text that the job may write with this status, by what its files hold, and no put failed
pub record WroteAll {T : Type 0} (outcomes : Outcomes T) (turn : FileTurn T) (status : Status) (sink : Sinking) : Type 0 where
  pub task : T
  pub good : turn ≡ Ready task
  pub text : List ℕ
  pub output : outcomes.MayWrite task status text
  pub took : Took sink.taken_before sink.taken_after text
  pub fared : sink.fared_after ≡ sink.fared_before

-- the sink took a front of a text that the job may write with some status, and not the whole of it
pub record WroteFront {T : Type 0} (outcomes : Outcomes T) (turn : FileTurn T) (sink : Sinking) : Type 0 where
  pub task : T
  pub good : turn ≡ Ready task
  pub status : Status
  pub text : List ℕ
  pub output : outcomes.MayWrite task status text
  pub took : TookFront sink.taken_before sink.taken_after text

-- the sink took a front of a text that the job may write, which is all of one that may stand there when no memory is left, and no put
-- failed
pub record WrotePart {T : Type 0} (outcomes : Outcomes T) (turn : FileTurn T) (sink : Sinking) : Type 0 where
  pub front : WroteFront outcomes turn sink
  pub text : List ℕ
  pub stands : outcomes.MayStand front.task text
  pub took : Took sink.taken_before sink.taken_after text
  pub fared : sink.fared_after ≡ sink.fared_before

-- How a job ends that is here with its files: it wrote all; or the sink failed behind a front; or it is refused by the first
-- refusal, and wrote nothing; or no memory was left, and it wrote nothing, or what may stand there then of what is written as it
-- comes. No put failed, but with the status that says so.
abbrev pub Ended : {T : Type 0} → Outcomes T → FileTurn T → Sinking → Status → Type 0
Ended outcomes turn sink Done = WroteAll outcomes turn Done sink
Ended outcomes turn sink CheckNo = WroteAll outcomes turn CheckNo sink
Ended outcomes turn sink Usage = ⊥
Ended outcomes turn sink LoadFault = ⊥
Ended outcomes turn sink WriteFault = WroteFront outcomes turn sink × Fell sink.fared_before sink.fared_after sink.taken_after
Ended outcomes turn sink (Refused refusal) = (turn ≡ Unfit refusal.file (At refusal.line refusal.cause)) × IsUntouched sink
Ended outcomes turn sink NoMemory = IsUntouched sink ⊎ WrotePart outcomes turn sink

-- What surrounds a run besides its words: what the folder tells of its files, the names that it is sure of, and what is heard of it
-- before the run and after it: how often it failed, and every load; and the sink.
pub record Surroundings : Type 0 where
  pub told : Option (List ℕ → Option (List ℕ))
  pub sure : List (List ℕ)
  pub heard_before : Hearing
  pub heard_after : Hearing
  pub sink : Sinking

-- the surroundings with these parts, in their order
abbrev pub surroundings : Option (List ℕ → Option (List ℕ)) → List (List ℕ) → Hearing → Hearing → Sinking → Surroundings
surroundings told sure heard_before heard_after sink =
    record { told = told; sure = sure; heard_before = heard_before; heard_after = heard_after; sink = sink }

-- the folder was asked for these loads, and then for the one that is wanted here, for which no memory was left
pub record RanOut {T : Type 0} (turn : FileTurn T) (before after : Hearing) (loads : List Load) : Type 0 where
  pub kind : FileKind
  pub name : List ℕ
  pub wanted : turn ≡ Wanted kind name
  pub heard : after.loads ≡ before.loads ++ (loads ++ failed_load name ∷ [])

-- the folder was asked for these loads and no other, each gave its bytes, and no count of faults rose; if no memory was left, maybe one more
-- was asked for
abbrev pub IsHeard : {T : Type 0} → FileTurn T → Status → Hearing → Hearing → List Load → Type 0
IsHeard turn NoMemory before after loads = (after ≡ with_loads before loads) ⊎ RanOut turn before after loads
IsHeard turn status before after loads = after ≡ with_loads before loads

-- a job that has loaded the files `front` loads `files` behind them and no other, and ends with this status
pub record DidFrom {T : Type 0} (outcomes : Outcomes T) (run : Surroundings) (turn : List (List ℕ) → FileTurn T) (front : List (List ℕ)) (status : Status) : Type 0 where
  pub files : List (List ℕ)
  pub loaded : AreLoaded run.told turn front files
  pub heard : IsHeard (turn (front ++ files)) status run.heard_before run.heard_after (loads_of turn front files)
  pub ended : Ended outcomes (turn (front ++ files)) run.sink status

-- a job that has loaded the files `front` loads `files` behind them, up to one whose loading fails: the folder failed at
-- that load, the last one, and isn't sure of this file; nothing was written
pub record FailsFrom {T : Type 0} (run : Surroundings) (turn : List (List ℕ) → FileTurn T) (front : List (List ℕ)) : Type 0 where
  pub rose : Rose run.heard_before.faults run.heard_after.faults
  pub files : List (List ℕ)
  pub loaded : AreLoaded run.told turn front files
  pub kind : FileKind
  pub name : List ℕ
  pub wanted : turn (front ++ files) ≡ Wanted kind name
  pub heard : run.heard_after.loads ≡ run.heard_before.loads ++ (loads_of turn front files ++ failed_load name ∷ [])
  pub unsure : is_among run.sure name ≡ false
  pub silent : IsUntouched run.sink

-- how a job ends that has loaded the files `front`: the loading of a further one fails, or it ends with those that it has then
abbrev pub EndsFrom : {T : Type 0} → Outcomes T → Surroundings → (List (List ℕ) → FileTurn T) → List (List ℕ) → Status → Type 0
EndsFrom outcomes run turn front LoadFault = FailsFrom run turn front
EndsFrom outcomes run turn front status = DidFrom outcomes run turn front status
