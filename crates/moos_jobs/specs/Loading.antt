-- What comes of loading a job's files, and where a job is with those of a helm, one after another.
use Rattle.std.specs.Prelude.{◌≡◌, ℕ, IsTrue, List, [], ◌∷◌, Ok, Option, Result}
use Rattle.bhv_file.specs.Validity.{IsValidFile, serves}
use Rattle.bhv_reader.specs.Behaviors.{behaviors_of}
use Rattle.command_line.specs.declared.status.FileKind.{FileKind}
use Rattle.command_line.specs.declared.status.FileKind.TheVariants.{Behaviors as BehaviorsFile, Mission as MissionFile}
use Rattle.command_line.specs.declared.status.Status.{Status}
use Rattle.command_line.specs.Endings.{EndsFrom, Outcomes, sinking, surroundings}
use Rattle.command_line.specs.Turns.{AreLoaded, FileTurn, HasBytes, loads_of, Ready, turn_behind, Wanted}
use Rattle.moos_jobs.specs.declared.helm_files.HelmFiles.{HelmFiles}
use Rattle.moos_jobs.specs.HelmFiles.{with_few_ticks}
use Rattle.mission_reader.specs.declared.mission.Mission.{Mission}
use Rattle.mission_reader.specs.Missions.{mission_of}
use Rattle.mission_reader.specs.Validity.{IsValidMission}
use Rattle.moos_files.specs.Heard.{Hearing, given_load, with_loads}
use Rattle.moos_io.specs.Faults.{Faring}
use Rattle.moos_text.specs.declared.cause.ReadFault.{ReadFault}
use Rattle.moos_text.specs.Refusals.{and_then}
use Rattle.script_reader.specs.declared.script.Script.{Script}

-- Where a job is once its mission is read: it wants the behaviour file that the mission names. If that is good, `next` says how
-- it goes on with a helm of both.
abbrev pub behaviors_turn : {T : Type 0} → (HelmFiles → List (List ℕ) → FileTurn T) → Mission → List (List ℕ) → FileTurn T
behaviors_turn next mission [] = Wanted BehaviorsFile mission.behaviors
behaviors_turn next mission (bytes ∷ more) =
    turn_behind BehaviorsFile (λ file. next (record { mission = mission; file = file }) more) (behaviors_of mission.domain bytes)

-- Where a job is once its script is read: it wants the mission of this name. If that is good, and has few enough ticks for the
-- script, the job goes on as `behaviors_turn` says.
abbrev pub helm_turn : {T : Type 0} → (HelmFiles → List (List ℕ) → FileTurn T) → Script → List ℕ → List (List ℕ) → FileTurn T
helm_turn next script name [] = Wanted MissionFile name
helm_turn next script name (bytes ∷ more) =
    turn_behind MissionFile (λ mission. behaviors_turn next mission more) (and_then (with_few_ticks script) (mission_of bytes))

-- a helm is all that is wanted
abbrev pub helm_alone : HelmFiles → List (List ℕ) → FileTurn HelmFiles
helm_alone files more = Ready files

-- who reads writes nothing
abbrev pub nothing_written : {T : Type 0} → Outcomes T
nothing_written = record { MayWrite = λ task status text. ⊥; MayStand = λ task text. ⊥ }

-- where a job is that wants one file alone, of this kind and name, which `read` gives the value of
abbrev pub file_turn : {A : Type 0} → FileKind → List ℕ → (List ℕ → Result A ReadFault) → List (List ℕ) → FileTurn A
file_turn kind name read [] = Wanted kind name
file_turn kind name read (bytes ∷ more) = turn_behind kind Ready (read bytes)

-- the value of a file is in the bytes that the folder tells under this name, if it does
pub record WasRead {A : Type 0} (told : Option (List ℕ → Option (List ℕ))) (before after : Hearing) (name : List ℕ) (read : List ℕ → Result A ReadFault) (value : A) : Type 0 where
  pub bytes : List ℕ
  pub bytes_told : HasBytes told name bytes
  pub good : read bytes ≡ Ok value
  pub heard : after ≡ with_loads before (given_load name bytes ∷ [])

-- A job has loaded all its files, each of which is the one that it wanted then, and no other; all are good, and this is to be done.
pub record HasLoaded {T : Type 0} (told : Option (List ℕ → Option (List ℕ))) (before after : Hearing) (turn : List (List ℕ) → FileTurn T) (task : T) : Type 0 where
  pub files : List (List ℕ)
  pub loaded : AreLoaded told turn [] files
  pub heard : after ≡ with_loads before (loads_of turn [] files)
  pub ready : turn files ≡ Ready task

-- A job ends with this status while its files are loaded: one couldn't be loaded, or is refused, or no memory was left. Whatever the
-- job's sink took before, and how it fared, that is as it was.
abbrev pub HasNotLoaded : {T : Type 0} → Option (List ℕ → Option (List ℕ)) → List (List ℕ) → Hearing → Hearing → (List (List ℕ) → FileTurn T) → Status → Type 0
HasNotLoaded told sure before after turn status =
    (taken : Option (List ℕ)) (faults : Faring) → EndsFrom nothing_written (surroundings told sure before after (sinking taken taken faults faults)) turn [] status

-- the files of a helm are in the bytes that the folder tells, if it does: a mission under this name, and the behaviour file that
-- it names
pub record WereLoaded (told : Option (List ℕ → Option (List ℕ))) (before after : Hearing) (script : Script) (name : List ℕ) (files : HelmFiles) : Type 0 where
  pub mission : List ℕ
  pub mission_told : HasBytes told name mission
  pub mission_read : and_then (with_few_ticks script) (mission_of mission) ≡ Ok files.mission
  pub behaviors : List ℕ
  pub behaviors_told : HasBytes told files.mission.behaviors behaviors
  pub behaviors_read : behaviors_of files.mission.domain behaviors ≡ Ok files.file
  pub heard : after ≡ with_loads before (given_load name mission ∷ given_load files.mission.behaviors behaviors ∷ [])

-- a mission and a behaviour file are as their readers leave them, and the mission's domain has the axes that the behaviours need
pub record AreValidFiles (files : HelmFiles) : Type 0 where
  pub mission : IsValidMission files.mission
  pub file : IsValidFile files.file
  pub served : IsTrue (serves files.mission.domain files.file.blocks)
