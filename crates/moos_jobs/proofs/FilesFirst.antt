-- A job that loads one part after another: it ends as the loading of one does, or goes on behind it.
use Rattle.std.proofs.Common.{◌≡◌, ℕ, List, [], ◌∷◌, ◌++◌, inl, inr, refl, ap, ap₂, sym, ◌∙◌, subst, append_assoc, append-nil}
use Rattle.std.specs.Prelude.{Err, Ok, Option, Result}
use Rattle.command_line.proofs.Loading.{ends_here, heard_for, went_on}
use Rattle.command_line.specs.declared.status.FileKind.{FileKind}
use Rattle.command_line.specs.declared.status.FileKind.TheVariants.{Behaviors as BehaviorsFile, Mission as MissionFile}
use Rattle.command_line.specs.declared.status.Status.{Status}
use Rattle.command_line.specs.declared.status.Status.TheVariants.{Done, CheckNo, Usage, LoadFault, WriteFault, Refused, NoMemory}
use Rattle.command_line.specs.Endings.{DidFrom, Ended, EndsFrom, Outcomes, Sinking, Surroundings, surroundings}
use Rattle.command_line.specs.Turns.{AreLoaded, FileTurn, loads_of, name_wanted, Ready, turn_behind, Unfit, Wanted, WasWanted}
use Rattle.moos_jobs.specs.declared.helm_files.HelmFiles.{HelmFiles}
use Rattle.moos_jobs.specs.HelmFiles.{with_few_ticks}
use Rattle.moos_jobs.specs.Loading.{behaviors_turn, helm_alone, helm_turn, file_turn, nothing_written, WasRead, WereLoaded}
use Rattle.bhv_reader.specs.Behaviors.{behaviors_of}
use Rattle.mission_reader.specs.declared.mission.Mission.{Mission}
use Rattle.mission_reader.specs.Missions.{mission_of}
use Rattle.moos_text.specs.declared.cause.ReadFault.{ReadFault}
use Rattle.moos_files.specs.Asked.{Load}
use Rattle.moos_files.specs.Heard.{failed_load, given_load, Hearing, with_loads}
use Rattle.moos_text.specs.Refusals.{and_then}
use Rattle.script_reader.specs.declared.script.Script.{Script}

-- where a job stands by where a part of it stands, and by what follows that
abbrev pub followed : {A T : Type 0} → (A → FileTurn T) → FileTurn A → FileTurn T
followed next (Wanted kind name) = Wanted kind name
followed next (Ready value) = next value
followed next (Unfit kind fault) = Unfit kind fault

behind_followed : {A B T : Type 0} (next : B → FileTurn T) (kind : FileKind) (own : A → FileTurn B) (read : Result A ReadFault) → turn_behind kind (λ value. followed next (own value)) read ≡ followed next (turn_behind kind own read)
behind_followed next kind own (Ok value) = refl
behind_followed next kind own (Err fault) = refl

was_followed : {A T : Type 0} (told : Option (List ℕ → Option (List ℕ))) (next : A → FileTurn T) (turn : FileTurn A) (bytes : List ℕ) → WasWanted told turn bytes → WasWanted told (followed next turn) bytes
was_followed told next (Wanted kind name) bytes was = was
was_followed told next (Ready value) bytes was = absurd was
was_followed told next (Unfit kind fault) bytes was = absurd was

name_followed : {A T : Type 0} (told : Option (List ℕ → Option (List ℕ))) (next : A → FileTurn T) (turn : FileTurn A) (bytes : List ℕ) → WasWanted told turn bytes → name_wanted turn ≡ name_wanted (followed next turn)
name_followed told next (Wanted kind name) bytes was = refl
name_followed told next (Ready value) bytes was = absurd was
name_followed told next (Unfit kind fault) bytes was = absurd was

-- some of the job was done; the folder tells the same in the rest of the run
pub record IsFurther (run later : Surroundings) : Type 0 where
  pub told : later.told ≡ run.told
  pub sure : later.sure ≡ run.sure
  pub sink : later.sink ≡ run.sink
  pub after : later.heard_after ≡ run.heard_after

-- what is behind the first file
abbrev behind : List (List ℕ) → List (List ℕ)
behind [] = []
behind (bytes ∷ more) = more

module _ {T : Type 0} (next : HelmFiles → List (List ℕ) → FileTurn T) where
  behaviors_followed : (mission : Mission) (files : List (List ℕ)) → behaviors_turn next mission files ≡ followed (λ helm. next helm (behind files)) (behaviors_turn helm_alone mission files)
  behaviors_followed mission [] = refl
  behaviors_followed mission (bytes ∷ more) = behind_followed (λ helm. next helm more) BehaviorsFile (λ file. Ready (record { mission = mission; file = file })) (behaviors_of mission.domain bytes)

  helm_followed : (script : Script) (name : List ℕ) (files : List (List ℕ)) → helm_turn next script name files ≡ followed (λ helm. next helm (behind (behind files))) (helm_turn helm_alone script name files)
  helm_followed script name [] = refl
  helm_followed script name (bytes ∷ more) =
      (λ i. turn_behind MissionFile (λ mission. behaviors_followed mission more i) (and_then (with_few_ticks script) (mission_of bytes)))
      ∙ behind_followed (λ helm. next helm (behind more)) MissionFile (λ mission. behaviors_turn helm_alone mission more) (and_then (with_few_ticks script) (mission_of bytes))

-- a job that begins with a part of its own: what it wants is what the part wants, and what follows that is by the part's value
module _ {A T : Type 0} (outcomes : Outcomes T) (part : List (List ℕ) → FileTurn A) (next : A → List (List ℕ) → FileTurn T) (turn : List (List ℕ) → FileTurn T) (front : List (List ℕ))
    (stands : (files : List (List ℕ)) → turn (front ++ files) ≡ followed (λ value. next value files) (part files)) where
  loaded_before : (told : Option (List ℕ → Option (List ℕ))) (first files : List (List ℕ)) → AreLoaded told part first files → AreLoaded told turn (front ++ first) files
  loaded_before told first [] loaded = tt
  loaded_before told first (bytes ∷ files) loaded = (
    subst (λ turn. WasWanted told turn bytes) (sym (stands first)) (was_followed told (λ value. next value first) (part first) bytes loaded.0),
    subst (λ done. AreLoaded told turn done files) (sym (append_assoc front first (bytes ∷ []))) (loaded_before told (first ++ bytes ∷ []) files loaded.1),
  )

  loaded_first : (told : Option (List ℕ → Option (List ℕ))) (files : List (List ℕ)) → AreLoaded told part [] files → AreLoaded told turn front files
  loaded_first told files loaded = subst (λ done. AreLoaded told turn done files) (append-nil front) (loaded_before told [] files loaded)

  ended_so : (files : List (List ℕ)) (sink : Sinking) (status : Status) → Ended nothing_written (part files) sink status → Ended outcomes (turn (front ++ files)) sink status
  ended_so files sink Done ended = absurd ended.output
  ended_so files sink CheckNo ended = absurd ended.output
  ended_so files sink Usage ended = absurd ended
  ended_so files sink LoadFault ended = absurd ended
  ended_so files sink WriteFault ended = absurd ended.0.output
  ended_so files sink (Refused refusal) ended = (stands files ∙ ap (followed (λ value. next value files)) ended.0, ended.1)
  ended_so files sink NoMemory (inl untouched) = inl untouched
  ended_so files sink NoMemory (inr part) = absurd part.front.output

  -- the same loads
  loads_before : (told : Option (List ℕ → Option (List ℕ))) (first files : List (List ℕ)) → AreLoaded told part first files → loads_of part first files ≡ loads_of turn (front ++ first) files
  loads_before told first [] loaded = refl
  loads_before told first (bytes ∷ files) loaded =
      ap₂ (λ (name : List ℕ) (loads : List Load). given_load name bytes ∷ loads)
      (name_followed told (λ value. next value first) (part first) bytes loaded.0 ∙ sym (ap name_wanted (stands first)))
      (loads_before told (first ++ bytes ∷ []) files loaded.1 ∙ ap (λ done. loads_of turn done files) (sym (append_assoc front first (bytes ∷ []))))

  loads_first : (told : Option (List ℕ → Option (List ℕ))) (files : List (List ℕ)) → AreLoaded told part [] files → loads_of part [] files ≡ loads_of turn front files
  loads_first told files loaded = loads_before told [] files loaded ∙ ap (λ done. loads_of turn done files) (append-nil front)

  did_so : (run : Surroundings) (status : Status) → DidFrom nothing_written run part [] status → DidFrom outcomes run turn front status
  did_so run status did = record {
    files = did.files;
    loaded = loaded_first run.told did.files did.loaded;
    heard = heard_for (part did.files) (turn (front ++ did.files)) status run.heard_before run.heard_after _ _
        (λ kind name wanted. stands did.files ∙ ap (followed (λ value. next value did.files)) wanted) (loads_first run.told did.files did.loaded) did.heard;
    ended = ended_so did.files run.sink status did.ended;
  }

  -- the job ends as its part does
  pub part_ends : (run : Surroundings) (status : Status) → EndsFrom nothing_written run part [] status → EndsFrom outcomes run turn front status
  part_ends run LoadFault ends = record {
    rose = ends.rose;
    files = ends.files;
    loaded = loaded_first run.told ends.files ends.loaded;
    kind = ends.kind;
    name = ends.name;
    wanted = stands ends.files ∙ ap (followed (λ value. next value ends.files)) ends.wanted;
    heard = ends.heard ∙ ap (λ (loads : List Load). run.heard_before.loads ++ (loads ++ failed_load ends.name ∷ [])) (loads_first run.told ends.files ends.loaded);
    unsure = ends.unsure;
    silent = ends.silent;
  }
  part_ends run status ends = did_so run status ends

-- a job that begins with one file
module _ {A T : Type 0} (kind : FileKind) (name : List ℕ) (read : List ℕ → Result A ReadFault) (next : A → List (List ℕ) → FileTurn T) (whole : List (List ℕ) → FileTurn T)
    (wants : whole [] ≡ Wanted kind name) (goes : (bytes : List ℕ) (more : List (List ℕ)) → whole (bytes ∷ more) ≡ turn_behind kind (λ value. next value more) (read bytes)) where
  file_followed : (files : List (List ℕ)) → whole files ≡ followed (λ value. next value (behind files)) (file_turn kind name read files)
  file_followed [] = wants
  file_followed (bytes ∷ more) = goes bytes more ∙ behind_followed (λ value. next value more) kind (λ value. Ready value) (read bytes)

  -- it ends as the loading of that one does, wherever it stands among the files of another
  pub file_ends : (outcomes : Outcomes T) (turn : List (List ℕ) → FileTurn T) (front : List (List ℕ)) → ((files : List (List ℕ)) → turn (front ++ files) ≡ whole files)
      → (run : Surroundings) (status : Status) → EndsFrom nothing_written run (file_turn kind name read) [] status → EndsFrom outcomes run turn front status
  file_ends outcomes turn front turns run status ends =
      part_ends outcomes (file_turn kind name read) (λ value files. next value (behind files)) turn front (λ files. turns files ∙ file_followed files) run status ends

-- where a file was read, the job goes on behind it
pub read_on : {A T : Type 0} (outcomes : Outcomes T) (told later_told : Option (List ℕ → Option (List ℕ))) (sure later_sure : List (List ℕ)) (before between after : Hearing) (sink : Sinking)
    (turn : List (List ℕ) → FileTurn T) (front : List (List ℕ)) (kind : FileKind) (name : List ℕ) (read : List ℕ → Result A ReadFault) (value : A) (was : WasRead told before between name read value) (status : Status)
    → later_told ≡ told → later_sure ≡ sure → turn front ≡ Wanted kind name → EndsFrom outcomes (surroundings later_told later_sure between after sink) turn (front ++ was.bytes ∷ []) status
    → EndsFrom outcomes (surroundings told sure before after sink) turn front status
read_on outcomes told later_told sure later_sure before between after sink turn front kind name read value was status same same_sure wanted ends =
    went_on outcomes (surroundings told sure before after sink) (surroundings later_told later_sure between after sink) turn front kind name name was.bytes
    (record { told = same; sure = same_sure; sink = refl; before = was.heard; after = refl }) wanted refl was.bytes_told status ends

module _ {T : Type 0} (outcomes : Outcomes T) (next : HelmFiles → List (List ℕ) → FileTurn T) (script : Script) (name : List ℕ) (turn : List (List ℕ) → FileTurn T) (front : List (List ℕ))
    (turns : (files : List (List ℕ)) → turn (front ++ files) ≡ helm_turn next script name files) where
  -- the job ends as the loading of the helm's files does
  pub ends_so : (run : Surroundings) (status : Status) → EndsFrom nothing_written run (helm_turn helm_alone script name) [] status → EndsFrom outcomes run turn front status
  ends_so run status ends =
      part_ends outcomes (helm_turn helm_alone script name) (λ helm files. next helm (behind (behind files))) turn front (λ files. turns files ∙ helm_followed next script name files) run status ends

  -- the job goes on behind both files
  module _ (run later : Surroundings) (is : IsFurther run later) (files : HelmFiles) (were : WereLoaded run.told run.heard_before later.heard_before script name files) where
    -- between the two
    abbrev between : Surroundings
    between = surroundings run.told run.sure (with_loads run.heard_before (given_load name were.mission ∷ [])) run.heard_after run.sink

    abbrev pub both : List (List ℕ)
    both = (front ++ were.mission ∷ []) ++ were.behaviors ∷ []

    read_so : (more : List (List ℕ)) → helm_turn next script name (were.mission ∷ more) ≡ behaviors_turn next files.mission more
    read_so more = ap (turn_behind MissionFile (λ mission. behaviors_turn next mission more)) were.mission_read

    pub stands_behind : (more : List (List ℕ)) → turn (both ++ more) ≡ next files more
    stands_behind more =
        ap turn (append_assoc (front ++ were.mission ∷ []) (were.behaviors ∷ []) more ∙ append_assoc front (were.mission ∷ []) (were.behaviors ∷ more)) ∙ turns (were.mission ∷ were.behaviors ∷ more)
        ∙ read_so (were.behaviors ∷ more) ∙ ap (turn_behind BehaviorsFile (λ file. next (record { mission = files.mission; file = file }) more)) were.behaviors_read

    pub goes_on : (status : Status) → EndsFrom outcomes later turn both status → EndsFrom outcomes run turn front status
    goes_on status ends =
        went_on outcomes run between turn front MissionFile name name were.mission (record { told = refl; sure = refl; sink = refl; before = refl; after = refl })
        (ap turn (sym (append-nil front)) ∙ turns []) refl were.mission_told status
        (went_on outcomes between later turn (front ++ were.mission ∷ []) BehaviorsFile files.mission.behaviors files.mission.behaviors were.behaviors
        (record {
          told = is.told;
          sure = is.sure;
          sink = is.sink;
          before = were.heard ∙ ap (λ (loads : List Load). record { faults = run.heard_before.faults; loads = loads }) (sym (append_assoc run.heard_before.loads (given_load name were.mission ∷ []) (given_load files.mission.behaviors were.behaviors ∷ [])));
          after = is.after;
        })
        (turns (were.mission ∷ []) ∙ read_so []) refl were.behaviors_told status ends)

    -- and ends there, where nothing else is wanted
    pub ends_behind : (status : Status) → later.heard_after ≡ later.heard_before → Ended outcomes (next files []) later.sink status → EndsFrom outcomes run turn front status
    ends_behind status silent ended =
        goes_on status
        (ends_here outcomes later turn both status silent (subst (λ turn. Ended outcomes turn later.sink status) (sym (ap turn (sym (append-nil both)) ∙ stands_behind [])) ended))
