-- What follows from a run's status where nothing failed, or nothing could: a job whose files are good was done, and another was
-- refused.
use Rattle.std.proofs.Common.{◌≡◌, ℕ, ◌⊎◌, List, [], ◌∷◌, ◌++◌, ◌≤◌, true, length, take, inl, inr, refl, ap, sym, subst, ◌∙◌, arith, append_assoc, append-nil, length-append, length-take}
use Rattle.std.proofs.lemmas.Bool.{false≢true}
use Rattle.std.proofs.lemmas.List.{append_cancel_left}
use Rattle.std.specs.Prelude.{IfSome, Option, Some, None}
use Rattle.moos_files.specs.Files.{is_among}
use Rattle.moos_files.specs.Asked.{Load}
use Rattle.moos_files.specs.Heard.{Hearing, failed_load, given_load, with_loads}
use Rattle.moos_io.specs.Pieces.{Took}
use Rattle.moos_text.specs.declared.cause.Cause.{Cause}
use Rattle.moos_text.specs.declared.cause.ReadFault.{ReadFault}
use Rattle.moos_text.specs.declared.cause.ReadFault.TheVariants.{At}
use Rattle.command_line.specs.declared.job.Job.{Job}
use Rattle.command_line.specs.declared.status.FileKind.{FileKind}
use Rattle.command_line.specs.declared.status.Refusal.{Refusal}
use Rattle.command_line.specs.declared.status.Status.{Status}
use Rattle.command_line.specs.declared.status.Status.TheVariants.{Done, CheckNo, Usage, LoadFault, WriteFault, Refused, NoMemory}
use Rattle.command_line.specs.Turns.{FileTurn, loads_of, name_wanted, Ready, Unfit, Wanted, AreLoaded, WasWanted}
use Rattle.command_line.specs.Jobs.{job_named}
use Rattle.moos_jobs.specs.Jobs.{IsOutput, outcomes, turn_of}
use Rattle.moos_jobs.specs.declared.task.Task.{Task}
use Rattle.command_line.specs.Endings.{DidFrom, EndsFrom, Surroundings, Ended, Sinking, WroteAll}
use Rattle.moos_jobs.specs.Run.{Answers, Completes, Declines, EndsWith, Gave, HasFiles, HasRoomFor, IsDoneBut, IsRefusedBut, Misses, Objects, Refuses, Rejects, Succeeds}

-- what the job that the words name did from its first file on is what the run did
pub did : (words : List (List ℕ)) (run : Surroundings) (job : Job) (status : Status) → job_named words ≡ Some job → EndsFrom outcomes run (turn_of job) [] status → EndsWith words run status
did words run job Usage named goes = absurd goes.ended
did words run job NoMemory named goes = inr (record { job = job; named = named; ended = goes })
did words run job status named goes = record { job = job; named = named; ended = goes }

-- no more file is wanted
pub data IsOver (turn : FileTurn Task) : Type 0 where
  Good : (task : Task) → turn ≡ Ready task → IsOver turn
  Bad : (kind : FileKind) (fault : ReadFault) → turn ≡ Unfit kind fault → IsOver turn

-- where no more file is wanted none was loaded
over_first : (told : Option (List ℕ → Option (List ℕ))) (turn : FileTurn Task) (bytes : List ℕ) → IsOver turn → WasWanted told turn bytes → ⊥
over_first told turn bytes (Good task is) was = subst (λ turn. WasWanted told turn bytes) is was
over_first told turn bytes (Bad kind fault is) was = subst (λ turn. WasWanted told turn bytes) is was

-- a file that is wanted is the one that the folder tells
one_file : (files : List ℕ → Option (List ℕ)) (turn : FileTurn Task) (one other : List ℕ) → WasWanted (Some files) turn one → WasWanted (Some files) turn other → one ≡ other
one_file files (Wanted kind name) one other was is = let both : Some one ≡ Some other = sym was ∙ is in cc
one_file files (Ready task) one other was is = absurd was
one_file files (Unfit kind fault) one other was is = absurd was

-- two lists of files that a job loads up to its end are one
pub one_list : (files : List ℕ → Option (List ℕ)) (job : Job) (front one other : List (List ℕ)) → AreLoaded (Some files) (turn_of job) front one → AreLoaded (Some files) (turn_of job) front other
    → IsOver (turn_of job (front ++ one)) → IsOver (turn_of job (front ++ other)) → one ≡ other
one_list files job front [] [] loaded is over last = refl
one_list files job front [] (bytes ∷ other) loaded is over last =
    absurd (over_first (Some files) (turn_of job front) bytes (subst (λ all. IsOver (turn_of job all)) (append-nil front) over) is.0)
one_list files job front (bytes ∷ one) [] loaded is over last =
    absurd (over_first (Some files) (turn_of job front) bytes (subst (λ all. IsOver (turn_of job all)) (append-nil front) last) loaded.0)
one_list files job front (bytes ∷ one) (more ∷ other) loaded is over last =
    let first : bytes ≡ more = one_file files (turn_of job front) bytes more loaded.0 is.0 in
    let is_same : AreLoaded (Some files) (turn_of job) (front ++ bytes ∷ []) other = subst (λ first. AreLoaded (Some files) (turn_of job) (front ++ first ∷ []) other) (sym first) is.1 in
    let last_same : IsOver (turn_of job (front ++ bytes ∷ other)) = subst (λ first. IsOver (turn_of job (front ++ first ∷ other))) (sym first) last in
    let rest = one_list files job (front ++ bytes ∷ []) one other loaded.1 is_same
    (subst (λ all. IsOver (turn_of job all)) (sym (append_assoc front (bytes ∷ []) one)) over)
    (subst (λ all. IsOver (turn_of job all)) (sym (append_assoc front (bytes ∷ []) other)) last_same) in
    ap (λ first. first ∷ one) first ∙ ap (λ rest. more ∷ rest) rest

-- nor is one wanted there
over_wanted : (turn : FileTurn Task) (kind : FileKind) (name : List ℕ) → IsOver turn → turn ≡ Wanted kind name → ⊥
over_wanted turn kind name (Good task is) wanted = let both : Ready task ≡ Wanted kind name = sym is ∙ wanted in cc
over_wanted turn kind name (Bad other fault is) wanted = let both : Unfit other fault ≡ Wanted kind name = sym is ∙ wanted in cc

-- of a job whose files are all there, each file that is wanted on the way is told
pub wanted_told : (files : List ℕ → Option (List ℕ)) (job : Job) (front one other : List (List ℕ)) (kind : FileKind) (name : List ℕ) → AreLoaded (Some files) (turn_of job) front one → AreLoaded (Some files) (turn_of job) front other
    → IsOver (turn_of job (front ++ one)) → turn_of job (front ++ other) ≡ Wanted kind name → (bytes : List ℕ) × (files name ≡ Some bytes)
wanted_told files job front [] [] kind name loaded is over wanted = absurd (over_wanted (turn_of job (front ++ [])) kind name over wanted)
wanted_told files job front [] (bytes ∷ other) kind name loaded is over wanted =
    absurd (over_first (Some files) (turn_of job front) bytes (subst (λ all. IsOver (turn_of job all)) (append-nil front) over) is.0)
wanted_told files job front (bytes ∷ one) [] kind name loaded is over wanted =
    (bytes, subst (λ turn. WasWanted (Some files) turn bytes) (ap (turn_of job) (sym (append-nil front)) ∙ wanted) loaded.0)
wanted_told files job front (bytes ∷ one) (more ∷ other) kind name loaded is over wanted =
    let first : bytes ≡ more = one_file files (turn_of job front) bytes more loaded.0 is.0 in
    let is_same : AreLoaded (Some files) (turn_of job) (front ++ bytes ∷ []) other = subst (λ first. AreLoaded (Some files) (turn_of job) (front ++ first ∷ []) other) (sym first) is.1 in
    let wanted_same : turn_of job (front ++ bytes ∷ other) ≡ Wanted kind name = subst (λ first. turn_of job (front ++ first ∷ other) ≡ Wanted kind name) (sym first) wanted in
    wanted_told files job (front ++ bytes ∷ []) one other kind name loaded.1 is_same
    (subst (λ all. IsOver (turn_of job all)) (sym (append_assoc front (bytes ∷ []) one)) over)
    (ap (turn_of job) (append_assoc front (bytes ∷ []) other) ∙ wanted_same)

-- what was written is what the task may write
pub output_of : (task : Task) (status : Status) (sink : Sinking) (wrote : WroteAll outcomes (Ready task) status sink) → IsOutput task status wrote.text
output_of task status sink wrote =
    let good : Ready task ≡ Ready wrote.task = wrote.good in
    let same : wrote.task ≡ task = cc in
    subst (λ (one : Task). IsOutput one status wrote.text) same wrote.output

-- what was written was read from good files
pub none_written : (kind : FileKind) (fault : ReadFault) (task : Task) → Unfit kind fault ≡ Ready task → ⊥
none_written kind fault task good = cc

-- two refusals of the same files are one
one_refusal : (turn : FileTurn Task) (kind : FileKind) (line : ℕ) (cause : Cause) (refusal : Refusal) → turn ≡ Unfit kind (At line cause) → turn ≡ Unfit refusal.file (At refusal.line refusal.cause)
    → Refused refusal ≡ Refused (record { file = kind; line = line; cause = cause })
one_refusal turn kind line cause refusal bad same =
    let kind_same : refusal.file ≡ kind = cc in
    let line_same : refusal.line ≡ line = cc in
    let cause_same : refusal.cause ≡ cause = cc in
    λ i. Refused (record { file = kind_same i; line = line_same i; cause = cause_same i })

module _ (words : List (List ℕ)) (run : Surroundings) (job : Job) (files : List (List ℕ)) (has : HasFiles words run job files) where
  pub one_job : (other : Job) → job_named words ≡ Some other → other ≡ job
  one_job other named = let both : Some other ≡ Some job = sym named ∙ has.named in cc

  -- what the folder tells of the files that some job of these words loaded
  pub told_loads : (other : Job) → other ≡ job → (loads : List (List ℕ)) → AreLoaded run.told (turn_of other) [] loads → AreLoaded (Some has.told) (turn_of job) [] loads
  told_loads other same loads loaded = subst (λ told. AreLoaded told (turn_of job) [] loads) has.telling (subst (λ job. AreLoaded run.told (turn_of job) [] loads) same loaded)

  -- the job that the words name ended by what its files are told to hold
  pub ended_with : (turn : FileTurn Task) → turn_of job files ≡ turn → IsOver turn → (status : Status) (other : Job) → job_named words ≡ Some other → (did : DidFrom outcomes run (turn_of other) [] status)
      → IsOver (turn_of other did.files) → Ended outcomes turn run.sink status
  ended_with turn is over status other named did done =
      let same_job : other ≡ job = one_job other named in
      let same : did.files ≡ files = one_list has.told job [] did.files files (told_loads other same_job did.files did.loaded) (told_loads job refl files has.loaded)
      (subst (λ job. IsOver (turn_of job did.files)) same_job done) (subst IsOver (sym is) over) in
      subst (λ turn. Ended outcomes turn run.sink status) (ap (λ job. turn_of job did.files) same_job ∙ (ap (turn_of job) same ∙ is)) did.ended

  -- a folder that is sure of its files has failed at none of them
  loads_all : ((name bytes : List ℕ) → has.told name ≡ Some bytes → is_among run.sure name ≡ true) → IsOver (turn_of job files) → EndsWith words run LoadFault → ⊥
  loads_all sure over ran =
      let same_job : ran.job ≡ job = one_job ran.job ran.named in
      let found = wanted_told has.told job [] files ran.ended.files ran.ended.kind ran.ended.name (told_loads job refl files has.loaded) (told_loads ran.job same_job ran.ended.files ran.ended.loaded) over
      (ap (λ job. turn_of job ran.ended.files) (sym same_job) ∙ ran.ended.wanted) in
      false≢true (sym ran.ended.unsure ∙ sure ran.ended.name found.0 found.1)

  -- of a job that came to its end, no file that it wants on the way is missing
  none_missing : (kind : FileKind) (name : List ℕ) → turn_of job files ≡ Wanted kind name → has.told name ≡ None → (status : Status) (other : Job) → job_named words ≡ Some other
      → (did : DidFrom outcomes run (turn_of other) [] status) → IsOver (turn_of other did.files) → ⊥
  none_missing kind name wanted none status other named did done =
      let same_job : other ≡ job = one_job other named in
      let found = wanted_told has.told job [] did.files files kind name (told_loads other same_job did.files did.loaded) (told_loads job refl files has.loaded)
      (subst (λ job. IsOver (turn_of job did.files)) same_job done) wanted in
      let both : None ≡ Some found.0 = sym none ∙ found.1 in absurd cc

  -- where one is missing, the load failed
  pub is_missing : (kind : FileKind) (name : List ℕ) (status : Status) → turn_of job files ≡ Wanted kind name → has.told name ≡ None → EndsWith words run status → (status ≡ LoadFault) ⊎ (status ≡ NoMemory)
  is_missing kind name Done wanted none ran = absurd (none_missing kind name wanted none Done ran.job ran.named ran.ended (Good ran.ended.ended.task ran.ended.ended.good))
  is_missing kind name CheckNo wanted none ran = absurd (none_missing kind name wanted none CheckNo ran.job ran.named ran.ended (Good ran.ended.ended.task ran.ended.ended.good))
  is_missing kind name Usage wanted none ran = let both : None ≡ Some job = sym ran.unnamed ∙ has.named in absurd cc
  is_missing kind name LoadFault wanted none ran = inl refl
  is_missing kind name WriteFault wanted none ran =
      absurd (none_missing kind name wanted none WriteFault ran.job ran.named ran.ended (Good ran.ended.ended.0.task ran.ended.ended.0.good))
  is_missing kind name (Refused refusal) wanted none ran =
      absurd (none_missing kind name wanted none (Refused refusal) ran.job ran.named ran.ended (Bad refusal.file (At refusal.line refusal.cause) ran.ended.ended.0))
  is_missing kind name NoMemory wanted none ran = inr refl

  -- with good files the job is done, where no load fails and no put does
  is_done : (task : Task) (status : Status) → turn_of job files ≡ Ready task → (EndsWith words run LoadFault → ⊥) → (Ended outcomes (Ready task) run.sink WriteFault → ⊥) → EndsWith words run status
      → IsDoneBut task run status
  is_done task Done good loads puts ran = inl (ended_with (Ready task) good (Good task refl) Done ran.job ran.named ran.ended (Good ran.ended.ended.task ran.ended.ended.good))
  is_done task CheckNo good loads puts ran = inl (ended_with (Ready task) good (Good task refl) CheckNo ran.job ran.named ran.ended (Good ran.ended.ended.task ran.ended.ended.good))
  is_done task Usage good loads puts ran = let both : None ≡ Some job = sym ran.unnamed ∙ has.named in absurd cc
  is_done task LoadFault good loads puts ran = absurd (loads ran)
  is_done task WriteFault good loads puts ran =
      absurd (puts (ended_with (Ready task) good (Good task refl) WriteFault ran.job ran.named ran.ended (Good ran.ended.ended.0.task ran.ended.ended.0.good)))
  is_done task (Refused refusal) good loads puts ran =
      let ended = ended_with (Ready task) good (Good task refl) (Refused refusal) ran.job ran.named ran.ended (Bad refusal.file (At refusal.line refusal.cause) ran.ended.ended.0) in
      let other : Ready task ≡ Unfit refusal.file (At refusal.line refusal.cause) = ended.0 in absurd cc
  is_done task NoMemory good loads puts ran = inr refl

  -- with a bad file it is refused, where no load fails
  is_refused : (kind : FileKind) (line : ℕ) (cause : Cause) (status : Status) → turn_of job files ≡ Unfit kind (At line cause) → (EndsWith words run LoadFault → ⊥) → EndsWith words run status
      → IsRefusedBut kind line cause status
  is_refused kind line cause Done bad loads ran =
      let wrote = ended_with (Unfit kind (At line cause)) bad (Bad kind (At line cause) refl) Done ran.job ran.named ran.ended (Good ran.ended.ended.task ran.ended.ended.good) in
      absurd (none_written kind (At line cause) wrote.task wrote.good)
  is_refused kind line cause CheckNo bad loads ran =
      let wrote = ended_with (Unfit kind (At line cause)) bad (Bad kind (At line cause) refl) CheckNo ran.job ran.named ran.ended (Good ran.ended.ended.task ran.ended.ended.good) in
      absurd (none_written kind (At line cause) wrote.task wrote.good)
  is_refused kind line cause Usage bad loads ran = let both : None ≡ Some job = sym ran.unnamed ∙ has.named in absurd cc
  is_refused kind line cause LoadFault bad loads ran = absurd (loads ran)
  is_refused kind line cause WriteFault bad loads ran =
      let wrote = ended_with (Unfit kind (At line cause)) bad (Bad kind (At line cause) refl) WriteFault ran.job ran.named ran.ended (Good ran.ended.ended.0.task ran.ended.ended.0.good) in
      absurd (none_written kind (At line cause) wrote.0.task wrote.0.good)
  is_refused kind line cause (Refused refusal) bad loads ran =
      inl (one_refusal (Unfit kind (At line cause)) kind line cause refusal refl
      (ended_with (Unfit kind (At line cause)) bad (Bad kind (At line cause) refl) (Refused refusal) ran.job ran.named ran.ended (Bad refusal.file (At refusal.line refusal.cause) ran.ended.ended.0)).0)
  is_refused kind line cause NoMemory bad loads ran = inr refl

-- a sink with room for whatever the task may write has failed at nothing
puts_all : (task : Task) (sink : Sinking) → HasRoomFor task sink → Ended outcomes (Ready task) sink WriteFault → ⊥
puts_all task sink has (wrote, fell) =
    let good : Ready task ≡ Ready wrote.task = wrote.good in
    let same : wrote.task ≡ task = cc in
    let output : IsOutput task wrote.status wrote.text = subst (λ one. IsOutput one wrote.status wrote.text) same wrote.output in
    let n = wrote.took.0 in
    let took : sink.taken_after ≡ Some (has.taken ++ take n wrote.text) = subst (λ before. Took before sink.taken_after (take n wrote.text)) has.telling wrote.took.2 in
    let past : sink.fared_before.firm ≤ length (has.taken ++ take n wrote.text) = subst (λ taken. IfSome taken (λ bytes. sink.fared_before.firm ≤ length bytes)) took fell.past in
    omega (arith, past, has.room wrote.status wrote.text output, wrote.took.1, length-append has.taken (take n wrote.text), length-take {A = ℕ} n wrote.text)

pub completes : (words : List (List ℕ)) (run : Surroundings) (status : Status) → EndsWith words run status → Completes words run status
completes words run status ran job files task served good =
    is_done words run job files served.has task status good (λ failed. served.loads failed.ended.rose) (λ ended. served.puts ended.1.rose) ran

pub refuses : (words : List (List ℕ)) (run : Surroundings) (status : Status) → EndsWith words run status → Refuses words run status
refuses words run status ran job files kind line cause served bad = is_refused words run job files served.has kind line cause status bad (λ failed. served.loads failed.ended.rose) ran

pub succeeds : (words : List (List ℕ)) (run : Surroundings) (status : Status) → EndsWith words run status → Succeeds words run status
succeeds words run status ran job files task held good room =
    is_done words run job files held.has task status good (loads_all words run job files held.has held.sure (Good task good)) (puts_all task run.sink room) ran

pub declines : (words : List (List ℕ)) (run : Surroundings) (status : Status) → EndsWith words run status → Declines words run status
declines words run status ran job files kind line cause held bad =
    is_refused words run job files held.has kind line cause status bad (loads_all words run job files held.has held.sure (Bad kind (At line cause) bad)) ran

-- the loads of a job tell its files
pub heard_files : (job : Job) (front one other : List (List ℕ)) → loads_of (turn_of job) front one ≡ loads_of (turn_of job) front other → one ≡ other
heard_files job front [] [] same = refl
heard_files job front [] (more ∷ other) same = absurd cc
heard_files job front (bytes ∷ one) [] same = absurd cc
heard_files job front (bytes ∷ one) (more ∷ other) same =
    let name = name_wanted (turn_of job front) in
    let lists : given_load name bytes ∷ loads_of (turn_of job) (front ++ bytes ∷ []) one ≡ given_load name more ∷ loads_of (turn_of job) (front ++ more ∷ []) other = same in
    let load : given_load name bytes ≡ given_load name more = cc in
    let given : Some bytes ≡ Some more = ap (λ (load : Load). load.given) load in
    let first : bytes ≡ more = cc in
    let rest : loads_of (turn_of job) (front ++ bytes ∷ []) one ≡ loads_of (turn_of job) (front ++ more ∷ []) other = cc in
    ap (λ first. first ∷ one) first
    ∙ ap (λ rest. more ∷ rest) (heard_files job (front ++ bytes ∷ []) one other (rest ∙ ap (λ first. loads_of (turn_of job) (front ++ first ∷ []) other) (sym first)))

-- none of them failed
none_failed : (job : Job) (front files : List (List ℕ)) (loads : List Load) (name : List ℕ) → loads_of (turn_of job) front files ≡ loads ++ failed_load name ∷ [] → ⊥
none_failed job front [] [] name same = absurd cc
none_failed job front [] (load ∷ loads) name same = absurd cc
none_failed job front (bytes ∷ files) [] name same =
    let lists : given_load (name_wanted (turn_of job front)) bytes ∷ loads_of (turn_of job) (front ++ bytes ∷ []) files ≡ failed_load name ∷ [] = same in
    let load : given_load (name_wanted (turn_of job front)) bytes ≡ failed_load name = cc in
    let given : Some bytes ≡ None = ap (λ (load : Load). load.given) load in
    absurd cc
none_failed job front (bytes ∷ files) (load ∷ loads) name same =
    let lists : given_load (name_wanted (turn_of job front)) bytes ∷ loads_of (turn_of job) (front ++ bytes ∷ []) files ≡ load ∷ (loads ++ failed_load name ∷ []) = same in
    let rest : loads_of (turn_of job) (front ++ bytes ∷ []) files ≡ loads ++ failed_load name ∷ [] = cc in
    none_failed job (front ++ bytes ∷ []) files loads name rest

module _ (words : List (List ℕ)) (run : Surroundings) (job : Job) (files : List (List ℕ)) (gave : Gave words run job files) where
  pub job_given : (other : Job) → job_named words ≡ Some other → other ≡ job
  job_given other named = let both : Some other ≡ Some job = sym named ∙ gave.named in cc

  given_with : (turn : FileTurn Task) → turn_of job files ≡ turn → (status : Status) (other : Job) (loads : List (List ℕ)) → job_named words ≡ Some other
      → run.heard_after ≡ with_loads run.heard_before (loads_of (turn_of other) [] loads) → Ended outcomes (turn_of other loads) run.sink status → Ended outcomes turn run.sink status
  given_with turn is status other loads named heard ended =
      let same_job : other ≡ job = job_given other named in
      let same : loads ≡ files = heard_files job [] loads files
      (append_cancel_left run.heard_before.loads _ _ (ap (λ (heard : Hearing). heard.loads) (ap (λ job. with_loads run.heard_before (loads_of (turn_of job) [] loads)) (sym same_job) ∙ sym heard ∙ gave.heard))) in
      subst (λ turn. Ended outcomes turn run.sink status) (ap (λ job. turn_of job loads) same_job ∙ (ap (turn_of job) same ∙ is)) ended

  no_load_fault : EndsWith words run LoadFault → ⊥
  no_load_fault ran =
      none_failed job [] files (loads_of (turn_of ran.job) [] ran.ended.files) ran.ended.name
      (append_cancel_left run.heard_before.loads _ _ (sym (ap (λ (heard : Hearing). heard.loads) gave.heard) ∙ ran.ended.heard))

  answers_so : (task : Task) (status : Status) → turn_of job files ≡ Ready task → (Ended outcomes (Ready task) run.sink WriteFault → ⊥) → EndsWith words run status → IsDoneBut task run status
  answers_so task Done good puts ran = inl (given_with (Ready task) good Done ran.job ran.ended.files ran.named ran.ended.heard ran.ended.ended)
  answers_so task CheckNo good puts ran = inl (given_with (Ready task) good CheckNo ran.job ran.ended.files ran.named ran.ended.heard ran.ended.ended)
  answers_so task Usage good puts ran = let both : None ≡ Some job = sym ran.unnamed ∙ gave.named in absurd cc
  answers_so task LoadFault good puts ran = absurd (no_load_fault ran)
  answers_so task WriteFault good puts ran = absurd (puts (given_with (Ready task) good WriteFault ran.job ran.ended.files ran.named ran.ended.heard ran.ended.ended))
  answers_so task (Refused refusal) good puts ran =
      let ended = given_with (Ready task) good (Refused refusal) ran.job ran.ended.files ran.named ran.ended.heard ran.ended.ended in
      let other : Ready task ≡ Unfit refusal.file (At refusal.line refusal.cause) = ended.0 in absurd cc
  answers_so task NoMemory good puts ran = inr refl

  objects_so : (kind : FileKind) (line : ℕ) (cause : Cause) (status : Status) → turn_of job files ≡ Unfit kind (At line cause) → EndsWith words run status → IsRefusedBut kind line cause status
  objects_so kind line cause Done bad ran =
      let wrote = given_with (Unfit kind (At line cause)) bad Done ran.job ran.ended.files ran.named ran.ended.heard ran.ended.ended in absurd (none_written kind (At line cause) wrote.task wrote.good)
  objects_so kind line cause CheckNo bad ran =
      let wrote = given_with (Unfit kind (At line cause)) bad CheckNo ran.job ran.ended.files ran.named ran.ended.heard ran.ended.ended in absurd (none_written kind (At line cause) wrote.task wrote.good)
  objects_so kind line cause Usage bad ran = let both : None ≡ Some job = sym ran.unnamed ∙ gave.named in absurd cc
  objects_so kind line cause LoadFault bad ran = absurd (no_load_fault ran)
  objects_so kind line cause WriteFault bad ran =
      let wrote = given_with (Unfit kind (At line cause)) bad WriteFault ran.job ran.ended.files ran.named ran.ended.heard ran.ended.ended in absurd (none_written kind (At line cause) wrote.0.task wrote.0.good)
  objects_so kind line cause (Refused refusal) bad ran =
      inl (one_refusal (Unfit kind (At line cause)) kind line cause refusal refl
      (given_with (Unfit kind (At line cause)) bad (Refused refusal) ran.job ran.ended.files ran.named ran.ended.heard ran.ended.ended).0)
  objects_so kind line cause NoMemory bad ran = inr refl

pub answers : (words : List (List ℕ)) (run : Surroundings) (status : Status) → EndsWith words run status → Answers words run status
answers words run status ran job files task gave good puts = answers_so words run job files gave task status good (λ ended. puts ended.1.rose) ran

pub objects : (words : List (List ℕ)) (run : Surroundings) (status : Status) → EndsWith words run status → Objects words run status
objects words run status ran job files kind line cause gave bad = objects_so words run job files gave kind line cause status bad ran

pub misses : (words : List (List ℕ)) (run : Surroundings) (status : Status) → EndsWith words run status → Misses words run status
misses words run status ran job files kind name has wanted none = is_missing words run job files has kind name status wanted none ran

-- words that name no job did none
none_done : (words : List (List ℕ)) (job : Job) → job_named words ≡ None → job_named words ≡ Some job → ⊥
none_done words job none named = let both : None ≡ Some job = sym none ∙ named in absurd cc

pub rejects : (words : List (List ℕ)) (run : Surroundings) (status : Status) → EndsWith words run status → Rejects words status
rejects words run Usage ran none = inl refl
rejects words run NoMemory ran none = inr refl
rejects words run status ran none = absurd (none_done words ran.job none ran.named)
