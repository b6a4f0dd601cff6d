-- Runs over a folder in memory and a sink that fails only where it is full: what can't come of them, worked by hand.
use Rattle.std.proofs.Common.{◌≡◌, ℕ, ◌+◌, ◌≤◌, inl, inr, true, false, List, [], ◌∷◌, length, refl, ap, sym, subst, arith}
use Rattle.std.specs.Prelude.{codes, Option, Some}
use Rattle.moos_io.specs.Faults.{Faring}
use Rattle.moos_files.specs.Files.{file_content}
use Rattle.moos_io.specs.FirmState.{firm_faring, FirmState}
use Rattle.moos_files.specs.FolderState.{FolderState}
use Rattle.moos_files.specs.Heard.{Hearing}
use Rattle.moos_files.specs.Loads.{sure_names}
use Rattle.moos_files.proofs.Files.{present}
use Rattle.moos_text.specs.declared.cause.Cause.TheVariants.{P1}
use Rattle.command_line.specs.declared.job.Job.TheVariants.{Solve}
use Rattle.command_line.specs.declared.status.FileKind.TheVariants.{Problem as ProblemFile}
use Rattle.command_line.specs.declared.status.Status.{Status}
use Rattle.command_line.specs.declared.status.Status.TheVariants.{Done, CheckNo, Usage, LoadFault, WriteFault, Refused, NoMemory}
use Rattle.moos_jobs.specs.Jobs.{IsOutput}
use Rattle.moos_jobs.specs.declared.task.Task.TheVariants.{Solving}
use Rattle.command_line.specs.Endings.{Surroundings, surroundings, Sinking, sinking}
use Rattle.moos_jobs.specs.Run.{EndsWith, HasRoomFor, IsHeld}
use Rattle.moos_jobs.proofs.Endings.{declines, output_of, succeeds}
use Rattle.command_line.proofs.Examples.{solves_by_one}
use Rattle.moos_jobs.proofs.JobExamples.{accepted, decision_bytes, printed, problem, problem_bytes}

-- the words of a run that solves a problem, a folder with its file and these marks, and an empty sink with room for so many bytes
abbrev solve : List (List ℕ)
solve = codes "solve" ∷ codes "p" ∷ []

abbrev folder : List ℕ → List ℕ → FolderState
folder bytes marks = record { files = record { name = codes "p"; bytes = bytes } ∷ []; loads = 0; marks = marks; faults = 0; heard = [] }

abbrev sink : ℕ → FirmState
sink room = record { taken = []; room = room; faults = 0 }

-- such a run, whatever became of both
abbrev sunk : ℕ → List ℕ → Faring → Sinking
sunk room taken faring = sinking (Some (sink room).taken) (Some taken) (firm_faring (sink room)) faring

abbrev over : FolderState → Sinking → Hearing → Surroundings
over folder sink heard =
    surroundings (Some (file_content folder.files)) (sure_names folder) (record { faults = folder.faults; loads = folder.heard }) heard sink

-- without marks the folder is sure of its file; with a mark it isn't, wherever the mark is
held : (bytes : List ℕ) (sink : Sinking) (heard : Hearing) → IsHeld solve (over (folder bytes []) sink heard) (Solve (codes "p") 1) (bytes ∷ [])
held bytes sink heard = record {
  has = record { told = file_content (folder bytes []).files; telling = refl; named = solves_by_one; loaded = (refl, tt) };
  sure = present (folder bytes []).files;
}

marked : (sink : Sinking) (heard : Hearing) → IsHeld solve (over (folder problem_bytes (3 ∷ [])) sink heard) (Solve (codes "p") 1) (problem_bytes ∷ []) → ⊥
marked sink heard is =
    let both : Some (file_content (folder problem_bytes (3 ∷ [])).files) ≡ Some is.has.told = is.has.telling in
    let told : file_content (folder problem_bytes (3 ∷ [])).files ≡ is.has.told = cc in
    let sure : false ≡ true = is.sure (codes "p") problem_bytes (subst (λ (told : List ℕ → Option (List ℕ)). told (codes "p") ≡ Some problem_bytes) told refl) in
    cc

-- a sink with room for the decision's bytes has room for all that may be written, and one with room for fewer hasn't
roomy : (room : ℕ) (taken : List ℕ) (faring : Faring) → length decision_bytes ≤ room → HasRoomFor (Solving problem) (sunk room taken faring)
roomy room taken faring enough = record { taken = []; telling = refl; room = by }
  where
    by : (status : Status) (text : List ℕ) → IsOutput (Solving problem) status text → length {A = ℕ} [] + length text ≤ length {A = ℕ} [] + room
    by Done text output = omega (arith, ap length output.printed, ap length printed, enough)
    by CheckNo text output = absurd output
    by Usage text output = absurd output
    by LoadFault text output = absurd output
    by WriteFault text output = absurd output
    by (Refused refusal) text output = absurd output
    by NoMemory text output = absurd output

narrow : (taken : List ℕ) (faring : Faring) → HasRoomFor (Solving problem) (sunk 20 taken faring) → ⊥
narrow taken faring is = omega (arith, is.room Done decision_bytes (record { printed = sym printed; accepted = accepted }))

-- so the good problem's run ends in no fault
no_load_fails : (taken : List ℕ) (faring : Faring) (heard : Hearing) → EndsWith solve (over (folder problem_bytes []) (sunk (length decision_bytes) taken faring) heard) LoadFault → ⊥
no_load_fails taken faring heard ran =
    elim (succeeds solve (over (folder problem_bytes []) (sunk (length decision_bytes) taken faring) heard) LoadFault ran (Solve (codes "p") 1) (problem_bytes ∷ []) (Solving problem)
    (held problem_bytes (sunk (length decision_bytes) taken faring) heard) refl (roomy (length decision_bytes) taken faring (omega arith))) [
      | inl wrote ↦ output_of (Solving problem) LoadFault (sunk (length decision_bytes) taken faring) wrote
      | inr memory ↦ cc
    ]

no_put_fails : (taken : List ℕ) (faring : Faring) (heard : Hearing) → EndsWith solve (over (folder problem_bytes []) (sunk (length decision_bytes) taken faring) heard) WriteFault → ⊥
no_put_fails taken faring heard ran =
    elim (succeeds solve (over (folder problem_bytes []) (sunk (length decision_bytes) taken faring) heard) WriteFault ran (Solve (codes "p") 1) (problem_bytes ∷ []) (Solving problem)
    (held problem_bytes (sunk (length decision_bytes) taken faring) heard) refl (roomy (length decision_bytes) taken faring (omega arith))) [
      | inl wrote ↦ output_of (Solving problem) WriteFault (sunk (length decision_bytes) taken faring) wrote
      | inr memory ↦ cc
    ]

-- nor does a bad one's, and where the sink is full neither
bad_loads : (taken : List ℕ) (faring : Faring) (heard : Hearing) → EndsWith solve (over (folder (codes "ivp 2\n") []) (sunk 0 taken faring) heard) LoadFault → ⊥
bad_loads taken faring heard ran =
    elim (declines solve (over (folder (codes "ivp 2\n") []) (sunk 0 taken faring) heard) LoadFault ran (Solve (codes "p") 1) (codes "ivp 2\n" ∷ []) ProblemFile 1 P1
    (held (codes "ivp 2\n") (sunk 0 taken faring) heard) refl) [
      | inl same ↦ cc
      | inr memory ↦ cc
    ]
