-- Runs worked by hand: what each status says, and what it doesn't say of a run that did something else.
use Rattle.std.proofs.Common.{◌≡◌, ℕ, inl, inr, true, false, List, [], ◌∷◌, ◌++◌, length, take, refl, ap, sym, ◌∙◌, subst, arith}
use Rattle.std.specs.Prelude.{codes, Option, Some, None, Result, Ok, Err}
use Rattle.std.specs.Fmt.{digits}
use Rattle.ivp_cert.specs.Certificates.{best_decision}
use Rattle.ivp_cert.specs.Texts.{decision_lines}
use Rattle.moos_io.specs.Faults.{Rose}
use Rattle.moos_files.specs.Files.{file_content, is_among}
use Rattle.ivp_cert.specs.Problems.{problem_of}
use Rattle.ivp_problem.specs.Problems.{WeightedSum}
use Rattle.moos_text.specs.declared.cause.Cause.TheVariants.{P1}
use Rattle.moos_text.specs.declared.cause.ReadFault.{ReadFault}
use Rattle.command_line.specs.declared.job.Job.TheVariants.{Solve, Check}
use Rattle.command_line.specs.declared.status.FileKind.{FileKind}
use Rattle.command_line.specs.declared.status.FileKind.TheVariants.{Problem as ProblemFile}
use Rattle.command_line.specs.declared.status.Status.{Status}
use Rattle.command_line.specs.declared.status.Status.TheVariants.{Done, CheckNo, Usage, LoadFault, WriteFault, Refused, NoMemory}
use Rattle.moos_jobs.specs.declared.task.Task.TheVariants.{Checking, Solving}
use Rattle.command_line.specs.Turns.{Ready, turn_behind, Unfit, Wanted, HasBytes}
use Rattle.moos_jobs.specs.Jobs.{IsPartOutput, outcomes, turn_of}
use Rattle.command_line.specs.Endings.{DidFrom, Surroundings, surroundings, Ended, WroteAll}
use Rattle.moos_files.specs.Heard.{Hearing, failed_load, given_load}
use Rattle.moos_jobs.specs.Run.{Completes, DidJob, IsServed, EndsWith, Refuses}
use Rattle.moos_jobs.proofs.Endings.{completes, ended_with, Good, IsOver, output_of, refuses}
use Rattle.command_line.proofs.Examples.{checks, solves_by_one}
use Rattle.moos_jobs.proofs.JobExamples.{accepted, decision, decision_bytes, not_accepted, poor, poor_bytes, printed, problem, problem_bytes, sink_of}

-- the words of a run that solves a problem, and what surrounds it, by what the file holds, what the sink has taken, and how often it failed; the folder tells its
-- files and is sure of this one
abbrev pub folder : List ℕ → List ℕ → List ℕ → Option (List ℕ)
folder name bytes = file_content (record { name = name; bytes = bytes } ∷ [])

abbrev solve : List (List ℕ)
solve = codes "solve" ∷ codes "p" ∷ []

-- nothing was loaded so far; then one file was
abbrev pub unheard : Hearing
unheard = record { faults = 0; loads = [] }

abbrev pub one_load : List ℕ → List ℕ → Hearing
one_load name bytes = record { faults = 0; loads = given_load name bytes ∷ [] }

abbrev solving : List ℕ → List ℕ → ℕ → Surroundings
solving bytes taken put_faults =
    surroundings (Some (folder (codes "p") bytes)) (codes "p" ∷ []) unheard (one_load (codes "p") bytes) (sink_of [] taken put_faults)

none_rose : Rose 0 0 → ⊥
none_rose (inl rose) = omega arith
none_rose (inr most) = omega arith

served : (bytes taken : List ℕ) → IsServed solve (solving bytes taken 0) (Solve (codes "p") 1) (bytes ∷ [])
served bytes taken = record { has = record { told = folder (codes "p") bytes; telling = refl; named = solves_by_one; loaded = (refl, tt) }; loads = none_rose; puts = none_rose }

-- a folder that tells its files has these bytes under this name, and no others; of one that doesn't tell them, a file may have any bytes
has_bytes : HasBytes (Some (folder (codes "p") problem_bytes)) (codes "p") problem_bytes × HasBytes None (codes "p") problem_bytes
has_bytes = (refl, tt)

other_bytes : HasBytes (Some (folder (codes "p") problem_bytes)) (codes "p") [] → ⊥
other_bytes has = let bytes : Some problem_bytes ≡ Some [] = has in cc

other_name : HasBytes (Some (folder (codes "p") problem_bytes)) (codes "q") problem_bytes → ⊥
other_name has = let bytes : None ≡ Some problem_bytes = has in cc

-- Done: the whole decision was written, and not half of it, nor twice, nor nothing
solved : EndsWith solve (solving problem_bytes decision_bytes 0) Done
unfolding digits
solved =
    record {
      job = Solve (codes "p") 1;
      named = solves_by_one;
      ended = record { files = problem_bytes ∷ []; loaded = (refl, tt); heard = refl; ended = record { task = Solving problem; good = refl; text = decision_bytes; output = record { printed = refl; accepted = accepted }; took = refl; fared = refl } };
    }

-- how it ended, by what its file holds
solving_ended : (taken : List ℕ) (status : Status) (is : DidJob solve (solving problem_bytes taken 0) status) (did : DidFrom outcomes (solving problem_bytes taken 0) (turn_of is.job) [] status) → IsOver (turn_of is.job did.files)
    → Ended outcomes (Ready (Solving problem)) (sink_of [] taken 0) status
solving_ended taken status is did over =
    ended_with solve (solving problem_bytes taken 0) (Solve (codes "p") 1) (problem_bytes ∷ []) (served problem_bytes taken).has (Ready (Solving problem)) refl (Good (Solving problem) refl) status is.job is.named did over

all_written : (taken : List ℕ) → EndsWith solve (solving problem_bytes taken 0) Done → taken ≡ decision_bytes
all_written taken is =
    let wrote : WroteAll outcomes (Ready (Solving problem)) Done (sink_of [] taken 0) = solving_ended taken Done is is.ended (Good is.ended.ended.task is.ended.ended.good) in
    let output : wrote.text ≡ decision_lines [] (best_decision problem) = (output_of (Solving problem) Done (sink_of [] taken 0) wrote).printed in
    let took : Some taken ≡ Some wrote.text = wrote.took in
    let same : taken ≡ wrote.text = cc in
    same ∙ output ∙ printed

half_written : EndsWith solve (solving problem_bytes (take 20 decision_bytes) 0) Done → ⊥
half_written is = omega (arith, ap length (all_written (take 20 decision_bytes) is))

twice_written : EndsWith solve (solving problem_bytes (decision_bytes ++ decision_bytes) 0) Done → ⊥
twice_written is = omega (arith, ap length (all_written (decision_bytes ++ decision_bytes) is))

nothing_written : EndsWith solve (solving problem_bytes [] 0) Done → ⊥
nothing_written is = omega (arith, ap length (all_written [] is))

-- CheckNo is no end of a job that solves a problem
says_no : EndsWith solve (solving problem_bytes decision_bytes 0) CheckNo → ⊥
says_no is =
    output_of (Solving problem) CheckNo (sink_of [] decision_bytes 0)
    (solving_ended decision_bytes CheckNo is is.ended (Good is.ended.ended.task is.ended.ended.good))

-- WriteFault: the sink took a part and not the whole, and its fault was counted
write_failed : EndsWith solve (solving problem_bytes (take 20 decision_bytes) 1) WriteFault
unfolding digits
write_failed =
    record {
      job = Solve (codes "p") 1;
      named = solves_by_one;
      ended =
          record {
            files = problem_bytes ∷ [];
            loaded = (refl, tt);
            heard = refl;
            ended = (record { task = Solving problem; good = refl; status = Done; text = decision_bytes; output = record { printed = refl; accepted = accepted }; took = (20, omega arith, refl) }, record { rose = inl (omega arith); past = omega arith });
          };
    }

told_no_fault : EndsWith solve (solving problem_bytes (take 20 decision_bytes) 0) WriteFault → ⊥
told_no_fault is = none_rose is.ended.ended.1.rose

-- NoMemory: nothing was written, and no front of a decision
no_memory : EndsWith solve (solving problem_bytes [] 0) NoMemory
no_memory = inr (record {
  job = Solve (codes "p") 1;
  named = solves_by_one;
  ended = record { files = problem_bytes ∷ []; loaded = (refl, tt); heard = inl refl; ended = inl (record { taken = refl; faults = refl }) };
})

wrote_without_memory : EndsWith solve (solving problem_bytes (take 20 decision_bytes) 0) NoMemory → ⊥
wrote_without_memory (inl none) = let taken : Some (take 20 decision_bytes) ≡ Some [] = none.silent.taken in cc
wrote_without_memory (inr is) = elim is.ended.ended [
  | inl untouched ↦ let taken : Some (take 20 decision_bytes) ≡ Some [] = untouched.taken in cc
  | inr wrote ↦
      elim (solving_ended (take 20 decision_bytes) NoMemory is is.ended (Good wrote.front.task wrote.front.good)) [
        | inl untouched ↦ let taken : Some (take 20 decision_bytes) ≡ Some [] = untouched.taken in cc
        | inr part ↦
            let both : Ready (Solving problem) ≡ Ready part.front.task = part.front.good in
            let same : Solving problem ≡ part.front.task = cc in
            subst (λ task. IsPartOutput task part.text) (sym same) part.stands
      ]
]

-- Usage: the words name no job, nothing was loaded, and nothing was written
sails : (faults : ℕ) (taken : List ℕ) → Surroundings
sails faults taken = surroundings None [] unheard (record { faults = faults; loads = [] }) (sink_of [] taken 0)

abbrev sail : List (List ℕ)
sail = codes "sail" ∷ codes "p" ∷ []

usage : EndsWith sail (sails 0 []) Usage
unfolding sails
usage = record { unnamed = refl; heard = refl; silent = record { taken = refl; faults = refl } }

wrote_its_usage : EndsWith sail (sails 0 (codes "usage\n")) Usage → ⊥
unfolding sails
wrote_its_usage is = let taken : Some (codes "usage\n") ≡ Some [] = is.silent.taken in cc

loaded_nothing : EndsWith sail (sails 1 []) Usage → ⊥
unfolding sails
loaded_nothing is = omega (arith, ap (λ (heard : Hearing). heard.faults) is.heard)

named_a_job : EndsWith solve (solving problem_bytes [] 0) Usage → ⊥
named_a_job is = let both : None ≡ Some (Solve (codes "p") 1) = sym is.unnamed ∙ solves_by_one in cc

-- LoadFault: the folder failed at a file that it isn't sure of, its fault was counted, and nothing was written
abbrev loading : List (List ℕ) → ℕ → List ℕ → Surroundings
loading sure load_faults taken =
    surroundings (Some (folder (codes "p") problem_bytes)) sure unheard (record { faults = load_faults; loads = failed_load (codes "p") ∷ [] }) (sink_of [] taken 0)

not_loaded : EndsWith solve (loading [] 1 []) LoadFault
not_loaded = record {
  job = Solve (codes "p") 1;
  named = solves_by_one;
  ended = record { rose = inl (omega arith); files = []; loaded = tt; kind = ProblemFile; name = codes "p"; wanted = refl; heard = refl; unsure = refl; silent = record { taken = refl; faults = refl } };
}

-- a job that solves a problem wants no other file
wanted_by_solve : (files : List (List ℕ)) (kind : FileKind) (name : List ℕ) → turn_of (Solve (codes "p") 1) files ≡ Wanted kind name → name ≡ codes "p"
wanted_by_solve [] kind name wanted = let both : Wanted ProblemFile (codes "p") ≡ Wanted kind name = wanted in cc
wanted_by_solve (bytes ∷ files) kind name wanted = of (problem_of bytes) wanted
  where
    of : (read : Result WeightedSum ReadFault) → turn_behind ProblemFile (λ problem. Ready (Solving problem)) read ≡ Wanted kind name → name ≡ codes "p"
    of (Ok problem) is = let both : Ready (Solving problem) ≡ Wanted kind name = is in absurd cc
    of (Err fault) is = let both : Unfit ProblemFile fault ≡ Wanted kind name = is in absurd cc

sure_of_it : EndsWith solve (loading (codes "p" ∷ []) 1 []) LoadFault → ⊥
sure_of_it is =
    let both : Some is.job ≡ Some (Solve (codes "p") 1) = sym is.named ∙ solves_by_one in
    let same : is.job ≡ Solve (codes "p") 1 = cc in
    let name : is.ended.name ≡ codes "p" = wanted_by_solve is.ended.files is.ended.kind is.ended.name (ap (λ job. turn_of job is.ended.files) (sym same) ∙ is.ended.wanted) in
    let unsure : true ≡ false = ap (is_among (codes "p" ∷ [])) (sym name) ∙ is.ended.unsure in
    cc

no_load_fault : EndsWith solve (loading [] 0 []) LoadFault → ⊥
no_load_fault is = none_rose is.ended.rose

wrote_unloaded : EndsWith solve (loading [] 1 decision_bytes) LoadFault → ⊥
wrote_unloaded is = let taken : Some decision_bytes ≡ Some [] = is.ended.silent.taken in cc

-- Refused: the file has this first refusal, and nothing was written
abbrev refusal : FileKind → ℕ → Status
refusal file line = Refused (record { file = file; line = line; cause = P1 })

refused : EndsWith solve (solving (codes "ivp 2\n") [] 0) (refusal ProblemFile 1)
refused = record {
  job = Solve (codes "p") 1;
  named = solves_by_one;
  ended = record { files = codes "ivp 2\n" ∷ []; loaded = (refl, tt); heard = refl; ended = (refl, record { taken = refl; faults = refl }) };
}

refused_and_written : EndsWith solve (solving (codes "ivp 2\n") (codes "ivp 2\n") 0) (refusal ProblemFile 1) → ⊥
refused_and_written is = let taken : Some (codes "ivp 2\n") ≡ Some [] = is.ended.ended.1.taken in cc

-- a good file isn't refused; a bad one isn't refused at another line, and its job isn't done
line_in : Status → ℕ
line_in (Refused refusal) = refusal.line
line_in status = 0

refused_the_good : EndsWith solve (solving problem_bytes [] 0) (refusal ProblemFile 1) → ⊥
refused_the_good is =
    elim (completes solve (solving problem_bytes [] 0) (refusal ProblemFile 1) is (Solve (codes "p") 1) (problem_bytes ∷ []) (Solving problem) (served problem_bytes []) refl) [
      | inl wrote ↦ output_of (Solving problem) (refusal ProblemFile 1) (sink_of [] [] 0) wrote
      | inr memory ↦ cc
    ]

refused_elsewhere : EndsWith solve (solving (codes "ivp 2\n") [] 0) (refusal ProblemFile 2) → ⊥
unfolding line_in
refused_elsewhere is =
    elim (refuses solve (solving (codes "ivp 2\n") [] 0) (refusal ProblemFile 2) is (Solve (codes "p") 1) (codes "ivp 2\n" ∷ []) ProblemFile 1 P1 (served (codes "ivp 2\n") []) refl) [
      | inl same ↦ omega (arith, ap line_in same)
      | inr memory ↦ cc
    ]

did_the_bad : EndsWith solve (solving (codes "ivp 2\n") decision_bytes 0) Done → ⊥
did_the_bad is =
    elim (refuses solve (solving (codes "ivp 2\n") decision_bytes 0) Done is (Solve (codes "p") 1) (codes "ivp 2\n" ∷ []) ProblemFile 1 P1 (served (codes "ivp 2\n") decision_bytes) refl) [
      | inl same ↦ cc
      | inr memory ↦ cc
    ]

-- the words of a run that checks a decision, and what surrounds it: accepted with Done, not accepted with CheckNo, and never the other way round
abbrev check : List (List ℕ)
check = codes "check" ∷ codes "d" ∷ []

abbrev checking : List ℕ → List ℕ → Surroundings
checking bytes taken = surroundings (Some (folder (codes "d") bytes)) [] unheard (one_load (codes "d") bytes) (sink_of [] taken 0)

asked : (bytes taken : List ℕ) → IsServed check (checking bytes taken) (Check (codes "d")) (bytes ∷ [])
asked bytes taken = record { has = record { told = folder (codes "d") bytes; telling = refl; named = checks; loaded = (refl, tt) }; loads = none_rose; puts = none_rose }

checked : EndsWith check (checking decision_bytes (codes "accepted\n")) Done
checked =
    record {
      job = Check (codes "d");
      named = checks;
      ended =
          record {
            files = decision_bytes ∷ [];
            loaded = (refl, tt);
            heard = refl;
            ended = record { task = Checking decision; good = refl; text = codes "accepted\n"; output = (record { accepted = accepted; best = refl }, refl); took = refl; fared = refl };
          };
    }

checked_poor : EndsWith check (checking poor_bytes (codes "not accepted\n")) CheckNo
checked_poor =
    record {
      job = Check (codes "d");
      named = checks;
      ended =
          record {
            files = poor_bytes ∷ [];
            loaded = (refl, tt);
            heard = refl;
            ended = record { task = Checking poor; good = refl; text = codes "not accepted\n"; output = (not_accepted, refl); took = refl; fared = refl };
          };
    }

accepted_the_poor : EndsWith check (checking poor_bytes (codes "accepted\n")) Done → ⊥
accepted_the_poor is =
    let wrote = ended_with check (checking poor_bytes (codes "accepted\n")) (Check (codes "d")) (poor_bytes ∷ []) (asked poor_bytes (codes "accepted\n")).has (Ready (Checking poor)) refl
    (Good (Checking poor) refl) Done is.job is.named is.ended (Good is.ended.ended.task is.ended.ended.good) in
    not_accepted (output_of (Checking poor) Done (sink_of [] (codes "accepted\n") 0) wrote).0.accepted

refused_the_best : EndsWith check (checking decision_bytes (codes "not accepted\n")) CheckNo → ⊥
refused_the_best is =
    let wrote = ended_with check (checking decision_bytes (codes "not accepted\n")) (Check (codes "d")) (decision_bytes ∷ []) (asked decision_bytes (codes "not accepted\n")).has (Ready (Checking decision)) refl
    (Good (Checking decision) refl) CheckNo is.job is.named is.ended (Good is.ended.ended.task is.ended.ended.good) in
    (output_of (Checking decision) CheckNo (sink_of [] (codes "not accepted\n") 0) wrote).0 accepted

-- where nothing failed, a good file's job is done and a bad file is refused, or no memory was left
completed : Completes solve (solving problem_bytes decision_bytes 0) Done × Completes solve (solving problem_bytes [] 0) NoMemory
completed = (completes solve (solving problem_bytes decision_bytes 0) Done solved, completes solve (solving problem_bytes [] 0) NoMemory no_memory)

gave_up : Completes solve (solving problem_bytes [] 0) WriteFault → ⊥
gave_up does =
    elim (does (Solve (codes "p") 1) (problem_bytes ∷ []) (Solving problem) (served problem_bytes []) refl) [
      | inl wrote ↦ output_of (Solving problem) WriteFault (sink_of [] [] 0) wrote
      | inr memory ↦ cc
    ]

-- where the sink failed, the job needn't be done
failed_completes : Completes solve (solving problem_bytes (take 20 decision_bytes) 1) WriteFault
failed_completes = completes solve (solving problem_bytes (take 20 decision_bytes) 1) WriteFault write_failed

gave_up_on_the_bad : Refuses solve (solving (codes "ivp 2\n") [] 0) LoadFault → ⊥
gave_up_on_the_bad does =
    elim (does (Solve (codes "p") 1) (codes "ivp 2\n" ∷ []) ProblemFile 1 P1 (served (codes "ivp 2\n") []) refl) [
      | inl same ↦ cc
      | inr memory ↦ cc
    ]
