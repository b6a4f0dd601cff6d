-- Which files a job reads, what is to be done with them, and what it may write.
use Rattle.std.specs.Prelude.{◌≡◌, ℕ, List, [], ◌∷◌, codes, Option, Some, None, option_map, IfSome, Ok}
use Rattle.ivp_cert.specs.Certificates.{best_decision}
use Rattle.moos_jobs.specs.declared.helm_files.HelmFiles.{HelmFiles}
use Rattle.moos_jobs.specs.HelmFiles.{setup_of, helm_setup_by}
use Rattle.moos_jobs.specs.Loading.{helm_turn}
use Rattle.helm_core.specs.Plans.{plan_made}
use Rattle.ivp_cert.specs.declared.claim.Decision.{Decision}
use Rattle.ivp_cert.specs.Certificates.{Accepts}
use Rattle.ivp_cert.specs.Decisions.{decision_of}
use Rattle.ivp_cert.specs.Problems.{problem_of}
use Rattle.ivp_cert.specs.Texts.{decision_lines}
use Rattle.ivp_problem.specs.Problems.{WeightedSum}
use Rattle.ivp_problem.specs.Sums.{best_of}
use Rattle.moos_post.specs.History.{History}
use Rattle.moos_report.specs.Report.{report_text}
use Rattle.mission_maker.specs.Generated.{generated_script}
use Rattle.mission_maker.specs.Survey.{generated_behaviors, generated_mission}
use Rattle.moos_jobs.specs.Summary.{summary_text}
use Rattle.helm_core.specs.declared.iteration.Iteration.{Iteration}
use Rattle.moos_play.specs.Lawful.{IsLawful, helm_number, heard_of, iterations, names_with}
use Rattle.command_line.specs.Endings.{Outcomes}
use Rattle.command_line.specs.Turns.{FileTurn, Ready, Wanted, turn_as, turn_behind}
use Rattle.command_line.specs.declared.job.Job.{Job}
use Rattle.command_line.specs.declared.job.Job.TheVariants.{Play, Solve, Check, Generate, Share, Simulate}
use Rattle.script_reader.specs.declared.script.Order.{Order}
use Rattle.script_reader.specs.declared.script.Order.TheVariants.{Stamp}
use Rattle.command_line.specs.declared.status.FileKind.TheVariants.{Script as ScriptFile, Problem as ProblemFile, Decision as DecisionFile}
use Rattle.command_line.specs.declared.status.Status.{Status}
use Rattle.command_line.specs.declared.status.Status.TheVariants.{Done, CheckNo}
use Rattle.script_reader.specs.declared.script.Script.{Script}
use Rattle.script_reader.specs.Script.{script_of}
use Rattle.moos_jobs.specs.declared.task.Task.{Task}
use Rattle.moos_jobs.specs.declared.task.Task.TheVariants.{Playing, Solving, Checking, Generating, Sharing, Simulating}
use Rattle.moos_jobs.specs.Sharing.{IsSharing, share_turn}
use Rattle.moos_jobs.specs.Steering.{SteersWell}
use Rattle.moos_jobs.specs.PrintedFronts.{IsFrontPrinted}
use Rattle.moos_jobs.specs.Simulating.{IsFrontOfVoyage, MayReport, simulate_turn}

-- a script and a helm are all that a play needs
abbrev pub helm_played : Order → Script → HelmFiles → List (List ℕ) → FileTurn Task
helm_played order script helm more = Ready (Playing order script (Some helm))

-- behind a script, with a mission of this name or without one
abbrev pub script_turn : Order → Script → Option (List ℕ) → List (List ℕ) → FileTurn Task
script_turn order script None files = Ready (Playing order script None)
script_turn order script (Some name) files = helm_turn (helm_played order script) script name files

-- Where a job is, by the bytes of the files that it has loaded so far, in order. `play` loads a script, a mission if one is
-- named, and the behaviour file that the mission names; `solve` and `check` load one file, and `generate` none; `share` and
-- `simulate` load those of `share_turn` and `simulate_turn`. The number of workers is no part of it.
abbrev pub turn_of : Job → List (List ℕ) → FileTurn Task
turn_of (Play name mission order workers) [] = Wanted ScriptFile name
turn_of (Play name mission order workers) (bytes ∷ more) = turn_behind ScriptFile (λ script. script_turn order script mission more) (script_of bytes)
turn_of (Solve name workers) [] = Wanted ProblemFile name
turn_of (Solve name workers) (bytes ∷ more) = turn_behind ProblemFile (λ problem. Ready (Solving problem)) (problem_of bytes)
turn_of (Check name) [] = Wanted DecisionFile name
turn_of (Check name) (bytes ∷ more) = turn_behind DecisionFile (λ decision. Ready (Checking decision)) (decision_of bytes)
turn_of (Generate number) files = Ready (Generating number)
turn_of (Share first second bridge order) files = turn_as Sharing (share_turn first second bridge order files)
turn_of (Simulate script mission vehicle contacts workers) files = turn_as Simulating (simulate_turn script mission vehicle contacts files)

-- the iterations that the helm's own mails in a history come to
abbrev pub iterations_on : Script → Option HelmFiles → History → List Iteration
iterations_on script helm history =
    iterations (option_map (helm_setup_by script) helm) script.stop (heard_of (names_with script helm) (helm_number script) history)

-- the report of a history and the helm's iterations in it
abbrev pub report_on : Script → Option HelmFiles → History → List ℕ
report_on script helm history = report_text (setup_of helm) (names_with script helm) history (iterations_on script helm history)

-- a lawful history of a script in an order, with this helm or without one
abbrev pub IsLawfulWith : Order → Script → Option HelmFiles → History → Type 0
IsLawfulWith order script helm history = IsLawful order script (option_map (helm_setup_by script) helm) (names_with script helm) history

-- The text is the report of a lawful history, which is the one that the text lists: no other lawful history has it. What a helm
-- decides in it is decided by worth: the first point at which the sum over its behaviours of weight times worth is greatest. The
-- worth of keeping clear of a contact is its sampled utility.
pub record IsReport (order : Order) (script : Script) (helm : Option HelmFiles) (text : List ℕ) : Type 0 where
  pub history : History
  pub lawful : IsLawfulWith order script helm history
  pub printed : text ≡ report_on script helm history
  pub listed : (other : History) → IsLawfulWith order script helm other → text ≡ report_on script helm other → other ≡ history
  pub steers : IfSome helm (λ files. SteersWell (plan_made files.mission files.file))

-- The text is the summary of the one history that the mission of this number leaves: counts and sums over it and the helm's
-- iterations in it. What the helm decides in it is decided by worth.
pub record IsSummary (number : ℕ) (text : List ℕ) : Type 0 where
  pub files : HelmFiles
  pub mission : generated_mission ≡ Ok files.mission
  pub behaviors : generated_behaviors ≡ Ok files.file
  pub history : History
  pub lawful : IsLawfulWith Stamp (generated_script number) (Some files) history
  pub printed : text ≡ summary_text number (names_with (generated_script number) (Some files)) history (iterations_on (generated_script number) (Some files) history)
  pub sole : (other : History) → IsLawfulWith Stamp (generated_script number) (Some files) other → other ≡ history
  pub steers : SteersWell (plan_made files.mission files.file)

-- the decision's certificate is accepted for what it claims
abbrev pub IsAccepted : Decision → Type 0
IsAccepted decision = Accepts decision.problem decision.claim decision.cert

-- the decision's certificate is accepted, and so the point that it claims is the problem's best: the first of those of greatest sum
pub record IsProvedBest (decision : Decision) : Type 0 where
  pub accepted : IsAccepted decision
  pub best : decision.claim.point ≡ best_of decision.problem

-- the text is that of the decision on the problem, which claims the best point, and whose certificate is accepted for it
pub record IsSolution (problem : WeightedSum) (text : List ℕ) : Type 0 where
  pub printed : text ≡ decision_lines [] (best_decision problem)
  pub accepted : IsAccepted (best_decision problem)

-- a job may end with this status and write this text: of a script the report of a lawful history, of a problem the decision
-- on it, of a decision whether it is accepted, of a number the summary of its mission, of two scripts with a bridge the reports of
-- two histories, of a simulation the report of a history that its vehicle leaves; and nothing with another status
abbrev pub IsOutput : Task → Status → List ℕ → Type 0
IsOutput (Playing order script helm) Done text = IsReport order script helm text
IsOutput (Solving problem) Done text = IsSolution problem text
IsOutput (Checking decision) Done text = IsProvedBest decision × (text ≡ codes "accepted\n")
IsOutput (Checking decision) CheckNo text = (IsAccepted decision → ⊥) × (text ≡ codes "not accepted\n")
IsOutput (Generating number) Done text = IsSummary number text
IsOutput (Sharing task) status text = IsSharing task status text
IsOutput (Simulating task) status text = MayReport task status text
IsOutput task status text = ⊥

-- The text may stand there when no memory is left: of a script that is played, beside a vehicle or not, whose report is written as it comes,
-- what is printed of a front of a history that it may leave. Every other output is written when all of it is there.
abbrev pub IsPartOutput : Task → List ℕ → Type 0
IsPartOutput (Playing order script helm) text = IsFrontPrinted (setup_of helm) (names_with script helm) (IsLawfulWith order script helm) (iterations_on script helm) text
IsPartOutput (Simulating task) text = IsFrontOfVoyage task text
IsPartOutput task text = ⊥

-- what may come of each task
abbrev pub outcomes : Outcomes Task
outcomes = record { MayWrite = IsOutput; MayStand = IsPartOutput }
