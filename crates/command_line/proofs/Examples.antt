-- Command lines and exits worked by hand.
use Rattle.std.proofs.Common.{◌≡◌, true, false, [], ◌∷◌, length, refl, ap, arith}
use Rattle.std.specs.Prelude.{codes, Some, None}
use Rattle.clap.specs.Simple.{new_app, new_shape, with_rule, with_subcommand}
use Rattle.clap.specs.Takes.{walk_passes}
use Rattle.clap.specs.Walk.{walked}
use Rattle.moos_text.specs.declared.cause.Cause.TheVariants.{P1, P9}
use Rattle.moos_text.specs.declared.cause.ReadFault.TheVariants.{At, NoMemory as Unread}
use Rattle.script_reader.specs.declared.script.Order.TheVariants.{Stamp, Race}
use Rattle.command_line.specs.declared.job.Job.TheVariants.{Play, Solve, Check, Generate, Share, Simulate}
use Rattle.command_line.specs.declared.status.FileKind.TheVariants.{Problem as ProblemFile, Decision as DecisionFile}
use Rattle.command_line.specs.declared.status.Status.TheVariants.{Done, CheckNo, Usage, LoadFault, WriteFault, Refused, NoMemory}
use Rattle.command_line.specs.Commands.{bounded, check_command, IsPlain, play_command, race_rule, solve_command, workers_rule}
use Rattle.command_line.specs.Endings.{status_of}
use Rattle.command_line.specs.Exit.{code_of}
use Rattle.command_line.specs.Jobs.{HasFewWorkers, job_named}

pub plays : job_named (codes "play" ∷ codes "survey.txt" ∷ []) ≡ Some (Play (codes "survey.txt") None Stamp 1)
unfolding walked walk_passes
plays = refl

races : job_named (codes "play" ∷ codes "survey.txt" ∷ codes "--race" ∷ []) ≡ Some (Play (codes "survey.txt") None Race 1)
unfolding walked walk_passes
races = refl

races_with_the_flag_in_front : job_named (codes "play" ∷ codes "--race" ∷ codes "survey.txt" ∷ []) ≡ Some (Play (codes "survey.txt") None Race 1)
unfolding walked walk_passes
races_with_the_flag_in_front = refl

a_race_is_asked_for_once : job_named (codes "play" ∷ codes "survey.txt" ∷ codes "--race" ∷ codes "--race" ∷ []) ≡ None
unfolding walked walk_passes
a_race_is_asked_for_once = refl

a_script_is_named : job_named (codes "play" ∷ []) ≡ None
unfolding walked walk_passes
a_script_is_named = refl

a_mission_is_named : job_named (codes "play" ∷ codes "a" ∷ codes "b" ∷ []) ≡ Some (Play (codes "a") (Some (codes "b")) Stamp 1)
unfolding walked walk_passes
a_mission_is_named = refl

a_mission_has_workers : job_named (codes "play" ∷ codes "a" ∷ codes "--workers" ∷ codes "16" ∷ codes "b" ∷ codes "--race" ∷ []) ≡ Some (Play (codes "a") (Some (codes "b")) Race 16)
unfolding walked walk_passes
a_mission_has_workers = refl

one_mission_is_named : job_named (codes "play" ∷ codes "a" ∷ codes "b" ∷ codes "c" ∷ []) ≡ None
unfolding walked walk_passes
one_mission_is_named = refl

an_empty_name_is_one : job_named (codes "play" ∷ codes "a" ∷ [] ∷ []) ≡ Some (Play (codes "a") (Some []) Stamp 1)
unfolding walked walk_passes
an_empty_name_is_one = refl

pub solves_by_one : job_named (codes "solve" ∷ codes "p" ∷ []) ≡ Some (Solve (codes "p") 1)
unfolding walked walk_passes
solves_by_one = refl

solves_by_sixteen : job_named (codes "solve" ∷ codes "p" ∷ codes "--workers" ∷ codes "16" ∷ []) ≡ Some (Solve (codes "p") 16)
unfolding walked walk_passes
solves_by_sixteen = refl

no_seventeen : job_named (codes "solve" ∷ codes "p" ∷ codes "--workers" ∷ codes "17" ∷ []) ≡ None
unfolding walked walk_passes
no_seventeen = refl

not_by_none : job_named (codes "solve" ∷ codes "p" ∷ codes "--workers" ∷ codes "0" ∷ []) ≡ None
unfolding walked walk_passes
not_by_none = refl

workers_are_counted : job_named (codes "solve" ∷ codes "p" ∷ codes "--workers" ∷ []) ≡ None
unfolding walked walk_passes
workers_are_counted = refl

pub checks : job_named (codes "check" ∷ codes "d" ∷ []) ≡ Some (Check (codes "d"))
unfolding walked walk_passes
checks = refl

no_other_job : job_named (codes "sail" ∷ codes "a" ∷ []) ≡ None
no_other_job = refl

no_words : job_named [] ≡ None
no_words = refl

generates : job_named (codes "generate" ∷ codes "7" ∷ []) ≡ Some (Generate 7)
unfolding walked walk_passes
generates = refl

generates_the_greatest : job_named (codes "generate" ∷ codes "+0999999999" ∷ []) ≡ Some (Generate 999999999)
unfolding walked walk_passes
generates_the_greatest = refl

no_greater_number : job_named (codes "generate" ∷ codes "1000000000" ∷ []) ≡ None
unfolding walked walk_passes
no_greater_number = refl

a_number_is_named : job_named (codes "generate" ∷ []) ≡ None
unfolding walked walk_passes
a_number_is_named = refl

shares : job_named (codes "share" ∷ codes "a" ∷ codes "b" ∷ codes "c" ∷ []) ≡ Some (Share (codes "a") (codes "b") (codes "c") Stamp)
unfolding walked walk_passes
shares = refl

shares_in_a_race : job_named (codes "share" ∷ codes "a" ∷ codes "--race" ∷ codes "b" ∷ codes "c" ∷ []) ≡ Some (Share (codes "a") (codes "b") (codes "c") Race)
unfolding walked walk_passes
shares_in_a_race = refl

a_bridge_is_named : job_named (codes "share" ∷ codes "a" ∷ codes "b" ∷ []) ≡ None
unfolding walked walk_passes
a_bridge_is_named = refl

a_bridge_has_no_workers : job_named (codes "share" ∷ codes "a" ∷ codes "b" ∷ codes "c" ∷ codes "--workers" ∷ codes "2" ∷ []) ≡ None
unfolding walked walk_passes
a_bridge_has_no_workers = refl

simulates : job_named (codes "simulate" ∷ codes "a" ∷ codes "b" ∷ codes "c" ∷ []) ≡ Some (Simulate (codes "a") (codes "b") (codes "c") None 1)
unfolding walked walk_passes
simulates = refl

simulates_by_sixteen : job_named (codes "simulate" ∷ codes "a" ∷ codes "b" ∷ codes "c" ∷ codes "--workers" ∷ codes "16" ∷ []) ≡ Some (Simulate (codes "a") (codes "b") (codes "c") None 16)
unfolding walked walk_passes
simulates_by_sixteen = refl

simulates_with_contacts : job_named (codes "simulate" ∷ codes "a" ∷ codes "b" ∷ codes "c" ∷ codes "d" ∷ []) ≡ Some (Simulate (codes "a") (codes "b") (codes "c") (Some (codes "d")) 1)
unfolding walked walk_passes
simulates_with_contacts = refl

no_fifth_is_simulated : job_named (codes "simulate" ∷ codes "a" ∷ codes "b" ∷ codes "c" ∷ codes "d" ∷ codes "e" ∷ []) ≡ None
unfolding walked walk_passes
no_fifth_is_simulated = refl

a_vehicle_is_named : job_named (codes "simulate" ∷ codes "a" ∷ codes "b" ∷ []) ≡ None
unfolding walked walk_passes
a_vehicle_is_named = refl

no_race_is_simulated : job_named (codes "simulate" ∷ codes "a" ∷ codes "b" ∷ codes "c" ∷ codes "--race" ∷ []) ≡ None
unfolding walked walk_passes
no_race_is_simulated = refl

-- a job has from 1 to 16 workers
workers : HasFewWorkers (Play (codes "s") None Stamp 16) × HasFewWorkers (Solve (codes "p") 1) × HasFewWorkers (Solve (codes "p") 16) × HasFewWorkers (Check (codes "d"))
workers = ((omega arith, omega arith), (omega arith, omega arith), (omega arith, omega arith), tt)

no_workers : HasFewWorkers (Solve (codes "p") 0) → ⊥
no_workers has = omega (arith, has.0)

seventeen_workers : HasFewWorkers (Solve (codes "p") 17) → ⊥
seventeen_workers has = omega (arith, has.1)

no_workers_of_a_helm : HasFewWorkers (Play (codes "s") (Some (codes "m")) Stamp 0) → ⊥
no_workers_of_a_helm has = omega (arith, has.0)

-- a number past these counts as 1
few_workers : (bounded 1 16 0 ≡ 1) × (bounded 1 16 16 ≡ 16) × (bounded 1 16 17 ≡ 1)
few_workers = (refl, refl, refl)

-- each status has a number of its own
codes_of : (code_of Done ≡ 0) × (code_of CheckNo ≡ 1) × (code_of Usage ≡ 2) × (code_of LoadFault ≡ 3) × (code_of WriteFault ≡ 4) × (code_of (Refused (record { file = ProblemFile; line = 1; cause = P9 })) ≡ 5) × (code_of NoMemory ≡ 6)
codes_of = (refl, refl, refl, refl, refl, refl, refl)

-- of these commands the command-line crate says exactly what they take; it doesn't of one with a rule on another argument, with a subcommand, or with a default that its own parser refuses
plain_commands : IsPlain play_command × IsPlain solve_command × IsPlain check_command
plain_commands = (record { free = refl; alone = refl; defaults = refl }, record { free = refl; alone = refl; defaults = refl }, record { free = refl; alone = refl; defaults = refl })

bound_argument : IsPlain (with_rule (new_app (codes "play")) (record race_rule { is_free = false })) → ⊥
bound_argument is = let free : false ≡ true = is.free in cc

subcommand : IsPlain (with_subcommand check_command (new_shape (codes "all"))) → ⊥
subcommand is = omega (arith, ap length is.alone)

great_default : IsPlain (with_rule (new_app (codes "solve")) (record workers_rule { defaults = codes "17" ∷ [] })) → ⊥
great_default is = let passes : false ≡ true = is.defaults in cc

-- a reader's refusal is the run's, with the kind of file, and its want of memory is the run's
statuses : (status_of DecisionFile (At 3 P1) ≡ Refused (record { file = DecisionFile; line = 3; cause = P1 })) × (status_of DecisionFile Unread ≡ NoMemory)
statuses = (refl, refl)
