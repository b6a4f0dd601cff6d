-- Which files the job reads, what is to be simulated, and what may be written of it.
use Rattle.std.specs.Prelude.{◌≡◌, ℕ, Bool, is_some, neg_ℤ, pos, List, [], ◌∷◌, ◌++◌, Option, Some, None, Result, Ok, Err}
use Rattle.command_line.specs.Endings.{Outcomes, Sinking}
use Rattle.command_line.specs.Turns.{FileTurn, Ready, Wanted, turn_behind}
use Rattle.command_line.specs.declared.status.FileKind.TheVariants.{Script as ScriptFile, Vehicle as VehicleFile, Contacts as ContactsFile}
use Rattle.command_line.specs.declared.status.Status.{Status}
use Rattle.command_line.specs.declared.status.Status.TheVariants.{Done}
use Rattle.contact_avoid.specs.declared.ranges.Ranges.{Ranges}
use Rattle.contact_avoid.specs.RangeFiles.{ranges_of}
use Rattle.helm_core.specs.declared.iteration.Iteration.{Iteration}
use Rattle.helm_core.specs.Plans.{plan_made}
use Rattle.moos_jobs.specs.declared.helm_files.HelmFiles.{HelmFiles}
use Rattle.moos_jobs.specs.declared.task.Simulation.{Simulation}
use Rattle.moos_jobs.specs.HelmFiles.{setup_of, helm_setup_by}
use Rattle.moos_jobs.specs.Loading.{helm_turn}
use Rattle.moos_jobs.specs.PrintedFronts.{IsFrontPrinted}
use Rattle.moos_jobs.specs.Steering.{SteersWell}
use Rattle.moos_jobs.specs.Telling.{Tells}
use Rattle.moos_play.specs.Lawful.{HelmSetup, heard_of, helm_number, iterations, names_with}
use Rattle.moos_post.specs.declared.value.Pair.{Pair}
use Rattle.moos_post.specs.History.{History}
use Rattle.moos_report.specs.declared.setup.Setup.{Setup}
use Rattle.moos_report.specs.Report.{report_text}
use Rattle.moos_simulate.specs.declared.gear.Gear.{Gear}
use Rattle.moos_simulate.specs.Simulated.{gear_names, IsSimulated, vehicle_names}
use Rattle.moos_text.specs.declared.cause.Cause.TheVariants.{S11}
use Rattle.moos_text.specs.declared.cause.ReadFault.{ReadFault}
use Rattle.moos_text.specs.declared.cause.ReadFault.TheVariants.{At}
use Rattle.moos_text.specs.Refusals.{and_then}
use Rattle.script_reader.specs.declared.script.Script.{Script}
use Rattle.script_reader.specs.Named.{line_of_client}
use Rattle.script_reader.specs.Script.{script_of}
use Rattle.sim_clients.specs.Clients.{drive_by, hull_by}
use Rattle.sim_vehicle.specs.declared.settings.CraftSettings.{CraftSettings}
use Rattle.sim_vehicle.specs.Motion.{IsHull}
use Rattle.sim_vehicle.specs.Steering.{Lies}
use Rattle.sim_vehicle.specs.Vehicles.{vehicle_of}

-- ---- the files

-- the script is refused at a line of a client of the vehicle, if there is one
abbrev pub refused_at : Option ℕ → Script → Result Script ReadFault
refused_at None script = Ok script
refused_at (Some line) script = Err (At line S11)

-- what the bytes of a script stand for that is played beside a vehicle, whose contacts are watched or not
abbrev pub simulated_script : Bool → List ℕ → Result Script ReadFault
simulated_script watched bytes = and_then (refused_at (line_of_client (vehicle_names watched) bytes)) (script_of bytes)

-- a script, a helm's files and a craft are all that a simulation needs, with the ranges of contacts, if there are any
abbrev pub all_read : Script → HelmFiles → CraftSettings → Option Ranges → FileTurn Simulation
all_read script files craft ranges = Ready (record { script = script; files = files; gear = record { craft = craft; ranges = ranges } })

-- behind a script, a helm's files and a craft, by the bytes of the contacts file of this name, or without one
abbrev pub contacts_turn : Script → HelmFiles → Option (List ℕ) → CraftSettings → List (List ℕ) → FileTurn Simulation
contacts_turn script files None craft more = all_read script files craft None
contacts_turn script files (Some contacts) craft [] = Wanted ContactsFile contacts
contacts_turn script files (Some contacts) craft (bytes ∷ more) = turn_behind ContactsFile (λ ranges. all_read script files craft (Some ranges)) (ranges_of bytes)

-- behind a script and a helm's files, by the bytes of the vehicle file of this name, and then of the contacts file
abbrev pub vehicle_turn : Script → List ℕ → Option (List ℕ) → HelmFiles → List (List ℕ) → FileTurn Simulation
vehicle_turn script vehicle contacts files [] = Wanted VehicleFile vehicle
vehicle_turn script vehicle contacts files (bytes ∷ more) = turn_behind VehicleFile (λ craft. contacts_turn script files contacts craft more) (vehicle_of bytes)

-- Where the job is, by the bytes of the files that were loaded so far, in order: a script, a mission, the behaviour file that the
-- mission names, a vehicle file, and a contacts file, if one is named.
abbrev pub simulate_turn : List ℕ → List ℕ → List ℕ → Option (List ℕ) → List (List ℕ) → FileTurn Simulation
simulate_turn script mission vehicle contacts [] = Wanted ScriptFile script
simulate_turn script mission vehicle contacts (bytes ∷ more) =
    turn_behind ScriptFile (λ read. helm_turn (vehicle_turn read vehicle contacts) read mission more) (simulated_script (is_some contacts) bytes)

-- ---- what may be written

-- how the helm is run
abbrev pub helm_sailed : Simulation → HelmSetup
helm_sailed task = helm_setup_by task.script task.files

-- the names of the clients: the script's, the helm's and the vehicle's
abbrev pub names_sailed : Simulation → List (List ℕ)
names_sailed task = names_with task.script (Some (helm_sailed task)) ++ gear_names task.gear

-- a history that the simulation may leave
abbrev pub IsSailed : Simulation → History → Type 0
IsSailed task history = IsSimulated task.script (Some (helm_sailed task)) task.gear (names_sailed task) history

-- the helm's iterations in a history: what its own mails there come to
abbrev pub iterations_sailed : Simulation → History → List Iteration
iterations_sailed task history = iterations (Some (helm_sailed task)) task.script.stop (heard_of (names_sailed task) (helm_number task.script) history)

-- the report of a history, and of the helm's iterations in it
abbrev pub voyage_text : Simulation → History → List ℕ
voyage_text task history = report_text (setup_of (Some task.files)) (names_sailed task) history (iterations_sailed task history)

-- Whatever was mailed to the vehicle's clients, what they post is in its range: the rudder within `max_rudder` either way, the
-- thrust from 0 to `max_thrust`, and the vehicle's place, heading, speed and depth.
pub record KeepsInRange (craft : CraftSettings) : Type 0 where
  pub rudder : (mails : List (List Pair)) → Lies (neg_ℤ craft.max_rudder) craft.max_rudder (drive_by craft mails).rudder
  pub thrust : (mails : List (List Pair)) → Lies (pos 0) craft.max_thrust (drive_by craft mails).thrust
  pub hull : (period : ℕ) (mails : List (List Pair)) → IsHull craft (hull_by craft period mails)

-- The text is the report of a history that the simulation may leave, which is the one that the text lists: no other one that it
-- may leave has it. What the vehicle's clients post in it is in range, and what the helm decides is decided by worth.
pub record IsVoyage (task : Simulation) (text : List ℕ) : Type 0 where
  pub history : History
  pub sailed : IsSailed task history
  pub printed : text ≡ voyage_text task history
  pub listed : (other : History) → IsSailed task other → text ≡ voyage_text task other → other ≡ history
  pub ranges : KeepsInRange task.gear.craft
  pub steers : SteersWell (plan_made task.files.mission task.files.file)

-- the job may write this text and end with this status
abbrev pub MayReport : Simulation → Status → List ℕ → Type 0
MayReport task Done text = IsVoyage task text
MayReport task status text = ⊥

-- the text is what is printed of a front of a history that the simulation may leave, and of the helm's iterations in that
abbrev pub IsFrontOfVoyage : Simulation → List ℕ → Type 0
IsFrontOfVoyage task text = IsFrontPrinted (setup_of (Some task.files)) (names_sailed task) (IsSailed task) (iterations_sailed task) text

-- what may come of a simulation, whose report is written as it comes
abbrev pub simulate_outcomes : Outcomes Simulation
simulate_outcomes = record { MayWrite = MayReport; MayStand = IsFrontOfVoyage }

-- ---- a play of a simulation; this serves `simulate_telling` alone

-- a script, a helm, names of clients, a gear and a setup that are those of this simulation, whose reports tell their histories, whose
-- vehicle keeps in range and whose helm decides by worth
pub record IsOfSimulation (task : Simulation) (setup : Setup) (gear : Gear) (script : Script) (helm : Option HelmSetup) (names : List (List ℕ)) : Type 0 where
  pub same_script : script ≡ task.script
  pub same_helm : helm ≡ Some (helm_sailed task)
  pub same_names : names ≡ names_sailed task
  pub same_gear : gear ≡ task.gear
  pub same_setup : setup ≡ setup_of (Some task.files)
  pub told : (one other : History) → IsSailed task one → IsSailed task other → voyage_text task other ≡ voyage_text task one → other ≡ one
  pub ranges : KeepsInRange task.gear.craft
  pub steers : SteersWell (plan_made task.files.mission task.files.file)

-- how a play of the simulation is told as it comes
abbrev pub TellsVoyage : Simulation → Sinking → Status → Type 0
TellsVoyage task sink status = Tells (IsVoyage task) (IsFrontOfVoyage task) sink status
