-- Which histories a simulated vehicle leaves: those of a script's lines beside clients that answer each tick, the helm, then pMarinePID,
-- then uSimMarine, and then pBasicContactMgr, if the vehicle has one.
use Rattle.std.specs.Prelude.{ℕ, Bool, true, false, List, [], ◌∷◌, ◌++◌, codes, is_some, length, map, Option, Some, None}
use Rattle.contact_avoid.specs.declared.ranges.Ranges.{Ranges}
use Rattle.moos_post.specs.declared.entry.Call.TheVariants.{Register, Post as Posts}
use Rattle.moos_post.specs.declared.value.Pair.{Pair}
use Rattle.moos_post.specs.History.{History}
use Rattle.helm_core.specs.Ticks.{pairs_mailed, Tick}
use Rattle.moos_lawful.specs.Answering.{Answerer, schedule_of}
use Rattle.moos_lawful.specs.Schedules.{IsLawfulFor, IsLawfulSoFar, Schedule}
use Rattle.moos_play.specs.Lawful.{mailed_in, HelmSetup}
use Rattle.moos_play.specs.Schedules.{answerers, tick_period}
use Rattle.moos_simulate.specs.declared.gear.Gear.{Gear}
use Rattle.script_reader.specs.declared.script.Order.TheVariants.{Stamp}
use Rattle.script_reader.specs.declared.script.Script.{Script}
use Rattle.sim_clients.specs.Clients.{contact_mgr_regs, contacts_by, drive_by, drive_pairs, hull_by, hull_pairs, marine_pid_regs, sim_marine_regs}
use Rattle.sim_vehicle.specs.declared.settings.CraftSettings.{CraftSettings}
use Rattle.sim_vehicle.specs.Motion.{start_hull}

-- what the mails that a client has heard say, one by one
abbrev pub mails_said : List Tick → List (List Pair)
mails_said heard = map (λ tick. pairs_mailed tick.mail) heard

-- pMarinePID: it registers, and posts at each turn what the controller asks for by all its mails so far
abbrev pub marine_pid : CraftSettings → Answerer Tick
marine_pid craft = record {
  opening = Register marine_pid_regs ∷ [];
  says = λ heard. drive_pairs (drive_by craft (mails_said heard));
}

-- uSimMarine: it registers, and posts the vehicle at its start, and at each turn as it is by all its mails so far
abbrev pub sim_marine : CraftSettings → ℕ → Answerer Tick
sim_marine craft period = record {
  opening = Register sim_marine_regs ∷ Posts (hull_pairs (start_hull craft)) ∷ [];
  says = λ heard. hull_pairs (hull_by craft period (mails_said heard));
}

-- pBasicContactMgr: it registers, and posts at each turn what it tells of contacts by all its mails so far
abbrev pub contact_mgr : Ranges → Answerer Tick
contact_mgr ranges = record {
  opening = Register contact_mgr_regs ∷ [];
  says = λ heard. contacts_by ranges (mails_said heard);
}

-- the contact manager of these ranges, if there are any
abbrev pub contact_clients : Option Ranges → List (Answerer Tick)
contact_clients None = []
contact_clients (Some ranges) = contact_mgr ranges ∷ []

-- the clients of a vehicle with this gear, in their order
abbrev pub vehicle_clients : Gear → ℕ → List (Answerer Tick)
vehicle_clients gear period = marine_pid gear.craft ∷ sim_marine gear.craft period ∷ contact_clients gear.ranges

-- the name of the contact manager, if there is one
abbrev pub contact_names : Bool → List (List ℕ)
contact_names false = []
contact_names true = codes "pBasicContactMgr" ∷ []

-- the names of a vehicle's clients, with a contact manager or without one
abbrev pub vehicle_names : Bool → List (List ℕ)
vehicle_names watched = codes "pMarinePID" ∷ codes "uSimMarine" ∷ contact_names watched

-- the names of the clients of a vehicle with this gear
abbrev pub gear_names : Gear → List (List ℕ)
gear_names gear = vehicle_names (is_some gear.ranges)

-- the schedule of a script with a helm and a vehicle of this gear, under these names of the clients
abbrev pub schedule_simulated : Script → Option HelmSetup → Gear → List (List ℕ) → Schedule Tick
schedule_simulated script helm gear names =
    schedule_of Stamp script.lines (length script.names) script.stop (tick_period helm) (answerers helm ++ vehicle_clients gear (tick_period helm)) (length names) (mailed_in names)

-- A history that a simulated vehicle leaves: The openings of the helm and of the vehicle's clients are first. Behind them each client
-- of the script has its lines, and those others fetch and post at each tick, over what they have heard by then. At a stamp the
-- script's clients come first, and then the others in their order. Nobody else has an entry.
abbrev pub IsSimulated : Script → Option HelmSetup → Gear → List (List ℕ) → History → Type 0
IsSimulated script helm gear names history = IsLawfulFor (schedule_simulated script helm gear names) history

-- such a history as far as it goes
abbrev pub IsSimulatedSoFar : Script → Option HelmSetup → Gear → List (List ℕ) → History → Type 0
IsSimulatedSoFar script helm gear names history = IsLawfulSoFar (schedule_simulated script helm gear names) history
