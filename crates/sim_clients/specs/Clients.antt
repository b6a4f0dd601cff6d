-- What pMarinePID, uSimMarine and pBasicContactMgr post, of all that was mailed to them: the mails of a client are a list of what each
-- says, one for each of its turns.
use Rattle.std.specs.Prelude.{ℕ, zero, suc, ℤ, ◌-◌, List, [], ◌∷◌, codes, length, map, take, Option}
use Rattle.std.specs.List.{flat_map}
use Rattle.moos_post.specs.declared.registration.Reg.{Reg}
use Rattle.moos_post.specs.declared.value.Pair.{Pair}
use Rattle.moos_post.specs.declared.value.Value.TheVariants.{Num}
use Rattle.helm_cond.specs.Learnt.{latest_of}
use Rattle.bhv_file.specs.Known.{latest_number}
use Rattle.contact_avoid.specs.Contacts.{batches_of}
use Rattle.contact_avoid.specs.declared.ranges.Ranges.{Ranges}
use Rattle.sim_vehicle.specs.declared.hull.Hull.{Hull}
use Rattle.sim_vehicle.specs.declared.rig.Drive.{Drive}
use Rattle.sim_vehicle.specs.declared.settings.CraftSettings.{CraftSettings}
use Rattle.sim_vehicle.specs.Motion.{hull_after, start_hull}
use Rattle.sim_vehicle.specs.Steering.{drive_of, fresh_rig, heading_error, rig_after, RigState}

-- the number of a variable by these mails: its latest value, if that is a number
abbrev pub number_by : List (List Pair) → List ℕ → Option ℤ
number_by mails var = latest_number (latest_of (flat_map (λ said. said) mails)) var

-- ---- pMarinePID

-- how far clockwise of the own heading the wanted one lies, by these mails
abbrev pub error_by : List (List Pair) → ℤ
error_by mails = heading_error (number_by mails (codes "DESIRED_HEADING")) (number_by mails (codes "NAV_HEADING"))

-- the controller after its first i turns: at each it takes in the error by the mails up to that turn
abbrev pub rig_after_turns : CraftSettings → List (List Pair) → ℕ → RigState
rig_after_turns craft mails zero = fresh_rig
rig_after_turns craft mails (suc i) = rig_after craft (rig_after_turns craft mails i) (error_by (take (suc i) mails))

-- what pMarinePID asks of the vehicle at the turn of the last of these mails
abbrev pub drive_by : CraftSettings → List (List Pair) → Drive
drive_by craft mails = drive_of craft (rig_after_turns craft mails (length mails - 1)) (error_by mails) (number_by mails (codes "DESIRED_SPEED"))

-- ---- uSimMarine

-- the vehicle after its first i turns: at each it moves for `period` milliseconds, by the numbers of the mails up to that turn
abbrev pub hull_after_turns : CraftSettings → ℕ → List (List Pair) → ℕ → Hull
hull_after_turns craft period mails zero = start_hull craft
hull_after_turns craft period mails (suc i) =
    hull_after craft (hull_after_turns craft period mails i) (number_by (take (suc i) mails) (codes "DESIRED_RUDDER")) (number_by (take (suc i) mails) (codes "DESIRED_THRUST"))
    (number_by (take (suc i) mails) (codes "DESIRED_DEPTH")) period

-- where the vehicle is, and how it moves, after the turn of the last of these mails
abbrev pub hull_by : CraftSettings → ℕ → List (List Pair) → Hull
hull_by craft period mails = hull_after_turns craft period mails (length mails)

-- ---- pBasicContactMgr

-- the last of these batches, an empty one if there is none
abbrev pub last_batch : List (List Pair) → List Pair
last_batch [] = []
last_batch (batch ∷ []) = batch
last_batch (batch ∷ next ∷ later) = last_batch (next ∷ later)

-- what pBasicContactMgr posts at the turn of the last of these mails: the last of the batches that a manager of these ranges
-- posts at all of them
abbrev pub contacts_by : Ranges → List (List Pair) → List Pair
contacts_by ranges mails = last_batch (batches_of ranges mails)

-- ---- what they register for, and what they post

-- a variable and a number
abbrev pub pair_numbered : List ℕ → ℤ → Pair
pair_numbered var number = record { var = var; value = Num number }

-- a registration for a variable, from everybody and at any time
abbrev pub reg_simple : List ℕ → Reg
reg_simple var = record { var = var; source = codes "*"; interval = 0 }

-- what pMarinePID registers for
abbrev pub marine_pid_regs : List Reg
marine_pid_regs = map reg_simple (codes "DESIRED_HEADING" ∷ codes "DESIRED_SPEED" ∷ codes "NAV_HEADING" ∷ [])

-- what uSimMarine registers for
abbrev pub sim_marine_regs : List Reg
sim_marine_regs = map reg_simple (codes "DESIRED_RUDDER" ∷ codes "DESIRED_THRUST" ∷ codes "DESIRED_DEPTH" ∷ [])

-- what pBasicContactMgr registers for
abbrev pub contact_mgr_regs : List Reg
contact_mgr_regs = map reg_simple (codes "NODE_REPORT" ∷ codes "NAV_X" ∷ codes "NAV_Y" ∷ [])

-- what pMarinePID posts of what it asks for
abbrev pub drive_pairs : Drive → List Pair
drive_pairs drive = pair_numbered (codes "DESIRED_RUDDER") drive.rudder ∷ pair_numbered (codes "DESIRED_THRUST") drive.thrust ∷ []

-- what uSimMarine posts of the vehicle
abbrev pub hull_pairs : Hull → List Pair
hull_pairs hull =
    pair_numbered (codes "NAV_X") hull.x ∷ pair_numbered (codes "NAV_Y") hull.y ∷ pair_numbered (codes "NAV_HEADING") hull.heading
    ∷ pair_numbered (codes "NAV_SPEED") hull.speed ∷ pair_numbered (codes "NAV_DEPTH") hull.depth ∷ []
