-- Where a play is beside its simulated vehicle between two rounds.
use Rattle.std.specs.Prelude.{◌≡◌, ◌⊎◌, ℕ, suc, ◌-◌, ◌^◌, ◌≤◌, ◌<◌, nat_lt, List, [], ◌∷◌, ◌++◌, drop, length, None, Option, Some, IsTrue}
use Rattle.std.specs.List.{list_all}
use Rattle.contact_avoid.specs.declared.ranges.Ranges.{Ranges}
use Rattle.helm_core.specs.declared.iteration.Iteration.{Iteration}
use Rattle.moos_client.specs.Hearing.{heard_in}
use Rattle.moos_lawful.specs.Answering.{Answerer, turns_from}
use Rattle.moos_lawful.specs.Schedules.{entries_from, IsLawfulSoFar, Schedule}
use Rattle.moos_play.specs.declared.round_made.Round.{Round}
use Rattle.moos_play.specs.Lawful.{heard_of, iterations, KeepsStamp, names_with, opening_of, HelmSetup, ticks_to}
use Rattle.moos_play.specs.Plays.{clients_in, helm_in, history_in, IsBetween, IsTurn, iterations_made, known_clients_in, left_in, next_stamp, order_played, Playing, script_played}
use Rattle.moos_post.specs.declared.value.Pair.{Pair}
use Rattle.moos_post.specs.History.{History}
use Rattle.moos_simulate.specs.declared.gear.Gear.{Gear}
use Rattle.moos_simulate.specs.declared.vehicle.Vehicle.{Vehicle}
use Rattle.moos_simulate.specs.Simulated.{gear_names, IsSimulated, mails_said, schedule_simulated, vehicle_clients}
use Rattle.script_reader.specs.declared.script.Order.TheVariants.{Stamp}
use Rattle.script_reader.specs.declared.script.Script.{Script}
use Rattle.sim_clients.specs.declared.basic_contact_mgr.BasicContactMgr.{BasicContactMgr}
use Rattle.sim_clients.specs.Keeping.{IsMgrAfter, IsPidAfter, IsSimAfter}

-- what a client has heard behind the start
abbrev pub hears : {A : Type 0} → Schedule A → ℕ → History → List A
hears schedule n rest = heard_in schedule.mailed n schedule.start rest

-- a client that answers has made `count` of its turns, and the others are left
pub record HasMadeTurns {A : Type 0} (schedule : Schedule A) (answerer : Answerer A) (n period ticks count : ℕ) (history : History) (so : IsLawfulSoFar schedule history) : Type 0 where
  pub many : length (hears schedule n so.rest) ≡ count
  pub few : count ≤ ticks
  pub left : so.left n ≡ turns_from answerer n period (hears schedule n so.rest) count (ticks - count)

-- among these clients that answer, the first of which has a number, this one has that one
abbrev pub IsNumbered : {A : Type 0} → ℕ → List (Answerer A) → ℕ → Answerer A → Type 0
IsNumbered first [] n answerer = ⊥
IsNumbered first (one ∷ others) n answerer = ((first ≡ n) × (one ≡ answerer)) ⊎ IsNumbered (suc first) others n answerer

-- each of these clients has made as many of its turns as is told of its number
abbrev pub HaveMadeTurns : {A : Type 0} (schedule : Schedule A) (answerers : List (Answerer A)) (first period ticks : ℕ) (count : ℕ → ℕ) (history : History) → IsLawfulSoFar schedule history → Type 0
HaveMadeTurns {A = A} schedule answerers first period ticks count history so =
    (n : ℕ) (answerer : Answerer A) → IsNumbered first answerers n answerer → HasMadeTurns schedule answerer n period ticks (count n) history so

-- the number of pMarinePID, which follows those of the script's clients and the helm's
abbrev pub pid_number : Script → ℕ
pid_number script = suc (length script.names)

-- the number of uSimMarine, the next one
abbrev pub sim_number : Script → ℕ
sim_number script = suc (suc (length script.names))

-- the number of pBasicContactMgr, the next one again
abbrev pub mgr_number : Script → ℕ
mgr_number script = suc (suc (suc (length script.names)))

-- what these mails come to is kept by the contact manager, if there is one
abbrev pub KeepsContacts : Option Ranges → List (List Pair) → Option BasicContactMgr → Type 0
KeepsContacts None mails None = Unit {0}
KeepsContacts (Some ranges) mails (Some mgr) = IsMgrAfter ranges mails mgr
KeepsContacts ranges mails mgr = ⊥

-- what the clients of the vehicle have heard, one by one
abbrev pub mails_of : (script : Script) (helm : HelmSetup) (gear : Gear) (names : List (List ℕ)) → ℕ → History → List (List Pair)
mails_of script helm gear names n rest = mails_said (hears (schedule_simulated script (Some helm) gear names) n rest)

-- the clients of the vehicle keep what their mails so far come to
pub record KeepMails (vehicle : Vehicle) (helm : HelmSetup) (script : Script) (names : List (List ℕ)) (history : History) (so : IsLawfulSoFar (schedule_simulated script (Some helm) vehicle.gear names) history) : Type 0 where
  pub pid : IsPidAfter vehicle.gear.craft (mails_of script helm vehicle.gear names (pid_number script) so.rest) vehicle.pid
  pub sim : IsSimAfter vehicle.gear.craft helm.period (mails_of script helm vehicle.gear names (sim_number script) so.rest) vehicle.sim
  pub mgr : KeepsContacts vehicle.gear.ranges (mails_of script helm vehicle.gear names (mgr_number script) so.rest) vehicle.mgr

-- A history that is that of a simulated vehicle as far as it goes, in which each client of the vehicle has made `count` turns and
-- keeps what these come to. Unless nothing is left, it has no entry of the next stamp yet.
pub record IsUnderSail (vehicle : Vehicle) (helm : HelmSetup) (script : Script) (names : List (List ℕ)) (count left next : ℕ) (history : History) : Type 0 where
  pub so_far : IsLawfulSoFar (schedule_simulated script (Some helm) vehicle.gear names) history
  pub turned : HaveMadeTurns (schedule_simulated script (Some helm) vehicle.gear names) (vehicle_clients vehicle.gear helm.period) (pid_number script) helm.period (ticks_to script.stop helm) (λ n. count) history so_far
  pub kept : KeepMails vehicle helm script names history so_far
  pub early : (left ≡ 0) ⊎ IsTrue (list_all (λ entry. nat_lt entry.stamp next) so_far.rest)

-- how a play is set up that goes on beside this vehicle: in order Stamp, with a helm, and with the vehicle's clients behind it
pub record IsBeside (vehicle : Vehicle) (helm : HelmSetup) (play : Playing) : Type 0 where
  pub between : IsBetween play
  pub order : order_played play ≡ Stamp
  pub steered : helm_in play ≡ Some helm
  pub number : helm.client ≡ length (script_played play).names
  pub named : clients_in play ≡ names_with (script_played play) (Some helm) ++ gear_names vehicle.gear
  pub pid : vehicle.pid_client ≡ pid_number (script_played play)
  pub sim : vehicle.sim_client ≡ sim_number (script_played play)
  pub mgr : vehicle.mgr_client ≡ mgr_number (script_played play)
  pub period : vehicle.period ≡ helm.period
  pub some : 1 ≤ helm.period
  pub few : helm.period ≤ 10 ^ 6

-- A play in order Stamp which the clients of a vehicle with this gear may join, with this period and from this number on: its helm has made
-- its opening, and nobody else an entry.
pub record MayLaunch (gear : Gear) (step first : ℕ) (play : Playing) : Type 0 where
  pub helm : HelmSetup
  pub between : IsBetween play
  pub order : order_played play ≡ Stamp
  pub steered : helm_in play ≡ Some helm
  pub named : clients_in play ≡ names_with (script_played play) (Some helm) ++ gear_names gear
  pub begun : history_in play ≡ opening_of helm
  pub period : step ≡ helm.period
  pub few : step ≤ 10 ^ 6
  pub pid : first ≡ pid_number (script_played play)
  pub room : suc (suc first) < 2 ^ 32

-- such a play with as many turns of the vehicle's clients as the helm has made ticks
pub record IsSailing (vehicle : Vehicle) (helm : HelmSetup) (play : Playing) : Type 0 where
  pub beside : IsBeside vehicle helm play
  pub sail : IsUnderSail vehicle helm (script_played play) (clients_in play) (length (iterations_made play)) (left_in play) (next_stamp play) (history_in play)

-- the play goes on so with the helm that it has
abbrev pub IsSimulating : Vehicle → Playing → Type 0
IsSimulating vehicle play = (helm : HelmSetup) × IsSailing vehicle helm play

-- a play in which nothing is left: its history is that of a simulated vehicle, and the iterations are those of this history
pub record IsSailedOut (gear : Gear) (play : Playing) : Type 0 where
  pub simulated : IsSimulated (script_played play) (helm_in play) gear (clients_in play) (history_in play)
  pub iterations : iterations_made play ≡ iterations (helm_in play) (script_played play).stop (heard_of (clients_in play) (length (script_played play).names) (history_in play))

-- A round beside a vehicle: where its entries begin, its stamp, which they all have, those of the vehicle's clients too, and the helm's
-- iterations in it, which follow those before. What is next is later, and the helm has made its next tick or none, as in each round of
-- order Stamp; without a tick none of the entries is a further client's.
pub record IsRoundBeside (before after : Playing) (round : Round) : Type 0 where
  pub from : round.from ≡ length (history_in before)
  pub stamp : round.stamp ≡ next_stamp before
  pub stamped : KeepsStamp Stamp round.stamp (drop round.from (history_in after))
  pub further : round.iterations ≡ [] → entries_from (known_clients_in after) (history_in after) ≡ entries_from (known_clients_in before) (history_in before)
  pub turn : IsTurn before after round
  pub iterations : iterations_made after ≡ iterations_made before ++ round.iterations

-- A play beside a vehicle that may yet be completed: with some more entries its history is that of a simulated vehicle, and the
-- iterations of that history are those so far and some more.
pub record HasVoyage (gear : Gear) (play : Playing) : Type 0 where
  pub rest : History
  pub simulated : IsSimulated (script_played play) (helm_in play) gear (clients_in play) (history_in play ++ rest)
  pub more : List Iteration
  pub iterations : iterations (helm_in play) (script_played play).stop (heard_of (clients_in play) (length (script_played play).names) (history_in play ++ rest)) ≡ iterations_made play ++ more
