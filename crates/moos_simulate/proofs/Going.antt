-- A play goes on beside its vehicle: with the same script, names and helm, and with the vehicle's clients among its further ones.
use Rattle.std.proofs.Common.{◌≡◌, ℕ, suc, ◌+◌, [], ◌++◌, append-nil, length, length-append, refl, sym, ap, subst, ◌∙◌, append_assoc, arith}
use Rattle.std.specs.Prelude.{Err, is_some, None, Ok, OnErr, OnOk, Option, Result, Some}
use Rattle.contact_avoid.specs.declared.ranges.Ranges.{Ranges}
use Rattle.moos_play.proofs.Below.{names_more}
use Rattle.moos_play.specs.Lawful.{known_clients, names_with, HelmSetup}
use Rattle.moos_play.specs.Plays.{clients_in, GoesOnWith, helm_in, history_in, IsBetween, known_clients_in, Playing, script_played, StaysSeated}
use Rattle.moos_simulate.specs.declared.gear.Gear.{Gear}
use Rattle.moos_simulate.specs.declared.vehicle.Vehicle.{Vehicle}
use Rattle.moos_simulate.specs.Sailing.{IsBeside, mgr_number, pid_number, sim_number}
use Rattle.moos_simulate.specs.Simulated.{gear_names, IsSimulatedSoFar, vehicle_clients, vehicle_names}
use Rattle.moos_simulate.specs.Turns.{StaysBetween}
use Rattle.script_reader.specs.declared.script.Script.{Script}
use Rattle.sim_vehicle.specs.declared.settings.CraftSettings.{CraftSettings}

-- what holds anyway holds where no memory was left
pub always_err : {A E : Type 0} (result : Result A E) (X : Type 0) → X → OnErr result X
always_err (Ok _) X x = tt
always_err (Err _) X x = x

-- what follows from what a call that answered leaves, and from what one that found no memory does
pub both_ok : {A E : Type 0} {P Q R : Type 0} (result : Result A E) → (P → Q → R) → OnOk result P → OnOk result Q → OnOk result R
both_ok (Ok _) follows p q = follows p q
both_ok (Err _) follows p q = tt

pub err_then : {A E : Type 0} {P Q : Type 0} (result : Result A E) → (P → Q) → OnErr result P → OnErr result Q
err_then (Ok _) follows p = tt
err_then (Err _) follows p = follows p

-- a play that nobody has entered goes on between the same two rounds
pub stays_here : (play : Playing) → IsBetween play → StaysBetween play play
stays_here play between = record {
  between = between;
  seated = record { seated = between.seated; names = refl; later = ([], sym (append-nil (history_in play))) };
  same = record { script = refl; order = refl; names = refl; helm = refl };
  left = refl;
  next = refl;
  iterations = refl;
}

-- the names stay the same
pub names_on : (old new : Playing) → GoesOnWith old new → clients_in new ≡ clients_in old
names_on old new on = on.names

-- how many names there are: one for each client of the vehicle behind the helm's
pub as_many : (craft : CraftSettings) (ranges : Option Ranges) (period : ℕ) → length (vehicle_names (is_some ranges)) ≡ length (vehicle_clients (record { craft = craft; ranges = ranges }) period)
as_many craft None period = refl
as_many craft (Some ranges) period = refl

pub room_beside : (vehicle : Vehicle) (helm : HelmSetup) (play : Playing) → IsBeside vehicle helm play → length (clients_in play) ≡ length (script_played play).names + suc (length (vehicle_clients vehicle.gear helm.period))
room_beside vehicle helm play beside =
    omega (arith, ap length beside.named, length-append (names_with (script_played play) (Some helm)) (gear_names vehicle.gear), names_more (script_played play) helm, as_many vehicle.gear.craft vehicle.gear.ranges helm.period)

-- how many clients the play knows from the start: the script's and the helm
pub known_beside : (vehicle : Vehicle) (helm : HelmSetup) (play : Playing) → IsBeside vehicle helm play → known_clients_in play ≡ length (script_played play).names + 1
known_beside vehicle helm play beside = (λ i. known_clients (script_played play) (beside.steered i)) ∙ names_more (script_played play) helm

-- the vehicle's gear, its numbers and its time step stay the same
pub record IsSameVehicle (old new : Vehicle) : Type 0 where
  pub gear : new.gear ≡ old.gear
  pub pid : new.pid_client ≡ old.pid_client
  pub sim : new.sim_client ≡ old.sim_client
  pub mgr : new.mgr_client ≡ old.mgr_client
  pub period : new.period ≡ old.period

pub beside_on : (vehicle other : Vehicle) (helm : HelmSetup) (old new : Playing) → IsBeside vehicle helm old → IsBetween new → GoesOnWith old new → IsSameVehicle vehicle other → IsBeside other helm new
beside_on vehicle other helm old new beside between on same = record {
  between = between;
  order = on.order ∙ beside.order;
  steered = on.helm ∙ beside.steered;
  number = beside.number ∙ ap (λ (script : Script). length script.names) (sym on.script);
  named = names_on old new on ∙ beside.named ∙ (λ i. names_with (sym on.script i) (Some helm) ++ gear_names (sym same.gear i));
  pid = same.pid ∙ beside.pid ∙ ap pid_number (sym on.script);
  sim = same.sim ∙ beside.sim ∙ ap sim_number (sym on.script);
  mgr = same.mgr ∙ beside.mgr ∙ ap mgr_number (sym on.script);
  period = same.period ∙ beside.period;
  some = beside.some;
  few = beside.few;
}

-- a play that goes on twice
pub goes_on_twice : (before middle after : Playing) → GoesOnWith before middle → GoesOnWith middle after → GoesOnWith before after
goes_on_twice before middle after one other = record {
  script = other.script ∙ one.script;
  order = other.order ∙ one.order;
  names = other.names ∙ one.names;
  helm = other.helm ∙ one.helm;
}

pub stays_seated_twice : (before middle after : Playing) → StaysSeated before middle → StaysSeated middle after → StaysSeated before after
stays_seated_twice before middle after one other = record {
  seated = other.seated;
  names = other.names ∙ one.names;
  later = (one.later.0 ++ other.later.0, other.later.1 ∙ ap (λ front. front ++ other.later.0) one.later.1 ∙ append_assoc (history_in before) one.later.0 other.later.0);
}

-- a play that stays between two rounds twice
pub stays_on_twice : (before middle after : Playing) → StaysBetween before middle → StaysBetween middle after → StaysBetween before after
stays_on_twice before middle after one other = record {
  between = other.between;
  seated = stays_seated_twice before middle after one.seated other.seated;
  same = goes_on_twice before middle after one.same other.same;
  left = other.left ∙ one.left;
  next = other.next ∙ one.next;
  iterations = other.iterations ∙ one.iterations;
}

-- a history that is lawful so far for a play is so for one that goes on from it with this history
pub lawful_on : (gear : Gear) (helm : HelmSetup) (old new : Playing) → helm_in old ≡ Some helm → GoesOnWith old new → IsSimulatedSoFar (script_played old) (Some helm) gear (clients_in old) (history_in new) → IsSimulatedSoFar (script_played new) (helm_in new) gear (clients_in new) (history_in new)
lawful_on gear helm old new steered on so =
    subst (λ helm. IsSimulatedSoFar (script_played new) helm gear (clients_in new) (history_in new)) (sym (on.helm ∙ steered))
    (subst (λ names. IsSimulatedSoFar (script_played new) (Some helm) gear names (history_in new)) (sym (on.names))
    (subst (λ script. IsSimulatedSoFar script (Some helm) gear (clients_in old) (history_in new)) (sym on.script) so))
