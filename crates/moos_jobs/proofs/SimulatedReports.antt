-- A play of a simulation: what is told of it is what the job may write.
use Rattle.std.proofs.Common.{◌≡◌, ℕ, zero, suc, Bool, List, [], ◌++◌, length, false, true, Option, None, Some, refl, ap, sym, ◌∙◌, subst}
use Rattle.std.specs.Prelude.{is_some, Result, Err}
use Rattle.helm_core.specs.declared.iteration.Iteration.{Iteration}
use Rattle.moos_play.specs.Lawful.{heard_of, iterations, HelmSetup}
use Rattle.moos_play.specs.Plays.{clients_in, GoesOnWith, helm_in, Playing, script_played}
use Rattle.moos_post.specs.History.{History}
use Rattle.moos_report.specs.declared.setup.Setup.{Setup}
use Rattle.moos_report.specs.IterationLines.{helm_fetches, is_helm}
use Rattle.moos_report.specs.Parts.{front_text}
use Rattle.moos_report.specs.Report.{report_text}
use Rattle.moos_simulate.specs.declared.gear.Gear.{Gear}
use Rattle.moos_simulate.specs.declared.vehicle.Vehicle.{Vehicle}
use Rattle.moos_simulate.specs.Sailing.{IsSimulating}
use Rattle.moos_simulate.specs.Simulated.{gear_names, IsSimulated, vehicle_names}
use Rattle.moos_jobs.proofs.Fetching.{IsHelmNamed, IsNamed, named_beside}
use Rattle.moos_text.specs.declared.cause.ReadFault.{ReadFault}
use Rattle.moos_text.specs.declared.cause.ReadFault.TheVariants.{At, NoMemory as Unread}
use Rattle.moos_text.specs.Refusals.{and_then, IsFirst}
use Rattle.script_reader.specs.declared.script.Script.{Script}
use Rattle.script_reader.specs.Validity.{IsValid}
use Rattle.moos_jobs.specs.Simulating.{helm_sailed, IsFrontOfVoyage, IsOfSimulation, IsSailed, IsVoyage, iterations_sailed, names_sailed, voyage_text}
use Rattle.moos_jobs.specs.declared.task.Simulation.{Simulation}

-- none of the vehicle's clients has the helm's name
no_helm : (watched : Bool) (client : ℕ) → is_helm (vehicle_names watched) client ≡ false
no_helm watched zero = refl
no_helm watched (suc zero) = refl
no_helm false (suc (suc client)) = refl
no_helm true (suc (suc zero)) = refl
no_helm true (suc (suc (suc client))) = refl

-- a play beside a vehicle has the helm's name where it is to stand
pub named_sailing : (vehicle : Vehicle) (play : Playing) → IsSimulating vehicle play → IsValid (script_played play) → IsNamed play
named_sailing vehicle play (helm, sailing) valid =
    subst (λ helm. IsHelmNamed (clients_in play) (script_played play) helm) (sym sailing.beside.steered)
    (subst (λ names. IsHelmNamed names (script_played play) (Some helm)) (sym sailing.beside.named) (named_beside (script_played play) (Some helm) (gear_names vehicle.gear) valid (no_helm (is_some vehicle.gear.ranges)) alone))
  where
    alone : Some helm ≡ None → gear_names vehicle.gear ≡ []
    alone none = cc

-- the same simulation goes on
pub of_on : (task : Simulation) (setup : Setup) (gear gear' : Gear) (old new : Playing) → GoesOnWith old new → gear' ≡ gear → IsOfSimulation task setup gear (script_played old) (helm_in old) (clients_in old)
    → IsOfSimulation task setup gear' (script_played new) (helm_in new) (clients_in new)
of_on task setup gear gear' old new on same of = record {
  same_script = on.script ∙ of.same_script;
  same_helm = on.helm ∙ of.same_helm;
  same_names = on.names ∙ of.same_names;
  same_gear = same ∙ of.same_gear;
  same_setup = of.same_setup;
  told = of.told;
  ranges = of.ranges;
  steers = of.steers;
}

-- a history that a vehicle leaves beside such a play is one that the simulation may leave
sailed_by : (task : Simulation) (setup : Setup) (gear : Gear) (script : Script) (helm : Option HelmSetup) (names : List (List ℕ)) (history : History) → IsOfSimulation task setup gear script helm names
    → IsSimulated script helm gear names history → IsSailed task history
sailed_by task setup gear script helm names history of simulated =
    subst (λ gear. IsSimulated task.script (Some (helm_sailed task)) gear (names_sailed task) history) of.same_gear
    (subst (λ names. IsSimulated task.script (Some (helm_sailed task)) gear names history) of.same_names
    (subst (λ helm. IsSimulated task.script helm gear names history) of.same_helm (subst (λ script. IsSimulated script helm gear names history) of.same_script simulated)))

-- what is printed of a front of such a history, in which the helm fetches for just these iterations
pub front_sailed : (task : Simulation) (setup : Setup) (gear : Gear) (script : Script) (helm : Option HelmSetup) (names : List (List ℕ)) (history rest : History) (made more : List Iteration)
    → IsOfSimulation task setup gear script helm names → IsSimulated script helm gear names (history ++ rest)
    → iterations helm script.stop (heard_of names (length script.names) (history ++ rest)) ≡ made ++ more → helm_fetches names history ≡ length made → IsFrontOfVoyage task (front_text setup names history made)
front_sailed task setup gear script helm names history rest made more of simulated is fetches = record {
  front = history;
  rest = rest;
  may = sailed_by task setup gear script helm names (history ++ rest) of simulated;
  made = made;
  more = more;
  iterations = sym (λ i. iterations (of.same_helm i) (of.same_script i).stop (heard_of (of.same_names i) (length (of.same_script i).names) (history ++ rest))) ∙ is;
  fetched = ap (λ names. helm_fetches names history) (sym of.same_names) ∙ fetches;
  printed = λ i. front_text (of.same_setup i) (of.same_names i) history made;
}

-- the report of a history that a vehicle leaves beside such a play
pub may_report : (task : Simulation) (setup : Setup) (gear : Gear) (script : Script) (helm : Option HelmSetup) (names : List (List ℕ)) (history : History) (made : List Iteration)
    → IsOfSimulation task setup gear script helm names → IsSimulated script helm gear names history → iterations helm script.stop (heard_of names (length script.names) history) ≡ made
    → IsVoyage task (report_text setup names history made)
may_report task setup gear script helm names history made of simulated is = record {
  history = history;
  sailed = sailed;
  printed = printed;
  listed = λ other may also. of.told history other sailed may (sym also ∙ printed);
  ranges = of.ranges;
  steers = of.steers;
}
  where
    sailed : IsSailed task history
    sailed = sailed_by task setup gear script helm names history of simulated

    made_is : made ≡ iterations_sailed task history
    made_is = sym is ∙ (λ i. iterations (of.same_helm i) (of.same_script i).stop (heard_of (of.same_names i) (length (of.same_script i).names) history))

    printed : report_text setup names history made ≡ voyage_text task history
    printed = λ i. report_text (of.same_setup i) (of.same_names i) history (made_is i)

-- the one refusal is the first
pub the_first : {A : Type 0} (fault : ReadFault) (read : Result A ReadFault) → read ≡ Err fault → IsFirst fault read
the_first (At line cause) read is = is
the_first Unread read is = tt

-- a refusal stands before whatever else is judged
pub refused_first : {A B : Type 0} (next : A → Result B ReadFault) (fault : ReadFault) (read : Result A ReadFault) → IsFirst fault read → IsFirst fault (and_then next read)
refused_first next (At line cause) read is = ap (and_then next) is
refused_first next Unread read is = tt
