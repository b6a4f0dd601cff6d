-- The vehicle's clients have made their openings in a play.
use Rattle.std.proofs.Common.{◌≡◌, ℕ, suc, ◌+◌, ◌≤◌, List, [], ◌∷◌, ◌++◌, length, refl, sym, ap, subst, ◌∙◌, arith, append_assoc}
use Rattle.std.specs.Prelude.{IfSome, Some}
use Rattle.moos_client.specs.Calls.{entry_of}
use Rattle.moos_lawful.specs.Answering.{openings}
use Rattle.moos_lawful.specs.Schedules.{IsLawfulSoFar}
use Rattle.moos_play.specs.Lawful.{heard_of, opening_of, HelmSetup}
use Rattle.moos_play.specs.Plays.{clients_in, HasSteeredSoFar, HasTicked, helm_in, history_in, IsRunFor, iterations_made, left_in, next_stamp, Playing, schedule_in, script_played}
use Rattle.moos_play.specs.Schedules.{schedule_with}
use Rattle.moos_post.specs.declared.entry.Call.TheVariants.{Post as Posts, Register}
use Rattle.moos_post.specs.History.{History}
use Rattle.moos_simulate.proofs.Going.{beside_on, room_beside}
use Rattle.moos_simulate.proofs.Begun.{opening_deaf, starts, under_sail}
use Rattle.moos_simulate.proofs.Rounding.{known_alone}
use Rattle.moos_simulate.specs.declared.vehicle.Vehicle.{Vehicle}
use Rattle.moos_simulate.specs.Sailing.{IsBeside, IsSimulating, IsUnderSail, KeepsContacts, MayLaunch, mgr_number, pid_number, sim_number}
use Rattle.moos_simulate.specs.Simulated.{contact_clients, schedule_simulated, vehicle_clients}
use Rattle.moos_simulate.specs.Turns.{StaysBetween}
use Rattle.script_reader.specs.declared.script.Script.{Script}
use Rattle.sim_clients.specs.Clients.{hull_pairs, marine_pid_regs, sim_marine_regs}
use Rattle.sim_clients.specs.Keeping.{IsPidAfter, IsSimAfter}
use Rattle.sim_vehicle.specs.Motion.{start_hull}

-- a list without items
empty : {A : Type 0} (items : List A) → length items ≡ 0 → items ≡ []
empty [] none = refl
empty (item ∷ items) none = absurd (omega (arith, none))

-- what is entered at the openings of a vehicle's clients
abbrev pub opened : (vehicle : Vehicle) → History → History
opened vehicle history =
    (((history ++ entry_of vehicle.pid_client 0 (Register marine_pid_regs) ∷ []) ++ entry_of vehicle.sim_client 0 (Register sim_marine_regs) ∷ []) ++ entry_of vehicle.sim_client 0 (Posts (hull_pairs (start_hull vehicle.gear.craft))) ∷ [])
    ++ openings vehicle.mgr_client (contact_clients vehicle.gear.ranges)

-- the vehicle's numbers, behind the helm's
pub record HasNumbers (vehicle : Vehicle) (step first : ℕ) : Type 0 where
  pub pid : vehicle.pid_client ≡ first
  pub sim : vehicle.sim_client ≡ suc first
  pub mgr : vehicle.mgr_client ≡ suc (suc first)
  pub period : vehicle.period ≡ step

module _ (vehicle : Vehicle) (period pid_client : ℕ) (old : Playing) (may : MayLaunch vehicle.gear period pid_client old) (has : HasNumbers vehicle period pid_client) (run : IfSome (helm_in old) (IsRunFor (script_played old) (length (iterations_made old))))
  where
    runs : IsRunFor (script_played old) (length (iterations_made old)) may.helm
    runs = subst (λ helm. IfSome helm (IsRunFor (script_played old) (length (iterations_made old)))) may.steered run

    pub beside_begun : IsBeside vehicle may.helm old
    beside_begun = record {
      between = may.between;
      order = may.order;
      steered = may.steered;
      number = runs.client;
      named = may.named;
      pid = has.pid ∙ may.pid;
      sim = has.sim ∙ ap suc may.pid;
      mgr = has.mgr ∙ ap (λ n. suc (suc n)) may.pid;
      period = has.period ∙ may.period;
      some = runs.period;
      few = omega (arith, may.few, may.period);
    }

    module _ (new : Playing) (stays : StaysBetween old new) (steered : HasSteeredSoFar old) (so_far : IsLawfulSoFar (schedule_in old) (history_in old))
      where
        abbrev pub helm : HelmSetup
        helm = may.helm

        abbrev pub script : Script
        script = script_played old

        abbrev pub names : List (List ℕ)
        names = clients_in old

        room : length script.names + suc (length (vehicle_clients vehicle.gear may.helm.period)) ≤ length names
        room = let many = room_beside vehicle may.helm old beside_begun in omega (arith, many)

        -- no tick is made yet
        none : length (iterations_made new) ≡ 0
        none = ap length stays.iterations ∙ sym ticked.many ∙ ap length (ap (heard_of names may.helm.client) may.begun ∙ opening_deaf names may.helm.client may.helm)
          where
            ticked : HasTicked names may.helm (length (iterations_made old)) (history_in old)
            ticked = subst (λ helm. IfSome helm (λ helm. HasTicked names helm (length (iterations_made old)) (history_in old))) may.steered steered

        pub unticked : iterations_made new ≡ []
        unticked = empty (iterations_made new) none

        now : IsLawfulSoFar (known_alone may.helm script names) (opening_of may.helm)
        now =
            subst (IsLawfulSoFar (known_alone may.helm script names)) may.begun
            (subst (λ schedule. IsLawfulSoFar schedule (history_in old)) (λ i. schedule_with (may.order i) script (may.steered i) names) so_far)

        -- what was entered are the openings
        entered_is : history_in new ≡ opened vehicle (history_in old) → history_in new ≡ (schedule_simulated script (Some may.helm) vehicle.gear names).start
        entered_is entered =
            entered
            ∙ (λ i. (((may.begun i ++ entry_of (beside_begun.pid i) 0 (Register marine_pid_regs) ∷ []) ++ entry_of (beside_begun.sim i) 0 (Register sim_marine_regs) ∷ []) ++ entry_of (beside_begun.sim i) 0 (Posts (hull_pairs (start_hull vehicle.gear.craft))) ∷ []) ++ openings (beside_begun.mgr i) (contact_clients vehicle.gear.ranges))
            ∙ append_assoc ((opening_of may.helm ++ entry_of (pid_number script) 0 (Register marine_pid_regs) ∷ []) ++ entry_of (sim_number script) 0 (Register sim_marine_regs) ∷ []) (entry_of (sim_number script) 0 (Posts (hull_pairs (start_hull vehicle.gear.craft))) ∷ []) contacts
            ∙ append_assoc (opening_of may.helm ++ entry_of (pid_number script) 0 (Register marine_pid_regs) ∷ []) (entry_of (sim_number script) 0 (Register sim_marine_regs) ∷ []) (entry_of (sim_number script) 0 (Posts (hull_pairs (start_hull vehicle.gear.craft))) ∷ contacts)
            ∙ append_assoc (opening_of may.helm) (entry_of (pid_number script) 0 (Register marine_pid_regs) ∷ []) (entry_of (sim_number script) 0 (Register sim_marine_regs) ∷ entry_of (sim_number script) 0 (Posts (hull_pairs (start_hull vehicle.gear.craft))) ∷ contacts)
            ∙ sym (starts vehicle may.helm script names room runs.period runs.client)
          where
            contacts : History
            contacts = openings (mgr_number script) (contact_clients vehicle.gear.ranges)

        -- THE VEHICLE IS UNDER SAIL
        pub launched : history_in new ≡ opened vehicle (history_in old) → IsPidAfter vehicle.gear.craft [] vehicle.pid → IsSimAfter vehicle.gear.craft may.helm.period [] vehicle.sim → KeepsContacts vehicle.gear.ranges [] vehicle.mgr → IsSimulating vehicle new
        launched entered pid sim mgr = (
          may.helm,
          record {
            beside = beside_on vehicle vehicle may.helm old new beside_begun stays.between stays.same (record { gear = refl; pid = refl; sim = refl; mgr = refl; period = refl });
            sail = subst (λ script. IsUnderSail vehicle may.helm script (clients_in new) (length (iterations_made new)) (left_in new) (next_stamp new) (history_in new)) (sym stays.same.script)
                (subst (λ names. IsUnderSail vehicle may.helm script names (length (iterations_made new)) (left_in new) (next_stamp new) (history_in new)) (sym stays.same.names)
                (subst (λ count. IsUnderSail vehicle may.helm script names count (left_in new) (next_stamp new) (history_in new)) (sym none)
                (subst (λ history. IsUnderSail vehicle may.helm script names 0 (left_in new) (next_stamp new) history) (sym (entered_is entered))
                (under_sail vehicle may.helm script names room runs.period now runs.client (left_in new) (next_stamp new) pid sim mgr))));
          },
        )
