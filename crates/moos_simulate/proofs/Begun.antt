-- How a simulated vehicle begins: behind the openings of its clients the history is one that it leaves, and no turn is made yet.
use Rattle.std.proofs.Common.{◌≡◌, ℕ, suc, ◌+◌, ◌-◌, ◌<◌, ◌≤◌, ◌⊎◌, inl, inr, Bool, true, false, cond, List, [], ◌∷◌, ◌++◌, length, nat_le, nat_lt, refl, sym, ap, subst, ◌∙◌, arith, append-nil}
use Rattle.std.specs.Prelude.{map, not, Some}
use Rattle.std.specs.List.{list_all}
use Rattle.std.proofs.lemmas.Bool.{and_from}
use Rattle.std.proofs.lemmas.Bool.Decides.{nat_tests}
use Rattle.std.proofs.lemmas.List.{append_cancel_left}
use Rattle.helm_core.specs.Plans.{wants_of}
use Rattle.helm_core.specs.Ticks.{Tick}
use Rattle.moos_client.proofs.Hearing.{heard_deaf}
use Rattle.moos_client.specs.Calls.{entries_of, entry_of}
use Rattle.moos_lawful.proofs.Parts.{either}
use Rattle.moos_lawful.proofs.Playable.{is_playable}
use Rattle.moos_lawful.proofs.Stepping.{turns_rise}
use Rattle.moos_lawful.proofs.Widening.{rises_from}
use Rattle.moos_lawful.specs.Answering.{Answerer, openings, turns_from}
use Rattle.moos_lawful.specs.Schedules.{due_in, entries_below, IsLawfulSoFar, never_falls, Schedule}
use Rattle.moos_lawful.specs.Widening.{IsWider}
use Rattle.moos_play.proofs.Turns.{start_is}
use Rattle.moos_play.specs.Lawful.{heard_of, mailed_in, opening_of, HelmSetup, ticks_to}
use Rattle.moos_play.specs.Schedules.{answering}
use Rattle.moos_post.specs.declared.entry.Call.TheVariants.{Post as Posts, Register}
use Rattle.moos_post.specs.declared.entry.Entry.{Entry}
use Rattle.moos_post.specs.Delivery.{is_fetch}
use Rattle.moos_simulate.proofs.Answering.{due_other, IsOther, numbered}
use Rattle.moos_simulate.proofs.Beside.{left_own, wider}
use Rattle.moos_simulate.proofs.Rounding.{known_alone}
use Rattle.moos_simulate.specs.declared.vehicle.Vehicle.{Vehicle}
use Rattle.moos_simulate.specs.Sailing.{HasMadeTurns, hears, IsUnderSail, KeepsContacts, mails_of, mgr_number, pid_number, sim_number}
use Rattle.moos_simulate.specs.Simulated.{schedule_simulated, vehicle_clients}
use Rattle.script_reader.specs.declared.script.Order.TheVariants.{Stamp}
use Rattle.script_reader.specs.declared.script.Script.{Script}
use Rattle.sim_clients.specs.Keeping.{IsPidAfter, IsSimAfter}

-- every moment is from 0 on
all_from : (key : Entry → ℕ) (xs : List Entry) → list_all (λ entry. nat_le 0 (key entry)) xs ≡ true
all_from key [] = refl
all_from key (x ∷ xs) = and_from (nat_le 0 (key x)) (list_all (λ entry. nat_le 0 (key entry)) xs) (grind (arith, nat_tests)) (all_from key xs)

-- nothing is heard in the helm's opening
pub opening_deaf : (names : List (List ℕ)) (client : ℕ) (helm : HelmSetup) → heard_of names client (opening_of helm) ≡ []
opening_deaf names client helm = heard_deaf (mailed_in names) client [] (opening_of helm) (by (nat_lt 0 (length helm.plan.opening)))
  where
    by : (b : Bool) → list_all (λ entry. not (is_fetch entry.call)) (entry_of helm.client 0 (Register (wants_of helm.plan)) ∷ cond b (entry_of helm.client 0 (Posts helm.plan.opening) ∷ []) []) ≡ true
    by true = refl
    by false = refl

module _ (vehicle : Vehicle) (helm : HelmSetup) (script : Script) (names : List (List ℕ)) (room : length script.names + suc (length (vehicle_clients vehicle.gear helm.period)) ≤ length names) (some : 1 ≤ helm.period)
  where
    abbrev whole : Schedule Tick
    whole = schedule_simulated script (Some helm) vehicle.gear names

    abbrev alone : Schedule Tick
    alone = known_alone helm script names

    -- one of the vehicle's clients has this number
    abbrev IsAboard : ℕ → Answerer Tick → Type 0
    IsAboard n answerer = IsOther script.lines (length script.names) script.stop helm.period (answering helm) (vehicle_clients vehicle.gear helm.period) (length names) (mailed_in names) room some n answerer

    is_wider : IsWider alone whole
    is_wider = wider script.lines (length script.names) script.stop helm.period (answering helm) (vehicle_clients vehicle.gear helm.period) (length names) (mailed_in names) room

    -- the openings of the vehicle's clients stand behind the helm's
    pub starts : helm.client ≡ length script.names → (schedule_simulated script (Some helm) vehicle.gear names).start ≡ opening_of helm ++ openings (pid_number script) (vehicle_clients vehicle.gear helm.period)
    starts number =
        ap (λ front. front ++ openings (pid_number script) (vehicle_clients vehicle.gear helm.period)) (sym (append-nil (map (entry_of (length script.names) 0) (answering helm).opening)) ∙ start_is (length script.names) helm number)

    module _ (now : IsLawfulSoFar alone (opening_of helm)) (number : helm.client ≡ length script.names)
      where
        none : now.rest ≡ []
        none = append_cancel_left alone.start now.rest [] (sym now.opened ∙ sym (start_is (length script.names) helm number) ∙ sym (append-nil alone.start))

        left_is : (n : ℕ) → n < length script.names + 1 → alone.due n [] ≡ now.left n
        left_is n below = subst (λ rest. due_in alone n rest ≡ entries_of n rest ++ now.left n) none (now.own n below)

        -- what the play's own clients are due to do rises by its caller's measure too
        own_rises : (n : ℕ) → n < length script.names + 1 → never_falls 0 (map whole.moment (whole.due n [])) ≡ true
        own_rises n below =
            subst (λ left. never_falls 0 (map whole.moment left) ≡ true) (sym (left_is n below) ∙ (λ i. (sym (is_wider.due n below)) i []))
            (rises_from (λ entry. nat_lt entry.client (length script.names + 1)) alone.moment whole.moment is_wider.keeps 0 (now.left n)
            (left_own alone (is_playable Stamp script.lines (length script.names) script.stop helm.period (answering helm ∷ []) (length names) (mailed_in names) (omega (arith, room))) n (length script.names + 1) below [] [] (now.left n) (left_is n below))
            (all_from whole.moment (now.left n)) (subst (λ rest. never_falls 0 (map alone.moment (entries_below alone.known rest ++ now.left n)) ≡ true) none (now.moments n below)))

        due_aboard : (n : ℕ) (answerer : Answerer Tick) → IsAboard n answerer → whole.due n [] ≡ turns_from answerer n helm.period [] 0 (ticks_to script.stop helm)
        due_aboard n answerer is = due_other script.lines (length script.names) script.stop helm.period (answering helm) (vehicle_clients vehicle.gear helm.period) (length names) (mailed_in names) room some n answerer is []

        sorted : (n : ℕ) → n < whole.known → never_falls 0 (map whole.moment (whole.due n [])) ≡ true
        sorted n below = by (either (nat_lt n (length script.names + 1)))
          where
            by : (nat_lt n (length script.names + 1) ≡ true) ⊎ (nat_lt n (length script.names + 1) ≡ false) → never_falls 0 (map whole.moment (whole.due n [])) ≡ true
            by (inl e) = own_rises n (grind (arith, nat_tests, e))
            by (inr e) =
                let past : length script.names + 1 ≤ n = grind (arith, nat_tests, e) in
                let found = numbered (pid_number script) (vehicle_clients vehicle.gear helm.period) n (omega (arith, past)) (omega (arith, below)) in
                subst (λ due. never_falls 0 (map whole.moment due) ≡ true) (sym (due_aboard n found.0 found.1))
                (turns_rise found.0 (length script.names) (suc (length (vehicle_clients vehicle.gear helm.period))) n helm.period [] 0 (ticks_to script.stop helm) 0 (omega arith))

        -- nothing but the openings stands, and all is left
        begin : (so : IsLawfulSoFar whole whole.start) × (so.rest ≡ []) × ((n : ℕ) → so.left n ≡ whole.due n [])
        begin = (
          record {
            rest = [];
            opened = sym (append-nil whole.start);
            left = λ n. whole.due n [];
            own = λ n below. refl;
            moments = sorted;
            named = refl;
          },
          refl,
          λ n. refl,
        )

        begin_turned : (n : ℕ) (answerer : Answerer Tick) → IsAboard n answerer → HasMadeTurns whole answerer n helm.period (ticks_to script.stop helm) 0 whole.start begin.0
        begin_turned n answerer is = record {
          many = ap (λ rest. length (hears whole n rest)) begin.1;
          few = omega arith;
          left = begin.2 n ∙ due_aboard n answerer is ∙ (λ i. turns_from answerer n helm.period (hears whole n (sym begin.1 i)) 0 (all i));
        }
          where
            all : ticks_to script.stop helm ≡ ticks_to script.stop helm - 0
            all = omega arith

        -- THE OPENINGS ARE MADE
        pub under_sail : (left next : ℕ) → IsPidAfter vehicle.gear.craft [] vehicle.pid → IsSimAfter vehicle.gear.craft helm.period [] vehicle.sim → KeepsContacts vehicle.gear.ranges [] vehicle.mgr
            → IsUnderSail vehicle helm script names 0 left next (schedule_simulated script (Some helm) vehicle.gear names).start
        under_sail left next pid sim mgr = record {
          so_far = begin.0;
          turned = begin_turned;
          kept = record {
            pid = subst (λ rest. IsPidAfter vehicle.gear.craft (mails_of script helm vehicle.gear names (pid_number script) rest) vehicle.pid) (sym begin.1) pid;
            sim = subst (λ rest. IsSimAfter vehicle.gear.craft helm.period (mails_of script helm vehicle.gear names (sim_number script) rest) vehicle.sim) (sym begin.1) sim;
            mgr = subst (λ rest. KeepsContacts vehicle.gear.ranges (mails_of script helm vehicle.gear names (mgr_number script) rest) vehicle.mgr) (sym begin.1) mgr;
          };
          early = inr (ap (list_all (λ (entry : Entry). nat_lt entry.stamp next)) begin.1);
        }
