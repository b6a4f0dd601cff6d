-- What a round of the play does to a history of a simulated vehicle, before the vehicle's clients answer.
use Rattle.std.proofs.Common.{◌≡◌, ◌≢◌, ℕ, suc, ◌+◌, ◌*◌, ◌<◌, ◌≤◌, ◌==◌, ◌⊎◌, inl, inr, true, List, [], ◌∷◌, ◌++◌, length, nat_le, nat_lt, refl, sym, ap, subst, ◌∙◌, arith}
use Rattle.std.specs.List.{list_all}
use Rattle.std.proofs.lemmas.Bool.{and_from, and_parts}
use Rattle.std.proofs.lemmas.Bool.Decides.{nat_tests}
use Rattle.std.proofs.lemmas.List.Folds.{list_all-append}
use Rattle.helm_core.specs.Ticks.{Tick}
use Rattle.moos_lawful.specs.Answering.{schedule_of}
use Rattle.moos_lawful.specs.Schedules.{clients_below, IsLawfulSoFar, Schedule}
use Rattle.moos_play.specs.Lawful.{mailed_in, HelmSetup, ticks_to}
use Rattle.moos_play.specs.Schedules.{answering}
use Rattle.moos_post.specs.declared.entry.Entry.{Entry}
use Rattle.moos_post.specs.History.{History}
use Rattle.moos_simulate.proofs.Answering.{none_answered, none_other, part_on, part_stands}
use Rattle.moos_simulate.proofs.Beside.{left_same, wider}
use Rattle.moos_simulate.proofs.Sailing.{below_next, sailed, Stands}
use Rattle.moos_simulate.proofs.Turning.{rest_is, stays_heard}
use Rattle.moos_simulate.specs.declared.vehicle.Vehicle.{Vehicle}
use Rattle.moos_simulate.specs.Sailing.{IsUnderSail, KeepMails, KeepsContacts, mails_of, mgr_number, pid_number, sim_number}
use Rattle.moos_simulate.specs.Simulated.{mails_said, vehicle_clients}
use Rattle.moos_simulate.specs.Turns.{IsAwaited}
use Rattle.script_reader.specs.declared.script.Order.TheVariants.{Stamp}
use Rattle.script_reader.specs.declared.script.Script.{Script}
use Rattle.sim_clients.specs.Keeping.{IsPidAfter, IsSimAfter}

-- entries before a stamp, and of it, aren't later
before_not_later : (stamp : ℕ) (rest : History) → list_all (λ entry. nat_lt entry.stamp stamp) rest ≡ true → list_all (λ entry. nat_le entry.stamp stamp) rest ≡ true
before_not_later stamp [] early = refl
before_not_later stamp (x ∷ rest) early =
    let tests = and_parts (nat_lt x.stamp stamp) (list_all (λ entry. nat_lt entry.stamp stamp) rest) early in
    let test = tests.0 in
    and_from (nat_le x.stamp stamp) (list_all (λ entry. nat_le entry.stamp stamp) rest) (grind (arith, nat_tests, test)) (before_not_later stamp rest tests.1)

at_not_later : (stamp : ℕ) (rest : History) → list_all (λ entry. entry.stamp == stamp) rest ≡ true → list_all (λ entry. nat_le entry.stamp stamp) rest ≡ true
at_not_later stamp [] one = refl
at_not_later stamp (x ∷ rest) one =
    let tests = and_parts (x.stamp == stamp) (list_all (λ entry. entry.stamp == stamp) rest) one in
    let test = tests.0 in
    and_from (nat_le x.stamp stamp) (list_all (λ entry. nat_le entry.stamp stamp) rest) (grind (arith, nat_tests, test)) (at_not_later stamp rest tests.1)

-- the schedule that the play itself knows
abbrev pub known_alone : HelmSetup → Script → List (List ℕ) → Schedule Tick
known_alone helm script names = schedule_of Stamp script.lines (length script.names) script.stop helm.period (answering helm ∷ []) (length names) (mailed_in names)

module _ (vehicle : Vehicle) (helm : HelmSetup) (script : Script) (names : List (List ℕ)) (room : length script.names + suc (length (vehicle_clients vehicle.gear helm.period)) ≤ length names) (some : 1 ≤ helm.period)
  where
    abbrev whole : Schedule Tick
    whole = sailed vehicle.gear helm script names room some

    module _ (count left next : ℕ) (history later : History) (so : IsUnderSail vehicle helm script names count left next history) (now : IsLawfulSoFar (known_alone helm script names) (history ++ later)) (more : left ≢ 0)
        (below : clients_below (length script.names + 1) later ≡ true) (one : list_all (λ entry. entry.stamp == next) later ≡ true) (due : count < ticks_to script.stop helm → next ≤ count * helm.period)
      where
        early : list_all (λ entry. nat_lt entry.stamp next) so.so_far.rest ≡ true
        early = by so.early
          where
            by : (left ≡ 0) ⊎ (list_all (λ entry. nat_lt entry.stamp next) so.so_far.rest ≡ true) → list_all (λ entry. nat_lt entry.stamp next) so.so_far.rest ≡ true
            by (inl none) = absurd (more none)
            by (inr so) = so

        -- THE ROUND, whole or cut off
        pub part : IsLawfulSoFar whole (history ++ later)
        part = part_on script.lines (length script.names) script.stop helm.period (answering helm) (vehicle_clients vehicle.gear helm.period) (length names) (mailed_in names) room some next count history later so.so_far now so.turned early below one due

        stand : Stands vehicle.gear helm script names room some (λ n. count) (history ++ later) part
        stand = part_stands script.lines (length script.names) script.stop helm.period (answering helm) (vehicle_clients vehicle.gear helm.period) (length names) (mailed_in names) room some (λ n. count) history later so.so_far part below so.turned

        -- what a client of the vehicle has been mailed is the same
        mails_same : (n : ℕ) → length script.names + 1 ≤ n → mails_of script helm vehicle.gear names n part.rest ≡ mails_of script helm vehicle.gear names n so.so_far.rest
        mails_same n past =
            ap mails_said (stays_heard whole n history later so.so_far part (none_other script.lines (length script.names) script.stop helm.period (answering helm) (vehicle_clients vehicle.gear helm.period) (length names) (mailed_in names) room some n later past below))

        kept : KeepMails vehicle helm script names (history ++ later) part
        kept = record {
          pid = subst (λ mails. IsPidAfter vehicle.gear.craft mails vehicle.pid) (sym (mails_same (pid_number script) (omega arith))) so.kept.pid;
          sim = subst (λ mails. IsSimAfter vehicle.gear.craft helm.period mails vehicle.sim) (sym (mails_same (sim_number script) (omega arith))) so.kept.sim;
          mgr = subst (λ mails. KeepsContacts vehicle.gear.ranges mails vehicle.mgr) (sym (mails_same (mgr_number script) (omega arith))) so.kept.mgr;
        }

        not_later : list_all (λ entry. nat_le entry.stamp next) part.rest ≡ true
        not_later =
            ap (list_all (λ (entry : Entry). nat_le entry.stamp next)) (rest_is whole history later so.so_far part) ∙ list_all-append (λ entry. nat_le entry.stamp next) so.so_far.rest later
            ∙ and_from (list_all (λ entry. nat_le entry.stamp next) so.so_far.rest) (list_all (λ entry. nat_le entry.stamp next) later) (before_not_later next so.so_far.rest early) (at_not_later next later one)

        -- without a tick of the helm
        pub without_tick : (left' next' : ℕ) → (left' ≡ 0) ⊎ (next < next') → IsUnderSail vehicle helm script names count left' next' (history ++ later)
        without_tick left' next' behind = record {
          so_far = part;
          turned = stand;
          kept = kept;
          early = by behind;
        }
          where
            by : (left' ≡ 0) ⊎ (next < next') → (left' ≡ 0) ⊎ (list_all (λ entry. nat_lt entry.stamp next') part.rest ≡ true)
            by (inl none) = inl none
            by (inr less) = inr (below_next vehicle.gear helm script names room some next next' part.rest less not_later)

        -- with one
        pub with_tick : (left' next' : ℕ) → (left' ≡ 0) ⊎ (next < next') → count < ticks_to script.stop helm → next ≡ count * helm.period
            → ((n : ℕ) → n < length script.names + 1 → list_all (λ entry. nat_le (suc (count * helm.period)) entry.stamp) (now.left n) ≡ true)
            → (awaited : IsAwaited vehicle.gear helm script names count left' next' next (pid_number script) (history ++ later)) × KeepMails vehicle helm script names (history ++ later) awaited.so_far
        with_tick left' next' behind many at late = (
          record {
            so_far = part;
            turned = none_answered script.lines (length script.names) script.stop helm.period (answering helm) (vehicle_clients vehicle.gear helm.period) (length names) (mailed_in names) room some count (history ++ later) part stand;
            more = many;
            at = at;
            late = λ n under. subst (λ left. list_all (λ entry. nat_le (suc (count * helm.period)) entry.stamp) left ≡ true)
                (sym (left_same (known_alone helm script names) whole (wider script.lines (length script.names) script.stop helm.period (answering helm) (vehicle_clients vehicle.gear helm.period) (length names) (mailed_in names) room) (history ++ later) now part n under)) (late n under);
            behind = behind;
            early = not_later;
          },
          kept,
        )
