-- The vehicle's clients answer a tick of a play: what their calls entered is their turns.
use Rattle.std.proofs.Common.{◌≡◌, ℕ, suc, ◌+◌, ◌≤◌, inl, inr, List, [], ◌∷◌, ◌++◌, length, refl, sym, ap, subst, ◌∙◌, arith}
use Rattle.std.specs.Prelude.{None, Option, Some}
use Rattle.contact_avoid.specs.declared.ranges.Ranges.{Ranges}
use Rattle.helm_core.specs.declared.iteration.Iteration.{Iteration}
use Rattle.moos_db.specs.Database.{letters_after}
use Rattle.moos_lawful.specs.Schedules.{IsLawfulSoFar}
use Rattle.moos_play.specs.Lawful.{HelmSetup}
use Rattle.moos_play.specs.Plays.{clients_in, history_in, IsFurther, left_in, next_stamp, Playing, script_played}
use Rattle.moos_post.specs.declared.value.Pair.{Pair}
use Rattle.moos_post.specs.History.{History}
use Rattle.moos_simulate.proofs.Going.{beside_on, IsSameVehicle, known_beside, names_on, room_beside}
use Rattle.moos_simulate.proofs.Sailing.{all_turned, fetched, has_fetched, has_turned, mgr_kept, mgr_numbered, MgrTurned, pid_kept, pid_numbered, PidTurned, posted, sim_kept, sim_numbered, SimTurned}
use Rattle.moos_simulate.specs.declared.gear.Gear.{Gear}
use Rattle.moos_simulate.specs.declared.vehicle.Vehicle.{Vehicle}
use Rattle.moos_simulate.specs.Sailing.{IsSimulating, IsUnderSail, KeepMails, KeepsContacts, mails_of, mgr_number, pid_number, sim_number}
use Rattle.moos_simulate.specs.Simulated.{contact_clients, contact_mgr, IsSimulatedSoFar, marine_pid, schedule_simulated, sim_marine, vehicle_clients}
use Rattle.moos_simulate.specs.Turns.{HasHeardAtMost, HasSaid, IsAnswering, IsAwaited, StaysBetween}
use Rattle.script_reader.specs.declared.script.Script.{Script}
use Rattle.sim_clients.specs.Clients.{contacts_by, drive_by, drive_pairs, hull_by, hull_pairs}
use Rattle.sim_clients.specs.declared.basic_contact_mgr.BasicContactMgr.{BasicContactMgr}
use Rattle.sim_clients.specs.Keeping.{IsMgrAfter, IsPidAfter, IsSimAfter, pairs_in_mail}

module _ (vehicle : Vehicle) (old : Playing) (stamp n : ℕ) (a : IsAnswering vehicle old stamp n)
  where
    abbrev pub helm : HelmSetup
    helm = a.helm

    abbrev pub script : Script
    script = script_played old

    abbrev pub names : List (List ℕ)
    names = clients_in old

    pub room : length script.names + suc (length (vehicle_clients vehicle.gear helm.period)) ≤ length names
    room = let many = room_beside vehicle helm old a.beside in omega (arith, many)

    pub some : 1 ≤ helm.period
    some = a.beside.some

    -- where no memory was left: the client has fetched at most
    pub stopped : (client : ℕ) → client ≡ n → IsLawfulSoFar (schedule_simulated script (Some helm) vehicle.gear names) (fetched n stamp (history_in old)) → (new : Playing) → HasHeardAtMost client stamp old new
        → IsSimulatedSoFar script (Some helm) vehicle.gear names (history_in new)
    stopped client is has new (inl none) = subst (IsSimulatedSoFar script (Some helm) vehicle.gear names) (sym none) a.awaited.so_far
    stopped client is has new (inr one) = subst (IsSimulatedSoFar script (Some helm) vehicle.gear names) (sym (one ∙ (λ i. fetched (is i) stamp (history_in old)))) has

    -- the next client is awaited in the play that goes on
    module _ (fresh : Vehicle) (new : Playing) (stays : StaysBetween old new) (same : IsSameVehicle vehicle fresh)
      where
        abbrev Ticks : Script → List (List ℕ) → ℕ → ℕ → Type 0
        Ticks script names left next = (awaited : IsAwaited fresh.gear helm script names a.count left next stamp (suc n) (history_in new)) × KeepMails fresh helm script names (history_in new) awaited.so_far

        pub answered_on : Ticks script names (left_in old) (next_stamp old) → IsAnswering fresh new stamp (suc n)
        answered_on so = record {
          helm = helm;
          beside = beside_on vehicle fresh helm old new a.beside stays.between stays.same same;
          count = a.count;
          ticks = ap (λ (made : List Iteration). length made) stays.iterations ∙ a.ticks;
          awaited = moved.0;
          kept = moved.1;
        }
          where
            moved : Ticks (script_played new) (clients_in new) (left_in new) (next_stamp new)
            moved =
                subst (λ script. Ticks script (clients_in new) (left_in new) (next_stamp new)) (sym stays.same.script)
                (subst (λ names. Ticks script names (left_in new) (next_stamp new)) (sym (names_on old new stays.same))
                (subst (λ left. Ticks script names left (next_stamp new)) (sym stays.left)
                (subst (λ next. Ticks script names (left_in old) next) (sym stays.next) so)))

-- ---- pMarinePID

module _ (vehicle : Vehicle) (old : Playing) (stamp : ℕ) (a : IsAnswering vehicle old stamp (pid_number (script_played old)))
  where
    abbrev n : ℕ
    n = pid_number (script_played old)

    -- what it has been mailed, and what it has been mailed then
    abbrev mails : List (List Pair)
    mails = mails_of (script_played old) a.helm vehicle.gear (clients_in old) n a.awaited.so_far.rest

    abbrev pub pid_then : List (List Pair) → ℕ → List (List Pair)
    pid_then mails client = mails ++ pairs_in_mail (letters_after (clients_in old) client (history_in old)) ∷ []

    pub pid_stopped : (new : Playing) → HasHeardAtMost vehicle.pid_client stamp old new → IsSimulatedSoFar (script_played old) (Some a.helm) vehicle.gear (clients_in old) (history_in new)
    pid_stopped new heard =
        stopped vehicle old stamp n a vehicle.pid_client a.beside.pid
        (has_fetched vehicle.gear a.helm (script_played old) (clients_in old) (room vehicle old stamp n a) a.beside.some n (marine_pid vehicle.gear.craft) (pid_numbered vehicle.gear a.helm.period (script_played old)) (λ mails. drive_pairs (drive_by vehicle.gear.craft mails)) (λ heard. refl)
        a.count (left_in old) (next_stamp old) stamp (history_in old) a.awaited)
        new heard

    module _ (other : Vehicle) (new : Playing) (stays : StaysBetween old new) (is : other ≡ record vehicle { pid = other.pid })
        (said : (mails : List (List Pair)) → IsPidAfter vehicle.gear.craft mails vehicle.pid → HasSaid vehicle.pid_client stamp (drive_pairs (drive_by vehicle.gear.craft (pid_then mails vehicle.pid_client))) old new)
        (after : (mails : List (List Pair)) → IsPidAfter vehicle.gear.craft mails vehicle.pid → IsPidAfter vehicle.gear.craft (pid_then mails vehicle.pid_client) other.pid)
      where
        abbrev Turned : History → Type 0
        Turned history' = PidTurned vehicle a.helm (script_played old) (clients_in old) (room vehicle old stamp n a) a.beside.some a.count (left_in old) (next_stamp old) stamp (history_in old) history' a.awaited

        turn : Turned (history_in new)
        turn =
            subst Turned (sym (said mails a.kept.pid ∙ (λ i. posted (a.beside.pid i) stamp (history_in old) (drive_pairs (drive_by vehicle.gear.craft (pid_then mails (a.beside.pid i)))))))
            (has_turned vehicle.gear a.helm (script_played old) (clients_in old) (room vehicle old stamp n a) a.beside.some n (marine_pid vehicle.gear.craft) (pid_numbered vehicle.gear a.helm.period (script_played old)) (λ mails. drive_pairs (drive_by vehicle.gear.craft mails)) (λ heard. refl)
            a.count (left_in old) (next_stamp old) stamp (history_in old) a.awaited)

        pub pid_answered : IsAnswering other new stamp (sim_number (script_played new))
        pid_answered =
            subst (λ script. IsAnswering other new stamp (sim_number script)) (sym stays.same.script)
            (subst (λ vehicle. IsAnswering vehicle new stamp (sim_number (script_played old))) (sym is)
            (answered_on vehicle old stamp n a (record vehicle { pid = other.pid }) new stays (record { gear = refl; pid = refl; sim = refl; mgr = refl; period = refl }) (
              turn.awaited,
              pid_kept vehicle a.helm (script_played old) (clients_in old) (room vehicle old stamp n a) a.beside.some a.count (left_in old) (next_stamp old) stamp (history_in old) (history_in new) a.awaited a.kept turn other.pid
                  (subst (λ client. IsPidAfter vehicle.gear.craft (pid_then mails client) other.pid) a.beside.pid (after mails a.kept.pid)),
            )))

-- ---- uSimMarine

module _ (vehicle : Vehicle) (old : Playing) (stamp : ℕ) (here : IsAnswering vehicle old stamp (sim_number (script_played old)))
  where
    abbrev n' : ℕ
    n' = sim_number (script_played old)

    abbrev mails' : List (List Pair)
    mails' = mails_of (script_played old) here.helm vehicle.gear (clients_in old) n' here.awaited.so_far.rest

    abbrev pub sim_then : List (List Pair) → ℕ → List (List Pair)
    sim_then mails client = mails ++ pairs_in_mail (letters_after (clients_in old) client (history_in old)) ∷ []

    -- it keeps what its mails come to
    before : IsSimAfter vehicle.gear.craft vehicle.period mails' vehicle.sim
    before = subst (λ period. IsSimAfter vehicle.gear.craft period mails' vehicle.sim) (sym here.beside.period) here.kept.sim

    pub sim_known : (mails : List (List Pair)) × IsSimAfter vehicle.gear.craft vehicle.period mails vehicle.sim
    sim_known = (mails', before)

    pub sim_stopped : (new : Playing) → HasHeardAtMost vehicle.sim_client stamp old new → IsSimulatedSoFar (script_played old) (Some here.helm) vehicle.gear (clients_in old) (history_in new)
    sim_stopped new heard =
        stopped vehicle old stamp n' here vehicle.sim_client here.beside.sim
        (has_fetched vehicle.gear here.helm (script_played old) (clients_in old) (room vehicle old stamp n' here) here.beside.some n' (sim_marine vehicle.gear.craft here.helm.period) (sim_numbered vehicle.gear here.helm.period (script_played old))
        (λ mails. hull_pairs (hull_by vehicle.gear.craft here.helm.period mails)) (λ heard. refl) here.count (left_in old) (next_stamp old) stamp (history_in old) here.awaited)
        new heard

    module _ (other : Vehicle) (new : Playing) (stays : StaysBetween old new) (is : other ≡ record vehicle { sim = other.sim })
        (said : (mails : List (List Pair)) → IsSimAfter vehicle.gear.craft vehicle.period mails vehicle.sim → HasSaid vehicle.sim_client stamp (hull_pairs (hull_by vehicle.gear.craft vehicle.period (sim_then mails vehicle.sim_client))) old new)
        (after : (mails : List (List Pair)) → IsSimAfter vehicle.gear.craft vehicle.period mails vehicle.sim → IsSimAfter vehicle.gear.craft vehicle.period (sim_then mails vehicle.sim_client) other.sim)
      where
        abbrev Turned' : History → Type 0
        Turned' history' = SimTurned vehicle here.helm (script_played old) (clients_in old) (room vehicle old stamp n' here) here.beside.some here.count (left_in old) (next_stamp old) stamp (history_in old) history' here.awaited

        turn' : Turned' (history_in new)
        turn' =
            subst Turned' (sym (said mails' before ∙ (λ i. posted (here.beside.sim i) stamp (history_in old) (hull_pairs (hull_by vehicle.gear.craft (here.beside.period i) (sim_then mails' (here.beside.sim i)))))))
            (has_turned vehicle.gear here.helm (script_played old) (clients_in old) (room vehicle old stamp n' here) here.beside.some n' (sim_marine vehicle.gear.craft here.helm.period) (sim_numbered vehicle.gear here.helm.period (script_played old))
            (λ mails. hull_pairs (hull_by vehicle.gear.craft here.helm.period mails)) (λ heard. refl) here.count (left_in old) (next_stamp old) stamp (history_in old) here.awaited)

        pub sim_answered : IsAnswering other new stamp (mgr_number (script_played new))
        sim_answered =
            subst (λ script. IsAnswering other new stamp (mgr_number script)) (sym stays.same.script)
            (subst (λ vehicle. IsAnswering vehicle new stamp (mgr_number (script_played old))) (sym is)
            (answered_on vehicle old stamp n' here (record vehicle { sim = other.sim }) new stays (record { gear = refl; pid = refl; sim = refl; mgr = refl; period = refl }) (
              turn'.awaited,
              sim_kept vehicle here.helm (script_played old) (clients_in old) (room vehicle old stamp n' here) here.beside.some here.count (left_in old) (next_stamp old) stamp (history_in old) (history_in new) here.awaited here.kept turn' other.sim
                  (subst (λ period. IsSimAfter vehicle.gear.craft period (sim_then mails' n') other.sim) here.beside.period
                  (subst (λ client. IsSimAfter vehicle.gear.craft vehicle.period (sim_then mails' client) other.sim) here.beside.sim (after mails' before))),
            )))

-- ---- pBasicContactMgr

-- the contact manager is there where it has ranges, and keeps what its mails come to
pub none_kept : (ranges : Option Ranges) (mails : List (List Pair)) (mgr : Option BasicContactMgr) → mgr ≡ None → KeepsContacts ranges mails mgr → ranges ≡ None
none_kept None mails None none kept = refl
none_kept None mails (Some mgr) none kept = absurd kept
none_kept (Some ranges) mails None none kept = absurd kept
none_kept (Some ranges) mails (Some mgr) none kept = absurd cc

pub one_kept : (ranges : Option Ranges) (mails : List (List Pair)) (mgr : Option BasicContactMgr) (one : BasicContactMgr) → mgr ≡ Some one → KeepsContacts ranges mails mgr → (set : Ranges) × (ranges ≡ Some set) × IsMgrAfter set mails one
one_kept None mails None one is kept = absurd cc
one_kept None mails (Some mgr) one is kept = absurd kept
one_kept (Some ranges) mails None one is kept = absurd kept
one_kept (Some ranges) mails (Some mgr) one is kept = (ranges, refl, subst (λ mgr. KeepsContacts (Some ranges) mails mgr) is kept)

-- THE LAST HAS ANSWERED
pub simulating_from : (vehicle : Vehicle) (play : Playing) (stamp n : ℕ) (a : IsAnswering vehicle play stamp n) → n ≡ pid_number (script_played play) + length (vehicle_clients vehicle.gear a.helm.period) → IsSimulating vehicle play
simulating_from vehicle play stamp n a end = (
  a.helm,
  record {
    beside = a.beside;
    sail = subst (λ count. IsUnderSail vehicle a.helm (script_played play) (clients_in play) count (left_in play) (next_stamp play) (history_in play)) (sym a.ticks)
        (all_turned vehicle a.helm (script_played play) (clients_in play) (room vehicle play stamp n a) a.beside.some a.count (left_in play) (next_stamp play) stamp n (history_in play) a.awaited a.kept end);
  },
)

many_aboard : (gear : Gear) (period : ℕ) (ranges : Option Ranges) → gear.ranges ≡ ranges → length (vehicle_clients gear period) ≡ suc (suc (length (contact_clients ranges)))
many_aboard gear period ranges is = ap (λ ranges. suc (suc (length (contact_clients ranges)))) is

module _ (vehicle : Vehicle) (old : Playing) (stamp : ℕ) (now : IsAnswering vehicle old stamp (mgr_number (script_played old)))
  where
    abbrev n'' : ℕ
    n'' = mgr_number (script_played old)

    abbrev pub mails'' : List (List Pair)
    mails'' = mails_of (script_played old) now.helm vehicle.gear (clients_in old) n'' now.awaited.so_far.rest

    abbrev pub mgr_then : List (List Pair) → ℕ → List (List Pair)
    mgr_then mails client = mails ++ pairs_in_mail (letters_after (clients_in old) client (history_in old)) ∷ []

    -- there is none
    pub none_watches : vehicle.mgr ≡ None → IsSimulating vehicle old
    none_watches none =
        simulating_from vehicle old stamp n'' now (omega (arith, many_aboard vehicle.gear now.helm.period None (none_kept vehicle.gear.ranges mails'' vehicle.mgr none now.kept.mgr)))

    -- there is one
    module _ (one : BasicContactMgr) (is : vehicle.mgr ≡ Some one)
      where
        pub found : (set : Ranges) × (vehicle.gear.ranges ≡ Some set) × IsMgrAfter set mails'' one
        found = one_kept vehicle.gear.ranges mails'' vehicle.mgr one is now.kept.mgr

        abbrev pub set : Ranges
        set = found.0

        -- it has a name, and is none of those known from the start
        pub mgr_further : IsFurther old vehicle.mgr_client
        mgr_further =
            let known = known_beside vehicle now.helm old now.beside in
            let many = room_beside vehicle now.helm old now.beside in
            let aboard = many_aboard vehicle.gear now.helm.period (Some set) found.1 in
            record { past = omega (arith, known, now.beside.mgr); named = omega (arith, many, aboard, now.beside.mgr) }

        pub mgr_stopped : (new : Playing) → HasHeardAtMost vehicle.mgr_client stamp old new → IsSimulatedSoFar (script_played old) (Some now.helm) vehicle.gear (clients_in old) (history_in new)
        mgr_stopped new heard =
            stopped vehicle old stamp n'' now vehicle.mgr_client now.beside.mgr
            (has_fetched vehicle.gear now.helm (script_played old) (clients_in old) (room vehicle old stamp n'' now) now.beside.some n'' (contact_mgr set) (mgr_numbered vehicle.gear now.helm.period (script_played old) set found.1)
            (contacts_by set) (λ heard. refl) now.count (left_in old) (next_stamp old) stamp (history_in old) now.awaited)
            new heard

        module _ (other : BasicContactMgr) (new : Playing) (stays : StaysBetween old new)
            (said : HasSaid vehicle.mgr_client stamp (contacts_by set (mgr_then mails'' vehicle.mgr_client)) old new) (after : IsMgrAfter set (mgr_then mails'' vehicle.mgr_client) other)
          where
            abbrev Turned'' : History → Type 0
            Turned'' history' = MgrTurned vehicle now.helm (script_played old) (clients_in old) (room vehicle old stamp n'' now) now.beside.some now.count (left_in old) (next_stamp old) stamp (history_in old) history' set found.1 now.awaited

            turn'' : Turned'' (history_in new)
            turn'' =
                subst Turned'' (sym (said ∙ (λ i. posted (now.beside.mgr i) stamp (history_in old) (contacts_by set (mgr_then mails'' (now.beside.mgr i))))))
                (has_turned vehicle.gear now.helm (script_played old) (clients_in old) (room vehicle old stamp n'' now) now.beside.some n'' (contact_mgr set) (mgr_numbered vehicle.gear now.helm.period (script_played old) set found.1)
                (contacts_by set) (λ heard. refl) now.count (left_in old) (next_stamp old) stamp (history_in old) now.awaited)

            answered : IsAnswering (record vehicle { mgr = Some other }) new stamp (suc n'')
            answered =
                answered_on vehicle old stamp n'' now (record vehicle { mgr = Some other }) new stays (record { gear = refl; pid = refl; sim = refl; mgr = refl; period = refl }) (
                  turn''.awaited,
                  mgr_kept vehicle now.helm (script_played old) (clients_in old) (room vehicle old stamp n'' now) now.beside.some now.count (left_in old) (next_stamp old) stamp (history_in old) (history_in new) set found.1 now.awaited now.kept turn'' other
                      (subst (λ client. IsMgrAfter set (mgr_then mails'' client) other) now.beside.mgr after),
                )

            pub one_watches : IsSimulating (record vehicle { mgr = Some other }) new
            one_watches =
                simulating_from (record vehicle { mgr = Some other }) new stamp (suc n'') answered
                (omega (arith, many_aboard vehicle.gear now.helm.period (Some set) found.1, ap (λ (script : Script). length script.names) stays.same.script))
