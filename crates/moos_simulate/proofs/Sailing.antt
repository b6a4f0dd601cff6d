-- The vehicle's clients answer a tick of the helm: from a history in which it was made, to one in which they have made as many turns.
use Rattle.std.proofs.Common.{◌≡◌, ◌≢◌, ℕ, suc, ◌+◌, ◌*◌, ◌<◌, ◌≤◌, ◌&&◌, ◌⊎◌, inl, inr, true, cond, List, [], ◌∷◌, ◌++◌, length, nat_le, nat_lt, refl, sym, ap, subst, ◌∙◌, arith, ne_eqb}
use Rattle.std.specs.Prelude.{Some}
use Rattle.std.specs.List.{list_all}
use Rattle.std.proofs.lemmas.Bool.{and_from, and_parts}
use Rattle.std.proofs.lemmas.Bool.Decides.{nat_tests}
use Rattle.std.proofs.lemmas.List.{map-append}
use Rattle.std.proofs.lemmas.List.Folds.{list_all-append}
use Rattle.contact_avoid.specs.declared.ranges.Ranges.{Ranges}
use Rattle.helm_core.specs.Ticks.{pairs_mailed, Tick}
use Rattle.moos_client.specs.Calls.{entry_of}
use Rattle.moos_db.specs.Database.{letters_after}
use Rattle.moos_lawful.specs.Answering.{Answerer}
use Rattle.moos_lawful.specs.Schedules.{IsLawfulSoFar, IsPlayable, Schedule}
use Rattle.moos_play.specs.Lawful.{mailed_in, HelmSetup, ticks_to}
use Rattle.moos_play.specs.Schedules.{answering}
use Rattle.moos_post.specs.declared.entry.Call.{Call}
use Rattle.moos_post.specs.declared.entry.Call.TheVariants.{Post as Posts, Fetch}
use Rattle.moos_post.specs.declared.entry.Entry.{Entry}
use Rattle.moos_post.specs.declared.value.Pair.{Pair}
use Rattle.moos_post.specs.History.{History}
use Rattle.moos_simulate.proofs.Answering.{all_answered, IsHearing, IsLate, IsOther, may, Stand, turn_fetch, turn_post}
use Rattle.moos_simulate.proofs.Turning.{fetch_heard, post_heard, rest_is, stays_heard}
use Rattle.moos_simulate.specs.declared.gear.Gear.{Gear}
use Rattle.moos_simulate.specs.declared.vehicle.Vehicle.{Vehicle}
use Rattle.moos_simulate.specs.Sailing.{hears, IsNumbered, IsUnderSail, KeepMails, KeepsContacts, mails_of, mgr_number, pid_number, sim_number}
use Rattle.moos_simulate.specs.Simulated.{contact_clients, contact_mgr, mails_said, marine_pid, schedule_simulated, sim_marine, vehicle_clients}
use Rattle.moos_simulate.specs.Turns.{IsAwaited, turns_made}
use Rattle.script_reader.specs.declared.script.Script.{Script}
use Rattle.sim_clients.specs.Clients.{contacts_by, drive_by, drive_pairs, hull_by, hull_pairs}
use Rattle.sim_clients.specs.declared.basic_contact_mgr.BasicContactMgr.{BasicContactMgr}
use Rattle.sim_clients.specs.declared.marine_pid.MarinePid.{MarinePid}
use Rattle.sim_clients.specs.declared.sim_marine.SimMarine.{SimMarine}
use Rattle.sim_clients.specs.Keeping.{IsMgrAfter, IsPidAfter, IsSimAfter, pairs_in_mail}
use Rattle.sim_vehicle.specs.declared.settings.CraftSettings.{CraftSettings}

-- the clients of a vehicle have these numbers
pub pid_numbered : (gear : Gear) (period : ℕ) (script : Script) → IsNumbered (pid_number script) (vehicle_clients gear period) (pid_number script) (marine_pid gear.craft)
pid_numbered gear period script = inl (refl, refl)

pub sim_numbered : (gear : Gear) (period : ℕ) (script : Script) → IsNumbered (pid_number script) (vehicle_clients gear period) (sim_number script) (sim_marine gear.craft period)
sim_numbered gear period script = inr (inl (refl, refl))

pub mgr_numbered : (gear : Gear) (period : ℕ) (script : Script) (ranges : Ranges) → gear.ranges ≡ Some ranges → IsNumbered (pid_number script) (vehicle_clients gear period) (mgr_number script) (contact_mgr ranges)
mgr_numbered gear period script ranges is =
    subst (λ set. IsNumbered (pid_number script) (marine_pid gear.craft ∷ sim_marine gear.craft period ∷ contact_clients set) (mgr_number script) (contact_mgr ranges)) (sym is) (inr (inr (inl (refl, refl))))

-- a client has fetched, and has posted
abbrev pub fetched : ℕ → ℕ → History → History
fetched n stamp history = history ++ entry_of n stamp Fetch ∷ []

abbrev pub posted : ℕ → ℕ → History → List Pair → History
posted n stamp history said = fetched n stamp history ++ entry_of n stamp (Posts said) ∷ []

module _ (gear : Gear) (helm : HelmSetup) (script : Script) (names : List (List ℕ)) (room : length script.names + suc (length (vehicle_clients gear helm.period)) ≤ length names) (some : 1 ≤ helm.period)
  where
    abbrev pub sailed : Schedule Tick
    sailed = schedule_simulated script (Some helm) gear names

    abbrev pub ticks_all : ℕ
    ticks_all = ticks_to script.stop helm

    -- one of the vehicle's clients, how they stand, and the steps of their turns
    abbrev pub IsAboard : ℕ → Answerer Tick → Type 0
    IsAboard n answerer = IsOther script.lines (length script.names) script.stop helm.period (answering helm) (vehicle_clients gear helm.period) (length names) (mailed_in names) room some n answerer

    abbrev pub Stands : (made : ℕ → ℕ) (history : History) → IsLawfulSoFar sailed history → Type 0
    Stands made history so = Stand script.lines (length script.names) script.stop helm.period (answering helm) (vehicle_clients gear helm.period) (length names) (mailed_in names) room some made history so

    playable : IsPlayable sailed
    playable = may script.lines (length script.names) script.stop helm.period (answering helm) (vehicle_clients gear helm.period) (length names) (mailed_in names) room some

    -- what a client has heard once it has fetched
    hears_fetched : (n stamp : ℕ) (history : History) (so : IsLawfulSoFar sailed history) (on : IsLawfulSoFar sailed (history ++ entry_of n stamp Fetch ∷ [])) → hears sailed n on.rest ≡ hears sailed n so.rest ++ sailed.mailed n stamp (sailed.start ++ so.rest) ∷ []
    hears_fetched n stamp history so on =
        ap (hears sailed n) (rest_is sailed history (entry_of n stamp Fetch ∷ []) so on) ∙ fetch_heard sailed n so.rest stamp

    hears_posted : (n stamp : ℕ) (said : List Pair) (history : History) (so : IsLawfulSoFar sailed history) (on : IsLawfulSoFar sailed (history ++ entry_of n stamp (Posts said) ∷ [])) → hears sailed n on.rest ≡ hears sailed n so.rest
    hears_posted n stamp said history so on =
        ap (hears sailed n) (rest_is sailed history (entry_of n stamp (Posts said) ∷ []) so on) ∙ post_heard sailed n so.rest stamp said

    hears_other : (n m stamp : ℕ) (call : Call) (history : History) (so : IsLawfulSoFar sailed history) (on : IsLawfulSoFar sailed (history ++ entry_of m stamp call ∷ [])) → m ≢ n → hears sailed n on.rest ≡ hears sailed n so.rest
    hears_other n m stamp call history so on other = stays_heard sailed n history (entry_of m stamp call ∷ []) so on (ap (λ c. cond c (entry_of m stamp call ∷ []) []) (ne_eqb m n other))

    -- what a client has been mailed behind a history, and with the mail of a fetch there
    abbrev pub mails_by : (n : ℕ) (history : History) → IsLawfulSoFar sailed history → List (List Pair)
    mails_by n history so = mails_of script helm gear names n so.rest

    abbrev pub mails_then : (n : ℕ) (history : History) → IsLawfulSoFar sailed history → List (List Pair)
    mails_then n history so = mails_by n history so ++ pairs_in_mail (letters_after names n history) ∷ []

    mails_more : (n stamp : ℕ) (history : History) (so : IsLawfulSoFar sailed history) → mails_said (hears sailed n so.rest ++ sailed.mailed n stamp (sailed.start ++ so.rest) ∷ []) ≡ mails_then n history so
    mails_more n stamp history so =
        map-append (λ (tick : Tick). pairs_mailed tick.mail) (hears sailed n so.rest) (sailed.mailed n stamp (sailed.start ++ so.rest) ∷ [])
        ∙ ap (λ past. mails_said (hears sailed n so.rest) ++ pairs_in_mail (letters_after names n past) ∷ []) (sym so.opened)

    -- what stands so far isn't later, with one more entry of this stamp
    early_more : (stamp : ℕ) (history : History) (so : IsLawfulSoFar sailed history) (entry : Entry) (on : IsLawfulSoFar sailed (history ++ entry ∷ [])) → entry.stamp ≡ stamp → list_all (λ entry. nat_le entry.stamp stamp) so.rest ≡ true → list_all (λ entry. nat_le entry.stamp stamp) on.rest ≡ true
    early_more stamp history so entry on is early =
        ap (list_all (λ (entry : Entry). nat_le entry.stamp stamp)) (rest_is sailed history (entry ∷ []) so on) ∙ list_all-append (λ entry. nat_le entry.stamp stamp) so.rest (entry ∷ [])
        ∙ and_from (list_all (λ entry. nat_le entry.stamp stamp) so.rest) (nat_le entry.stamp stamp && true) early (and_from (nat_le entry.stamp stamp) true (grind (arith, nat_tests, is)) refl)

    pub below_next : (stamp next : ℕ) (rest : History) → stamp < next → list_all (λ entry. nat_le entry.stamp stamp) rest ≡ true → list_all (λ entry. nat_lt entry.stamp next) rest ≡ true
    below_next stamp next [] less early = refl
    below_next stamp next (x ∷ rest) less early =
        let tests = and_parts (nat_le x.stamp stamp) (list_all (λ entry. nat_le entry.stamp stamp) rest) early in
        let test = tests.0 in
        and_from (nat_lt x.stamp next) (list_all (λ entry. nat_lt entry.stamp next) rest) (grind (arith, nat_tests, test, less)) (below_next stamp next rest less tests.1)

    -- ---- one client's turn

    module _ (n : ℕ) (answerer : Answerer Tick) (is : IsAboard n answerer) (saying : List (List Pair) → List Pair) (says : (heard : List Tick) → answerer.says heard ≡ saying (mails_said heard)) (count left next stamp : ℕ) (history : History) (so : IsAwaited gear helm script names count left next stamp n history)
      where
        abbrev at : ℕ
        at = count * helm.period

        heard : (on : IsLawfulSoFar sailed (fetched n at history))
            × IsHearing script.lines (length script.names) script.stop helm.period (answering helm) (vehicle_clients gear helm.period) (length names) (mailed_in names) room some count n answerer is (fetched n at history) on
        heard = turn_fetch script.lines (length script.names) script.stop helm.period (answering helm) (vehicle_clients gear helm.period) (length names) (mailed_in names) room some count n answerer is history so.so_far so.turned so.more so.late

        -- IT HAS FETCHED ALONE
        pub has_fetched : IsLawfulSoFar sailed (fetched n stamp history)
        has_fetched = subst (λ stamp. IsLawfulSoFar sailed (fetched n stamp history)) (sym so.at) heard.0

        mails_are : mails_said (hears sailed n heard.0.rest) ≡ mails_then n history so.so_far
        mails_are = ap mails_said (hears_fetched n at history so.so_far heard.0) ∙ mails_more n at history so.so_far

        abbrev said : List Pair
        said = answerer.says (hears sailed n heard.0.rest)

        said_is : said ≡ saying (mails_then n history so.so_far)
        said_is = says (hears sailed n heard.0.rest) ∙ ap saying mails_are

        made : (on : IsLawfulSoFar sailed (posted n at history said)) × Stands (turns_made count (suc n)) (posted n at history said) on
            × IsLate script.lines (length script.names) script.stop helm.period (answering helm) (vehicle_clients gear helm.period) (length names) (mailed_in names) room some at on.left
        made = turn_post script.lines (length script.names) script.stop helm.period (answering helm) (vehicle_clients gear helm.period) (length names) (mailed_in names) room some count n answerer is (fetched n at history) heard.0 heard.1

        -- the next one is awaited, and who isn't this client has heard nothing
        pub record HasTurned (history' : History) : Type 0 where
          pub awaited : IsAwaited gear helm script names count left next stamp (suc n) history'
          pub mails : mails_by n history' awaited.so_far ≡ mails_then n history so.so_far
          pub others : (m : ℕ) → n ≢ m → mails_by m history' awaited.so_far ≡ mails_by m history so.so_far

        -- IT HAS ANSWERED
        pub has_turned : HasTurned (posted n stamp history (saying (mails_then n history so.so_far)))
        has_turned = subst HasTurned (λ i. posted n (sym so.at i) history (said_is i)) (record {
          awaited = record {
            so_far = made.0;
            turned = made.1;
            more = so.more;
            at = so.at;
            late = made.2;
            behind = so.behind;
            early = early_more stamp (fetched n at history) heard.0 (entry_of n at (Posts said)) made.0 (sym so.at) (early_more stamp history so.so_far (entry_of n at Fetch) heard.0 (sym so.at) so.early);
          };
          mails = ap mails_said (hears_posted n at said (fetched n at history) heard.0 made.0) ∙ mails_are;
          others = λ m other. ap mails_said (hears_other m n at (Posts said) (fetched n at history) heard.0 made.0 other ∙ hears_other m n at Fetch history so.so_far heard.0 other);
        })

-- ---- what the clients keep

module _ (vehicle : Vehicle) (helm : HelmSetup) (script : Script) (names : List (List ℕ)) (room : length script.names + suc (length (vehicle_clients vehicle.gear helm.period)) ≤ length names) (some : 1 ≤ helm.period) (count left next stamp : ℕ) (history history' : History)
  where
    abbrev craft : CraftSettings
    craft = vehicle.gear.craft

    -- pMarinePID's turn
    abbrev pub PidTurned : IsAwaited vehicle.gear helm script names count left next stamp (pid_number script) history → Type 0
    PidTurned so =
        HasTurned vehicle.gear helm script names room some (pid_number script) (marine_pid craft) (pid_numbered vehicle.gear helm.period script) (λ mails. drive_pairs (drive_by craft mails)) (λ heard. refl) count left next stamp history so history'

    pub pid_kept : (so : IsAwaited vehicle.gear helm script names count left next stamp (pid_number script) history) → KeepMails vehicle helm script names history so.so_far → (turn : PidTurned so) (pid : MarinePid)
        → IsPidAfter craft (mails_then vehicle.gear helm script names room some (pid_number script) history so.so_far) pid → KeepMails (record vehicle { pid = pid }) helm script names history' turn.awaited.so_far
    pid_kept so kept turn pid after = record {
      pid = subst (λ mails. IsPidAfter craft mails pid) (sym turn.mails) after;
      sim = subst (λ mails. IsSimAfter craft helm.period mails vehicle.sim) (sym (turn.others (sim_number script) (λ is. absurd (omega (arith, is))))) kept.sim;
      mgr = subst (λ mails. KeepsContacts vehicle.gear.ranges mails vehicle.mgr) (sym (turn.others (mgr_number script) (λ is. absurd (omega (arith, is))))) kept.mgr;
    }

    -- uSimMarine's
    abbrev pub SimTurned : IsAwaited vehicle.gear helm script names count left next stamp (sim_number script) history → Type 0
    SimTurned so =
        HasTurned vehicle.gear helm script names room some (sim_number script) (sim_marine craft helm.period) (sim_numbered vehicle.gear helm.period script) (λ mails. hull_pairs (hull_by craft helm.period mails)) (λ heard. refl) count left next stamp history so history'

    pub sim_kept : (so : IsAwaited vehicle.gear helm script names count left next stamp (sim_number script) history) → KeepMails vehicle helm script names history so.so_far → (turn : SimTurned so) (sim : SimMarine)
        → IsSimAfter craft helm.period (mails_then vehicle.gear helm script names room some (sim_number script) history so.so_far) sim → KeepMails (record vehicle { sim = sim }) helm script names history' turn.awaited.so_far
    sim_kept so kept turn sim after = record {
      pid = subst (λ mails. IsPidAfter craft mails vehicle.pid) (sym (turn.others (pid_number script) (λ is. absurd (omega (arith, is))))) kept.pid;
      sim = subst (λ mails. IsSimAfter craft helm.period mails sim) (sym turn.mails) after;
      mgr = subst (λ mails. KeepsContacts vehicle.gear.ranges mails vehicle.mgr) (sym (turn.others (mgr_number script) (λ is. absurd (omega (arith, is))))) kept.mgr;
    }

    -- pBasicContactMgr's, where there is one
    abbrev pub MgrTurned : (ranges : Ranges) → vehicle.gear.ranges ≡ Some ranges → IsAwaited vehicle.gear helm script names count left next stamp (mgr_number script) history → Type 0
    MgrTurned ranges is so =
        HasTurned vehicle.gear helm script names room some (mgr_number script) (contact_mgr ranges) (mgr_numbered vehicle.gear helm.period script ranges is) (contacts_by ranges) (λ heard. refl) count left next stamp history so history'

    pub mgr_kept : (ranges : Ranges) (is : vehicle.gear.ranges ≡ Some ranges) (so : IsAwaited vehicle.gear helm script names count left next stamp (mgr_number script) history) → KeepMails vehicle helm script names history so.so_far → (turn : MgrTurned ranges is so) (mgr : BasicContactMgr)
        → IsMgrAfter ranges (mails_then vehicle.gear helm script names room some (mgr_number script) history so.so_far) mgr → KeepMails (record vehicle { mgr = Some mgr }) helm script names history' turn.awaited.so_far
    mgr_kept ranges is so kept turn mgr after = record {
      pid = subst (λ mails. IsPidAfter craft mails vehicle.pid) (sym (turn.others (pid_number script) (λ is. absurd (omega (arith, is))))) kept.pid;
      sim = subst (λ mails. IsSimAfter craft helm.period mails vehicle.sim) (sym (turn.others (sim_number script) (λ is. absurd (omega (arith, is))))) kept.sim;
      mgr = subst (λ set. KeepsContacts set (mails_of script helm vehicle.gear names (mgr_number script) turn.awaited.so_far.rest) (Some mgr)) (sym is) (subst (λ mails. IsMgrAfter ranges mails mgr) (sym turn.mails) after);
    }

-- ---- all have answered

pub all_turned : (vehicle : Vehicle) (helm : HelmSetup) (script : Script) (names : List (List ℕ)) (room : length script.names + suc (length (vehicle_clients vehicle.gear helm.period)) ≤ length names) (some : 1 ≤ helm.period)
    (count left next stamp last : ℕ) (history : History) (so : IsAwaited vehicle.gear helm script names count left next stamp last history) → KeepMails vehicle helm script names history so.so_far
    → last ≡ pid_number script + length (vehicle_clients vehicle.gear helm.period) → IsUnderSail vehicle helm script names (suc count) left next history
all_turned vehicle helm script names room some count left next stamp last history so kept end = record {
  so_far = so.so_far;
  turned = all_answered script.lines (length script.names) script.stop helm.period (answering helm) (vehicle_clients vehicle.gear helm.period) (length names) (mailed_in names) room some count last history so.so_far end so.turned;
  kept = kept;
  early = by so.behind;
}
  where
    by : (left ≡ 0) ⊎ (stamp < next) → (left ≡ 0) ⊎ (list_all (λ entry. nat_lt entry.stamp next) so.so_far.rest ≡ true)
    by (inl none) = inl none
    by (inr less) = inr (below_next vehicle.gear helm script names room some stamp next so.so_far.rest less so.early)
