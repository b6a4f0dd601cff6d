-- A run from one step to the next, where memory was found and where it wasn't.
use Rattle.std.proofs.Common.{◌≡◌, ◌≢◌, ℕ, zero, suc, ◌+◌, ◌-◌, ◌*◌, ◌<◌, ◌≤◌, ◌==◌, true, false, cond, List, [], ◌∷◌, ◌++◌, length, length-append, take, drop, Option, None, Some, Ok, Result, nat_le, nat_lt, refl, sym, ap, ◌∙◌, subst, arith, append-nil, append_assoc}
use Rattle.std.specs.Prelude.{IfSome, map}
use Rattle.std.specs.List.{list_all}
use Rattle.std.specs.declared.alloc.AllocError.{AllocError}
use Rattle.std.proofs.lemmas.Bool.Decides.{nat_tests}
use Rattle.std.proofs.lemmas.List.{drop-drop, drop_all, length-drop, length-take, take-append-drop, take_rest}
use native.Mathlib.Decide.{ℕ_discrete}
use Rattle.helm_core.specs.Ticks.{Tick}
use Rattle.moos_client.specs.Calls.{SeatState, entries_of, entry_of}
use Rattle.moos_client.specs.Hearing.{heard_in}
use Rattle.moos_client.proofs.Hearing.{heard_append, heard_on}
use Rattle.moos_client.proofs.Histories.{only_own, own_rest}
use Rattle.moos_lawful.specs.Answering.{moment_in, turns_from}
use Rattle.moos_lawful.specs.Schedules.{clients_below, due_in, IsLawfulSoFar, never_falls}
use Rattle.moos_lawful.proofs.Stepping.{KeepsMoment, left_by, turn_moment, turns_rise}
use Rattle.moos_step.proofs.Growing.{grown}
use Rattle.moos_step.proofs.Steps.{none_past}
use Rattle.moos_step.proofs.Taking.{at_ok}
use Rattle.moos_step.specs.Steps.{CommunityLock, GoesOn, IsAlone, IsGathered, IsPlayed, IsPlayedBeside, IsWhole}
use Rattle.moos_post.specs.declared.entry.Call.TheVariants.{Fetch}
use Rattle.moos_post.specs.declared.entry.Entry.{Entry}
use Rattle.moos_post.specs.History.{History}
use Rattle.moos_play.specs.declared.stage.Stage.{Stage}
use Rattle.moos_play.specs.declared.helm_client.HelmClient.{HelmClient}
use Rattle.moos_play.specs.Lawful.{heard_of, helm_number, mailed_in, opening_of, HelmSetup, tick_entries, ticks_of, ticks_to}
use Rattle.moos_play.specs.Runs.{MayPlay}
use Rattle.moos_play.specs.Schedules.{answerers, answering, schedule_with}
use Rattle.moos_play.specs.Steered.{HasPlayed, helm_of, IsBehind, IsStopped, IsUnderWay, left_for, helm_setup_of, Steers, turns_left}
use Rattle.moos_play.proofs.Standing.{HasHeard, StandsAt}
use Rattle.moos_lawful.proofs.Parts.{all_raised}
use Rattle.moos_play.proofs.Below.{beside_pass}
use Rattle.moos_play.proofs.Hearing.{ticks_stay}
use Rattle.moos_play.proofs.Steering.{steered_on}
use Rattle.moos_play.proofs.Stepping.{all_end, all_part, drop_late, has_played, helm_step, later_stamps, lines_clients, lines_step, MayCome, own_left}
use Rattle.moos_play.proofs.Turns.{begun_front, front_none, front_one, has_begun, HasBegun, helm_left, helm_stopped, left_late, start_is, stopped_left}
use Rattle.script_reader.specs.declared.script.Order.{Order}
use Rattle.script_reader.specs.declared.script.Order.TheVariants.{Stamp, Race}
use Rattle.script_reader.specs.declared.script.Script.{Script}
use Rattle.script_reader.specs.Validity.{are_lines}
use Rattle.turn_lock.specs.Passes.{Begins}

-- all lines are played where no memory was missing
pub grown_lines : (lines : List Entry) (result : Result (Unit {0}) AllocError) (before after : SeatState) → IsWhole before → (on : GoesOn (IsPlayed lines result) before after) → result ≡ Ok tt
    → (n : ℕ) → entries_of n on.later.0 ≡ entries_of n lines
grown_lines lines result before after whole on ok n = at_ok result _ ok (grown (IsPlayed lines result) before after whole on n).all

pub grown_beside : (helm : ℕ) (lines : List Entry) (result : Result (Unit {0}) AllocError) (before after : SeatState) → IsWhole before → (on : GoesOn (IsPlayedBeside helm lines result) before after) → result ≡ Ok tt
    → (n : ℕ) → n ≢ helm → entries_of n on.later.0 ≡ entries_of n lines
grown_beside helm lines result before after whole on ok n other = at_ok result _ ok (grown (IsPlayedBeside helm lines result) before after whole on n other).all

-- others go on: who is at the helm stands as before
pub stands_on : (names : List (List ℕ)) (number : ℕ) (helm_client : Option HelmClient) (history rest : History) → StandsAt names number helm_client history → entries_of number rest ≡ [] → StandsAt names number helm_client (history ++ rest)
stands_on names number None history rest so none = tt
stands_on names number (Some s) history rest so none =
    (so.0, steered_on names s history rest so.1 (subst (λ n. entries_of n rest ≡ []) (sym so.0) none))

pub ends : (lines : List Entry) (from to : ℕ) → from ≤ to → drop from lines ≡ take (to - from) (drop from lines) ++ drop to lines
ends lines from to below =
    let n : from + (to - from) ≡ to = omega (arith, below) in
    sym (take-append-drop (to - from) (drop from lines)) ∙ ap (λ end. take (to - from) (drop from lines) ++ end) (drop-drop (to - from) from lines ∙ ap (λ k. drop k lines) n)

-- what the helm adds at one tick
pub tick_added : (names : List (List ℕ)) (old new : HelmClient) (history rest : History) → Steers names old history → Steers names new (history ++ rest) → helm_setup_of new ≡ helm_setup_of old → new.ticks ≡ suc old.ticks
    → entries_of old.number rest ≡ tick_entries (helm_setup_of old) (heard_of names old.number (history ++ rest)) old.ticks
tick_added names old new history rest before after steering count =
    own_rest history rest old.number (tick_entries helm now old.ticks)
    (subst (λ (helm : HelmSetup). entries_of helm.client (history ++ rest) ≡ opening_of helm ++ ticks_of helm (heard_of names helm.client (history ++ rest)) (suc old.ticks)) steering
    (subst (λ n. entries_of new.number (history ++ rest) ≡ opening_of (helm_setup_of new) ++ ticks_of (helm_setup_of new) (heard_of names new.number (history ++ rest)) n) count
    after.own)
    ∙ sym (append_assoc (opening_of helm) (ticks_of helm now old.ticks) (tick_entries helm now old.ticks))
    ∙ ap (λ front. front ++ tick_entries helm now old.ticks) (ap (λ ticks. opening_of helm ++ ticks) earlier
    ∙ sym before.own))
  where
    helm : HelmSetup
    helm = helm_setup_of old

    start : List Tick
    start = heard_of names old.number history

    now : List Tick
    now = heard_of names old.number (history ++ rest)

    earlier : ticks_of helm now old.ticks ≡ ticks_of helm start old.ticks
    earlier = ap (λ heard. ticks_of helm heard old.ticks) (heard_append (mailed_in names) old.number [] history rest) ∙ ticks_stay helm start (heard_in (mailed_in names) old.number history rest) old.ticks (omega (arith, before.many))

-- where the helm is alone it adds its tick
pub tick_alone : (order : Order) (script : Script) (lock : CommunityLock) (old new : HelmClient) (from : ℕ) (first after : SeatState) → IsUnderWay order script lock (Some old) from first → (on : GoesOn (IsAlone old.number) first after)
    → helm_setup_of new ≡ helm_setup_of old → new.ticks ≡ old.ticks + 1 → Steers lock.base new after.seen → on.later.0 ≡ tick_entries (helm_setup_of old) (heard_of lock.base old.number (first.seen ++ on.later.0)) old.ticks
tick_alone order script lock old new from first after under on steering count steers =
    only_own old.number on.later.0 (λ n other. grown (IsAlone old.number) first after under.whole on n other)
    ∙ tick_added lock.base old new first.seen on.later.0 under.steered.1 (subst (Steers lock.base new) on.later.1 steers) steering (count ∙ omega arith)

-- what the clients of some lines make of them, and the helm beside them whatever it does
helm_known : (script : Script) (lines later : List Entry) → clients_below (length script.names) lines ≡ true → ((n : ℕ) → n ≢ helm_number script → Begins (entries_of n lines) (entries_of n later)) → clients_below (length script.names + 1) later ≡ true
helm_known script lines later below fronts = beside_pass (length script.names + 1) (helm_number script) lines later (omega arith) (all_raised (length script.names) (length script.names + 1) lines (omega arith) below) fronts

-- lines that are left behind a tick
pub behind_late : (clients last stop : ℕ) (lines : List Entry) (from stamp : ℕ) → are_lines clients last stop lines ≡ true → IsBehind (Some stamp) (drop from lines) → list_all (λ line. nat_le (suc stamp) line.stamp) (drop from lines) ≡ true
behind_late clients last stop lines from stamp valid behind = by (drop from lines) refl behind
  where
    by : (left : List Entry) → drop from lines ≡ left → IsBehind (Some stamp) left → list_all (λ line. nat_le (suc stamp) line.stamp) left ≡ true
    by [] is behind = refl
    by (line ∷ left) is behind =
        let less : suc stamp ≤ line.stamp = grind (arith, nat_tests, behind) in
        later_stamps (suc stamp) line.stamp (line ∷ left) less (drop_late clients last stop lines from line left valid is)

-- no line stands behind the last
to_last : (lines : List Entry) (from : ℕ) → drop from lines ≡ drop from lines ++ drop (length lines) lines
to_last lines from = sym (ap (λ end. drop from lines ++ end) (drop_all (length lines) lines (omega arith)) ∙ append-nil (drop from lines))

-- ---- lines

-- the helm's turns that are left stay the same where it makes no entry
pub turns_stay : (stop : ℕ) (names : List (List ℕ)) (number : ℕ) (s : Option HelmClient) (history later : History) → StandsAt names number s history → entries_of number later ≡ [] → turns_left stop s names history ≡ turns_left stop s names (history ++ later)
turns_stay stop names number None history later stands none = refl
turns_stay stop names number (Some t) history later stands none =
    ap (λ heard. turns_from (answering (helm_setup_of t)) t.number t.period heard t.ticks (ticks_to stop (helm_setup_of t) - t.ticks)) (sym (heard_on (mailed_in names) t.number history later (subst (λ n. entries_of n later ≡ []) (sym stands.0) none)))

-- the helm, where there is one, has made as many ticks as it may, and no more than it has heard
abbrev pub HasTicks : Script → Option HelmClient → Type 0
HasTicks script helm_client = IfSome helm_client (λ helm. (1 ≤ helm.period) × (helm.ticks ≤ ticks_to script.stop (helm_setup_of helm)))

pub has_heard : (names : List (List ℕ)) (number stop : ℕ) (helm_client : Option HelmClient) (history : History) → StandsAt names number helm_client history → IfSome helm_client (λ helm. (1 ≤ helm.period) × (helm.ticks ≤ ticks_to stop (helm_setup_of helm)))
    → HasHeard names number stop helm_client history
has_heard names number stop None history so period = tt
has_heard names number stop (Some s) history so period = (so.0, omega (arith, so.1.many), period.1)

-- lines that may be played are within the script, and may come next
pub may_within : (order : Order) (play : Stage) (to : ℕ) → MayPlay order play to → to ≤ length play.script.now.lines
may_within Stamp play to due = due.within
may_within Race play to within = within

pub may_come : (order : Order) (play : Stage) (to : ℕ) → MayPlay order play to → play.from < to → MayCome play.script.now order play.helm_client (take (to - play.from) (drop play.from play.script.now.lines))
may_come Race play to within some = tt
may_come Stamp play to due some = record {
  stamp = due.stamp;
  one = due.one;
  some = omega (arith, some, due.within, length-take (to - play.from) (drop play.from play.script.now.lines), length-drop play.from play.script.now.lines);
  early = due.early some;
}

module _ (order : Order) (script : Script) (lock : CommunityLock) (valid : are_lines (length script.names) 0 script.stop script.lines ≡ true)
  where
    -- the lines that may come are played
    pub lines_next : (helm_client : Option HelmClient) (from to : ℕ) (result : Result (Unit {0}) AllocError) (first after : SeatState) → IsUnderWay order script lock helm_client from first → IsGathered lock after
        → GoesOn (IsPlayed (take (to - from) (drop from script.lines)) result) first after → result ≡ Ok tt → from ≤ to → to ≤ length script.lines → MayCome script order helm_client (take (to - from) (drop from script.lines)) → IsUnderWay order script lock helm_client to after
    lines_next helm_client from to result first after under gathered on ok more within come = record {
      gathered = gathered;
      whole = on.whole;
      within = within;
      seats = under.seats;
      played = subst (HasPlayed order script lock.base helm_client to) (sym on.later.1)
          (has_played script lock.base valid order helm_client to (first.seen ++ on.later.0) step.0 (λ n. turns_left script.stop helm_client lock.base first.seen) step.1
          (λ n past left. turns_stay script.stop lock.base (helm_number script) helm_client first.seen on.later.0 under.steered none));
      steered = subst (StandsAt lock.base (helm_number script) helm_client) (sym on.later.1) (stands_on lock.base (helm_number script) helm_client first.seen on.later.0 under.steered none);
    }
      where
        lines : List Entry
        lines = take (to - from) (drop from script.lines)

        same : (n : ℕ) → entries_of n on.later.0 ≡ entries_of n lines
        same = grown_lines lines result first after under.whole on ok

        step : (so : IsLawfulSoFar (schedule_with order script (helm_of helm_client) lock.base) (first.seen ++ on.later.0)) × (so.left ≡ left_by (length script.names) (λ n. []) (drop to script.lines) (λ n. turns_left script.stop helm_client lock.base first.seen))
        step = lines_step script lock.base valid order helm_client from to lines first.seen on.later.0 under.played (λ n. []) under.seats (ends script.lines from to more) (λ n. sym (same n) ∙ sym (append-nil (entries_of n on.later.0))) come under.steered

        below : clients_below (length script.names) lines ≡ true
        below = all_part (λ line. nat_lt line.client (length script.names)) script.lines from (to - from) (lines_clients (length script.names) 0 script.stop script.lines valid)

        none : entries_of (helm_number script) on.later.0 ≡ []
        none = same (helm_number script) ∙ none_past (length script.names) (helm_number script) lines below (omega arith)

    -- or fronts of them
    pub lines_cut : {E : Type 0} {result : Result (Unit {0}) E} (helm_client : Option HelmClient) (from to : ℕ) (all : List Entry) (first after : SeatState) → IsUnderWay order script lock helm_client from first → HasTicks script helm_client → all ≡ script.lines
        → GoesOn (IsPlayed (take (to - from) (drop from all)) result) first after → from ≤ to → MayCome script order helm_client (take (to - from) (drop from script.lines))
        → IsLawfulSoFar (schedule_with order script (helm_of helm_client) lock.base) after.seen × HasHeard lock.base (helm_number script) script.stop helm_client after.seen
    lines_cut {result = result} helm_client from to all first after under period same went more come = (
      subst (IsLawfulSoFar (schedule_with order script (helm_of helm_client) lock.base)) (sym on.later.1)
          (lines_step script lock.base valid order helm_client from to lines first.seen on.later.0 under.played (λ n. (fronts n).0) under.seats (ends script.lines from to more) (λ n. (fronts n).1) come under.steered).0,
      has_heard lock.base (helm_number script) script.stop helm_client after.seen
          (subst (StandsAt lock.base (helm_number script) helm_client) (sym on.later.1) (stands_on lock.base (helm_number script) helm_client first.seen on.later.0 under.steered none)) period,
    )
      where
        lines : List Entry
        lines = take (to - from) (drop from script.lines)

        on : GoesOn (IsPlayed lines result) first after
        on = subst (λ all. GoesOn (IsPlayed (take (to - from) (drop from all)) result) first after) same went

        fronts : (n : ℕ) → Begins (entries_of n lines) (entries_of n on.later.0)
        fronts n = (grown (IsPlayed lines result) first after under.whole on n).front

        below : clients_below (length script.names) lines ≡ true
        below = all_part (λ line. nat_lt line.client (length script.names)) script.lines from (to - from) (lines_clients (length script.names) 0 script.stop script.lines valid)

        none : entries_of (helm_number script) on.later.0 ≡ []
        none = front_none (entries_of (helm_number script) on.later.0) (fronts (helm_number script)).0 (sym (fronts (helm_number script)).1 ∙ none_past (length script.names) (helm_number script) lines below (omega arith))

    -- ---- the helm

    -- what stands behind the helm's opening
    behind_opening : (old : HelmClient) (from : ℕ) (history later : History) (played : HasPlayed order script lock.base (Some old) from history) → old.number ≡ length script.names → history ++ later ≡ opening_of (helm_setup_of old) ++ (played.so_far.rest ++ later)
    behind_opening old from history later played number =
        ap (λ front. front ++ later) (played.so_far.opened ∙ ap (λ start. start ++ played.so_far.rest) (start_is (length script.names) (helm_setup_of old) number)) ∙ append_assoc (opening_of (helm_setup_of old)) played.so_far.rest later

    -- the helm makes turns where memory is found, and others their lines
    pub helm_next : (old new : HelmClient) (from to : ℕ) (lines : List Entry) (first after : SeatState) (under : IsUnderWay order script lock (Some old) from first) → IsGathered lock after → IsWhole after → (later : Begins after.seen first.seen) → ((n : ℕ) → n ≢ helm_number script → entries_of n later.0 ≡ entries_of n lines)
        → drop from script.lines ≡ lines ++ drop to script.lines → to ≤ length script.lines → clients_below (length script.names) lines ≡ true → helm_setup_of new ≡ helm_setup_of old → Steers lock.base new after.seen → new.ticks ≤ ticks_to script.stop (helm_setup_of new)
        → KeepsMoment script.lines (length script.names) script.stop old.period (answerers (Some (helm_setup_of old))) (length lock.base) (mailed_in lock.base) order under.played.so_far.rest later.0 (left_by (length script.names) (λ n. []) (drop to script.lines) (λ n. turns_left script.stop (Some new) lock.base (first.seen ++ later.0)))
        → IsUnderWay order script lock (Some new) to after
    helm_next old new from to lines first after under gathered whole later same cut within clients steering steers few moment = record {
      gathered = gathered;
      whole = whole;
      within = within;
      seats = under.seats;
      played = subst (HasPlayed order script lock.base (Some new) to) (sym later.1) (has_played script lock.base valid order (Some new) to now step.0 (λ n. left) step.1 (λ n past under. refl));
      steered = (ap (λ (helm : HelmSetup). helm.client) steering ∙ under.steered.0, steers);
    }
      where
        now : History
        now = first.seen ++ later.0

        left : List Entry
        left = turns_left script.stop (Some new) lock.base now

        number : new.number ≡ length script.names
        number = ap (λ (helm : HelmSetup). helm.client) steering ∙ under.steered.0

        due : due_in (schedule_with order script (Some (helm_setup_of old)) lock.base) (length script.names) (under.played.so_far.rest ++ later.0) ≡ entries_of (length script.names) (under.played.so_far.rest ++ later.0) ++ left
        due = subst (λ helm. due_in (schedule_with order script (Some helm) lock.base) (length script.names) (under.played.so_far.rest ++ later.0) ≡ entries_of (length script.names) (under.played.so_far.rest ++ later.0) ++ left) steering
            (helm_left order script lock.base new (under.played.so_far.rest ++ later.0) now (behind_opening old from first.seen later.0 under.played under.steered.0 ∙ ap (λ helm. opening_of helm ++ (under.played.so_far.rest ++ later.0)) (sym steering)) number (subst (Steers lock.base new) later.1 steers) few)

        lines_all : (n : ℕ) → n ≢ helm_number script → ((n : ℕ) → n ≢ helm_number script → entries_of n later.0 ≡ entries_of n lines) → Begins (entries_of n lines) (entries_of n later.0)
        lines_all n other same = ([], sym (same n other) ∙ sym (append-nil (entries_of n later.0)))

        step : (so : IsLawfulSoFar (schedule_with order script (Some (helm_setup_of new)) lock.base) now) × (so.left ≡ left_by (length script.names) (λ n. []) (drop to script.lines) (λ n. left))
        step = subst (λ helm. (so : IsLawfulSoFar (schedule_with order script (Some helm) lock.base) now) × (so.left ≡ left_by (length script.names) (λ n. []) (drop to script.lines) (λ n. left))) (sym steering)
            (helm_step script lock.base valid order (helm_setup_of old) from to lines first.seen later.0 under.played.so_far (λ n. []) left under.seats (λ n less. own_left script lock.base valid order (Some old) from first.seen under.played n less) cut
            (λ n less. sym (same n (λ is. absurd (omega (arith, is, less)))) ∙ sym (append-nil (entries_of n later.0))) due (helm_known script lines later.0 clients (λ n other. (lines_all n other same))) moment)

    -- and where it isn't
    pub helm_cut : (old : HelmClient) (from to whole most : ℕ) (lines : List Entry) (first after : SeatState) (under : IsUnderWay order script lock (Some old) from first) (later : Begins after.seen first.seen) (rest : ℕ → List Entry) → ((n : ℕ) → n ≢ helm_number script → entries_of n lines ≡ entries_of n later.0 ++ rest n)
        → drop from script.lines ≡ lines ++ drop to script.lines → clients_below (length script.names) lines ≡ true → (stopped : IsStopped lock.base (helm_setup_of old) whole most (first.seen ++ later.0)) → most ≤ ticks_to script.stop (helm_setup_of old)
        → ((left : List Entry) → left ≡ stopped_left script lock.base (helm_setup_of old) whole most (first.seen ++ later.0) stopped
        → KeepsMoment script.lines (length script.names) script.stop old.period (answerers (Some (helm_setup_of old))) (length lock.base) (mailed_in lock.base) order under.played.so_far.rest later.0 (left_by (length script.names) rest (drop to script.lines) (λ n. left)))
        → IsLawfulSoFar (schedule_with order script (Some (helm_setup_of old)) lock.base) after.seen
    helm_cut old from to whole most lines first after under later rest fronts cut clients stopped few moment =
        subst (IsLawfulSoFar (schedule_with order script (Some (helm_setup_of old)) lock.base)) (sym later.1)
        (helm_step script lock.base valid order (helm_setup_of old) from to lines first.seen later.0 under.played.so_far rest left under.seats (λ n less. own_left script lock.base valid order (Some old) from first.seen under.played n less) cut
        (λ n less. fronts n (λ is. absurd (omega (arith, is, less))))
        (helm_stopped order script lock.base (helm_setup_of old) whole most (under.played.so_far.rest ++ later.0) (first.seen ++ later.0) (behind_opening old from first.seen later.0 under.played under.steered.0) under.steered.0 stopped few)
        (helm_known script lines later.0 clients (λ n other. (rest n, fronts n other))) (moment left refl)).0
      where
        left : List Entry
        left = stopped_left script lock.base (helm_setup_of old) whole most (first.seen ++ later.0) stopped

    -- all of a race
    pub race_next : (old new : HelmClient) (from : ℕ) (result : Result (Unit {0}) AllocError) (first after : SeatState) → order ≡ Race → (under : IsUnderWay order script lock (Some old) from first) → IsGathered lock after → GoesOn (IsPlayedBeside old.number (drop from script.lines) result) first after → result ≡ Ok tt
        → helm_setup_of new ≡ helm_setup_of old → Steers lock.base new after.seen → new.ticks ≤ ticks_to script.stop (helm_setup_of new) → IsUnderWay order script lock (Some new) (length script.lines) after
    race_next old new from result first after race under gathered on ok steering steers few =
        helm_next old new from (length script.lines) (drop from script.lines) first after under gathered on.whole on.later
        (λ n other. grown_beside old.number (drop from script.lines) result first after under.whole on ok n (λ e. other (e ∙ under.steered.0)))
        (to_last script.lines from) (omega arith) (all_end (λ line. nat_lt line.client (length script.names)) script.lines from (lines_clients (length script.names) 0 script.stop script.lines valid)) steering steers few
        (race_moment order race)
      where
        race_moment : (order : Order) → order ≡ Race → KeepsMoment script.lines (length script.names) script.stop old.period (answerers (Some (helm_setup_of old))) (length lock.base) (mailed_in lock.base) order under.played.so_far.rest on.later.0 (left_by (length script.names) (λ n. []) (drop (length script.lines) script.lines) (λ n. turns_left script.stop (Some new) lock.base (first.seen ++ on.later.0)))
        race_moment Stamp is = absurd cc
        race_moment Race is = tt

    -- a tick where no line is left of its stamp or before
    tick_keeps : (o : Order) (old : HelmClient) (from : ℕ) (history later : History) (so : IsLawfulSoFar (schedule_with o script (Some (helm_setup_of old)) lock.base) history) (heard : List Tick) (left : List Entry) → ((n : ℕ) → n < length script.names + 1 → so.left n ≡ left_for script (Some old) lock.base from history n)
        → old.number ≡ length script.names → old.ticks < ticks_to script.stop (helm_setup_of old) → IsBehind (Some (old.ticks * old.period)) (drop from script.lines) → ((n : ℕ) → n < length script.names → entries_of n later ≡ []) → Begins (tick_entries (helm_setup_of old) heard old.ticks) later
        → never_falls (2 * (old.ticks * old.period) + (suc old.number - length script.names)) (map (moment_in Stamp (length script.names) 1) left) ≡ true
        → KeepsMoment script.lines (length script.names) script.stop old.period (answerers (Some (helm_setup_of old))) (length lock.base) (mailed_in lock.base) o so.rest later (left_by (length script.names) (λ n. []) (drop from script.lines) (λ n. left))
    tick_keeps Race old from history later so heard left is number more behind alone begins late = tt
    tick_keeps Stamp old from history later so heard left is number more behind alone begins late =
        turn_moment script.lines (length script.names) script.stop old.period (answerers (Some (helm_setup_of old))) (length lock.base) (mailed_in lock.base) (old.ticks * old.period) (length script.names) (entry_of old.number (old.ticks * old.period) Fetch) due.0 (drop from script.lines) history later so (λ n. []) (λ n. left) (omega arith) (omega arith)
        (is (length script.names) (omega arith) ∙ ap (λ b. cond b (entries_of (length script.names) (drop from script.lines)) (turns_left script.stop (Some old) lock.base history)) past ∙ due.1)
        (ap (λ n. 2 * (old.ticks * old.period) + (suc n - length script.names)) number)
        (λ n less. is n (omega (arith, less)) ∙ ap (λ b. cond b (entries_of n (drop from script.lines)) (turns_left script.stop (Some old) lock.base history)) (below n less))
        (λ n less. sym (append-nil (entries_of n later) ∙ alone n less))
        (all_end (λ line. nat_lt line.client (length script.names)) script.lines from (lines_clients (length script.names) 0 script.stop script.lines valid))
        (behind_late (length script.names) 0 script.stop script.lines from (old.ticks * old.period) valid behind)
        (subst (λ n. list_all (λ k. k == 2 * (old.ticks * old.period) + (suc n - length script.names)) (map (moment_in Stamp (length script.names) 1) later) ≡ true) number (front_one (length script.names) (helm_setup_of old) heard old.ticks later begins))
        (λ n past under. subst (λ n. never_falls (2 * (old.ticks * old.period) + (suc n - length script.names)) (map (moment_in Stamp (length script.names) 1) left) ≡ true) number late)
      where
        past : nat_lt (length script.names) (length script.names) ≡ false
        past = grind (arith, nat_tests)

        below : (n : ℕ) → n < length script.names → nat_lt n (length script.names) ≡ true
        below n less = grind (arith, nat_tests, less)

        first_turn : (heard : List Tick) (count : ℕ) → 0 < count → (due : List Entry) × (turns_from (answering (helm_setup_of old)) old.number old.period heard old.ticks count ≡ entry_of old.number (old.ticks * old.period) Fetch ∷ due)
        first_turn heard zero some = absurd (omega (arith, some))
        first_turn heard (suc count) some = (_, refl)

        due : (due : List Entry) × (turns_left script.stop (Some old) lock.base history ≡ entry_of old.number (old.ticks * old.period) Fetch ∷ due)
        due = first_turn (heard_of lock.base old.number history) (ticks_to script.stop (helm_setup_of old) - old.ticks) (omega (arith, more))

    pub tick_next : (old new : HelmClient) (from : ℕ) (first after : SeatState) → (under : IsUnderWay order script lock (Some old) from first) → IsGathered lock after → GoesOn (IsAlone old.number) first after → helm_setup_of new ≡ helm_setup_of old → new.ticks ≡ old.ticks + 1
        → Steers lock.base new after.seen → old.ticks < ticks_to script.stop (helm_setup_of old) → IsBehind (Some (old.ticks * old.period)) (drop from script.lines) → IsUnderWay order script lock (Some new) from after
    tick_next old new from first after under gathered on steering count steers more behind =
        helm_next old new from from [] first after under gathered on.whole on.later alone refl under.within refl steering steers (omega (arith, count, more, ap (λ helm. ticks_to script.stop helm) steering))
        (tick_keeps order old from first.seen on.later.0 under.played.so_far (heard_of lock.base old.number (first.seen ++ on.later.0)) (turns_left script.stop (Some new) lock.base (first.seen ++ on.later.0)) under.played.left under.steered.0 more behind
        (λ n less. alone n (λ is. absurd (omega (arith, is, less)))) ([], sym (append-nil on.later.0 ∙ tick_alone order script lock old new from first after under on steering count steers))
        (turns_rise (answering (helm_setup_of new)) (length script.names) 1 new.number new.period (heard_of lock.base new.number (first.seen ++ on.later.0)) new.ticks (ticks_to script.stop (helm_setup_of new) - new.ticks) (2 * (old.ticks * old.period) + (suc old.number - length script.names)) low))
      where
        alone : (n : ℕ) → n ≢ helm_number script → entries_of n on.later.0 ≡ []
        alone n other = grown (IsAlone old.number) first after under.whole on n (λ e. other (e ∙ under.steered.0))

        next : new.ticks * new.period ≡ old.period + old.ticks * old.period
        next = ap (λ n. n * new.period) (count ∙ omega arith) ∙ ap (λ (helm : HelmSetup). suc old.ticks * helm.period) steering ∙ omega arith

        low : 2 * (old.ticks * old.period) + (suc old.number - length script.names) ≤ 2 * (new.ticks * new.period) + (suc new.number - length script.names)
        low = let same : new.number ≡ old.number = ap (λ (helm : HelmSetup). helm.client) steering in omega (arith, next, same)

    -- a tick that was cut off
    pub tick_cut : (old new : HelmClient) (from : ℕ) (first after : SeatState) → (under : IsUnderWay order script lock (Some old) from first) → GoesOn (IsAlone old.number) first after → IsStopped lock.base (helm_setup_of old) new.ticks (old.ticks + 1) after.seen → old.ticks < ticks_to script.stop (helm_setup_of old)
        → IsBehind (Some (old.ticks * old.period)) (drop from script.lines) → IsLawfulSoFar (schedule_with order script (Some (helm_setup_of old)) lock.base) after.seen
    tick_cut old new from first after under on stops more behind =
        helm_cut old from from new.ticks (old.ticks + 1) [] first after under on.later (λ n. []) (λ n other. sym (append-nil (entries_of n on.later.0) ∙ alone n other)) refl refl stopped (omega (arith, more))
        (λ left is. tick_keeps order old from first.seen on.later.0 under.played.so_far (heard_of lock.base old.number (first.seen ++ on.later.0)) left under.played.left under.steered.0 more behind (λ n less. alone n (λ is. absurd (omega (arith, is, less))))
        (begun_front lock.base (helm_setup_of old) old.ticks first.seen on.later.0 stopped.left begun)
        (subst (λ left. never_falls (2 * (old.ticks * old.period) + (suc old.number - length script.names)) (map (moment_in Stamp (length script.names) 1) left) ≡ true) (sym is)
        (left_late (length script.names) lock.base (helm_setup_of old) old.ticks new.ticks (ticks_to script.stop (helm_setup_of old) - length (heard_of lock.base old.number (first.seen ++ on.later.0))) first.seen on.later.0 stopped begun
        (omega (arith, under.steered.1.many, ap length (heard_append (mailed_in lock.base) old.number [] first.seen on.later.0), length-append (heard_of lock.base old.number first.seen) (heard_in (mailed_in lock.base) old.number first.seen on.later.0))))))
      where
        alone : (n : ℕ) → n ≢ helm_number script → entries_of n on.later.0 ≡ []
        alone n other = grown (IsAlone old.number) first after under.whole on n (λ e. other (e ∙ under.steered.0))

        stopped : IsStopped lock.base (helm_setup_of old) new.ticks (old.ticks + 1) (first.seen ++ on.later.0)
        stopped = subst (IsStopped lock.base (helm_setup_of old) new.ticks (old.ticks + 1)) on.later.1 stops

        begun : HasBegun lock.base (helm_setup_of old) old.ticks first.seen on.later.0 stopped.left
        begun = has_begun lock.base (helm_setup_of old) old.ticks new.ticks first.seen on.later.0 under.steered.1.many
            under.steered.1.own
            (only_own old.number on.later.0 (λ n other. grown (IsAlone old.number) first after under.whole on n other)) stopped

    -- a race that was cut off
    pub race_cut : {E : Type 0} {result : Result (Unit {0}) E} (old : HelmClient) (from to whole most : ℕ) (all : List Entry) (first after : SeatState) → order ≡ Race → (under : IsUnderWay order script lock (Some old) from first) → all ≡ script.lines → from ≤ to → GoesOn (IsPlayedBeside old.number (take (to - from) (drop from all)) result) first after
        → IsStopped lock.base (helm_setup_of old) whole most after.seen → most ≤ ticks_to script.stop (helm_setup_of old) → IsLawfulSoFar (schedule_with order script (Some (helm_setup_of old)) lock.base) after.seen
    race_cut {result = result} old from to whole most all first after race under same more went stopped few =
        helm_cut old from to whole most lines first after under on.later (λ n. (rest n)) (λ n other. front n other) (ends script.lines from to more)
        (all_part (λ line. nat_lt line.client (length script.names)) script.lines from (to - from) (lines_clients (length script.names) 0 script.stop script.lines valid)) (subst (IsStopped lock.base (helm_setup_of old) whole most) on.later.1 stopped) few (λ left is. race_moment order race left)
      where
        lines : List Entry
        lines = take (to - from) (drop from script.lines)

        on : GoesOn (IsPlayedBeside old.number lines result) first after
        on = subst (λ all. GoesOn (IsPlayedBeside old.number (take (to - from) (drop from all)) result) first after) same went

        begins : (n : ℕ) → n ≢ helm_number script → Begins (entries_of n lines) (entries_of n on.later.0)
        begins n other = (grown (IsPlayedBeside old.number lines result) first after under.whole on n (λ e. other (e ∙ under.steered.0))).front

        rest_by : (n : ℕ) → Dec (n ≡ helm_number script) → List Entry
        rest_by n (yes is) = []
        rest_by n (no other) = (begins n other).0

        rest : ℕ → List Entry
        rest n = rest_by n (ℕ_discrete n (helm_number script))

        front : (n : ℕ) → n ≢ helm_number script → entries_of n lines ≡ entries_of n on.later.0 ++ rest n
        front n other = by (ℕ_discrete n (helm_number script))
          where
            by : (d : Dec (n ≡ helm_number script)) → entries_of n lines ≡ entries_of n on.later.0 ++ rest_by n d
            by (yes is) = absurd (other is)
            by (no other) = (begins n other).1

        race_moment : (order : Order) → order ≡ Race → (left : List Entry) → KeepsMoment script.lines (length script.names) script.stop old.period (answerers (Some (helm_setup_of old))) (length lock.base) (mailed_in lock.base) order under.played.so_far.rest on.later.0 (left_by (length script.names) rest (drop to script.lines) (λ n. left))
        race_moment Stamp is left = absurd cc
        race_moment Race is left = tt

-- the lines from a place to the last
to_end : (lines : List Entry) (from to : ℕ) → to ≡ length lines → take (to - from) (drop from lines) ≡ drop from lines
to_end lines from to all = ap (λ to. take (to - from) (drop from lines)) all ∙ take_rest lines from

-- all of a race, with the last place and the helm under other names
pub race_over : (order : Order) (script : Script) (lock : CommunityLock) (valid : are_lines (length script.names) 0 script.stop script.lines ≡ true) (helm_client : Option HelmClient) (old new : HelmClient) (from to : ℕ) (result : Result (Unit {0}) AllocError) (first after : SeatState) → order ≡ Race → to ≡ length script.lines
    → helm_client ≡ Some old → IsUnderWay order script lock helm_client from first → IsGathered lock after → GoesOn (IsPlayedBeside old.number (take (to - from) (drop from script.lines)) result) first after → result ≡ Ok tt → helm_setup_of new ≡ helm_setup_of old → Steers lock.base new after.seen
    → new.ticks ≤ ticks_to script.stop (helm_setup_of new) → IsUnderWay order script lock (Some new) to after
race_over order script lock valid helm_client old new from to result first after race all is under gathered on ok steering steers few =
    subst (λ to. IsUnderWay order script lock (Some new) to after) (sym all)
    (race_next order script lock valid old new from result first after race (subst (λ s. IsUnderWay order script lock s from first) is under) gathered
    (subst (λ lines. GoesOn (IsPlayedBeside old.number lines result) first after) (to_end script.lines from to all) on) ok steering steers few)
