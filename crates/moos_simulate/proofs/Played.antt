-- A round of a play beside a simulated vehicle: what the play says of it is what the vehicle's clients need before they answer.
use Rattle.std.proofs.Common.{◌≡◌, ◌≢◌, ℕ, suc, ◌+◌, ◌-◌, ◌*◌, ◌/◌, ◌<◌, ◌≤◌, ◌==◌, ◌⊎◌, inl, inr, Bool, true, false, cond, List, [], ◌∷◌, ◌++◌, length, length-append, nat_le, nat_lt, Option, None, Some, refl, sym, ap, subst, ◌∙◌, arith, append-nil}
use Rattle.std.specs.Prelude.{IfSome, option_map, slice_get}
use Rattle.std.specs.List.{list_all}
use Rattle.std.proofs.lemmas.Bool.{and_from, and_parts}
use Rattle.std.proofs.lemmas.Bool.Decides.{nat_tests}
use Rattle.helm_core.specs.declared.iteration.Iteration.{Iteration}
use Rattle.helm_core.specs.Ticks.{Tick}
use Rattle.moos_lawful.proofs.Going.{lawful_then}
use Rattle.moos_lawful.proofs.Parts.{either}
use Rattle.moos_lawful.proofs.Playable.{is_playable}
use Rattle.moos_lawful.specs.Answering.{Answerer, turns_from}
use Rattle.moos_lawful.specs.Schedules.{clients_below, IsLawfulSoFar, Schedule}
use Rattle.moos_play.proofs.Hearing.{iterations_many}
use Rattle.moos_play.specs.declared.round_made.Round.{Round}
use Rattle.moos_play.specs.Lawful.{heard_of, known_clients, KeepsStamp, mailed_in, HelmSetup, ticks_to}
use Rattle.moos_play.specs.Plays.{AddsAt, clients_in, earliest, GoesOnWith, HasNoTick, HasTick, HasTurn, helm_in, history_in, IsBetween, IsLeft, IsPlayedOut, IsRound, IsRunFor, IsTurn, iterations_by, iterations_made, KeepsLeft, known_clients_in, left_in, next_stamp, order_played, Playing, schedule_in, script_played, stamp_next, StaysSeated, tick_at, ticks_behind}
use Rattle.moos_play.specs.Schedules.{answering, schedule_with}
use Rattle.moos_post.specs.declared.entry.Entry.{Entry}
use Rattle.moos_post.specs.History.{History}
use Rattle.moos_simulate.proofs.Adding.{round_known, round_stamped, turn_beside}
use Rattle.moos_simulate.proofs.Answering.{numbered}
use Rattle.moos_simulate.proofs.Beside.{left_same, wider}
use Rattle.moos_simulate.proofs.Counting.{nothing_more}
use Rattle.moos_simulate.proofs.Going.{beside_on, known_beside, lawful_on, room_beside}
use Rattle.moos_simulate.proofs.Rounding.{known_alone, part, with_tick, without_tick}
use Rattle.moos_simulate.specs.declared.vehicle.Vehicle.{Vehicle}
use Rattle.moos_simulate.specs.Sailing.{HasMadeTurns, hears, IsBeside, IsSailedOut, IsSailing, IsSimulating, IsUnderSail, KeepMails, pid_number}
use Rattle.moos_simulate.specs.Simulated.{IsSimulated, IsSimulatedSoFar, schedule_simulated, vehicle_clients}
use Rattle.moos_simulate.specs.Turns.{IsAnswering, IsAwaited}
use Rattle.script_reader.specs.declared.script.Order.TheVariants.{Stamp}
use Rattle.script_reader.specs.declared.script.Script.{Script}

-- ---- the next stamp

earlier_is_low : (k : ℕ) (line : ℕ) → (b : Bool) → nat_lt k line ≡ b → cond b k line ≤ k
earlier_is_low k line true e = omega arith
earlier_is_low k line false e = grind (arith, nat_tests, e)

earliest_low : (stop k : ℕ) (line : Option ℕ) (b : Bool) → b ≡ true → earliest stop (cond b (Some k) None) line ≤ k
earliest_low stop k line false is = absurd cc
earliest_low stop k None true is = omega arith
earliest_low stop k (Some line) true is = earlier_is_low k line (nat_lt k line) refl

-- the next stamp isn't behind the next tick, where one is left
next_low : (stop ticks : ℕ) (helm : HelmSetup) (line : Option ℕ) → ticks < ticks_to stop helm → earliest stop (tick_at stop (Some helm) ticks) line ≤ ticks * helm.period
next_low stop ticks helm line more = earliest_low stop (ticks * helm.period) line (nat_le ticks (stop / helm.period)) (grind (arith, nat_tests, more))

-- ---- lists

later_than : (s next : ℕ) (left : List Entry) → s < next → list_all (λ entry. nat_le next entry.stamp) left ≡ true → list_all (λ entry. nat_le (suc s) entry.stamp) left ≡ true
later_than s next [] less late = refl
later_than s next (x ∷ left) less late =
    let tests = and_parts (nat_le next x.stamp) (list_all (λ entry. nat_le next entry.stamp) left) late in
    let test = tests.0 in
    and_from (nat_le (suc s) x.stamp) (list_all (λ entry. nat_le (suc s) entry.stamp) left) (grind (arith, nat_tests, test, less)) (later_than s next left less tests.1)

module _ (vehicle : Vehicle) (helm : HelmSetup) (old new : Playing) (sailing : IsSailing vehicle helm old) (on : GoesOnWith old new)
  where
    beside : IsBeside vehicle helm old
    beside = sailing.beside

    abbrev pub script : Script
    script = script_played old

    abbrev pub names : List (List ℕ)
    names = clients_in old

    abbrev pub count : ℕ
    count = length (iterations_made old)

    abbrev pub next : ℕ
    next = next_stamp old

    abbrev pub history : History
    history = history_in old

    room : length script.names + suc (length (vehicle_clients vehicle.gear helm.period)) ≤ length names
    room = let many = room_beside vehicle helm old beside in omega (arith, many)

    some : 1 ≤ helm.period
    some = beside.some

    helm_same : helm_in new ≡ Some helm
    helm_same = on.helm ∙ beside.steered

    -- the schedule that the play itself knows
    abbrev alone : Schedule Tick
    alone = known_alone helm script names

    schedule_old : schedule_in old ≡ alone
    schedule_old = λ i. schedule_with (beside.order i) script (beside.steered i) names

    schedule_same : schedule_in new ≡ alone
    schedule_same = λ i. schedule_with ((on.order ∙ beside.order) i) (on.script i) (helm_same i) (on.names i)

    -- how many clients it knows
    known_old : known_clients_in old ≡ length script.names + 1
    known_old = known_beside vehicle helm old beside

    known_same : known_clients_in new ≡ length script.names + 1
    known_same = (λ i. known_clients (on.script i) (on.helm i)) ∙ known_old

    -- how many ticks the helm has made
    made_old : count ≡ old.ticks
    made_old = (λ i. length (iterations_by names history (beside.steered i) old.ticks)) ∙ iterations_many helm.plan (heard_of names helm.client history) old.ticks

    next_due : count < ticks_to script.stop helm → next ≤ count * helm.period
    next_due more =
        let low = next_low script.stop old.ticks helm (option_map (λ (line : Entry). line.stamp) (slice_get script.lines old.played)) (subst (λ n. n < ticks_to script.stop helm) made_old more) in
        subst (λ n. n ≤ count * helm.period) (sym next_is) (subst (λ n. earliest script.stop (tick_at script.stop (Some helm) old.ticks) (option_map (λ (line : Entry). line.stamp) (slice_get script.lines old.played)) ≤ n * helm.period) (sym made_old) low)
      where
        next_is : next ≡ earliest script.stop (tick_at script.stop (Some helm) old.ticks) (option_map (λ (line : Entry). line.stamp) (slice_get script.lines old.played))
        next_is = λ i. stamp_next (beside.order i) script.stop (tick_at script.stop (beside.steered i) old.ticks) (option_map (λ line. line.stamp) (slice_get script.lines old.played))

    -- what the play says of its history, as the vehicle's clients know it
    alone_now : (later : History) → history_in new ≡ history ++ later → IsLawfulSoFar (schedule_in new) (history_in new) → IsLawfulSoFar alone (history ++ later)
    alone_now later is now = subst (IsLawfulSoFar alone) is (subst (λ schedule. IsLawfulSoFar schedule (history_in new)) schedule_same now)

    -- ---- where no memory was left

    module _ (so : IsLawfulSoFar (schedule_in old) history) (left : (so : IsLawfulSoFar (schedule_in old) history) (n : ℕ) → n < known_clients_in old → IsLeft old (so.left n))
      where
        -- nothing is left for the clients that the play knows
        none_left : left_in old ≡ 0 → (so : IsLawfulSoFar alone history) (n : ℕ) → n < length script.names + 1 → so.left n ≡ []
        none_left none =
            subst (λ schedule. (so : IsLawfulSoFar schedule history) (n : ℕ) → n < length script.names + 1 → so.left n ≡ []) schedule_old (λ so n below. (left so n (omega (arith, below, known_old))).none none)

        stopped_part : AddsAt (order_played old) next (known_clients_in old) history (history_in new) → IsLawfulSoFar (schedule_in new) (history_in new) → ((left_in old == 0) ≡ true) ⊎ ((left_in old == 0) ≡ false) → IsSimulatedSoFar script (Some helm) vehicle.gear names (history_in new)
        stopped_part adds now (inl e) =
            let none : left_in old ≡ 0 = grind (arith, nat_tests, e) in
            let so_alone = subst (λ schedule. IsLawfulSoFar schedule history) schedule_old so in
            let still = nothing_more script.lines (length script.names) script.stop helm.period (answering helm ∷ []) (length names) (mailed_in names) history adds.later.0 so_alone (alone_now adds.later.0 adds.later.1 now) (none_left none so_alone)
            (subst (λ n. clients_below n adds.later.0 ≡ true) known_old adds.known) in
            subst (IsSimulatedSoFar script (Some helm) vehicle.gear names) (sym (adds.later.1 ∙ ap (λ later. history ++ later) still ∙ append-nil history)) sailing.sail.so_far
        stopped_part adds now (inr e) =
            let more : left_in old ≢ 0 = λ none. absurd (grind (arith, nat_tests, e, none)) in
            subst (IsSimulatedSoFar script (Some helm) vehicle.gear names) (sym adds.later.1)
            (part vehicle helm script names room some count (left_in old) next history adds.later.0 sailing.sail (alone_now adds.later.0 adds.later.1 now) more
            (subst (λ n. clients_below n adds.later.0 ≡ true) known_old adds.known) (subst (λ order. KeepsStamp order next adds.later.0) beside.order adds.stamped) next_due)

        -- THE ROUND THAT FOUND NO MEMORY
        pub cut_off : AddsAt (order_played old) next (known_clients_in old) history (history_in new) → IsLawfulSoFar (schedule_in new) (history_in new)
            → IsSimulatedSoFar (script_played new) (helm_in new) vehicle.gear (clients_in new) (history_in new)
        cut_off adds now = lawful_on vehicle.gear helm old new beside.steered on (stopped_part adds now (either (left_in old == 0)))

    -- ---- a round that was played

    module _ (round : Round) (between : IsBetween new) (stays : StaysSeated old new) (is_round : IsRound old new round) (has_turn : HasTurn (order_played old) old new round) (fewer : left_in new < left_in old)
        (now : IsLawfulSoFar (schedule_in new) (history_in new)) (left : (so : IsLawfulSoFar (schedule_in new) (history_in new)) (n : ℕ) → n < known_clients_in new → IsLeft new (so.left n))
        (run : IfSome (helm_in new) (IsRunFor (script_played new) (length (iterations_made new))))
      where
        abbrev pub later : History
        later = stays.later.0

        is : history_in new ≡ history ++ later
        is = stays.later.1

        turn : IsTurn old new round
        turn = turn_beside vehicle helm old new round beside has_turn

        more : left_in old ≢ 0
        more none = absurd (omega (arith, none, fewer))

        -- none of its entries is a further client's, and all have its stamp
        below : clients_below (length script.names + 1) later ≡ true
        below = subst (λ n. clients_below n later ≡ true) known_old (round_known vehicle helm old new beside on round stays is_round)

        one : list_all (λ entry. entry.stamp == next) later ≡ true
        one = round_stamped vehicle helm old new beside on round stays is_round

        now_alone : IsLawfulSoFar alone (history ++ later)
        now_alone = alone_now later is now

        over : (left_in new ≡ 0) ⊎ (next < next_stamp new)
        over = subst (λ stamp. (left_in new ≡ 0) ⊎ (stamp < next_stamp new)) is_round.stamp turn.later

        ticked : HasNoTick helm script.stop count round ⊎ HasTick helm count round
        ticked = subst (λ helm. IfSome helm (λ helm. HasNoTick helm script.stop count round ⊎ HasTick helm count round)) beside.steered turn.ticked

        made : length (iterations_made new) ≡ count + length round.iterations
        made = ap (λ (made : List Iteration). length made) is_round.iterations ∙ length-append (iterations_made old) round.iterations

        beside_now : IsBeside vehicle helm new
        beside_now = beside_on vehicle vehicle helm old new beside between on (record { gear = refl; pid = refl; sim = refl; mgr = refl; period = refl })

        -- the play's values at the names of those before
        moved : (P : Script → List (List ℕ) → History → Type 0) → P script names (history ++ later) → P (script_played new) (clients_in new) (history_in new)
        moved P so = subst (λ history. P (script_played new) (clients_in new) history) (sym is) (subst (λ names. P (script_played new) names (history ++ later)) (sym on.names) (subst (λ script. P script names (history ++ later)) (sym on.script) so))

        -- WITHOUT A TICK
        pub sailing_on : length round.iterations ≡ 0 → IsSimulating vehicle new
        sailing_on none = (
          helm,
          record {
            beside = beside_now;
            sail = moved (λ script names history. IsUnderSail vehicle helm script names (length (iterations_made new)) (left_in new) (next_stamp new) history)
                (subst (λ count. IsUnderSail vehicle helm script names count (left_in new) (next_stamp new) (history ++ later)) same
                (without_tick vehicle helm script names room some count (left_in old) next history later sailing.sail now_alone more below one next_due (left_in new) (next_stamp new) over));
          },
        )
          where
            same : count ≡ length (iterations_made new)
            same = omega (arith, made, none)

        -- WITH ONE
        has_tick : length round.iterations ≢ 0 → HasTick helm count round
        has_tick some = by ticked
          where
            by : HasNoTick helm script.stop count round ⊎ HasTick helm count round → HasTick helm count round
            by (inl none) = absurd (some (ap length none.none))
            by (inr tick) = tick

        run_same : IsRunFor (script_played new) (length (iterations_made new)) helm
        run_same = subst (λ helm. IfSome helm (IsRunFor (script_played new) (length (iterations_made new)))) helm_same run

        left_late : (so : IsLawfulSoFar alone (history ++ later)) (n : ℕ) → n < length script.names + 1 → list_all (λ entry. nat_le (suc next) entry.stamp) (so.left n) ≡ true
        left_late =
            subst (λ history. (so : IsLawfulSoFar alone history) (n : ℕ) → n < length script.names + 1 → list_all (λ entry. nat_le (suc next) entry.stamp) (so.left n) ≡ true) is
            (subst (λ schedule. (so : IsLawfulSoFar schedule (history_in new)) (n : ℕ) → n < length script.names + 1 → list_all (λ entry. nat_le (suc next) entry.stamp) (so.left n) ≡ true) schedule_same
            (λ so n under. by over (so.left n) (left so n (omega (arith, under, known_same)))))
          where
            by : (left_in new ≡ 0) ⊎ (next < next_stamp new) → (left : List Entry) → IsLeft new left → list_all (λ entry. nat_le (suc next) entry.stamp) left ≡ true
            by (inl none) left so = ap (list_all (λ (entry : Entry). nat_le (suc next) entry.stamp)) (so.none none)
            by (inr less) left so = later_than next (next_stamp new) left less (subst (λ order. KeepsLeft order (next_stamp new) left) (on.order ∙ beside.order) so.late)

        -- that such a tick is awaited, with what the clients keep
        abbrev Ticks : Script → List (List ℕ) → ℕ → History → Type 0
        Ticks script names stamp history =
            (awaited : IsAwaited vehicle.gear helm script names count (left_in new) (next_stamp new) stamp (pid_number script) history) × KeepMails vehicle helm script names history awaited.so_far

        pub answering_now : length round.iterations ≢ 0 → IsAnswering vehicle new round.stamp (pid_number (script_played new))
        answering_now some_made = record {
          helm = helm;
          beside = beside_now;
          count = count;
          ticks = many;
          awaited = now_awaited.0;
          kept = now_awaited.1;
        }
          where
            tick : HasTick helm count round
            tick = has_tick some_made

            at : next ≡ count * helm.period
            at = sym is_round.stamp ∙ tick.at

            many : length (iterations_made new) ≡ suc count
            many = omega (arith, made, tick.one)

            few : count < ticks_to script.stop helm
            few = subst (λ (script : Script). count < ticks_to script.stop helm) on.script (omega (arith, many, run_same.few))

            now_awaited : Ticks (script_played new) (clients_in new) round.stamp (history_in new)
            now_awaited =
                moved (λ script names history. Ticks script names round.stamp history)
                (subst (λ stamp. Ticks script names stamp (history ++ later)) (sym is_round.stamp)
                (with_tick vehicle helm script names room some count (left_in old) next history later sailing.sail now_alone more below one next_due (left_in new) (next_stamp new) over few at
                (λ n under. subst (λ stamp. list_all (λ entry. nat_le (suc stamp) entry.stamp) (now_alone.left n) ≡ true) at (left_late now_alone n under))))

-- ---- nothing is left

module _ (vehicle : Vehicle) (helm : HelmSetup) (play : Playing) (sailing : IsSailing vehicle helm play) (none : left_in play ≡ 0) (out : IsPlayedOut play)
    (left : (so : IsLawfulSoFar (schedule_in play) (history_in play)) (n : ℕ) → n < known_clients_in play → IsLeft play (so.left n)) (now : IsLawfulSoFar (schedule_in play) (history_in play))
  where
    beside_out : IsBeside vehicle helm play
    beside_out = sailing.beside

    abbrev pub script_out : Script
    script_out = script_played play

    abbrev pub names_out : List (List ℕ)
    names_out = clients_in play

    room_out : length script_out.names + suc (length (vehicle_clients vehicle.gear helm.period)) ≤ length names_out
    room_out = let many = room_beside vehicle helm play beside_out in omega (arith, many)

    abbrev whole_out : Schedule Tick
    whole_out = schedule_simulated script_out (Some helm) vehicle.gear names_out

    abbrev alone_out : Schedule Tick
    alone_out = known_alone helm script_out names_out

    schedule_out : schedule_in play ≡ alone_out
    schedule_out = λ i. schedule_with (beside_out.order i) script_out (beside_out.steered i) names_out

    all_made : ticks_to script_out.stop helm - length (iterations_made play) ≡ 0
    all_made = ap (λ n. ticks_to script_out.stop helm - n) made ∙ over
      where
        made : length (iterations_made play) ≡ play.ticks
        made = (λ i. length (iterations_by names_out (history_in play) (beside_out.steered i) play.ticks)) ∙ iterations_many helm.plan (heard_of names_out helm.client (history_in play)) play.ticks

        behind : ticks_behind script_out.stop (helm_in play) play.ticks ≡ ticks_to script_out.stop helm - play.ticks
        behind = λ i. ticks_behind script_out.stop (beside_out.steered i) play.ticks

        over : ticks_to script_out.stop helm - play.ticks ≡ 0
        over = let sum : length script_out.lines - play.played + ticks_behind script_out.stop (helm_in play) play.ticks ≡ 0 = none in omega (arith, sum, behind)

    none_own : (so : IsLawfulSoFar alone_out (history_in play)) (n : ℕ) → n < length script_out.names + 1 → so.left n ≡ []
    none_own = subst (λ schedule. (so : IsLawfulSoFar schedule (history_in play)) (n : ℕ) → n < length script_out.names + 1 → so.left n ≡ []) schedule_out (λ so n below. (left so n (omega (arith, below, known))).none none)
      where
        known : known_clients_in play ≡ length script_out.names + 1
        known = known_beside vehicle helm play beside_out

    none_turned : (answerer : Answerer Tick) (n : ℕ) → HasMadeTurns whole_out answerer n helm.period (ticks_to script_out.stop helm) (length (iterations_made play)) (history_in play) sailing.sail.so_far → sailing.sail.so_far.left n ≡ []
    none_turned answerer n has = has.left ∙ ap (turns_from answerer n helm.period (hears whole_out n sailing.sail.so_far.rest) (length (iterations_made play))) all_made

    none_whole : (n : ℕ) → n < whole_out.known → sailing.sail.so_far.left n ≡ []
    none_whole n below = by (either (nat_lt n (length script_out.names + 1)))
      where
        so_alone : IsLawfulSoFar alone_out (history_in play)
        so_alone = subst (λ schedule. IsLawfulSoFar schedule (history_in play)) schedule_out now

        by : (nat_lt n (length script_out.names + 1) ≡ true) ⊎ (nat_lt n (length script_out.names + 1) ≡ false) → sailing.sail.so_far.left n ≡ []
        by (inl e) =
            let under : n < length script_out.names + 1 = grind (arith, nat_tests, e) in
            left_same alone_out whole_out (wider script_out.lines (length script_out.names) script_out.stop helm.period (answering helm) (vehicle_clients vehicle.gear helm.period) (length names_out) (mailed_in names_out) room_out) (history_in play) so_alone sailing.sail.so_far n under
            ∙ none_own so_alone n under
        by (inr e) =
            let past : length script_out.names + 1 ≤ n = grind (arith, nat_tests, e) in
            let found = numbered (pid_number script_out) (vehicle_clients vehicle.gear helm.period) n (omega (arith, past)) (omega (arith, below)) in
            none_turned found.0 n (sailing.sail.turned n found.0 found.1)

    -- THE END: its history is that of a simulated vehicle
    pub sailed_out : IsSailedOut vehicle.gear play
    sailed_out = record {
      simulated = subst (λ helm. IsSimulated script_out helm vehicle.gear names_out (history_in play)) (sym beside_out.steered)
          (lawful_then whole_out (is_playable Stamp script_out.lines (length script_out.names) script_out.stop helm.period (answering helm ∷ vehicle_clients vehicle.gear helm.period) (length names_out) (mailed_in names_out) room_out)
          (history_in play) sailing.sail.so_far none_whole);
      iterations = out.iterations;
    }
