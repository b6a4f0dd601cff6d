-- What each part of a round adds to the history has the stamp of the round.
use Rattle.std.proofs.Common.{◌≡◌, ◌≢◌, ℕ, suc, ◌-◌, ◌+◌, ◌*◌, ◌<◌, ◌==◌, ◌&&◌, true, false, cond, List, [], ◌∷◌, ◌++◌, drop, get_or, length, nat_lt, take, Option, None, Some, Ok, Err, OnOk, Result, sym, ap, ◌∙◌, refl, subst, arith, append-nil, append_assoc, eq-eqb}
use Rattle.std.specs.Prelude.{OnErr, option_map, slice_get}
use Rattle.std.specs.List.{list_all}
use Rattle.std.specs.declared.alloc.AllocError.{AllocError}
use Rattle.std.proofs.lemmas.Bool.{and_from, and_parts}
use Rattle.std.proofs.lemmas.Bool.Decides.{nat_tests}
use Rattle.std.proofs.Math.Seq.{drop-append_seam}
use Rattle.std.proofs.lemmas.List.{get_or-drop, length-drop}
use Rattle.std.proofs.lemmas.List.Folds.{list_all-append}
use Rattle.std.proofs.lemmas.Option.{slice_get-get_or, slice_get_past}
use Rattle.helm_core.specs.Ticks.{Tick}
use Rattle.moos_client.specs.Calls.{entries_of, SeatState}
use Rattle.moos_post.specs.declared.entry.Entry.{Entry}
use Rattle.moos_post.specs.History.{History}
use Rattle.moos_play.specs.declared.stage.Stage.{Stage}
use Rattle.moos_play.specs.declared.helm_client.HelmClient.{HelmClient}
use Rattle.moos_lawful.specs.Schedules.{clients_below, entries_from}
use Rattle.moos_play.specs.Lawful.{heard_of, helm_number, KeepsStamp, known_clients, HelmSetup, tick_entries}
use Rattle.moos_play.specs.Plays.{AddsAt, earliest, GoesOnWith, history_in, known_clients_in, next_stamp, order_played, Playing, stamp_next}
use Rattle.moos_play.specs.Runs.{MayPlay, shown_by}
use Rattle.moos_play.specs.Steered.{comes_before, HasLed, helm_of, IsBehind, IsDue, IsStopped, IsUnderWay, helm_setup_of, Steers, tick_due}
use Rattle.moos_step.specs.Steps.{GoesOn, IsAlone, IsPlayed, IsPlayedBeside, IsWhole}
use Rattle.moos_lawful.proofs.Parts.{all_raised}
use Rattle.moos_play.proofs.Below.{both_below, from_more, known_helm, known_more, tick_below, beside_pass}
use Rattle.moos_play.proofs.Stepping.{all_part, lines_clients}
use Rattle.moos_play.proofs.Coming.{tick_alone}
use Rattle.moos_step.proofs.Growing.{grown}
use Rattle.moos_client.proofs.Histories.{only_own, front_pass, fronts_pass}
use Rattle.moos_play.proofs.Rounding.{due_is}
use Rattle.moos_play.proofs.Turns.{begun_front, has_begun}
use Rattle.script_reader.specs.declared.script.Order.{Order}
use Rattle.script_reader.specs.declared.script.Order.TheVariants.{Stamp, Race}
use Rattle.script_reader.specs.declared.script.Script.{Script}
use Rattle.script_reader.specs.Validity.{are_lines}
use Rattle.turn_lock.specs.Passes.{Begins}

-- nothing is added
pub adds_none : (order : Order) (stamp number : ℕ) (history : History) → AddsAt order stamp number history history
adds_none order stamp number history = record { later = ([], sym (append-nil history)); stamped = by order; known = refl }
  where
    by : (order : Order) → KeepsStamp order stamp []
    by Stamp = refl
    by Race = tt

-- two parts of a round
pub adds_twice : (order : Order) (stamp number : ℕ) (before middle after : History) → AddsAt order stamp number before middle → AddsAt order stamp number middle after → AddsAt order stamp number before after
adds_twice order stamp number before middle after one other = record {
  later = (one.later.0 ++ other.later.0, other.later.1 ∙ ap (λ front. front ++ other.later.0) one.later.1 ∙ append_assoc before one.later.0 other.later.0);
  stamped = both order one.stamped other.stamped;
  known = both_below number one.later.0 other.later.0 one.known other.known;
}
  where
    both : (order : Order) → KeepsStamp order stamp one.later.0 → KeepsStamp order stamp other.later.0 → KeepsStamp order stamp (one.later.0 ++ other.later.0)
    both Stamp a b = list_all-append (λ entry. entry.stamp == stamp) one.later.0 other.later.0 ∙ and_from (list_all (λ entry. entry.stamp == stamp) one.later.0) (list_all (λ entry. entry.stamp == stamp) other.later.0) a b
    both Race a b = tt

-- what stands behind the entries that were there before
pub all_stamped : (order : Order) (stamp number from : ℕ) (before after : History) → from ≡ length before → AddsAt order stamp number before after → KeepsStamp order stamp (drop from after)
all_stamped order stamp number from before after all adds =
    subst (KeepsStamp order stamp) (sym (ap (λ n. drop n after) all ∙ ap (drop (length before)) adds.later.1 ∙ drop-append_seam before adds.later.0)) adds.stamped

-- no further client's entry is among it
pub none_further : (before after : Playing) (stamp : ℕ) → GoesOnWith before after → AddsAt (order_played before) stamp (known_clients_in before) (history_in before) (history_in after) → entries_from (known_clients_in after) (history_in after) ≡ entries_from (known_clients_in before) (history_in before)
none_further before after stamp on adds =
    (λ i. entries_from (known_clients (on.script i) (on.helm i)) (history_in after)) ∙ ap (entries_from (known_clients_in before)) adds.later.1 ∙ from_more (known_clients_in before) (history_in before) adds.later.0 adds.known

-- lines are entries of the script's clients
lines_known : {E : Type 0} (script : Script) (helm : Option HelmSetup) (from n : ℕ) (result : Result (Unit {0}) E) (first after : SeatState) → are_lines (length script.names) 0 script.stop script.lines ≡ true → IsWhole first
    → (on : GoesOn (IsPlayed (take n (drop from script.lines)) result) first after) → clients_below (known_clients script helm) on.later.0 ≡ true
lines_known script helm from n result first after valid whole on =
    fronts_pass (λ entry. nat_lt entry.client (known_clients script helm)) (take n (drop from script.lines)) on.later.0 (λ m. (grown (IsPlayed (take n (drop from script.lines)) result) first after whole on m).front)
    (all_raised (helm_number script) (known_clients script helm) (take n (drop from script.lines)) (known_more script helm)
    (all_part (λ line. nat_lt line.client (helm_number script)) script.lines from n (lines_clients (length script.names) 0 script.stop script.lines valid)))

-- the first of the lines that are left is the next one
pub next_line : (lines : List Entry) (from : ℕ) (line : Entry) (left : List Entry) → drop from lines ≡ line ∷ left → slice_get lines from ≡ Some line
next_line lines from line left is =
    slice_get-get_or lines from line (omega (arith, ap length is, length-drop from lines))
    ∙ ap Some (ap (λ n. get_or lines n line) (omega arith) ∙ sym (get_or-drop from lines 0 line) ∙ ap (λ left. get_or left 0 line) is)

pub no_line : (lines : List Entry) (from : ℕ) → drop from lines ≡ [] → slice_get lines from ≡ None
no_line lines from is = slice_get_past lines from (omega (arith, ap length is, length-drop from lines))

-- lines that are due have the stamp of the next round
due_stamp : (lines : List Entry) (tick : Option ℕ) (stop from to : ℕ) → (due : IsDue lines tick from to) → from < to → earliest stop tick (option_map (λ line. line.stamp) (slice_get lines from)) ≡ due.stamp
due_stamp lines tick stop from to due some = by (drop from lines) refl
  where
    line_next : (tick : Option ℕ) (stamp : ℕ) → comes_before tick stamp ≡ false → earliest stop tick (Some stamp) ≡ stamp
    line_next None stamp late = refl
    line_next (Some t) stamp late = ap (λ b. cond b t stamp) late

    by : (left : List Entry) → drop from lines ≡ left → earliest stop tick (option_map (λ line. line.stamp) (slice_get lines from)) ≡ due.stamp
    by [] is = absurd (omega (arith, ap length is, length-drop from lines, due.within, some))
    by (line ∷ left) is =
        let count : to - from ≡ suc (to - suc from) = omega (arith, some) in
        let one : list_all (λ line. line.stamp == due.stamp) (take (suc (to - suc from)) (line ∷ left)) ≡ true =
        subst (λ n. list_all (λ line. line.stamp == due.stamp) (take n (line ∷ left)) ≡ true) count (subst (λ left. list_all (λ line. line.stamp == due.stamp) (take (to - from) left) ≡ true) is due.one) in
        let here = (and_parts (line.stamp == due.stamp) (list_all (λ line. line.stamp == due.stamp) (take (to - suc from) left)) one).0 in
        let same : line.stamp ≡ due.stamp = grind (arith, nat_tests, here) in
        ap (λ next. earliest stop tick (option_map (λ (line : Entry). line.stamp) next)) (next_line lines from line left is)
        ∙ ap (λ stamp. earliest stop tick (Some stamp)) same ∙ line_next tick due.stamp (due.early some)

-- so has a tick that is
pub tick_stamp : (lines : List Entry) (tick stop from : ℕ) → IsBehind (Some tick) (drop from lines) → earliest stop (Some tick) (option_map (λ line. line.stamp) (slice_get lines from)) ≡ tick
tick_stamp lines tick stop from behind = by (drop from lines) refl behind
  where
    by : (left : List Entry) → drop from lines ≡ left → IsBehind (Some tick) left → earliest stop (Some tick) (option_map (λ line. line.stamp) (slice_get lines from)) ≡ tick
    by [] is behind = ap (λ next. earliest stop (Some tick) (option_map (λ (line : Entry). line.stamp) next)) (no_line lines from is)
    by (line ∷ left) is behind = ap (λ next. earliest stop (Some tick) (option_map (λ (line : Entry). line.stamp) next)) (next_line lines from line left is) ∙ ap (λ b. cond b tick line.stamp) behind

-- lines that may be played are played
pub lines_add : {E : Type 0} {result : Result (Unit {0}) E} (play : Stage) (to : ℕ) (all : List Entry) (after : SeatState) → are_lines (length play.script.now.names) 0 play.script.now.stop play.script.now.lines ≡ true → IsWhole play.first.seat → all ≡ play.script.now.lines
    → GoesOn (IsPlayed (take (to - play.from) (drop play.from all)) result) play.first.seat after → MayPlay play.order play to → play.from < to → AddsAt play.order (next_stamp (shown_by play)) (known_clients_in (shown_by play)) play.first.seat.seen after.seen
lines_add {result = result} play to all after valid whole same went may some =
    record { later = on.later; stamped = stamped play.order may; known = lines_known script (helm_of play.helm_client) play.from (to - play.from) result play.first.seat after valid whole on }
  where
    script : Script
    script = play.script.now

    lines : List Entry
    lines = take (to - play.from) (drop play.from script.lines)

    on : GoesOn (IsPlayed lines result) play.first.seat after
    on = subst (λ all. GoesOn (IsPlayed (take (to - play.from) (drop play.from all)) result) play.first.seat after) same went

    stamped : (order : Order) → MayPlay order play to → KeepsStamp order (stamp_next order script.stop (tick_due play.script.now.stop play.helm_client) (option_map (λ line. line.stamp) (slice_get script.lines play.from))) on.later.0
    stamped Race may = tt
    stamped Stamp due =
        subst (λ stamp. list_all (λ (entry : Entry). entry.stamp == stamp) on.later.0 ≡ true) (sym (due_stamp script.lines (tick_due play.script.now.stop play.helm_client) script.stop play.from to due some))
        (fronts_pass (λ entry. entry.stamp == due.stamp) lines on.later.0 (λ n. (grown (IsPlayed lines result) play.first.seat after whole on n).front) due.one)

-- in a race the entries may have any stamp
any_stamp : (order : Order) (stamp : ℕ) (entries : History) → order ≡ Race → KeepsStamp order stamp entries
any_stamp order stamp entries race = subst (λ order. KeepsStamp order stamp entries) (sym race) tt

-- in a race the lines that are left are played, and the helm may make ticks beside them
pub race_add : {E : Type 0} {result : Result (Unit {0}) E} (order : Order) (script : Script) (s : HelmClient) (stamp from to : ℕ) (all : List Entry) (first after : SeatState) → order ≡ Race → are_lines (length script.names) 0 script.stop script.lines ≡ true → IsWhole first
    → s.number ≡ helm_number script → all ≡ script.lines → GoesOn (IsPlayedBeside s.number (take (to - from) (drop from all)) result) first after → AddsAt order stamp (known_clients script (Some s)) first.seen after.seen
race_add {result = result} order script s stamp from to all first after race valid whole number same went =
    let lines : List Entry = take (to - from) (drop from script.lines) in
    let on = subst (λ all. GoesOn (IsPlayedBeside s.number (take (to - from) (drop from all)) result) first after) same went in
    record {
      later = on.later;
      stamped = any_stamp order stamp on.later.0 race;
      known =
          beside_pass (known_clients script (Some s)) s.number lines on.later.0 (omega (arith, number, known_helm script s))
          (all_raised (helm_number script) (known_clients script (Some s)) lines (known_more script (Some s))
          (all_part (λ line. nat_lt line.client (helm_number script)) script.lines from (to - from) (lines_clients (length script.names) 0 script.stop script.lines valid)))
          (λ n other. (grown (IsPlayedBeside s.number lines result) first after whole on n other).front);
    }

-- a front of the tick that is due
tick_begins : (play : Stage) (old : HelmClient) (after heard : History) → IsUnderWay play.order play.script.now play.lock (Some old) play.from play.first.seat → tick_due play.script.now.stop play.helm_client ≡ Some (old.ticks * old.period) → play.helm_client ≡ Some old
    → IsBehind (Some (old.ticks * old.period)) (drop play.from play.script.now.lines) → (later : Begins after play.first.seat.seen) → Begins heard later.0 → list_all (λ entry. entry.stamp == old.ticks * old.period) heard ≡ true → clients_below (known_clients play.script.now (Some old)) heard ≡ true
    → AddsAt play.order (next_stamp (shown_by play)) (known_clients_in (shown_by play)) play.first.seat.seen after
tick_begins play old after tick under due is behind later begins one known = record {
  later = later;
  stamped = subst (λ tick. KeepsStamp play.order (stamp_next play.order play.script.now.stop tick line) later.0) (sym due) (stamped play.order);
  known = subst (λ (s : Option HelmClient). clients_below (known_clients play.script.now (helm_of s)) later.0 ≡ true) (sym is) (front_pass (λ entry. nat_lt entry.client (known_clients play.script.now (Some old))) tick later.0 begins known);
}
  where
    line : Option ℕ
    line = option_map (λ line. line.stamp) (slice_get play.script.now.lines play.from)

    stamped : (order : Order) → KeepsStamp order (stamp_next order play.script.now.stop (Some (old.ticks * old.period)) line) later.0
    stamped Race = tt
    stamped Stamp =
        subst (λ stamp. list_all (λ (entry : Entry). entry.stamp == stamp) later.0 ≡ true) (sym (tick_stamp play.script.now.lines (old.ticks * old.period) play.script.now.stop play.from behind))
        (front_pass (λ entry. entry.stamp == old.ticks * old.period) tick later.0 begins one)

-- the tick that is due is made, or a front of it
pub tick_adds : (play : Stage) (old new : HelmClient) (after : SeatState) (result : Result (Unit {0}) AllocError) → IsUnderWay play.order play.script.now play.lock play.helm_client play.from play.first.seat → play.helm_client ≡ Some old
    → tick_due play.script.now.stop play.helm_client ≢ None → IsBehind (tick_due play.script.now.stop play.helm_client) (drop play.from play.script.now.lines) → HasLed play.lock (IsAlone old.number) (old.ticks + 1) play.first.seat after old new result
    → AddsAt play.order (next_stamp (shown_by play)) (known_clients_in (shown_by play)) play.first.seat.seen after.seen
tick_adds play old new after result under is due behind led =
    tick_begins play old after.seen (tick_entries helm heard old.ticks) here tick is (subst (λ tick. IsBehind tick (drop play.from play.script.now.lines)) tick behind) on.later (begins result led.steered led.reached led.stopped)
    (and_from (old.ticks * old.period == old.ticks * old.period) ((old.ticks * old.period == old.ticks * old.period) && true) same (and_from (old.ticks * old.period == old.ticks * old.period) true same refl))
    (tick_below helm (known_clients play.script.now (Some old)) heard old.ticks (omega (arith, here.steered.0, known_helm play.script.now old)))
  where
    helm : HelmSetup
    helm = helm_setup_of old

    on : GoesOn (IsAlone old.number) play.first.seat after
    on = led.goes_on

    here : IsUnderWay play.order play.script.now play.lock (Some old) play.from play.first.seat
    here = subst (λ s. IsUnderWay play.order play.script.now play.lock s play.from play.first.seat) is under

    heard : List Tick
    heard = heard_of play.lock.base old.number (play.first.seat.seen ++ on.later.0)

    same : (old.ticks * old.period == old.ticks * old.period) ≡ true
    same = eq-eqb (old.ticks * old.period) (old.ticks * old.period) refl

    tick : tick_due play.script.now.stop play.helm_client ≡ Some (old.ticks * old.period)
    tick = ap (tick_due play.script.now.stop) is ∙ due_is play.script.now.stop old (subst (λ (s : Option HelmClient). tick_due play.script.now.stop s ≢ None) is due)

    alone : on.later.0 ≡ entries_of old.number on.later.0
    alone = only_own old.number on.later.0 (λ n other. grown (IsAlone old.number) play.first.seat after under.whole on n other)

    begins : (r : Result (Unit {0}) AllocError) → OnOk r (Steers play.lock.base new after.seen) → OnOk r (new.ticks ≡ old.ticks + 1) → OnErr r (IsStopped play.lock.base helm new.ticks (old.ticks + 1) after.seen) → Begins (tick_entries helm heard old.ticks) on.later.0
    begins (Ok _) steers reached stops = ([], sym (append-nil on.later.0 ∙ tick_alone play.order play.script.now play.lock old new play.from play.first.seat after here on led.same reached steers))
    begins (Err _) steers reached stops =
        let stopped : IsStopped play.lock.base helm new.ticks (old.ticks + 1) (play.first.seat.seen ++ on.later.0) = subst (IsStopped play.lock.base helm new.ticks (old.ticks + 1)) on.later.1 stops in
        begun_front play.lock.base helm old.ticks play.first.seat.seen on.later.0 stopped.left
        (has_begun play.lock.base helm old.ticks new.ticks play.first.seat.seen on.later.0 here.steered.1.many here.steered.1.own alone stopped)

-- steps at one stamp behind others
pub adds_on : (play before : Playing) (stamp : ℕ) (after : History) → GoesOnWith play before → AddsAt (order_played play) stamp (known_clients_in play) (history_in play) (history_in before)
    → AddsAt (order_played before) stamp (known_clients_in before) (history_in before) after → AddsAt (order_played play) stamp (known_clients_in play) (history_in play) after
adds_on play before stamp after same one other =
    adds_twice (order_played play) stamp (known_clients_in play) (history_in play) (history_in before) after one
    (subst (λ number. AddsAt (order_played play) stamp number (history_in before) after) (λ i. known_clients (same.script i) (same.helm i)) (subst (λ order. AddsAt order stamp (known_clients_in before) (history_in before) after) same.order other))
