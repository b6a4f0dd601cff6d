-- How a run moves on in order Stamp: its stamps don't go back, and the helm makes one tick a stamp.
use Rattle.moos_play.specs.Schedules.{tick_period}
use Rattle.std.proofs.Common.{◌≡◌, ◌≢◌, ◌⊎◌, ℕ, zero, suc, ◌+◌, ◌-◌, ◌*◌, ◌/◌, ◌<◌, ◌≤◌, Bool, true, false, cond, inl, inr, List, [], ◌∷◌, length, drop, Option, None, Some, Ok, Err, OnOk, Result, nat_le, nat_lt, refl, sym, ap, ◌∙◌, subst, arith}
use Rattle.std.specs.Prelude.{IfSome, option_map, slice_get}
use Rattle.std.specs.declared.alloc.AllocError.{AllocError}
use Rattle.std.proofs.lemmas.Bool.Decides.{nat_tests}
use Rattle.std.proofs.Math.Nat.{mul-le-mul}
use Rattle.helm_core.specs.declared.iteration.Iteration.{Iteration}
use Rattle.helm_core.specs.Helms.{plan_of}
use Rattle.moos_post.specs.declared.entry.Entry.{Entry}
use Rattle.moos_post.specs.History.{History}
use Rattle.moos_play.specs.declared.stage.Stage.{Stage}
use Rattle.moos_play.specs.declared.round_made.Round.{Round}
use Rattle.moos_play.specs.declared.helm_client.HelmClient.{HelmClient}
use Rattle.moos_play.specs.Lawful.{heard_of, HelmSetup, ticks_to}
use Rattle.moos_play.specs.Plays.{earliest, GoesOnWith, HasNoTick, HasTick, HasTurn, IsStampOver, iterations_made, left_in, next_stamp, stamp_next, ticks_behind, iterations_by}
use Rattle.moos_play.specs.Runs.{IsPaused, KeepsMoves, MovesAt, playing_of, shown_by}
use Rattle.moos_play.specs.Steered.{helm_of, IsBehind, helm_setup_of, tick_due, ticks_in}
use Rattle.moos_play.proofs.Hearing.{iterations_many}
use Rattle.moos_play.proofs.Rounding.{due_is}
use Rattle.moos_play.proofs.Stamping.{tick_stamp}
use Rattle.script_reader.specs.declared.script.Order.{Order}
use Rattle.script_reader.specs.declared.script.Order.TheVariants.{Stamp, Race}
use Rattle.script_reader.specs.declared.script.Script.{Script}
use Rattle.script_reader.specs.Validity.{are_lines, keeps_limits}
use Rattle.script_reader.proofs.Sound.{line_tests}

-- ---- stamps don't go back

-- a line has no stamp below the one before the lines
line_late : (clients last stop : ℕ) (lines : List Entry) (i : ℕ) (line : Entry) → are_lines clients last stop lines ≡ true → slice_get lines i ≡ Some line → last ≤ line.stamp
line_late clients last stop [] i line valid is = absurd cc
line_late clients last stop (first ∷ lines) zero line valid is =
    let tests = line_tests (nat_lt first.client clients) (nat_le last first.stamp) (keeps_limits first.call) (are_lines clients first.stamp stop lines) valid in
    let here = tests.1 in
    subst (λ next. IfSome next (λ (l : Entry). last ≤ l.stamp)) is (grind (arith, nat_tests))
line_late clients last stop (first ∷ lines) (suc i) line valid is =
    let tests = line_tests (nat_lt first.client clients) (nat_le last first.stamp) (keeps_limits first.call) (are_lines clients first.stamp stop lines) valid in
    let here = tests.1 in
    let later = line_late clients first.stamp stop lines i line tests.3 is in
    grind (arith, nat_tests)

-- a later line has no lower stamp, and where it is there is an earlier one
lines_on : (clients last stop : ℕ) (lines : List Entry) (from to : ℕ) (line : Entry) → are_lines clients last stop lines ≡ true → from ≤ to → slice_get lines to ≡ Some line
    → (first : Entry) × (slice_get lines from ≡ Some first) × (first.stamp ≤ line.stamp)
lines_on clients last stop [] from to line valid less is = absurd cc
lines_on clients last stop (first ∷ lines) zero zero line valid less is = (first, refl, subst (λ next. IfSome next (λ (l : Entry). first.stamp ≤ l.stamp)) is (omega arith))
lines_on clients last stop (first ∷ lines) zero (suc to) line valid less is =
    let tests = line_tests (nat_lt first.client clients) (nat_le last first.stamp) (keeps_limits first.call) (are_lines clients first.stamp stop lines) valid in
    (first, refl, line_late clients first.stamp stop lines to line tests.3 is)
lines_on clients last stop (first ∷ lines) (suc from) zero line valid less is = absurd (omega (arith, less))
lines_on clients last stop (first ∷ lines) (suc from) (suc to) line valid less is =
    let tests = line_tests (nat_lt first.client clients) (nat_le last first.stamp) (keeps_limits first.call) (are_lines clients first.stamp stop lines) valid in
    lines_on clients first.stamp stop lines from to line tests.3 (omega (arith, less)) is

-- the earlier of two stamps is not above either
pub least_tick : (stop tick : ℕ) (line : Option ℕ) → earliest stop (Some tick) line ≤ tick
least_tick stop tick None = omega arith
least_tick stop tick (Some line) = by (nat_lt tick line) refl
  where
    by : (b : Bool) → nat_lt tick line ≡ b → cond b tick line ≤ tick
    by true e = omega arith
    by false e = grind (arith, nat_tests)

pub least_line : (stop line : ℕ) (tick : Option ℕ) → earliest stop tick (Some line) ≤ line
least_line stop line None = omega arith
least_line stop line (Some tick) = by (nat_lt tick line) refl
  where
    by : (b : Bool) → nat_lt tick line ≡ b → cond b tick line ≤ line
    by true e = grind (arith, nat_tests)
    by false e = omega arith

-- with a later tick or line, or with none, what is next is not earlier
least_on : (stop : ℕ) (tick line tick' line' : Option ℕ) → ((y : ℕ) → tick' ≡ Some y → (x : ℕ) × (tick ≡ Some x) × (x ≤ y)) → ((y : ℕ) → line' ≡ Some y → (x : ℕ) × (line ≡ Some x) × (x ≤ y))
    → ((tick' ≡ None) × (line' ≡ None)) ⊎ (earliest stop tick line ≤ earliest stop tick' line')
least_on stop tick line None None ticks lines = inl (refl, refl)
least_on stop tick line (Some t) None ticks lines = inr (below_tick t (ticks t refl))
  where
    below_tick : (y : ℕ) → (x : ℕ) × (tick ≡ Some x) × (x ≤ y) → earliest stop tick line ≤ y
    below_tick y (x, is, less) = subst (λ tick. earliest stop tick line ≤ y) (sym is) (omega (arith, least_tick stop x line, less))
least_on stop tick line None (Some l) ticks lines = inr (below_line l (lines l refl))
  where
    below_line : (y : ℕ) → (x : ℕ) × (line ≡ Some x) × (x ≤ y) → earliest stop tick line ≤ y
    below_line y (x, is, less) = subst (λ line. earliest stop tick line ≤ y) (sym is) (omega (arith, least_line stop x tick, less))
least_on stop tick line (Some t) (Some l) ticks lines = inr (by (nat_lt t l))
  where
    below_tick : (y : ℕ) → (x : ℕ) × (tick ≡ Some x) × (x ≤ y) → earliest stop tick line ≤ y
    below_tick y (x, is, less) = subst (λ tick. earliest stop tick line ≤ y) (sym is) (omega (arith, least_tick stop x line, less))

    below_line : (y : ℕ) → (x : ℕ) × (line ≡ Some x) × (x ≤ y) → earliest stop tick line ≤ y
    below_line y (x, is, less) = subst (λ line. earliest stop tick line ≤ y) (sym is) (omega (arith, least_line stop x tick, less))

    by : (b : Bool) → earliest stop tick line ≤ cond b t l
    by true = below_tick t (ticks t refl)
    by false = below_line l (lines l refl)

-- how the helm is run stays the same: so does its period
period_same : (before after : Option HelmClient) → helm_of after ≡ helm_of before → tick_period (helm_of after) ≡ tick_period (helm_of before)
period_same None None same = refl
period_same None (Some t) same = absurd cc
period_same (Some s) None same = absurd cc
period_same (Some s) (Some t) same = ap (λ helm. run_period helm) same
  where
    run_period : Option HelmSetup → ℕ
    run_period None = 0
    run_period (Some helm) = helm.period

-- the stamp of a tick that is due
tick_due_is : (stop : ℕ) (s : HelmClient) (y : ℕ) → tick_due stop (Some s) ≡ Some y → (s.ticks ≤ stop / s.period) × (y ≡ s.ticks * s.period)
tick_due_is stop s y is = by (nat_le s.ticks (stop / s.period)) refl is
  where
    by : (b : Bool) → nat_le s.ticks (stop / s.period) ≡ b → cond b (Some (s.ticks * s.period)) None ≡ Some y → (s.ticks ≤ stop / s.period) × (y ≡ s.ticks * s.period)
    by true e h = (grind (arith, nat_tests), sym (cc))
    by false e h = absurd cc

is_tick_due : (stop : ℕ) (s : HelmClient) → s.ticks ≤ stop / s.period → tick_due stop (Some s) ≡ Some (s.ticks * s.period)
is_tick_due stop s less = by (nat_le s.ticks (stop / s.period)) refl
  where
    by : (b : Bool) → nat_le s.ticks (stop / s.period) ≡ b → cond b (Some (s.ticks * s.period)) None ≡ Some (s.ticks * s.period)
    by true e = refl
    by false e = absurd (grind (arith, nat_tests, less))

-- no tick is taken back either
ticks_on : (stop : ℕ) (before after : Option HelmClient) → helm_of after ≡ helm_of before → ticks_in before ≤ ticks_in after → (y : ℕ) → tick_due stop after ≡ Some y → (x : ℕ) × (tick_due stop before ≡ Some x) × (x ≤ y)
ticks_on stop before None same less y is = absurd cc
ticks_on stop None (Some t) same less y is = absurd cc
ticks_on stop (Some s) (Some t) same less y is =
    let due = tick_due_is stop t y is in
    let period : t.period ≡ s.period = period_same (Some s) (Some t) same in
    let quotient : stop / t.period ≡ stop / s.period = ap (λ p. stop / p) period in
    (s.ticks * s.period, is_tick_due stop s (omega (arith, less, due.0, quotient)), subst (λ n. s.ticks * s.period ≤ n) (sym (due.1 ∙ ap (λ p. t.ticks * p) period)) (times_on s.ticks t.ticks s.period less))
  where
    times_on : (a b p : ℕ) → a ≤ b → a * p ≤ b * p
    times_on a b p less = let same : p ≤ p = omega arith in mul-le-mul less same

-- behind the last place nothing is left
past : (xs : List Entry) (i : ℕ) → slice_get xs i ≡ None → length xs - i ≡ 0
past [] i is = omega arith
past (x ∷ xs) zero is = absurd cc
past (x ∷ xs) (suc i) is = omega (arith, past xs i is)

-- where neither a tick nor a line is next nothing is left
none_next : (script : Script) (from : ℕ) (s : Option HelmClient) → tick_due script.stop s ≡ None → option_map (λ (line : Entry). line.stamp) (slice_get script.lines from) ≡ None → length script.lines - from + ticks_behind script.stop (helm_of s) (ticks_in s) ≡ 0
none_next script from s tick line = omega (arith, lines (slice_get script.lines from) refl line, ticks s tick)
  where
    lines : (next : Option Entry) → slice_get script.lines from ≡ next → option_map (λ (line : Entry). line.stamp) next ≡ None → length script.lines - from ≡ 0
    lines None is none = past script.lines from is
    lines (Some l) is none = absurd cc

    ticks : (s : Option HelmClient) → tick_due script.stop s ≡ None → ticks_behind script.stop (helm_of s) (ticks_in s) ≡ 0
    ticks None none = refl
    ticks (Some t) none = by (nat_le t.ticks (script.stop / t.period)) refl none
      where
        by : (b : Bool) → nat_le t.ticks (script.stop / t.period) ≡ b → cond b (Some (t.ticks * t.period)) None ≡ None → suc (script.stop / t.period) - t.ticks ≡ 0
        by true e h = absurd cc
        by false e h = grind (arith, nat_tests)

-- so the stamp of what is next doesn't go back
pub stamps_on : (before after : Stage) (stamp : ℕ) → are_lines (length before.script.now.names) 0 before.script.now.stop before.script.now.lines ≡ true → GoesOnWith (shown_by before) (shown_by after) → MovesAt stamp before after → before.order ≡ Stamp
    → (left_in (shown_by after) ≡ 0) ⊎ (next_stamp (shown_by before) ≤ next_stamp (shown_by after))
stamps_on before after stamp valid on moves order =
    subst (λ script. (left script ≡ 0) ⊎ (next_stamp (shown_by before) ≤ next script)) (sym on.script)
    (by (least_on script.stop tick line tick' line' (ticks_on script.stop before.helm_client after.helm_client on.helm (more moves.ticks)) lines))
  where
    script : Script
    script = before.script.now

    -- by the script that both play
    left : Script → ℕ
    left script = length script.lines - after.from + ticks_behind script.stop (helm_of after.helm_client) (ticks_in after.helm_client)

    next : Script → ℕ
    next script = stamp_next after.order script.stop (tick_due script.stop after.helm_client) (option_map (λ (line : Entry). line.stamp) (slice_get script.lines after.from))

    tick : Option ℕ
    tick = tick_due script.stop before.helm_client

    tick' : Option ℕ
    tick' = tick_due script.stop after.helm_client

    line : Option ℕ
    line = option_map (λ (line : Entry). line.stamp) (slice_get script.lines before.from)

    line' : Option ℕ
    line' = option_map (λ (line : Entry). line.stamp) (slice_get script.lines after.from)

    more : (ticks_in after.helm_client ≡ ticks_in before.helm_client) ⊎ ((ticks_in after.helm_client ≡ suc (ticks_in before.helm_client)) × (stamp ≡ ticks_in before.helm_client * tick_period (helm_of before.helm_client))) → ticks_in before.helm_client ≤ ticks_in after.helm_client
    more (inl same) = omega (arith, same)
    more (inr next) = omega (arith, next.0)

    lines : (y : ℕ) → line' ≡ Some y → (x : ℕ) × (line ≡ Some x) × (x ≤ y)
    lines y is = at (slice_get script.lines after.from) refl is
      where
        at : (next : Option Entry) → slice_get script.lines after.from ≡ next → option_map (λ (line : Entry). line.stamp) next ≡ Some y → (x : ℕ) × (line ≡ Some x) × (x ≤ y)
        at None e h = absurd cc
        at (Some l) e h =
            let first = lines_on (length script.names) 0 script.stop script.lines before.from after.from l valid moves.lines e in
            let same : l.stamp ≡ y = cc in
            (first.0.stamp, ap (option_map (λ (line : Entry). line.stamp)) first.1, omega (arith, first.2, same))

    by : ((tick' ≡ None) × (line' ≡ None)) ⊎ (earliest script.stop tick line ≤ earliest script.stop tick' line') → (left script ≡ 0) ⊎ (next_stamp (shown_by before) ≤ next script)
    by (inl none) = inl (none_next script after.from after.helm_client none.0 none.1)
    by (inr less) = inr (subst (λ order. stamp_next order script.stop tick line ≤ stamp_next after.order script.stop tick' line') (sym order)
        (subst (λ order. earliest script.stop tick line ≤ stamp_next order script.stop tick' line') (sym (on.order ∙ order)) less))

-- ---- moves

-- nothing is done
pub moves_none : (order : Order) (stamp : ℕ) (play : Stage) → KeepsMoves order stamp play play
moves_none Stamp stamp play = record { lines = omega arith; ticks = inl refl }
moves_none Race stamp play = tt

-- lines alone
pub moves_lines : (order : Order) (stamp : ℕ) (before after : Stage) → before.from ≤ after.from → after.helm_client ≡ before.helm_client → KeepsMoves order stamp before after
moves_lines Stamp stamp before after less same = record { lines = less; ticks = inl (ap ticks_in same) }
moves_lines Race stamp before after less same = tt

-- any in a race
pub moves_race : (order : Order) (stamp : ℕ) (before after : Stage) → order ≡ Race → KeepsMoves order stamp before after
moves_race Stamp stamp before after race = absurd cc
moves_race Race stamp before after race = tt

-- a tick that is due
pub moves_tick : (play after : Stage) (old new : HelmClient) (result : Result (Unit {0}) AllocError) → play.helm_client ≡ Some old → after.helm_client ≡ Some new → after.from ≡ play.from → tick_due play.script.now.stop play.helm_client ≢ None → IsBehind (tick_due play.script.now.stop play.helm_client) (drop play.from play.script.now.lines)
    → OnOk result (new.ticks ≡ old.ticks + 1) → OnOk result (KeepsMoves play.order (next_stamp (shown_by play)) play after)
moves_tick play after old new (Err _) is is' from due behind reached = tt
moves_tick play after old new (Ok _) is is' from due behind reached = by play.order
  where
    tick : tick_due play.script.now.stop play.helm_client ≡ Some (old.ticks * old.period)
    tick = ap (tick_due play.script.now.stop) is ∙ due_is play.script.now.stop old (subst (λ (s : Option HelmClient). tick_due play.script.now.stop s ≢ None) is due)

    line : Option ℕ
    line = option_map (λ (line : Entry). line.stamp) (slice_get play.script.now.lines play.from)

    stamp : earliest play.script.now.stop (tick_due play.script.now.stop play.helm_client) line ≡ old.ticks * old.period
    stamp = ap (λ tick. earliest play.script.now.stop tick line) tick ∙ tick_stamp play.script.now.lines (old.ticks * old.period) play.script.now.stop play.from (subst (λ tick. IsBehind tick (drop play.from play.script.now.lines)) tick behind)

    by : (order : Order) → KeepsMoves order (stamp_next order play.script.now.stop (tick_due play.script.now.stop play.helm_client) line) play after
    by Stamp = record {
      lines = omega (arith, from);
      ticks = inr (
        ap ticks_in is' ∙ reached ∙ omega arith ∙ sym (ap (λ s. suc (ticks_in s)) is),
        stamp ∙ sym (ap (λ s. ticks_in s * tick_period (helm_of s)) is),
      );
    }
    by Race = tt

-- one part behind another
pub moves_twice : (order : Order) (stamp : ℕ) (before middle after : Stage) → GoesOnWith (shown_by before) (shown_by middle) → IfSome before.helm_client (λ helm. 1 ≤ helm.period) → KeepsMoves order stamp before middle → KeepsMoves order stamp middle after → KeepsMoves order stamp before after
moves_twice Race stamp before middle after on period one other = tt
moves_twice Stamp stamp before middle after on period one other = record { lines = omega (arith, one.lines, other.lines); ticks = by one.ticks other.ticks }
  where
    same : tick_period (helm_of middle.helm_client) ≡ tick_period (helm_of before.helm_client)
    same = period_same before.helm_client middle.helm_client on.helm

    some : 1 ≤ tick_period (helm_of before.helm_client)
    some = at before.helm_client period
      where
        at : (s : Option HelmClient) → IfSome s (λ helm. 1 ≤ helm.period) → 1 ≤ tick_period (helm_of s)
        at None so = omega arith
        at (Some s) so = so

    -- two ticks don't have one stamp
    once : (a p : ℕ) → 1 ≤ p → a * p ≡ suc a * p → ⊥
    once a p some is = omega (arith, some, is)

    by : (ticks_in middle.helm_client ≡ ticks_in before.helm_client) ⊎ ((ticks_in middle.helm_client ≡ suc (ticks_in before.helm_client)) × (stamp ≡ ticks_in before.helm_client * tick_period (helm_of before.helm_client)))
        → (ticks_in after.helm_client ≡ ticks_in middle.helm_client) ⊎ ((ticks_in after.helm_client ≡ suc (ticks_in middle.helm_client)) × (stamp ≡ ticks_in middle.helm_client * tick_period (helm_of middle.helm_client)))
        → (ticks_in after.helm_client ≡ ticks_in before.helm_client) ⊎ ((ticks_in after.helm_client ≡ suc (ticks_in before.helm_client)) × (stamp ≡ ticks_in before.helm_client * tick_period (helm_of before.helm_client)))
    by (inl one) (inl other) = inl (other ∙ one)
    by (inl one) (inr other) = inr (other.0 ∙ ap suc one, other.1 ∙ (λ i. one i * same i))
    by (inr one) (inl other) = inr (other ∙ one.0, one.1)
    by (inr one) (inr other) = absurd (once (ticks_in before.helm_client) (tick_period (helm_of before.helm_client)) some (sym one.1 ∙ other.1 ∙ (λ i. one.0 i * same i)))

-- ---- the turn of a round

-- there is an iteration a tick
pub made_many : (names : List (List ℕ)) (history : History) (s : Option HelmClient) → length (iterations_by names history (helm_of s) (ticks_in s)) ≡ ticks_in s
made_many names history None = refl
made_many names history (Some s) = iterations_many (plan_of s.helm) (heard_of names s.number history) s.ticks

-- with these iterations more
turn_of : (before after : Stage) (round : Round) (stamp : ℕ) → MovesAt stamp before after → round.stamp ≡ stamp → (left_in (shown_by after) ≡ 0) ⊎ (round.stamp < next_stamp (shown_by after)) → helm_of after.helm_client ≡ helm_of before.helm_client → after.script.now ≡ before.script.now → after.order ≡ Stamp
    → length round.iterations + ticks_in before.helm_client ≡ ticks_in after.helm_client
    → IfSome (helm_of before.helm_client) (λ helm. HasNoTick helm before.script.now.stop (length (iterations_made (shown_by before))) round ⊎ HasTick helm (length (iterations_made (shown_by before))) round)
turn_of before after round stamp moves is later same script order many = at before.helm_client after.helm_client refl refl same
  where
    made : length (iterations_made (shown_by before)) ≡ ticks_in before.helm_client
    made = made_many before.lock.base before.first.seat.seen before.helm_client

    at : (s t : Option HelmClient) → before.helm_client ≡ s → after.helm_client ≡ t → helm_of t ≡ helm_of s → IfSome (helm_of s) (λ helm. HasNoTick helm before.script.now.stop (length (iterations_made (shown_by before))) round ⊎ HasTick helm (length (iterations_made (shown_by before))) round)
    at None t b a same = tt
    at (Some s) None b a same = absurd cc
    at (Some s) (Some t) b a same = by moves.ticks
      where
        period : t.period ≡ s.period
        period = period_same (Some s) (Some t) same

        before_is : ticks_in before.helm_client ≡ s.ticks
        before_is = ap ticks_in b

        after_is : ticks_in after.helm_client ≡ t.ticks
        after_is = ap ticks_in a

        made_is : length (iterations_made (shown_by before)) ≡ s.ticks
        made_is = made ∙ before_is

        early : t.ticks ≡ s.ticks → s.ticks < suc (before.script.now.stop / s.period) → round.stamp < s.ticks * s.period
        early stays left = from later
          where
            stop : after.script.now.stop ≡ before.script.now.stop
            stop = ap (λ (script : Script). script.stop) script

            quotient : after.script.now.stop / t.period ≡ before.script.now.stop / s.period
            quotient = λ i. stop i / period i

            stamp_same : t.ticks * t.period ≡ s.ticks * s.period
            stamp_same = λ i. stays i * period i

            due_left : t.ticks ≤ after.script.now.stop / t.period
            due_left = omega (arith, stays, left, quotient)

            due : tick_due after.script.now.stop after.helm_client ≡ Some (t.ticks * t.period)
            due = ap (tick_due after.script.now.stop) a ∙ is_tick_due after.script.now.stop t due_left

            line : Option ℕ
            line = option_map (λ (line : Entry). line.stamp) (slice_get after.script.now.lines after.from)

            next : next_stamp (shown_by after) ≤ t.ticks * t.period
            next = subst (λ order. stamp_next order after.script.now.stop (tick_due after.script.now.stop after.helm_client) line ≤ t.ticks * t.period) (sym order)
                (subst (λ tick. earliest after.script.now.stop tick line ≤ t.ticks * t.period) (sym due) (least_tick after.script.now.stop (t.ticks * t.period) line))

            from : (left_in (shown_by after) ≡ 0) ⊎ (round.stamp < next_stamp (shown_by after)) → round.stamp < s.ticks * s.period
            from (inl none) =
                let ticks : ticks_behind after.script.now.stop (helm_of (Some t)) (ticks_in (Some t)) ≡ 0 = omega (arith, none, ap (λ s. ticks_behind after.script.now.stop (helm_of s) (ticks_in s)) a) in
                absurd (omega (arith, ticks, due_left))
            from (inr sooner) = omega (arith, sooner, next, stamp_same)

        by : (ticks_in after.helm_client ≡ ticks_in before.helm_client) ⊎ ((ticks_in after.helm_client ≡ suc (ticks_in before.helm_client)) × (stamp ≡ ticks_in before.helm_client * tick_period (helm_of before.helm_client)))
            → HasNoTick (helm_setup_of s) before.script.now.stop (length (iterations_made (shown_by before))) round ⊎ HasTick (helm_setup_of s) (length (iterations_made (shown_by before))) round
        by (inl stays) = inl (record {
          none = nothing round.iterations (omega (arith, many, stays));
          later = λ left. subst (λ n. round.stamp < n * s.period) (sym made_is) (early (sym after_is ∙ stays ∙ before_is) (subst (λ n. n < suc (before.script.now.stop / s.period)) made_is left));
        })
          where
            nothing : (xs : List Iteration) → length xs ≡ 0 → xs ≡ []
            nothing [] none = refl
            nothing (x ∷ xs) none = absurd cc
        by (inr next) = inr (record {
          one = omega (arith, many, next.0);
          at = is ∙ next.1 ∙ ap (λ t. ticks_in t * tick_period (helm_of t)) b ∙ ap (λ n. n * s.period) (sym made_is);
        })

-- a helm, where there is one, has a period
pub some_period : (stop : ℕ) (s : Option HelmClient) → IfSome s (λ helm. (1 ≤ helm.period) × (helm.ticks ≤ ticks_to stop (helm_setup_of helm))) → IfSome s (λ helm. 1 ≤ helm.period)
some_period stop None so = tt
some_period stop (Some s) so = so.0

-- the turn of a round
pub turn_here : (before after : Stage) (w v : Bool) (round : Round) → IsPaused before → GoesOnWith (shown_by before) (shown_by after) → KeepsMoves before.order round.stamp before after → IsStampOver (shown_by after) round.stamp
    → round.stamp ≡ next_stamp (shown_by before) → length round.iterations + ticks_in before.helm_client ≡ ticks_in after.helm_client → HasTurn before.order (playing_of before w) (playing_of after v) round
turn_here before after w v round between on kept over stamp many = by before.order refl
  where
    by : (order : Order) → before.order ≡ order → HasTurn order (playing_of before w) (playing_of after v) round
    by Race order = tt
    by Stamp order = record { later = later; ticked = turn_of before after round round.stamp moves refl later on.helm on.script (on.order ∙ order) many }
      where
        moves : MovesAt round.stamp before after
        moves = subst (λ order. KeepsMoves order round.stamp before after) order kept

        later_by : IsStampOver (shown_by after) round.stamp → (left_in (shown_by after) ≡ 0) ⊎ (next_stamp (shown_by before) ≤ next_stamp (shown_by after)) → (left_in (shown_by after) ≡ 0) ⊎ (round.stamp < next_stamp (shown_by after))
        later_by (inl none) on = inl none
        later_by (inr apart) (inl none) = inl none
        later_by (inr apart) (inr less) = inr (strict (next_stamp (shown_by after)) (omega (arith, less, stamp)) apart)
          where
            strict : (next : ℕ) → round.stamp ≤ next → next ≢ round.stamp → round.stamp < next
            strict next less apart = omega (arith, less, apart)

        later : (left_in (shown_by after) ≡ 0) ⊎ (round.stamp < next_stamp (shown_by after))
        later = later_by over (stamps_on before after round.stamp between.at_play.valid.lines on moves order)
