-- A run after one of its rounds.
use Rattle.moos_post.specs.History.{History}
use Rattle.script_reader.specs.declared.script.Order.TheVariants.{Race}
use Rattle.moos_lawful.specs.Schedules.{IsLawfulSoFar}
use Rattle.moos_play.specs.Lawful.{heard_of, helm_number, HelmSetup, ticks_to}
use Rattle.moos_play.specs.Plays.{left_in, ticks_behind}
use Rattle.moos_play.specs.Runs.{IsAtPlay, IsCutOff, shown_by}
use Rattle.moos_play.specs.Schedules.{schedule_with}
use Rattle.moos_play.specs.Steered.{HasLed, helm_of, IsBehind, IsStopped, IsUnderWay, helm_setup_of, tick_due, ticks_in}
use Rattle.moos_play.proofs.Standing.{HasHeard}
use Rattle.std.proofs.Common.{◌≡◌, ◌≢◌, ℕ, suc, ◌+◌, ◌*◌, ◌/◌, ◌<◌, ◌≤◌, Bool, true, false, cond, List, [], ◌∷◌, ◌++◌, length, length-append, take, drop, Option, None, Some, Ok, Err, OnOk, Result, nat_le, nat_lt, refl, sym, ap, subst, arith, ◌∙◌, ◌-◌}
use Rattle.std.specs.Prelude.{IfSome, OnErr}
use Rattle.std.specs.List.{list_all}
use Rattle.std.specs.declared.alloc.AllocError.{AllocError}
use Rattle.std.proofs.lemmas.Bool.{and_parts}
use Rattle.std.proofs.lemmas.Bool.Decides.{nat_tests}
use Rattle.std.proofs.lemmas.List.{length-take}
use Rattle.std.proofs.Math.Nat.{mul-le-mul}
use Rattle.moos_post.specs.declared.entry.Entry.{Entry}
use Rattle.moos_step.specs.declared.player.Player.{Player}
use Rattle.moos_play.specs.declared.stage.Stage.{Stage}
use Rattle.moos_play.specs.declared.helm_client.HelmClient.{HelmClient}
use Rattle.moos_step.specs.Steps.{GoesOn, IsAlone, IsPlayedBeside}
use Rattle.moos_play.proofs.Coming.{race_cut, tick_cut, tick_next}

-- a tick that is due is one of those up to the last stamp
pub due_left : (stop : ℕ) (s : HelmClient) → tick_due stop (Some s) ≢ None → s.ticks < ticks_to stop (helm_setup_of s)
due_left stop s some = by (nat_le s.ticks (stop / s.period)) refl
  where
    by : (b : Bool) → nat_le s.ticks (stop / s.period) ≡ b → s.ticks < suc (stop / s.period)
    by true e = grind (arith, nat_tests)
    by false e = absurd (some (ap (λ b. cond b (Some (s.ticks * s.period)) None) e))

pub due_is : (stop : ℕ) (s : HelmClient) → tick_due stop (Some s) ≢ None → tick_due stop (Some s) ≡ Some (s.ticks * s.period)
due_is stop s some = let left = due_left stop s some in ap (λ b. cond b (Some (s.ticks * s.period)) None) (le_left left)
  where
    le_left : s.ticks < suc (stop / s.period) → nat_le s.ticks (stop / s.period) ≡ true
    le_left h = grind (arith, nat_tests)

-- so its stamp is below what is above the last stamp
pub tick_early : (stop ticks period limit : ℕ) → 1 ≤ period → ticks < suc (stop / period) → stop < limit → (ticks + 1) * period < limit + period
tick_early stop ticks period limit some left below = subst (λ n. n * period < limit + period) next (omega (arith, some, below, mul-le-mul enough same))
  where
    next : suc ticks ≡ ticks + 1
    next = omega arith

    enough : ticks ≤ stop / period
    enough = omega (arith, left)

    same : period ≤ period
    same = omega arith

-- where there is a line there is a client
pub some_client : (clients : ℕ) (lines : List Entry) (from : ℕ) → list_all (λ line. nat_lt line.client clients) lines ≡ true → from < length lines → 0 < clients
some_client clients [] from all some = absurd (omega (arith, some))
some_client clients (line ∷ lines) from all some = let here = (and_parts (nat_lt line.client clients) (list_all (λ line. nat_lt line.client clients) lines) all).0 in grind (arith, nat_tests)

-- a tick less is left
pub tick_less : (play : Stage) (first : Player) (old new : HelmClient) (result : Result (Unit {0}) AllocError) → play.helm_client ≡ Some old → tick_due play.script.now.stop play.helm_client ≢ None → helm_setup_of new ≡ helm_setup_of old → OnOk result (new.ticks ≡ old.ticks + 1)
    → OnOk result (left_in (shown_by (record play { first = first; helm_client = Some new })) < left_in (shown_by play))
tick_less play first old new (Err _) is due same reached = tt
tick_less play first old new (Ok _) is due same reached =
    let stop = play.script.now.stop in
    let left = due_left stop old (subst (λ (s : Option HelmClient). tick_due stop s ≢ None) is due) in
    omega (arith, left, reached, ap (λ (helm : HelmSetup). ticks_to stop helm) same, ap (λ s. ticks_behind stop (helm_of s) (ticks_in s)) is)

-- the run after a tick
pub tick_at_play : (play : Stage) (first : Player) (old new : HelmClient) (result : Result (Unit {0}) AllocError) → IsAtPlay play → play.helm_client ≡ Some old → tick_due play.script.now.stop play.helm_client ≢ None
    → IsBehind (tick_due play.script.now.stop play.helm_client) (drop play.from play.script.now.lines) → HasLed play.lock (IsAlone old.number) (old.ticks + 1) play.first.seat first.seat old new result → OnOk result (IsAtPlay (record play { first = first; helm_client = Some new }))
tick_at_play play first old new (Err _) at is due behind led = tt
tick_at_play play first old new (Ok _) at is due behind led =
    let script = play.script.now in
    let some = subst (λ (s : Option HelmClient). tick_due script.stop s ≢ None) is due in
    let left = due_left script.stop old some in
    let period = subst (λ s. IfSome s (λ helm. (1 ≤ helm.period) × (helm.ticks ≤ ticks_to script.stop (helm_setup_of helm)))) is at.period in
    record {
      valid = at.valid;
      under = tick_next play.order script play.lock at.valid.lines old new play.from play.first.seat first.seat (subst (λ s. IsUnderWay play.order script play.lock s play.from play.first.seat) is at.under) led.gathered led.goes_on led.same led.reached led.steered left
          (subst (λ tick. IsBehind tick (drop play.from script.lines)) (due_is script.stop old some) (subst (λ s. IsBehind (tick_due script.stop s) (drop play.from script.lines)) is behind));
      calls = at.calls;
      period = (
        subst (λ (helm : HelmSetup). 1 ≤ helm.period) (sym led.same) period.0,
        omega (arith, led.reached, left, ap (λ (helm : HelmSetup). ticks_to script.stop helm) led.same),
      );
    }

-- what a helm that has stopped has heard
stopped_heard : (names : List (List ℕ)) (number stop most : ℕ) (old new : HelmClient) (history : History) → helm_setup_of new ≡ helm_setup_of old → old.number ≡ number → IsStopped names (helm_setup_of old) new.ticks most history → most ≤ ticks_to stop (helm_setup_of old)
    → HasHeard names number stop (Some new) history
stopped_heard names number stop most old new history steering is stopped few = (
  ap (λ (helm : HelmSetup). helm.client) steering ∙ is,
  subst (λ (helm : HelmSetup). new.ticks ≤ length (heard_of names helm.client history)) (sym steering) stopped.made,
  omega (arith, stopped.made, stopped.few, few, ap (λ (helm : HelmSetup). ticks_to stop helm) steering),
)

-- the run after a tick that was cut off
pub tick_stops : (play : Stage) (first : Player) (old new : HelmClient) (result : Result (Unit {0}) AllocError) → IsAtPlay play → play.helm_client ≡ Some old → tick_due play.script.now.stop play.helm_client ≢ None
    → IsBehind (tick_due play.script.now.stop play.helm_client) (drop play.from play.script.now.lines) → HasLed play.lock (IsAlone old.number) (old.ticks + 1) play.first.seat first.seat old new result → OnErr result (IsCutOff (record play { first = first; helm_client = Some new }))
tick_stops play first old new (Ok _) at is due behind led = tt
tick_stops play first old new (Err _) at is due behind led =
    let script = play.script.now in
    let under = subst (λ s. IsUnderWay play.order script play.lock s play.from play.first.seat) is at.under in
    let some = subst (λ (s : Option HelmClient). tick_due script.stop s ≢ None) is due in
    let left = due_left script.stop old some in
    record {
      so_far = subst (λ helm. IsLawfulSoFar (schedule_with play.order script (Some helm) play.lock.base) first.seat.seen) (sym led.same)
          (tick_cut play.order script play.lock at.valid.lines old new play.from play.first.seat first.seat under led.goes_on led.stopped left
          (subst (λ tick. IsBehind tick (drop play.from script.lines)) (due_is script.stop old some) (subst (λ s. IsBehind (tick_due script.stop s) (drop play.from script.lines)) is behind)));
      room = under.seats;
      heard = stopped_heard play.lock.base (helm_number script) script.stop (old.ticks + 1) old new first.seat.seen led.same under.steered.0 led.stopped (omega (arith, left));
    }

-- and after a race
pub race_stops : {result : Result (Unit {0}) AllocError} (play : Stage) (first : Player) (old new : HelmClient) (to most : ℕ) (all : List Entry) → play.order ≡ Race → IsAtPlay play → play.helm_client ≡ Some old → all ≡ play.script.now.lines → play.from ≤ to
    → GoesOn (IsPlayedBeside old.number (take (to - play.from) (drop play.from all)) result) play.first.seat first.seat → helm_setup_of new ≡ helm_setup_of old → IsStopped play.lock.base (helm_setup_of old) new.ticks most first.seat.seen → most ≤ ticks_to play.script.now.stop (helm_setup_of old)
    → IsCutOff (record play { first = first; helm_client = Some new })
race_stops play first old new to most all race at is same more went steering stopped few = record {
  so_far = subst (λ helm. IsLawfulSoFar (schedule_with play.order play.script.now (Some helm) play.lock.base) first.seat.seen) (sym steering)
      (race_cut play.order play.script.now play.lock at.valid.lines old play.from to new.ticks most all play.first.seat first.seat race under same more went stopped few);
  room = under.seats;
  heard = stopped_heard play.lock.base (helm_number play.script.now) play.script.now.stop most old new first.seat.seen steering under.steered.0 stopped few;
}
  where
    under : IsUnderWay play.order play.script.now play.lock (Some old) play.from play.first.seat
    under = subst (λ s. IsUnderWay play.order play.script.now play.lock s play.from play.first.seat) is at.under

-- as many counts of calls as before
pub as_many : (n : ℕ) (before after : List ℕ) → length after ≡ length before → n ≡ length before → length (take n (after ++ drop (length after) before)) ≡ n
as_many n before after long all = omega (arith, long, all, length-take n (after ++ drop (length after) before), length-append after (drop (length after) before))
