-- What a turn more does to the lists that a life is told by, and so to what a life keeps of them.
use Rattle.std.proofs.Common.{◌≡◌, ℕ, Bool, true, false, not, ◌&&◌, ◌||◌, ◌+◌, ◌-◌, ◌≤◌, Option, Some, None, List, [], ◌∷◌, ◌++◌, map, length, drop, drop_of_length-le, refl, sym, ap, ◌∙◌, arith, subst}
use Rattle.std.specs.Prelude.{if◌then◌else◌, unwrap_or}
use Rattle.std.specs.List.{after_last, find, last_or, suffix_len}
use Rattle.std.specs.Option.{option_map, option_or}
use Rattle.std.proofs.lemmas.Bool.{and_parts}
use Rattle.std.proofs.lemmas.List.{drop-append-le, length-append, reverse-append}
use Rattle.std.proofs.lemmas.List.Folds.{find-append, list_any-append}
use Rattle.std.proofs.lemmas.List.Sums.{fold_push}
use Rattle.bhv_file.specs.declared.common.Common.{Common}
use Rattle.bhv_life.specs.declared.life.Life.{Life}
use Rattle.bhv_life.specs.declared.outcome.BhvState.{BhvState}
use Rattle.bhv_life.specs.declared.outcome.BhvState.TheVariants.{Idle, Running, Active, Completed}
use Rattle.bhv_life.specs.declared.outcome.Outcome.{Outcome}
use Rattle.bhv_life.specs.declared.outcome.Phase.{Phase}
use Rattle.bhv_life.specs.declared.outcome.Phase.TheVariants.{Idle as IdlePhase, Run, TimedOut, Completed as CompletedPhase}
use Rattle.bhv_life.specs.Lives.{BhvPast, BhvTurn, can_run, completes_at, first_run, first_stamp, has_completed, is_fresh, is_in_time, is_stepped, latest_stamp, passed_at, past_of, phase_at, runs_at, since_completion, state_after, state_at, time_run, turn_after, was_stepped, with_turn}
use Rattle.bhv_life.specs.Outcomes.{outcome_of}
use Rattle.bhv_life.specs.Phases.{completes_in, runs_in, state_in, steps_in}
use Rattle.bhv_life.specs.Standing.{Keeps, span_from}

-- one turn more is told by the turns before
pub past_push : (common : Common) (turns : List BhvTurn) (turn : BhvTurn) → past_of common (turns ++ turn ∷ []) ≡ past_of common turns ++ turn_after common (past_of common turns) turn ∷ []
past_push common turns turn = fold_push (with_turn common) [] turns turn

suffix_push : {X : Type 0} (p : X → Bool) (xs : List X) (x : X) → suffix_len p (xs ++ x ∷ []) ≡ (if p x then 1 + suffix_len p xs else 0)
suffix_push p xs x = rw (reverse-append xs (x ∷ [])) refl

-- after an element that passes nothing stands, and another one joins what stands there
after_last_push : {X : Type 0} (p : X → Bool) (xs : List X) (x : X) → after_last p (xs ++ x ∷ []) ≡ (if p x then [] else after_last p xs ++ x ∷ [])
after_last_push p xs x = rw (suffix_push (λ y. not (p y)) xs x, length-append xs (x ∷ [])) (by (p x) refl)
  where
    by : (b : Bool) → p x ≡ b → drop (length xs + 1 - (if not b then 1 + suffix_len (λ y. not (p y)) xs else 0)) (xs ++ x ∷ []) ≡ (if b then [] else after_last p xs ++ x ∷ [])
    by true e = drop_of_length-le (xs ++ x ∷ []) (rw (length-append xs (x ∷ [])) (omega arith))
    by false e = subst (λ n. drop n (xs ++ x ∷ []) ≡ after_last p xs ++ x ∷ []) (omega arith) (drop-append-le (length xs - suffix_len (λ y. not (p y)) xs) xs (x ∷ []) (omega arith))

first_push : (turns : List BhvPast) (one : BhvPast) (stamp : ℕ) → first_stamp (turns ++ one ∷ []) stamp ≡ first_stamp turns one.stamp
first_push [] one stamp = refl
first_push (first ∷ later) one stamp = refl

-- the time that ran grows by the last span
time_push : (turns : List BhvPast) (one : BhvPast) (stamp : ℕ) → time_run (turns ++ one ∷ []) stamp ≡ time_run turns one.stamp + (if one.ran then stamp - one.stamp else 0)
time_push [] one stamp = grind arith
time_push (first ∷ later) one stamp = rw (first_push later one stamp, time_push later one stamp) (grind arith)

-- the first turn that ran is one of those before, or else the last
run_or : (o : Option BhvPast) (one : BhvPast) → option_map (λ (x : BhvPast). x.stamp) (option_or o (if one.ran then Some one else None)) ≡ option_or (option_map (λ (x : BhvPast). x.stamp) o) (if one.ran then Some one.stamp else None)
run_or None one = by one.ran
  where
    by : (b : Bool) → option_map (λ (x : BhvPast). x.stamp) (if b then Some one else None) ≡ (if b then Some one.stamp else None)
    by true = refl
    by false = refl
run_or (Some first) one = refl

first_run-push : (turns : List BhvPast) (one : BhvPast) → first_run (turns ++ one ∷ []) ≡ option_or (first_run turns) (if one.ran then Some one.stamp else None)
first_run-push turns one = ap (option_map (λ (x : BhvPast). x.stamp)) (find-append (λ (x : BhvPast). x.ran) turns (one ∷ [])) ∙ run_or (find (λ (x : BhvPast). x.ran) turns) one

-- what is told of the last turn
last_push : {A : Type 0} (f : BhvPast → A) (o : Option A) (past : List BhvPast) (one : BhvPast) → last_or o (map f (past ++ one ∷ [])) ≡ Some (f one)
last_push f o [] one = refl
last_push f o (first ∷ later) one = last_push f (Some (f first)) later one

state_push : (past : List BhvPast) (one : BhvPast) → state_after (past ++ one ∷ []) ≡ one.outcome.now
state_push past one = ap (λ o. unwrap_or o Idle) (last_push (λ one. one.outcome.now) None past one)

stepped_push : (past : List BhvPast) (one : BhvPast) → was_stepped (past ++ one ∷ []) ≡ one.stepped
stepped_push past one = ap (λ o. unwrap_or o false) (last_push (λ one. one.stepped) None past one)

stamp_push : (past : List BhvPast) (one : BhvPast) → latest_stamp (past ++ one ∷ []) ≡ one.stamp
stamp_push past one = ap (λ o. unwrap_or o 0) (last_push (λ one. one.stamp) None past one)

completed_push : (past : List BhvPast) (one : BhvPast) → has_completed (past ++ one ∷ []) ≡ (has_completed past || one.outcome.ended)
completed_push past one = list_any-append (λ (x : BhvPast). x.outcome.ended) past (one ∷ []) ∙ by (has_completed past) one.outcome.ended
  where
    by : (a b : Bool) → (a || (b || false)) ≡ (a || b)
    by true b = refl
    by false true = refl
    by false false = refl

-- the life with a turn in which the behaviour completed
pub keeps_ended : (past : List BhvPast) (one : BhvPast) (life : Life) → one.outcome.ended ≡ true → one.outcome.now ≡ life.state → one.stepped ≡ life.stepped
    → life.completed ≡ true → life.since ≡ None → life.time ≡ 0 → life.running ≡ None → Keeps (past ++ one ∷ []) life
keeps_ended past one life ended now stepped completed since time running =
    let none : since_completion (past ++ one ∷ []) ≡ [] = after_last_push (λ (x : BhvPast). x.outcome.ended) past one ∙ rw ended refl in
    let all : has_completed (past ++ one ∷ []) ≡ true = completed_push past one ∙ rw ended (or_true (has_completed past)) in
    record {
      state = sym (state_push past one ∙ now);
      completed = completed ∙ sym all;
      stepped = sym (stepped_push past one ∙ stepped);
      since = since ∙ sym (ap first_run none);
      time = λ stamp later. ap (λ (xs : List BhvPast). time_run xs stamp) none ∙ rw (time, running) refl;
      bound = rw (time, running) (omega arith);
    }
  where
    or_true : (b : Bool) → (b || true) ≡ true
    or_true true = refl
    or_true false = refl

-- the time so far is no more than the stamp of the next turn
pub no_overflow : (past : List BhvPast) (life : Life) (stamp : ℕ) → Keeps past life → latest_stamp past ≤ stamp → life.time + span_from life.running stamp ≤ stamp
no_overflow past life stamp keeps later = by life.running keeps.bound
  where
    by : (o : Option ℕ) → life.time + span_from o (latest_stamp past) ≤ latest_stamp past → life.time + span_from o stamp ≤ stamp
    by None bound = omega arith
    by (Some from) bound = omega arith

span_if : (b : Bool) (from stamp : ℕ) → span_from (if b then Some from else None) stamp ≡ (if b then stamp - from else 0)
span_if true from stamp = refl
span_if false from stamp = refl

no_span : (b : Bool) (stamp : ℕ) → (if b then stamp - stamp else 0) ≡ 0
no_span true stamp = omega arith
no_span false stamp = refl

or_false : (b : Bool) → (b || false) ≡ b
or_false true = refl
or_false false = refl

-- the life with a turn in which it didn't
pub keeps_lasted : (past : List BhvPast) (one : BhvPast) (before life : Life) → Keeps past before → latest_stamp past ≤ one.stamp → one.outcome.ended ≡ false → one.outcome.now ≡ life.state → one.stepped ≡ life.stepped
    → life.completed ≡ before.completed → life.since ≡ option_or before.since (if one.ran then Some one.stamp else None) → life.time ≡ before.time + span_from before.running one.stamp → life.running ≡ (if one.ran then Some one.stamp else None)
    → Keeps (past ++ one ∷ []) life
keeps_lasted past one before life keeps later ended now stepped completed since time running =
    let parted : since_completion (past ++ one ∷ []) ≡ since_completion past ++ one ∷ [] = after_last_push (λ (x : BhvPast). x.outcome.ended) past one ∙ rw ended refl in
    let all : has_completed (past ++ one ∷ []) ≡ has_completed past = completed_push past one ∙ rw ended (or_false (has_completed past)) in
    let so_far : time_run (since_completion past) one.stamp ≡ life.time = keeps.time one.stamp later ∙ sym time in
    let span : (stamp : ℕ) → span_from life.running stamp ≡ (if one.ran then stamp - one.stamp else 0) = λ stamp. ap (λ (o : Option ℕ). span_from o stamp) running ∙ span_if one.ran one.stamp stamp in
    let last : latest_stamp (past ++ one ∷ []) ≡ one.stamp = stamp_push past one in
    let few = no_overflow past before one.stamp keeps later in
    let whole : life.time + span_from life.running one.stamp ≤ one.stamp = omega (arith, span one.stamp, no_span one.ran one.stamp, time, few) in
    record {
      state = sym (state_push past one ∙ now);
      completed = completed ∙ keeps.completed ∙ sym all;
      stepped = sym (stepped_push past one ∙ stepped);
      since = since ∙ ap (λ (o : Option ℕ). option_or o (if one.ran then Some one.stamp else None)) keeps.since ∙ sym (ap first_run parted ∙ first_run-push (since_completion past) one);
      time = λ stamp above. ap (λ (xs : List BhvPast). time_run xs stamp) parted ∙ time_push (since_completion past) one stamp ∙ ap (λ (n : ℕ). n + (if one.ran then stamp - one.stamp else 0)) so_far ∙ ap (λ (n : ℕ). life.time + n) (sym (span stamp));
      bound = subst (λ (n : ℕ). life.time + span_from life.running n ≤ n) (sym last) whole;
    }

-- what a phase says of the turn
in_phase : (s r c f gave done : Bool) (phase : Phase) → (s ≡ true → r ≡ true) → (r ≡ true → c ≡ true) → phase ≡ (if s then Run f else if r then TimedOut else if c then IdlePhase else CompletedPhase)
    → (steps_in phase ≡ s) × (runs_in phase ≡ r) × (completes_in phase done ≡ (r && (done || not s)))
    × (state_in phase gave done ≡ (if (r && (done || not s)) || not c then Completed else if not r then Idle else if gave then Active else Running))
in_phase true true true f gave done phase sr rc is = rw is (refl, refl, by done, state done)
  where
    by : (done : Bool) → done ≡ (done || false)
    by true = refl
    by false = refl

    state : (done : Bool) → (if done then Completed else if gave then Active else Running) ≡ (if (done || false) || false then Completed else if gave then Active else Running)
    state true = refl
    state false = refl
in_phase true true false f gave done phase sr rc is = let none = rc refl in absurd (cc)
in_phase true false c f gave done phase sr rc is = let none = sr refl in absurd (cc)
in_phase false true true f gave true phase sr rc is = rw is (refl, refl, refl, refl)
in_phase false true true f gave false phase sr rc is = rw is (refl, refl, refl, refl)
in_phase false true false f gave done phase sr rc is = let none = rc refl in absurd (cc)
in_phase false false true f gave done phase sr rc is = rw is (refl, refl, refl, refl)
in_phase false false false f gave done phase sr rc is = rw is (refl, refl, refl, refl)

-- the parts of a turn by its phase
pub turn_in_phase : (common : Common) (past : List BhvPast) (turn : BhvTurn) (phase : Phase) → phase ≡ phase_at common past turn.start
    → (steps_in phase ≡ is_stepped common past turn.start) × (runs_in phase ≡ runs_at common past turn.start) × (completes_in phase turn.done ≡ completes_at common past turn)
    × (state_in phase turn.gave turn.done ≡ state_at common past turn)
turn_in_phase common past turn phase is =
    let stepped : is_stepped common past turn.start ≡ true → runs_at common past turn.start ≡ true = λ e. (and_parts (runs_at common past turn.start) (is_in_time common.duration (passed_at common past turn.start.stamp)) e).0 in
    let runs : runs_at common past turn.start ≡ true → can_run common past ≡ true = λ e. (and_parts (not turn.start.parked && turn.start.held) (can_run common past) e).1 in
    in_phase (is_stepped common past turn.start) (runs_at common past turn.start) (can_run common past) (is_fresh past) turn.gave turn.done phase stepped runs is

-- an outcome by equal states
pub same_outcome : (r : Outcome) (a b n m : BhvState) (e f : Bool) → r ≡ outcome_of a n e → a ≡ b → n ≡ m → e ≡ f → r ≡ outcome_of b m f
same_outcome r a b n m e f is before now ended = is ∙ ap (λ (s : BhvState). outcome_of s n e) before ∙ ap (λ (s : BhvState). outcome_of b s e) now ∙ ap (outcome_of b m) ended
