-- A behaviour is stepped in the first turn in which it runs: no time has passed then.
use Rattle.std.proofs.Common.{◌≡◌, ◌<◌, ◌-◌, ◌+◌, ℕ, zero, suc, Bool, true, false, ◌&&◌, cond, List, [], ◌∷◌, drop, Option, Some, None, refl, ap, sym, ◌∙◌, arith}
use Rattle.std.specs.Prelude.{IfSome, if◌then◌else◌, nat_lt, option_map, fold, unwrap_or}
use Rattle.std.specs.List.{find}
use Rattle.std.specs.Option.{option_or}
use Rattle.std.proofs.lemmas.Bool.Decides.{nat_tests}
use Rattle.std.proofs.lemmas.List.Folds.{find-append}
use Rattle.bhv_file.specs.declared.common.Common.{Common}
use Rattle.bhv_life.specs.Lives.{BhvPast, BhvTurn, first_stamp, is_in_time, is_stepped, passed_at, runs_at, since_completion, time_run, time_since_run, turn_after, with_turn}
use Rattle.bhv_life.specs.Runs.{FirstRunIsStepped, MayLast, NoTimeNoStep}

-- what isn't among all isn't among the last of them
none_dropped : {X : Type 0} (test : X → Bool) (n : ℕ) (xs : List X) → find test xs ≡ None → find test (drop n xs) ≡ None
none_dropped test zero xs none = none
none_dropped test (suc n) [] none = refl
none_dropped {X} test (suc n) (x ∷ xs) none = by (test x) none (none_dropped test n xs)
  where
    by : (b : Bool) → cond b (Some x) (find test xs) ≡ None → (find test xs ≡ None → find test (drop n xs) ≡ None) → find test (drop n xs) ≡ None
    by true e rest = absurd cc
    by false e rest = rest e

-- where no turn ran no time passed
no_time : (turns : List BhvPast) (stamp : ℕ) → find (λ one. one.ran) turns ≡ None → time_run turns stamp ≡ 0
no_time [] stamp none = refl
no_time (one ∷ later) stamp none = by one.ran none (no_time later stamp)
  where
    by : (b : Bool) → cond b (Some one) (find (λ (one : BhvPast). one.ran) later) ≡ None → (find (λ (one : BhvPast). one.ran) later ≡ None → time_run later stamp ≡ 0)
        → (if b then first_stamp later stamp - one.stamp else 0) + time_run later stamp ≡ 0
    by true e rest = absurd cc
    by false e rest = let none = rest e in omega (arith, none)

no_time_since : (turns : List BhvPast) (stamp : ℕ) → find (λ one. one.ran) turns ≡ None → time_since_run turns stamp ≡ 0
no_time_since turns stamp none = ap (λ (o : Option BhvPast). stamp - unwrap_or (option_map (λ (one : BhvPast). one.stamp) o) stamp) none ∙ omega arith

none_passed : (common : Common) (past : List BhvPast) (stamp : ℕ) → find (λ one. one.ran) past ≡ None → passed_at common past stamp ≡ 0
none_passed common past stamp none =
    by common.idle_decay (none_dropped (λ one. one.ran) _ past none)
  where
    by : (b : Bool) → find (λ one. one.ran) (since_completion past) ≡ None → (if b then time_since_run (since_completion past) stamp else time_run (since_completion past) stamp) ≡ 0
    by true left = no_time_since (since_completion past) stamp left
    by false left = no_time (since_completion past) stamp left

in_time : (duration : Option ℕ) → IfSome duration (λ time. 0 < time) → is_in_time duration 0 ≡ true
in_time None lasts = refl
in_time (Some time) lasts = grind (arith, nat_tests)

-- so it is stepped where it runs for the first time
stepped_first : (common : Common) (past : List BhvPast) (turn : BhvTurn) → MayLast common → find (λ one. one.ran) past ≡ None → is_stepped common past turn.start ≡ runs_at common past turn.start
stepped_first common past turn lasts none =
    ap (λ (time : ℕ). runs_at common past turn.start && is_in_time common.duration time) (none_passed common past turn.start.stamp none)
    ∙ ap (λ (b : Bool). runs_at common past turn.start && b) (in_time common.duration lasts) ∙ whole (runs_at common past turn.start)
  where
    whole : (b : Bool) → (b && true) ≡ b
    whole true = refl
    whole false = refl

-- the first turn with a step is the first that ran
abbrev Agree : List BhvPast → Type 0
Agree past = find (λ one. one.stepped) past ≡ find (λ one. one.ran) past

turn_agrees : (common : Common) (past : List BhvPast) (turn : BhvTurn) → MayLast common → Agree past → Agree (with_turn common past turn)
turn_agrees common past turn lasts agree =
    let one = turn_after common past turn in
    find-append (λ (one : BhvPast). one.stepped) past (one ∷ []) ∙ ap (λ (o : Option BhvPast). option_or o (find (λ (one : BhvPast). one.stepped) (one ∷ []))) agree
    ∙ by (find (λ (one : BhvPast). one.ran) past) refl ∙ sym (find-append (λ (one : BhvPast). one.ran) past (one ∷ []))
  where
    by : (o : Option BhvPast) → find (λ (one : BhvPast). one.ran) past ≡ o → option_or o (find (λ (one : BhvPast). one.stepped) (turn_after common past turn ∷ [])) ≡ option_or o (find (λ (one : BhvPast). one.ran) (turn_after common past turn ∷ []))
    by None e = ap (λ (b : Bool). cond b (Some (turn_after common past turn)) None) (stepped_first common past turn lasts e)
    by (Some x) e = refl

all_agree : (common : Common) (past : List BhvPast) (turns : List BhvTurn) → MayLast common → Agree past → Agree (fold (with_turn common) past turns)
all_agree common past [] lasts agree = agree
all_agree common past (turn ∷ turns) lasts agree = all_agree common (with_turn common past turn) turns lasts (turn_agrees common past turn lasts agree)

pub first_run_stepped : FirstRunIsStepped
first_run_stepped common turns lasts = ap (option_map (λ (one : BhvPast). one.stamp)) (all_agree common [] turns lasts refl)

-- a behaviour of no time is never stepped
never_with : (common : Common) (past : List BhvPast) (turn : BhvTurn) → common.duration ≡ Some 0 → find (λ one. one.stepped) past ≡ None → find (λ one. one.stepped) (with_turn common past turn) ≡ None
never_with common past turn none before =
    find-append (λ (one : BhvPast). one.stepped) past (turn_after common past turn ∷ []) ∙ ap (λ (o : Option BhvPast). option_or o (find (λ (one : BhvPast). one.stepped) (turn_after common past turn ∷ []))) before
    ∙ ap (λ (b : Bool). cond b (Some (turn_after common past turn)) None) not_stepped
  where
    never : (b : Bool) (time : ℕ) → (b && nat_lt time 0) ≡ false
    never true time = grind (arith, nat_tests)
    never false time = refl

    not_stepped : is_stepped common past turn.start ≡ false
    not_stepped = ap (λ (d : Option ℕ). runs_at common past turn.start && is_in_time d (passed_at common past turn.start.stamp)) none ∙ never (runs_at common past turn.start) (passed_at common past turn.start.stamp)

all_never : (common : Common) (past : List BhvPast) (turns : List BhvTurn) → common.duration ≡ Some 0 → find (λ one. one.stepped) past ≡ None → find (λ one. one.stepped) (fold (with_turn common) past turns) ≡ None
all_never common past [] none before = before
all_never common past (turn ∷ turns) none before = all_never common (with_turn common past turn) turns none (never_with common past turn none before)

pub no_time_no_step : NoTimeNoStep
no_time_no_step common turns none = ap (option_map (λ (one : BhvPast). one.stamp)) (all_never common [] turns none refl)
