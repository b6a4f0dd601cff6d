-- A helm that stays parked raises no flags: each behaviour is idle, or completed for good, and stays so.
use Rattle.std.proofs.Common.{◌≡◌, ℕ, suc, Bool, true, false, not, ◌&&◌, ◌||◌, cond, List, [], ◌∷◌, ◌++◌, map, Option, None, Some, refl, sym, ap, subst, ◌∙◌}
use Rattle.std.specs.Prelude.{codes, unwrap_or}
use Rattle.std.specs.List.{AllByRecursion as Each, last_or, list_any}
use Rattle.std.proofs.lemmas.List.{append-nil}
use Rattle.std.proofs.lemmas.List.Folds.{list_any-append}
use Rattle.moos_io.proofs.Lists.{each_append, each_at}
use Rattle.moos_post.specs.declared.value.Pair.{Pair}
use Rattle.ivp_domain.specs.declared.axis.Axis.{Axis}
use Rattle.bhv_file.specs.declared.common.Common.{Common}
use Rattle.bhv_file.specs.declared.file.Block.{Block}
use Rattle.bhv_life.specs.declared.outcome.BhvState.{BhvState}
use Rattle.bhv_life.specs.declared.outcome.BhvState.TheVariants.{Active, Completed, Idle, Running}
use Rattle.bhv_life.specs.Lives.{BhvPast, BhvTurn, can_run, completes_at, is_stepped, runs_at, state_after, state_at, turn_after}
use Rattle.bhv_life.specs.Outcomes.{flags_at, outcome_of}
use Rattle.bhv_life.proofs.Turning.{past_push}
use Rattle.helm_core.specs.Behaviors.{BhvSoFar, Judged, all_begun, begun_at, begun_by_step, bhv_after, has_fault, judged_at, past_so_far, showing_of, turn_at}
use Rattle.helm_core.specs.Lists.{list_at, list_before, spawned_in, stays}
use Rattle.helm_core.specs.Plans.{Plan}
use Rattle.helm_core.specs.PastIterations.{PastIteration, past_iteration_at}
use Rattle.helm_core.specs.Iterations.{iteration_at}
use Rattle.helm_core.specs.Posts.{allstop_by, allstop_of, changed, desired_posts, flags_raised, mode_post, state_word}
use Rattle.helm_core.specs.Templates.{changed_by, made_from}
use Rattle.helm_core.specs.Ticks.{Seen, Tick, seen_at}
use Rattle.helm_core.proofs.Letters.{LastsLetters, next_birth, spawned_last}
use Rattle.helm_core.proofs.Listing.{any_block, each_filtered, each_set}
use Rattle.helm_laws.specs.Files.{OfEveryPlan}
use Rattle.helm_laws.specs.Overrides.{SilentWhileParked}
use Rattle.helm_laws.proofs.Overriding.{nothing_parked}

-- it rests: its state is idle, or it completed for good
abbrev RestsAfter : Common → List BhvPast → Type 0
RestsAfter common past = state_after past ≡ cond (can_run common past) Idle Completed

abbrev Rests : BhvSoFar → Type 0
Rests one = RestsAfter one.block.common (past_so_far one)

-- the state of one that doesn't run
state_still : (runs done other able : Bool) (gave : BhvState) → runs ≡ false → cond ((runs && (done || other)) || not able) Completed (cond (not runs) Idle gave) ≡ cond able Idle Completed
state_still true done other able gave is = absurd (let e : true ≡ false = is in cc)
state_still false done other true gave is = refl
state_still false done other false gave is = refl

and_still : (runs other : Bool) → runs ≡ false → (runs && other) ≡ false
and_still runs other is = rw is refl

-- a parked helm runs none
runs_none : (parked held able : Bool) → parked ≡ true → (not parked && held && able) ≡ false
runs_none true held able is = refl
runs_none false held able is = absurd (let e : false ≡ true = is in cc)

-- the state at the last turn
last_push : {A : Type 0} (f : BhvPast → A) (o : Option A) (past : List BhvPast) (one : BhvPast) → last_or o (map f (past ++ one ∷ [])) ≡ Some (f one)
last_push f o [] one = refl
last_push f o (first ∷ later) one = last_push f (Some (f first)) later one

able_push : (common : Common) (past : List BhvPast) (one : BhvPast) → one.outcome.ended ≡ false → can_run common (past ++ one ∷ []) ≡ can_run common past
able_push common past one is = ap (λ b. common.perpetual || not b) (list_any-append (λ (x : BhvPast). x.outcome.ended) past (one ∷ []) ∙ by (list_any (λ (x : BhvPast). x.outcome.ended) past))
  where
    by : (a : Bool) → (a || (one.outcome.ended || false)) ≡ a
    by true = refl
    by false = ap (λ b. b || false) is

still_state : (common : Common) (past : List BhvPast) (turn : BhvTurn) → runs_at common past turn.start ≡ false → state_at common past turn ≡ cond (can_run common past) Idle Completed
still_state common past turn is = state_still (runs_at common past turn.start) turn.done (not (is_stepped common past turn.start)) (can_run common past) (cond turn.gave Active Running) is

-- a parked turn leaves it at rest
rests_push : (common : Common) (past : List BhvPast) (turn : BhvTurn) → turn.start.parked ≡ true → RestsAfter common (past ++ turn_after common past turn ∷ [])
rests_push common past turn is =
    let still : runs_at common past turn.start ≡ false = runs_none turn.start.parked turn.start.held (can_run common past) is in
    let one = turn_after common past turn in
    ap (λ o. unwrap_or o Idle) (last_push (λ (x : BhvPast). x.outcome.now) None past one) ∙ still_state common past turn still
    ∙ ap (λ b. cond b Idle Completed) (sym (able_push common past one (and_still (runs_at common past turn.start) (turn.done || not (is_stepped common past turn.start)) still)))

rests_turned : (axes : List Axis) (seen : Seen) (fault : Bool) (one : BhvSoFar) (judged : Judged) (stepped : Bool) → seen.parked ≡ true → Rests (bhv_after seen fault (begun_by_step axes seen one judged stepped))
rests_turned axes seen fault one judged true is =
    subst (RestsAfter one.block.common) (sym (past_push one.block.common one.lived (turn_at seen fault (begun_by_step axes seen one judged true))))
    (rests_push one.block.common (past_so_far one) (turn_at seen fault (begun_by_step axes seen one judged true)) is)
rests_turned axes seen fault one judged false is =
    subst (RestsAfter one.block.common) (sym (past_push one.block.common one.lived (turn_at seen fault (begun_by_step axes seen one judged false))))
    (rests_push one.block.common (past_so_far one) (turn_at seen fault (begun_by_step axes seen one judged false)) is)

each_rests : (axes : List Axis) (seen : Seen) (fault : Bool) (ones : List BhvSoFar) → seen.parked ≡ true → Each Rests (map (bhv_after seen fault) (map (begun_at axes seen) ones))
each_rests axes seen fault [] is = tt
each_rests axes seen fault (one ∷ ones) is = (rests_turned axes seen fault one _ _ is, each_rests axes seen fault ones is)

-- letters make behaviours that are idle, and change no state
letters_leave : (axes : List Axis) (blocks : List Block) (at : ℕ) → LastsLetters axes blocks at (λ block. Unit {0}) (λ so_far. Each Rests so_far.ones)
letters_leave axes blocks at = record {
  refuses = λ template so_far q all. all;
  makes = λ template so_far said q named room free all. each_append Rests so_far.ones (made_from axes template (next_birth at so_far) said ∷ []) all (made template.common.perpetual, tt);
  changes = λ template so_far said place one q there all. each_set Rests so_far.ones place (changed_by axes said one) all (each_at Rests so_far.ones place one all there);
}
  where
    made : (perpetual : Bool) → Idle ≡ cond (perpetual || true) Idle Completed
    made true = refl
    made false = refl

-- so all rest in the iteration behind a parked one
all_rest : (plan : Plan) (ticks : List Tick) (i : ℕ) → (iteration_at plan ticks i).parked ≡ true → Each Rests (list_at plan ticks (suc i))
all_rest plan ticks i is =
    let seen = seen_at plan.decls ticks i in
    let ones = (spawned_in plan ticks i (list_before plan ticks i)).ones in
    let all = all_begun plan.axes seen ones in
    spawned_last plan.axes plan.blocks (suc i) (λ block. Unit {0}) (λ so_far. Each Rests so_far.ones) (letters_leave plan.axes plan.blocks (suc i)) (seen_at plan.decls ticks (suc i)).letters (list_before plan ticks (suc i)) (any_block plan.blocks)
    (each_filtered Rests stays (map (bhv_after seen (list_any has_fault all)) all) (each_rests plan.axes seen (list_any has_fault all) ones is))

-- one that rests and rests on raises no flag
quiet : (common : Common) (able : Bool) → flags_at common (outcome_of (cond able Idle Completed) (cond able Idle Completed) false) ≡ []
quiet common true = refl
quiet common false = refl

quiet_turn : (common : Common) (past : List BhvPast) (turn : BhvTurn) → turn.start.parked ≡ true → RestsAfter common past → flags_at common (turn_after common past turn).outcome ≡ []
quiet_turn common past turn is rests =
    let still : runs_at common past turn.start ≡ false = runs_none turn.start.parked turn.start.held (can_run common past) is in
    let state = cond (can_run common past) Idle Completed in
    ap (λ (before : BhvState). flags_at common (outcome_of before (state_at common past turn) (completes_at common past turn))) rests
    ∙ ap (λ (after : BhvState). flags_at common (outcome_of state after (completes_at common past turn))) (still_state common past turn still)
    ∙ ap (λ (ended : Bool). flags_at common (outcome_of state state ended)) (and_still (runs_at common past turn.start) (turn.done || not (is_stepped common past turn.start)) still)
    ∙ quiet common (can_run common past)

quiet_one : (axes : List Axis) (seen : Seen) (fault : Bool) (one : BhvSoFar) (judged : Judged) (stepped : Bool) → seen.parked ≡ true → Rests one → (showing_of seen fault (begun_by_step axes seen one judged stepped)).flags ≡ []
quiet_one axes seen fault one judged true is rests = quiet_turn one.block.common (past_so_far one) (turn_at seen fault (begun_by_step axes seen one judged true)) is rests
quiet_one axes seen fault one judged false is rests = quiet_turn one.block.common (past_so_far one) (turn_at seen fault (begun_by_step axes seen one judged false)) is rests

quiet_all : (axes : List Axis) (seen : Seen) (fault : Bool) (ones : List BhvSoFar) → seen.parked ≡ true → Each Rests ones → flags_raised (map (showing_of seen fault) (map (begun_at axes seen) ones)) ≡ []
quiet_all axes seen fault [] is rest = refl
quiet_all axes seen fault (one ∷ ones) is rest =
    both (showing_of seen fault (begun_at axes seen one)).flags (flags_raised (map (showing_of seen fault) (map (begun_at axes seen) ones)))
    (quiet_one axes seen fault one (judged_at axes seen one) _ is rest.0) (quiet_all axes seen fault ones is rest.1)
  where
    both : (a b : List Pair) → a ≡ [] → b ≡ [] → a ++ b ≡ []
    both a b p q = rw (p, q) refl

-- what doesn't change isn't posted
same_state : (before now : Bool) → before ≡ true → now ≡ true → changed (codes "IVPHELM_STATE") (Some (state_word before)) (state_word now) ≡ []
same_state before now p q = rw (p, q) refl

same_reason : (plan : Plan) (was is : PastIteration) → was.seen.parked ≡ true → is.seen.parked ≡ true → changed (codes "IVPHELM_ALLSTOP") (Some (allstop_of plan was)) (allstop_of plan is) ≡ []
same_reason plan was is before now =
    ap (λ b. changed (codes "IVPHELM_ALLSTOP") (Some (allstop_by plan.axes b was.showings)) (allstop_of plan is)) before
    ∙ ap (λ b. changed (codes "IVPHELM_ALLSTOP") (Some (codes "ManualOverride")) (allstop_by plan.axes b is.showings)) now

five : (a b c d e wanted : List Pair) → a ≡ [] → c ≡ [] → d ≡ wanted → e ≡ [] → a ++ b ++ c ++ d ++ e ≡ b ++ wanted
five a b c d e wanted p q r s = rw (p, q, r, s) (ends b wanted)
  where
    ends : (b wanted : List Pair) → b ++ [] ++ wanted ++ [] ≡ b ++ wanted
    ends b wanted = append-nil (b ++ [] ++ wanted) ∙ ap (λ front. front ++ wanted) (append-nil b)

pub silent : OfEveryPlan SilentWhileParked
silent plan ticks i before now =
    let was = past_iteration_at plan ticks i in
    let is = past_iteration_at plan ticks (suc i) in
    let seen = seen_at plan.decls ticks (suc i) in
    let ones = list_at plan ticks (suc i) in
    five _ (mode_post plan (Some was) is) (flags_raised is.showings) (desired_posts plan.axes is.seen.parked is.showings) _ _
    (same_state was.seen.parked is.seen.parked before now)
    (quiet_all plan.axes seen (list_any has_fault (all_begun plan.axes seen ones)) ones now (all_rest plan ticks i before))
    (nothing_parked plan ticks (suc i) now).desires
    (same_reason plan was is before now)
