-- No two behaviours of the list have one name, and one whose contact is clear for good leaves it.
use Rattle.std.proofs.Common.{◌≡◌, ℕ, zero, suc, ◌+◌, ◌≤◌, Bool, true, false, cond, not, ◌&&◌, ◌||◌, if◌then◌else◌, List, [], ◌∷◌, ◌++◌, map, length, Some, None, refl, ap, sym, subst, ◌∙◌, arith}
use Rattle.std.specs.Prelude.{bytes_eq, is_some, nat_lt, position, slice_get, slice_set}
use Rattle.std.specs.List.{AllByRecursion as Each, count_by, filter, list_any, position_or_len}
use Rattle.std.proofs.lemmas.Bool.{and_parts}
use Rattle.std.proofs.lemmas.Bool.Decides.{nat_tests}
use Rattle.std.proofs.lemmas.List.Sums.{sum_by-cons}
use Rattle.std.proofs.lemmas.Slice.Eq.{bytes_eq-Decides}
use Rattle.moos_io.proofs.Lists.{each_append, each_at}
use Rattle.ivp_domain.specs.declared.axis.Axis.{Axis}
use Rattle.bhv_file.specs.declared.file.Block.{Block}
use Rattle.bhv_file.specs.declared.spec.Avoidance.{Avoidance}
use Rattle.bhv_file.specs.declared.spec.Shape.{Shape}
use Rattle.bhv_file.specs.declared.spec.Shape.TheVariants.{AvoidCollision}
use Rattle.bhv_file.specs.Validity.{AreBlocks, is_taken}
use Rattle.bhv_file.specs.declared.spec.Spec.{Spec}
use Rattle.bhv_kinds.specs.Giving.{all_done, given_here, gives_by_type, keeping_clear, out_at, situation_at}
use Rattle.bhv_kinds.specs.Changes.{KindStep, KindChange, params_at, step_of}
use Rattle.bhv_life.specs.Lives.{BhvPast, has_completed, is_fresh, is_in_time, is_stepped, passed_at, past_of, runs_at, turn_after}
use Rattle.bhv_life.proofs.Turning.{past_push}
use Rattle.helm_core.specs.Behaviors.{TurnSoFar, BhvSoFar, Judged, all_begun, begun_at, begun_by_step, beginning_at, bhv_after, has_fault, judged_at, past_so_far, turn_at, unstarted}
use Rattle.helm_core.specs.Lists.{first_list, list_at, list_before, spawned_in, stays}
use Rattle.helm_core.specs.Names.{OneOfEachContact, ResolvedLeave, ValidFilesNameOnce, clear_of, count_named}
use Rattle.helm_core.specs.Plans.{Plan, is_template, plan_made}
use Rattle.helm_core.specs.Templates.{bears_name, changed_by, made_from}
use Rattle.helm_core.specs.Ticks.{Seen, Tick, seen_at}
use Rattle.helm_core.proofs.Letters.{LastsLetters, next_birth, spawned_last}
use Rattle.helm_core.proofs.Listing.{any_block, begun_same, each_filtered, each_set}

-- a name isn't that of a behaviour
abbrev IsFree : List ℕ → BhvSoFar → Type 0
IsFree name one = one.name ≡ name → ⊥

-- each behaviour's name isn't that of a later one
abbrev AreApart : List BhvSoFar → Type 0
AreApart [] = Unit {0}
AreApart (one ∷ rest) = Each (IsFree one.name) rest × AreApart rest

-- a name that stands nowhere is free
long_free : {X : Type 0} (p : X → Bool) (xs : List X) → length xs ≤ position_or_len p xs → Each (λ x. p x ≡ false) xs
long_free p [] long = tt
long_free p (x ∷ xs) long = by (p x) refl long (λ rest. long_free p xs rest)
  where
    by : (b : Bool) → p x ≡ b → suc (length xs) ≤ (if not b then 1 + position_or_len p xs else 0) → (length xs ≤ position_or_len p xs → Each (λ x. p x ≡ false) xs) → (p x ≡ false) × Each (λ x. p x ≡ false) xs
    by true e long on = absurd (omega (arith, long))
    by false e long on = (e, on (omega (arith, long)))

none_long : {X : Type 0} (p : X → Bool) (xs : List X) → position p xs ≡ None → length xs ≤ position_or_len p xs
none_long p xs none = by (nat_lt (position_or_len p xs) (length xs)) refl none
  where
    by : (b : Bool) → nat_lt (position_or_len p xs) (length xs) ≡ b → (if b then Some (position_or_len p xs) else None) ≡ None → length xs ≤ position_or_len p xs
    by true e is = absurd (let no : Some (position_or_len p xs) ≡ None = is in cc)
    by false e is = grind (arith, nat_tests)

not_borne : (name : List ℕ) (ones : List BhvSoFar) → Each (λ one. bears_name name one ≡ false) ones → Each (IsFree name) ones
not_borne name [] all = tt
not_borne name (one ∷ ones) all = (
  (λ same.
      let yes : bytes_eq one.name name ≡ true = (bytes_eq-Decides one.name name).1 same in
      let no : bytes_eq one.name name ≡ false = all.0 in
      absurd (let e : true ≡ false = sym yes ∙ no in cc)),
  not_borne name ones all.1,
)

all_free : (name : List ℕ) (ones : List BhvSoFar) → position (bears_name name) ones ≡ None → Each (IsFree name) ones
all_free name ones none = not_borne name ones (long_free (bears_name name) ones (none_long (bears_name name) ones none))

-- one more with a free name
apart_more : (ones : List BhvSoFar) (one : BhvSoFar) → Each (IsFree one.name) ones → AreApart ones → AreApart (ones ++ one ∷ [])
apart_more [] one free apart = (tt, tt)
apart_more (first ∷ ones) one free apart = (each_append (IsFree first.name) ones (one ∷ []) apart.0 ((λ same. free.0 (sym same)), tt), apart_more ones one free.1 apart.1)

-- another in the place of one of the same name
apart_set : (ones : List BhvSoFar) (place : ℕ) (one other : BhvSoFar) → slice_get ones place ≡ Some one → other.name ≡ one.name → AreApart ones → AreApart (slice_set ones place other)
apart_set [] place one other at same apart = apart
apart_set (first ∷ ones) zero one other at same apart =
    let e : Some first ≡ Some one = at in
    let is : first ≡ one = cc in
    (subst (λ (name : List ℕ). Each (IsFree name) ones) (ap (λ (it : BhvSoFar). it.name) is ∙ sym same) apart.0, apart.1)
apart_set (first ∷ ones) (suc place) one other at same apart =
    (each_set (IsFree first.name) ones place other apart.0 (subst (λ (name : List ℕ). name ≡ first.name → ⊥) (sym same) (each_at (IsFree first.name) ones place one apart.0 at)), apart_set ones place one other at same apart.1)

-- turns
free_after : (axes : List Axis) (seen : Seen) (fault : Bool) (name name' : List ℕ) (ones : List BhvSoFar) → name' ≡ name → Each (IsFree name) ones → Each (IsFree name') (map (bhv_after seen fault) (map (begun_at axes seen) ones))
free_after axes seen fault name name' [] same all = tt
free_after axes seen fault name name' (one ∷ ones) same all =
    ((λ is. all.0 (sym (begun_same axes seen one).0 ∙ is ∙ same)), free_after axes seen fault name name' ones same all.1)

apart_after : (axes : List Axis) (seen : Seen) (fault : Bool) (ones : List BhvSoFar) → AreApart ones → AreApart (map (bhv_after seen fault) (map (begun_at axes seen) ones))
apart_after axes seen fault [] apart = tt
apart_after axes seen fault (one ∷ ones) apart = (free_after axes seen fault one.name _ ones (begun_same axes seen one).0 apart.0, apart_after axes seen fault ones apart.1)

-- some leave
apart_filtered : (test : BhvSoFar → Bool) (ones : List BhvSoFar) → AreApart ones → AreApart (filter test ones)
apart_filtered test [] apart = tt
apart_filtered test (one ∷ ones) apart = by (test one) (apart_filtered test ones apart.1)
  where
    by : (b : Bool) → AreApart (filter test ones) → AreApart (cond b (one ∷ filter test ones) (filter test ones))
    by true rest = (each_filtered (IsFree one.name) test ones apart.0, rest)
    by false rest = rest

-- the behaviours of the file
or_last : (b : Bool) → (b || true) ≡ true
or_last true = refl
or_last false = refl

still_taken : (earlier : List Block) (block : Block) (name : List ℕ) → is_taken earlier name ≡ true → is_taken (earlier ++ block ∷ []) name ≡ true
still_taken [] block name taken = absurd (let e : false ≡ true = taken in cc)
still_taken (first ∷ earlier) block name taken = by (bytes_eq first.common.name name) taken (λ is. still_taken earlier block name is)
  where
    by : (b : Bool) → (b || is_taken earlier name) ≡ true → (is_taken earlier name ≡ true → is_taken (earlier ++ block ∷ []) name ≡ true) → (b || is_taken (earlier ++ block ∷ []) name) ≡ true
    by true is on = refl
    by false is on = on is

now_taken : (earlier : List Block) (block : Block) → is_taken (earlier ++ block ∷ []) block.common.name ≡ true
now_taken [] block = ap (λ (b : Bool). b || false) ((bytes_eq-Decides block.common.name block.common.name).1 refl)
now_taken (first ∷ earlier) block = ap (λ (rest : Bool). bytes_eq first.common.name block.common.name || rest) (now_taken earlier block) ∙ or_last (bytes_eq first.common.name block.common.name)

free_in_file : (name : List ℕ) (earlier blocks : List Block) → AreBlocks earlier blocks → is_taken earlier name ≡ true → Each (IsFree name) (map unstarted blocks)
free_in_file name earlier [] valid taken = tt
free_in_file name earlier (block ∷ blocks) valid taken = (
  (λ same.
      let free : is_taken earlier name ≡ false = subst (λ (n : List ℕ). is_taken earlier n ≡ false) same valid.0.named in
      absurd (let e : true ≡ false = sym taken ∙ free in cc)),
  free_in_file name (earlier ++ block ∷ []) blocks valid.1 (still_taken earlier block name taken),
)

apart_in_file : (earlier blocks : List Block) → AreBlocks earlier blocks → AreApart (map unstarted blocks)
apart_in_file earlier [] valid = tt
apart_in_file earlier (block ∷ blocks) valid = (free_in_file block.common.name (earlier ++ block ∷ []) blocks valid.1 (now_taken earlier block), apart_in_file (earlier ++ block ∷ []) blocks valid.1)

mapped_filtered : (test : Block → Bool) (on : BhvSoFar → Bool) → ((block : Block) → on (unstarted block) ≡ test block) → (blocks : List Block) → filter on (map unstarted blocks) ≡ map unstarted (filter test blocks)
mapped_filtered test on same [] = refl
mapped_filtered test on same (block ∷ blocks) = ap (λ (b : Bool). cond b (unstarted block ∷ filter on (map unstarted blocks)) (filter on (map unstarted blocks))) (same block) ∙ by (test block) (mapped_filtered test on same blocks)
  where
    by : (b : Bool) → filter on (map unstarted blocks) ≡ map unstarted (filter test blocks) → cond b (unstarted block ∷ filter on (map unstarted blocks)) (filter on (map unstarted blocks)) ≡ map unstarted (cond b (block ∷ filter test blocks) (filter test blocks))
    by true rest = ap (λ (list : List BhvSoFar). unstarted block ∷ list) rest
    by false rest = rest

apart_first : (blocks : List Block) → AreBlocks [] blocks → AreApart (first_list blocks)
apart_first blocks valid =
    subst AreApart (mapped_filtered (λ (block : Block). not (is_template block)) (λ (one : BhvSoFar). not (is_template one.block)) (λ block. refl) blocks)
    (apart_filtered (λ (one : BhvSoFar). not (is_template one.block)) (map unstarted blocks) (apart_in_file [] blocks valid))

-- letters
letters_apart : (axes : List Axis) (blocks : List Block) (at : ℕ) → LastsLetters axes blocks at (λ block. Unit {0}) (λ so_far. AreApart so_far.ones)
letters_apart axes blocks at = record {
  refuses = λ template so_far q apart. apart;
  makes = λ template so_far said q named room free apart. apart_more so_far.ones (made_from axes template (next_birth at so_far) said) (all_free said.name so_far.ones free) apart;
  changes = λ template so_far said place one q there apart. apart_set so_far.ones place one (changed_by axes said one) there refl apart;
}

spawned_apart : (plan : Plan) (ticks : List Tick) (i : ℕ) (ones : List BhvSoFar) → AreApart ones → AreApart (spawned_in plan ticks i ones).ones
spawned_apart plan ticks i ones apart = spawned_last plan.axes plan.blocks i (λ block. Unit {0}) (λ so_far. AreApart so_far.ones) (letters_apart plan.axes plan.blocks i) (seen_at plan.decls ticks i).letters ones (any_block plan.blocks) apart

before_apart : (plan : Plan) (ticks : List Tick) (i : ℕ) → AreBlocks [] plan.blocks → AreApart (list_before plan ticks i)
before_apart plan ticks zero valid = apart_first plan.blocks valid
before_apart plan ticks (suc i) valid =
    let seen = seen_at plan.decls ticks i in
    let ones = (spawned_in plan ticks i (list_before plan ticks i)).ones in
    let fault = list_any has_fault (all_begun plan.axes seen ones) in
    apart_filtered stays (map (bhv_after seen fault) (all_begun plan.axes seen ones)) (apart_after plan.axes seen fault ones (spawned_apart plan ticks i (list_before plan ticks i) (before_apart plan ticks i valid)))

-- so at most one has a name
count_next : {X : Type 0} (p : X → Bool) (x : X) (xs : List X) → count_by p (x ∷ xs) ≡ cond (p x) 1 0 + count_by p xs
count_next p x xs = sum_by-cons (λ it. cond (p it) 1 0) x xs

none_named : (name : List ℕ) (ones : List BhvSoFar) → Each (IsFree name) ones → count_named name ones ≡ 0
none_named name [] free = refl
none_named name (one ∷ ones) free =
    count_next (bears_name name) one ones ∙ by (bytes_eq one.name name) refl (none_named name ones free.1)
  where
    by : (b : Bool) → bytes_eq one.name name ≡ b → count_named name ones ≡ 0 → cond b 1 0 + count_named name ones ≡ 0
    by true same none = absurd (free.0 ((bytes_eq-Decides one.name name).0 same))
    by false other none = omega (arith, none)

one_named : (name : List ℕ) (ones : List BhvSoFar) → AreApart ones → count_named name ones ≤ 1
one_named name [] apart = let none : count_named name [] ≡ 0 = refl in omega (arith, none)
one_named name (one ∷ ones) apart = by (bytes_eq one.name name) refl (count_next (bears_name name) one ones) (one_named name ones apart.1)
  where
    by : (b : Bool) → bytes_eq one.name name ≡ b → count_named name (one ∷ ones) ≡ cond b 1 0 + count_named name ones → count_named name ones ≤ 1 → count_named name (one ∷ ones) ≤ 1
    by true same long few =
        let none : count_named name ones ≡ 0 = none_named name ones (subst (λ (n : List ℕ). Each (IsFree n) ones) ((bytes_eq-Decides one.name name).0 same) apart.0) in
        omega (arith, long, none)
    by false other long few = omega (arith, long, few)

pub named_once : ValidFilesNameOnce
named_once mission file valid ticks i name =
    let plan = plan_made mission file in
    one_named name (list_at plan ticks i) (spawned_apart plan ticks i (list_before plan ticks i) (before_apart plan ticks i valid.blocks))

pub contacts_once : OneOfEachContact
contacts_once mission file valid ticks i contact = named_once mission file valid ticks i (clear_of contact)

-- a step of one whose contact is clear for good is done
done_of : (axes : List Axis) (spec : Spec) (changes : List KindChange) (step : KindStep) (avoidance : Avoidance) → (params_at spec changes).shape ≡ AvoidCollision avoidance → avoidance.resolved ≡ true → (out_at spec changes step).done ≡ true
done_of axes spec changes step avoidance of resolved =
    let found = situation_at spec changes step in
    ap (λ (shape : Shape). (gives_by_type shape step.known found).done) of
    ∙ ap (λ (b : Bool). (if b then all_done else given_here (keeping_clear avoidance) found.here).done) resolved

completed_last : (past : List BhvPast) (one : BhvPast) → one.outcome.ended ≡ true → has_completed (past ++ one ∷ []) ≡ true
completed_last [] one ended = ap (λ (b : Bool). b || false) ended
completed_last (first ∷ past) one ended = ap (λ (rest : Bool). first.outcome.ended || rest) (completed_last past one ended) ∙ or_last first.outcome.ended

-- and one that a letter made leaves the list behind it
leaves : (seen : Seen) (fault : Bool) (begun : TurnSoFar) → is_some begun.standing.born ≡ true → begun.standing.block.common.perpetual ≡ false
    → runs_at begun.standing.block.common (past_so_far begun.standing) (beginning_at seen begun.standing.block.common) ≡ true → begun.out.done ≡ true → stays (bhv_after seen fault begun) ≡ false
leaves seen fault begun made once runs done =
    let common = begun.standing.block.common in
    let past = past_so_far begun.standing in
    let turn = turn_at seen fault begun in
    let ended : (turn_after common past turn).outcome.ended ≡ true
    = ap (λ (b : Bool). b && (begun.out.done || not (is_stepped common past turn.start))) runs ∙ ap (λ (b : Bool). b || not (is_stepped common past turn.start)) done in
    let completed : has_completed (past_of common (begun.standing.lived ++ turn ∷ [])) ≡ true
    = ap has_completed (past_push common begun.standing.lived turn) ∙ completed_last past (turn_after common past turn) ended in
    ap (λ (b : Bool). not (b && not (common.perpetual || not (has_completed (past_of common (begun.standing.lived ++ turn ∷ [])))))) made
    ∙ ap (λ (b : Bool). not (not (b || not (has_completed (past_of common (begun.standing.lived ++ turn ∷ [])))))) once
    ∙ ap (λ (b : Bool). not (not (not b))) completed

resolved_step : (axes : List Axis) (seen : Seen) (fault : Bool) (one : BhvSoFar) (judged : Judged) (avoidance : Avoidance) (stepped : Bool) → is_some one.born ≡ true → one.block.common.perpetual ≡ false
    → (params_at one.block.spec judged.changes).shape ≡ AvoidCollision avoidance → avoidance.resolved ≡ true
    → runs_at one.block.common (past_so_far one) (beginning_at seen one.block.common) ≡ true → stepped ≡ true
    → ((begun_by_step axes seen one judged stepped).out.done ≡ true) × (stays (bhv_after seen fault (begun_by_step axes seen one judged stepped)) ≡ false)
resolved_step axes seen fault one judged avoidance true made once of resolved runs is =
    let done = done_of axes one.block.spec judged.changes (step_of axes seen.known seen.stamp (is_fresh (past_so_far one))) avoidance of resolved in
    (done, leaves seen fault (begun_by_step axes seen one judged true) made once runs done)
resolved_step axes seen fault one judged avoidance false made once of resolved runs is = absurd (let e : false ≡ true = is in cc)

pub resolved_leave : ResolvedLeave
resolved_leave axes seen fault one avoidance made once of resolved stepped =
    let common = one.block.common in
    let runs = (and_parts (runs_at common (past_so_far one) (beginning_at seen common)) (is_in_time common.duration (passed_at common (past_so_far one) seen.stamp)) stepped).0 in
    resolved_step axes seen fault one (judged_at axes seen one) avoidance (is_stepped common (past_so_far one) (beginning_at seen common)) made once of resolved runs stepped
