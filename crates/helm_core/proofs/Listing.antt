-- What holds of the behaviours of the list in each iteration.
use Rattle.std.proofs.Common.{◌≡◌, ℕ, zero, suc, ◌+◌, ◌≤◌, Bool, true, false, cond, not, ◌&&◌, List, [], ◌∷◌, ◌++◌, map, length, refl, ap, sym, subst, ◌∙◌, arith}
use Rattle.std.specs.Prelude.{IsTrue, nat_lt, slice_set}
use Rattle.std.specs.List.{AllByRecursion as Each, count_by, filter, list_any}
use Rattle.std.proofs.lemmas.Bool.Decides.{nat_tests}
use Rattle.std.proofs.lemmas.List.{length-append, length-set}
use Rattle.std.proofs.lemmas.List.Sums.{length-filter}
use Rattle.moos_io.proofs.Lists.{each_append, each_at}
use Rattle.moos_post.specs.Words.{is_name}
use Rattle.ivp_domain.specs.declared.axis.Axis.{Axis}
use Rattle.bhv_file.specs.declared.file.Block.{Block}
use Rattle.helm_core.specs.declared.named.NamedPairs.{NamedPairs}
use Rattle.helm_core.specs.Behaviors.{BhvSoFar, Birth, Judged, all_begun, begun_at, begun_by_step, bhv_after, has_fault, unstarted}
use Rattle.helm_core.specs.Lists.{first_list, list_at, list_before, spawned_in, stays}
use Rattle.helm_core.specs.Plans.{Plan, is_template}
use Rattle.helm_core.specs.Templates.{Spawning, changed_by, made_from}
use Rattle.helm_core.specs.Ticks.{Seen, Tick, seen_at}
use Rattle.helm_core.proofs.Letters.{LastsLetters, next_birth, spawned_last}

pub each_filtered : {X : Type 0} (P : X → Type 0) (test : X → Bool) (xs : List X) → Each P xs → Each P (filter test xs)
each_filtered P test [] all = tt
each_filtered P test (x ∷ xs) all = by (test x) (each_filtered P test xs all.1)
  where
    by : (b : Bool) → Each P (filter test xs) → Each P (cond b (x ∷ filter test xs) (filter test xs))
    by true rest = (all.0, rest)
    by false rest = rest

pub few_filtered : {X : Type 0} (test : X → Bool) (xs : List X) → length (filter test xs) ≤ length xs
few_filtered test [] = omega arith
few_filtered test (x ∷ xs) = by (test x) (few_filtered test xs)
  where
    by : (b : Bool) → length (filter test xs) ≤ length xs → length (cond b (x ∷ filter test xs) (filter test xs)) ≤ suc (length xs)
    by true few = omega arith
    by false few = omega arith

-- A turn changes neither a behaviour's name nor its block nor its birth.
abbrev pub IsSame : BhvSoFar → BhvSoFar → Type 0
IsSame one other = (other.name ≡ one.name) × (other.block ≡ one.block) × (other.born ≡ one.born)

step_same : (axes : List Axis) (seen : Seen) (one : BhvSoFar) (judged : Judged) (stepped : Bool) → IsSame one (begun_by_step axes seen one judged stepped).standing
step_same axes seen one judged true = (refl, refl, refl)
step_same axes seen one judged false = (refl, refl, refl)

pub begun_same : (axes : List Axis) (seen : Seen) (one : BhvSoFar) → IsSame one (begun_at axes seen one).standing
begun_same axes seen one = step_same axes seen one _ _

-- a turn more leaves what holds of a behaviour
abbrev pub LastsTurns : (BhvSoFar → Type 0) → Type 0
LastsTurns P = (axes : List Axis) (seen : Seen) (fault : Bool) (one : BhvSoFar) → P one → P (bhv_after seen fault (begun_at axes seen one))

pub each_after : (P : BhvSoFar → Type 0) → LastsTurns P → (axes : List Axis) (seen : Seen) (fault : Bool) (ones : List BhvSoFar) → Each P ones → Each P (map (bhv_after seen fault) (map (begun_at axes seen) ones))
each_after P lasts axes seen fault [] all = tt
each_after P lasts axes seen fault (one ∷ ones) all = (lasts axes seen fault one all.0, each_after P lasts axes seen fault ones all.1)

-- what holds of a behaviour: letters and turns leave it, and it holds of one that a letter makes of a template of which this holds
pub record Lasts (Q : Block → Type 0) (P : BhvSoFar → Type 0) : Type 0 where
  pub ended : LastsTurns P
  pub made : (axes : List Axis) (template : Block) (birth : Birth) (said : NamedPairs) → Q template → IsTrue (is_name said.name) → P (made_from axes template birth said)
  pub changed : (axes : List Axis) (said : NamedPairs) (one : BhvSoFar) → P one → P (changed_by axes said one)

pub each_set : {X : Type 0} (P : X → Type 0) (xs : List X) (k : ℕ) (x : X) → Each P xs → P x → Each P (slice_set xs k x)
each_set P [] k x all is = tt
each_set P (first ∷ xs) zero x all is = (is, all.1)
each_set P (first ∷ xs) (suc k) x all is = (all.0, each_set P xs k x all.1 is)

module _ (Q : Block → Type 0) (P : BhvSoFar → Type 0) (lasts : Lasts Q P) (plan : Plan) (ticks : List Tick) (blocks_are : Each Q plan.blocks) (first : Each P (first_list plan.blocks)) where
  abbrev Holds : Spawning → Type 0
  Holds so_far = Each P so_far.ones

  letters_leave : (at : ℕ) → LastsLetters plan.axes plan.blocks at Q Holds
  letters_leave at = record {
    refuses = λ template so_far q all. all;
    makes = λ template so_far said q named room free all. each_append P so_far.ones (made_from plan.axes template (next_birth at so_far) said ∷ []) all (lasts.made plan.axes template (next_birth at so_far) said q named, tt);
    changes = λ template so_far said place one q there all. each_set P so_far.ones place (changed_by plan.axes said one) all (lasts.changed plan.axes said one (each_at P so_far.ones place one all there));
  }

  spawned_keeps : (i : ℕ) (ones : List BhvSoFar) → Each P ones → Each P (spawned_in plan ticks i ones).ones
  spawned_keeps i ones all = spawned_last plan.axes plan.blocks i Q Holds (letters_leave i) (seen_at plan.decls ticks i).letters ones blocks_are all

  -- What holds of the file's behaviours before the first iteration, and what letters and turns leave, holds of the list.
  pub before_keeps : (i : ℕ) → Each P (list_before plan ticks i)
  before_keeps zero = first
  before_keeps (suc i) =
      let seen = seen_at plan.decls ticks i in
      let ones = (spawned_in plan ticks i (list_before plan ticks i)).ones in
      let all = all_begun plan.axes seen ones in
      each_filtered P stays (map (bhv_after seen (list_any has_fault all)) all)
      (each_after P lasts.ended plan.axes seen (list_any has_fault all) ones (spawned_keeps i (list_before plan ticks i) (before_keeps i)))

  pub list_keeps : (i : ℕ) → Each P (list_at plan ticks i)
  list_keeps i = spawned_keeps i (list_before plan ticks i) (before_keeps i)

-- the blocks of the file's behaviours are blocks of the file
pub each_first : (P : BhvSoFar → Type 0) (blocks : List Block) → Each (λ block. P (unstarted block)) blocks → Each P (first_list blocks)
each_first P blocks all = mapped (filter (λ (block : Block). not (is_template block)) blocks) (each_filtered (λ block. P (unstarted block)) (λ (block : Block). not (is_template block)) blocks all)
  where
    mapped : (some : List Block) → Each (λ block. P (unstarted block)) some → Each P (map unstarted some)
    mapped [] each = tt
    mapped (block ∷ some) each = (each.0, mapped some each.1)

-- each block of the list is one of the file
block_lasts : (P : Block → Type 0) → Lasts P (λ one. P one.block)
block_lasts P = record {
  ended = λ axes seen fault one holds. subst P (sym (begun_same axes seen one).1) holds;
  made = λ axes template birth said q named. q;
  changed = λ axes said one holds. holds;
}

pub blocks_hold : (P : Block → Type 0) (plan : Plan) (ticks : List Tick) (i : ℕ) → Each P plan.blocks → Each (λ one. P one.block) (list_at plan ticks i)
blocks_hold P plan ticks i all = list_keeps P (λ one. P one.block) (block_lasts P) plan ticks all (each_first (λ one. P one.block) plan.blocks all) i

-- and each name is a name
abbrev pub IsNamed : List ℕ → Type 0
IsNamed name = IsTrue (is_name name)

pub any_block : (blocks : List Block) → Each (λ (block : Block). Unit {0}) blocks
any_block [] = tt
any_block (block ∷ blocks) = (tt, any_block blocks)

name_lasts : Lasts (λ block. Unit {0}) (λ one. IsNamed one.name)
name_lasts = record {
  ended = λ axes seen fault one holds. subst IsNamed (sym (begun_same axes seen one).0) holds;
  made = λ axes template birth said q named. named;
  changed = λ axes said one holds. holds;
}

pub names_hold : (plan : Plan) (ticks : List Tick) (i : ℕ) → Each (λ block. IsNamed block.common.name) plan.blocks → Each (λ one. IsNamed one.name) (list_at plan ticks i)
names_hold plan ticks i all = list_keeps (λ block. Unit {0}) (λ one. IsNamed one.name) name_lasts plan ticks (any_block plan.blocks) (each_first (λ one. IsNamed one.name) plan.blocks all) i

-- Templates and list are together at most 64.
long_after : (axes : List Axis) (seen : Seen) (fault : Bool) (ones : List BhvSoFar) → length (map (bhv_after seen fault) (map (begun_at axes seen) ones)) ≡ length ones
long_after axes seen fault [] = refl
long_after axes seen fault (one ∷ ones) = ap suc (long_after axes seen fault ones)

abbrev others_of : List Block → List Block
others_of blocks = filter (λ (it : Block). not (is_template it)) blocks

long_parted : (blocks : List Block) → length (filter is_template blocks) + length (first_list blocks) ≡ length blocks
long_parted [] = refl
long_parted (block ∷ blocks) = by (is_template block) (long_parted blocks)
  where
    by : (template : Bool) → length (filter is_template blocks) + length (map unstarted (others_of blocks)) ≡ length blocks
        → length (cond template (block ∷ filter is_template blocks) (filter is_template blocks)) + length (map unstarted (cond (not template) (block ∷ others_of blocks) (others_of blocks))) ≡ suc (length blocks)
    by true rest = omega (arith, rest)
    by false rest = omega (arith, rest)

long_first : (blocks : List Block) → count_by is_template blocks + length (first_list blocks) ≡ length blocks
long_first blocks = ap (λ n. n + length (first_list blocks)) (sym (length-filter is_template blocks)) ∙ long_parted blocks

abbrev pub HasRoom : List Block → Spawning → Type 0
HasRoom blocks so_far = count_by is_template blocks + length so_far.ones ≤ 64

pub room_left : (named : Bool) (templates long : ℕ) → (not named && nat_lt (templates + long) 64) ≡ true → templates + (long + 1) ≤ 64
room_left true templates long is = absurd (let e : false ≡ true = is in cc)
room_left false templates long is = grind (arith, nat_tests)

room_lasts : (axes : List Axis) (blocks : List Block) (at : ℕ) → LastsLetters axes blocks at (λ block. Unit {0}) (HasRoom blocks)
room_lasts axes blocks at = record {
  refuses = λ template so_far q few. few;
  makes = λ template so_far said q named room free few.
      let long : length (so_far.ones ++ made_from axes template (next_birth at so_far) said ∷ []) ≡ length so_far.ones + 1 = length-append so_far.ones (made_from axes template (next_birth at so_far) said ∷ []) in
      omega (arith, long, room_left _ (count_by is_template blocks) (length so_far.ones) room);
  changes = λ template so_far said place one q there few. let long = length-set so_far.ones place (changed_by axes said one) in omega (arith, long, few);
}

spawned_few : (plan : Plan) (ticks : List Tick) (i : ℕ) (ones : List BhvSoFar) → count_by is_template plan.blocks + length ones ≤ 64 → count_by is_template plan.blocks + length (spawned_in plan ticks i ones).ones ≤ 64
spawned_few plan ticks i ones few = spawned_last plan.axes plan.blocks i (λ block. Unit {0}) (HasRoom plan.blocks) (room_lasts plan.axes plan.blocks i) (seen_at plan.decls ticks i).letters ones (any_block plan.blocks) few

before_few : (plan : Plan) (ticks : List Tick) (i : ℕ) → length plan.blocks ≤ 64 → count_by is_template plan.blocks + length (list_before plan ticks i) ≤ 64
before_few plan ticks zero few = omega (arith, long_first plan.blocks, few)
before_few plan ticks (suc i) few =
    let seen = seen_at plan.decls ticks i in
    let ones = (spawned_in plan ticks i (list_before plan ticks i)).ones in
    let all = all_begun plan.axes seen ones in
    let after = map (bhv_after seen (list_any has_fault all)) all in
    omega (arith, few_filtered stays after, long_after plan.axes seen (list_any has_fault all) ones, spawned_few plan ticks i (list_before plan ticks i) (before_few plan ticks i few))

pub list_few : (plan : Plan) (ticks : List Tick) (i : ℕ) → length plan.blocks ≤ 64 → count_by is_template plan.blocks + length (list_at plan ticks i) ≤ 64
list_few plan ticks i few = spawned_few plan ticks i (list_before plan ticks i) (before_few plan ticks i few)
