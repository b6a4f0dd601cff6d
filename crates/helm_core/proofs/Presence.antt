-- A behaviour that a letter made is in the list from its making until it completes for good.
use Rattle.std.proofs.Common.{◌≡◌, inl, inr, ◌⊎◌, ℕ, zero, suc, Bool, true, false, cond, not, ◌&&◌, List, [], ◌∷◌, ◌++◌, map, Option, Some, None, refl, ap, sym, subst, ◌∙◌, arith}
use Rattle.std.specs.Prelude.{is_some, slice_get, slice_set}
use Rattle.std.specs.List.{filter, list_any}
use Rattle.std.proofs.lemmas.Bool.{cases_lt}
use Rattle.ivp_domain.specs.declared.axis.Axis.{Axis}
use Rattle.bhv_file.specs.declared.file.Block.{Block}
use Rattle.bhv_life.specs.Lives.{can_run}
use Rattle.helm_core.specs.Behaviors.{BhvSoFar, Birth, all_begun, begun_at, bhv_after, has_fault, past_so_far, unstarted}
use Rattle.helm_core.specs.Lists.{AreMadeBehind, IsBornBehind, IsEarlier, list_at, list_before, spawned_in, stays}
use Rattle.helm_core.specs.Plans.{Plan}
use Rattle.helm_core.specs.Presence.{HasCompleted, IsMadeAndGoesOn, IsThere, ThereUntilComplete, after_at}
use Rattle.helm_core.specs.Templates.{Spawning, changed_by, made_from}
use Rattle.helm_core.specs.Ticks.{Seen, Tick, seen_at}
use Rattle.helm_core.proofs.Births.{AreInOrder, file_of, list_ordered, made_behind, order_after}
use Rattle.helm_core.proofs.Letters.{LastsLetters, next_birth, spawned_last}
use Rattle.helm_core.proofs.Listing.{any_block, begun_same}

-- one more behind them
has_first : (birth : Birth) (ones more : List BhvSoFar) → IsThere birth ones → IsThere birth (ones ++ more)
has_first birth [] more has = absurd has
has_first birth (one ∷ ones) more (inl is) = inl is
has_first birth (one ∷ ones) more (inr has) = inr (has_first birth ones more has)

has_parts : (birth : Birth) (ones more : List BhvSoFar) → IsThere birth (ones ++ more) → IsThere birth ones ⊎ IsThere birth more
has_parts birth [] more has = inr has
has_parts birth (one ∷ ones) more (inl is) = inl (inl is)
has_parts birth (one ∷ ones) more (inr has) = elim (has_parts birth ones more has) [ inl old ↦ inl (inr old) | inr new ↦ inr new ]

-- one is changed
has_set : (birth : Birth) (ones : List BhvSoFar) (place : ℕ) (one other : BhvSoFar) → slice_get ones place ≡ Some one → other.born ≡ one.born → IsThere birth ones → IsThere birth (slice_set ones place other)
has_set birth [] place one other at same has = absurd has
has_set birth (first ∷ ones) zero one other at same (inl is) = let e : Some first ≡ Some one = at in let alike : one ≡ first = cc in inl (same ∙ ap (λ (it : BhvSoFar). it.born) alike ∙ is)
has_set birth (first ∷ ones) zero one other at same (inr has) = inr has
has_set birth (first ∷ ones) (suc place) one other at same (inl is) = inl is
has_set birth (first ∷ ones) (suc place) one other at same (inr has) = inr (has_set birth ones place one other at same has)

set_has : (birth : Birth) (ones : List BhvSoFar) (place : ℕ) (one other : BhvSoFar) → slice_get ones place ≡ Some one → other.born ≡ one.born → IsThere birth (slice_set ones place other) → IsThere birth ones
set_has birth [] place one other at same has = absurd has
set_has birth (first ∷ ones) zero one other at same (inl is) = let e : Some first ≡ Some one = at in let alike : first ≡ one = cc in inl (ap (λ (it : BhvSoFar). it.born) alike ∙ sym same ∙ is)
set_has birth (first ∷ ones) zero one other at same (inr has) = inr has
set_has birth (first ∷ ones) (suc place) one other at same (inl is) = inl is
set_has birth (first ∷ ones) (suc place) one other at same (inr has) = inr (set_has birth ones place one other at same has)

-- letters leave it in the list
letters_leave : (axes : List Axis) (blocks : List Block) (at : ℕ) (birth : Birth) → LastsLetters axes blocks at (λ block. Unit {0}) (λ so_far. IsThere birth so_far.ones)
letters_leave axes blocks at birth = record {
  refuses = λ template so_far q has. has;
  makes = λ template so_far said q named room free has. has_first birth so_far.ones (made_from axes template (next_birth at so_far) said ∷ []) has;
  changes = λ template so_far said place one q there has. has_set birth so_far.ones place one (changed_by axes said one) there refl has;
}

spawned_has : (plan : Plan) (ticks : List Tick) (i : ℕ) (birth : Birth) (ones : List BhvSoFar) → IsThere birth ones → IsThere birth (spawned_in plan ticks i ones).ones
spawned_has plan ticks i birth ones has = spawned_last plan.axes plan.blocks i (λ block. Unit {0}) (λ so_far. IsThere birth so_far.ones) (letters_leave plan.axes plan.blocks i birth) (seen_at plan.decls ticks i).letters ones (any_block plan.blocks) has

-- and make only such as are born in this iteration
new_birth : (at : ℕ) (so_far : Spawning) (birth : Birth) → (Some (next_birth at so_far) ≡ Some birth) ⊎ ⊥ → birth.iteration ≡ at
new_birth at so_far birth (inl same) = let e : Some (next_birth at so_far) ≡ Some birth = same in let is : birth ≡ next_birth at so_far = cc in ap (λ (it : Birth). it.iteration) is
new_birth at so_far birth (inr none) = absurd none

abbrev WasOrIsNew : Birth → ℕ → List BhvSoFar → Type 0
WasOrIsNew birth at ones = IsThere birth ones ⊎ (birth.iteration ≡ at)

letters_make : (axes : List Axis) (blocks : List Block) (at : ℕ) (birth : Birth) (ones : List BhvSoFar) → LastsLetters axes blocks at (λ block. Unit {0}) (λ so_far. IsThere birth so_far.ones → WasOrIsNew birth at ones)
letters_make axes blocks at birth ones = record {
  refuses = λ template so_far q was. was;
  makes = λ template so_far said q named room free was has. elim (has_parts birth so_far.ones (made_from axes template (next_birth at so_far) said ∷ []) has) [
    | inl old ↦ was old
    | inr new ↦ inr (new_birth at so_far birth new)
  ];
  changes = λ template so_far said place one q there was has. was (set_has birth so_far.ones place one (changed_by axes said one) there refl has);
}

was_or_is_new : (plan : Plan) (ticks : List Tick) (i : ℕ) (birth : Birth) (ones : List BhvSoFar) → IsThere birth (spawned_in plan ticks i ones).ones → WasOrIsNew birth i ones
was_or_is_new plan ticks i birth ones has = spawned_last plan.axes plan.blocks i (λ block. Unit {0}) (λ so_far. IsThere birth so_far.ones → WasOrIsNew birth i ones) (letters_make plan.axes plan.blocks i birth ones) (seen_at plan.decls ticks i).letters ones (any_block plan.blocks) (λ old. inl old) has

-- turns leave it in the list
after_has : (axes : List Axis) (seen : Seen) (fault : Bool) (birth : Birth) (ones : List BhvSoFar) → IsThere birth ones → IsThere birth (map (bhv_after seen fault) (map (begun_at axes seen) ones))
after_has axes seen fault birth [] has = absurd has
after_has axes seen fault birth (one ∷ ones) (inl is) = inl ((begun_same axes seen one).2 ∙ is)
after_has axes seen fault birth (one ∷ ones) (inr has) = inr (after_has axes seen fault birth ones has)

has_after : (axes : List Axis) (seen : Seen) (fault : Bool) (birth : Birth) (ones : List BhvSoFar) → IsThere birth (map (bhv_after seen fault) (map (begun_at axes seen) ones)) → IsThere birth ones
has_after axes seen fault birth [] has = absurd has
has_after axes seen fault birth (one ∷ ones) (inl is) = inl (sym (begun_same axes seen one).2 ∙ is)
has_after axes seen fault birth (one ∷ ones) (inr has) = inr (has_after axes seen fault birth ones has)

-- it leaves the list only if it has completed for good
gone : (born : Option Birth) (can : Bool) → not (is_some born && not can) ≡ false → can ≡ false
gone None can is = absurd (let e : true ≡ false = is in cc)
gone (Some birth) true is = is
gone (Some birth) false is = refl

stays_has : (birth : Birth) (ones : List BhvSoFar) → IsThere birth ones → (HasCompleted birth ones → ⊥) → IsThere birth (filter stays ones)
stays_has birth [] has none = absurd has
stays_has birth (one ∷ ones) has none = by (stays one) refl has (λ rest. stays_has birth ones rest (λ completed. none (inr completed)))
  where
    by : (b : Bool) → stays one ≡ b → IsThere birth (one ∷ ones) → (IsThere birth ones → IsThere birth (filter stays ones)) → IsThere birth (cond b (one ∷ filter stays ones) (filter stays ones))
    by true is (inl own) further = inl own
    by true is (inr rest) further = inr (further rest)
    by false is (inl own) further = absurd (none (inl (own, gone one.born (can_run one.block.common (past_so_far one)) is)))
    by false is (inr rest) further = further rest

-- one of these is the one that this letter made, and it stays
abbrev HasStaying : Birth → List BhvSoFar → Type 0
HasStaying birth [] = ⊥
HasStaying birth (one ∷ ones) = ((one.born ≡ Some birth) × (stays one ≡ true)) ⊎ HasStaying birth ones

has_stays : (birth : Birth) (ones : List BhvSoFar) → IsThere birth (filter stays ones) → HasStaying birth ones
has_stays birth [] has = absurd has
has_stays birth (one ∷ ones) has = by (stays one) refl has (λ rest. has_stays birth ones rest)
  where
    by : (b : Bool) → stays one ≡ b → IsThere birth (cond b (one ∷ filter stays ones) (filter stays ones)) → (IsThere birth (filter stays ones) → HasStaying birth ones) → HasStaying birth (one ∷ ones)
    by true is (inl own) further = inl (own, is)
    by true is (inr rest) further = inr (further rest)
    by false is rest further = inr (further rest)

made_staying : (birth : Birth) (ones : List BhvSoFar) → HasStaying birth ones → IsThere birth ones
made_staying birth [] has = absurd has
made_staying birth (one ∷ ones) (inl is) = inl is.0
made_staying birth (one ∷ ones) (inr has) = inr (made_staying birth ones has)

made_completed : (birth : Birth) (ones : List BhvSoFar) → HasCompleted birth ones → IsThere birth ones
made_completed birth [] has = absurd has
made_completed birth (one ∷ ones) (inl is) = inl is.0
made_completed birth (one ∷ ones) (inr has) = inr (made_completed birth ones has)

-- no letter made two of the list, so not one that stays and one that doesn't
never_earlier : (birth : Birth) → IsEarlier birth birth → ⊥
never_earlier birth (inl less) = absurd (omega (arith, less))
never_earlier birth (inr same) = absurd (omega (arith, same.1))

none_behind : (birth : Birth) (before : Option Birth) (ones : List BhvSoFar) → before ≡ Some birth → AreMadeBehind before ones → IsThere birth ones → ⊥
none_behind birth before [] own order has = has
none_behind birth before (one ∷ ones) own order (inl is) = never_earlier birth (subst (IsBornBehind (Some birth)) is (subst (λ b. IsBornBehind b one.born) own order.0))
none_behind birth before (one ∷ ones) own order (inr has) = none_behind birth before ones own (made_behind before one.born ones order.0 order.1) has

not_both : (born : Option Birth) (birth : Birth) (can : Bool) → born ≡ Some birth → not (is_some born && not can) ≡ true → can ≡ false → ⊥
not_both None birth can own is none = absurd (let e : None ≡ Some birth = own in cc)
not_both (Some other) birth true own is none = absurd (let e : true ≡ false = none in cc)
not_both (Some other) birth false own is none = absurd (let e : false ≡ true = is in cc)

made_apart : (birth : Birth) (before : Option Birth) (ones : List BhvSoFar) → AreMadeBehind before ones → HasStaying birth ones → HasCompleted birth ones → ⊥
made_apart birth before [] order has completed = has
made_apart birth before (one ∷ ones) order (inl is) (inl other) = not_both one.born birth (can_run one.block.common (past_so_far one)) is.0 is.1 other.1
made_apart birth before (one ∷ ones) order (inl is) (inr completed) = none_behind birth one.born ones is.0 order.1 (made_completed birth ones completed)
made_apart birth before (one ∷ ones) order (inr has) (inl other) = none_behind birth one.born ones other.0 order.1 (made_staying birth ones has)
made_apart birth before (one ∷ ones) order (inr has) (inr completed) = made_apart birth one.born ones order.1 has completed

unborn : (born : Option Birth) (birth : Birth) → born ≡ None → born ≡ Some birth → ⊥
unborn born birth none some = absurd (let e : None ≡ Some birth = sym none ∙ some in cc)

apart : (birth : Birth) (file : List Block) (ones : List BhvSoFar) → AreInOrder file ones → HasStaying birth ones → HasCompleted birth ones → ⊥
apart birth [] ones order has completed = made_apart birth None ones order has completed
apart birth (block ∷ file) [] order has completed = has
apart birth (block ∷ file) (one ∷ ones) order (inl is) completed = unborn one.born birth order.1 is.0
apart birth (block ∷ file) (one ∷ ones) order (inr has) (inl other) = unborn one.born birth order.1 other.0
apart birth (block ∷ file) (one ∷ ones) order (inr has) (inr completed) = apart birth file ones order.2 has completed

-- no letter made a behaviour of the file
none_first : (birth : Birth) (file : List Block) → IsThere birth (map unstarted file) → ⊥
none_first birth [] has = has
none_first birth (block ∷ file) (inl is) = absurd (let e : None ≡ Some birth = is in cc)
none_first birth (block ∷ file) (inr has) = none_first birth file has

abbrev fault_at : Plan → List Tick → ℕ → Bool
fault_at plan ticks i = list_any has_fault (all_begun plan.axes (seen_at plan.decls ticks i) (list_at plan ticks i))

new_there : (plan : Plan) (ticks : List Tick) (i : ℕ) (birth : Birth) → birth.iteration ≡ i → IsThere birth (list_at plan ticks i) → IsMadeAndGoesOn plan ticks i birth
new_there plan ticks i birth same has = record {
  begun = omega (arith, same);
  made = subst (λ (j : ℕ). IsThere birth (list_at plan ticks j)) (sym same) has;
  goes_on = λ j from below completed. absurd (omega (arith, same, from, below));
}

there : (plan : Plan) (ticks : List Tick) (i : ℕ) (birth : Birth) → IsThere birth (list_at plan ticks i) → IsMadeAndGoesOn plan ticks i birth
there plan ticks zero birth has = elim (was_or_is_new plan ticks 0 birth (list_before plan ticks 0) has) [
  | inl old ↦ absurd (none_first birth (file_of plan) old)
  | inr same ↦ new_there plan ticks 0 birth same has
]
there plan ticks (suc i) birth has = elim (was_or_is_new plan ticks (suc i) birth (list_before plan ticks (suc i)) has) [
  | inl old ↦
      let seen = seen_at plan.decls ticks i in
      let fault = fault_at plan ticks i in
      let staying = has_stays birth (after_at plan ticks i) old in
      let is = there plan ticks i birth (has_after plan.axes seen fault birth (list_at plan ticks i) (made_staying birth (after_at plan ticks i) staying)) in
      let order = order_after plan.axes seen fault (file_of plan) (list_at plan ticks i) (list_ordered plan ticks i) in
      record {
        begun = omega (arith, is.begun);
        made = is.made;
        goes_on = λ j from below completed. elim (cases_lt j i) [
          | inl before ↦ is.goes_on j from before completed
          | inr last ↦
              let same : j ≡ i = omega (arith, below, last) in
              apart birth (file_of plan) (after_at plan ticks i) order staying (subst (λ (k : ℕ). HasCompleted birth (after_at plan ticks k)) same completed)
        ];
      }
  | inr same ↦ new_there plan ticks (suc i) birth same has
]

back : (plan : Plan) (ticks : List Tick) (i : ℕ) (birth : Birth) → IsMadeAndGoesOn plan ticks i birth → IsThere birth (list_at plan ticks i)
back plan ticks zero birth is =
    let same : birth.iteration ≡ 0 = omega (arith, is.begun) in
    subst (λ (j : ℕ). IsThere birth (list_at plan ticks j)) same is.made
back plan ticks (suc i) birth is = elim (cases_lt birth.iteration (suc i)) [
  | inl before ↦
      let now = back plan ticks i birth (record { begun = omega (arith, before); made = is.made; goes_on = λ j from below. is.goes_on j from (omega (arith, below)) }) in
      let after = after_has plan.axes (seen_at plan.decls ticks i) (fault_at plan ticks i) birth (list_at plan ticks i) now in
      spawned_has plan ticks (suc i) birth (list_before plan ticks (suc i)) (stays_has birth (after_at plan ticks i) after (is.goes_on i (omega (arith, before)) (omega arith)))
  | inr last ↦
      let same : birth.iteration ≡ suc i = omega (arith, last, is.begun) in
      subst (λ (j : ℕ). IsThere birth (list_at plan ticks j)) same is.made
]

pub there_until_complete : ThereUntilComplete
there_until_complete plan ticks i birth = (there plan ticks i birth, back plan ticks i birth)
