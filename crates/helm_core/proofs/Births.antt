-- The list in the order of making: the behaviours of the file, and then those that letters made, each by a later letter.
use Rattle.std.proofs.Common.{◌≡◌, inl, inr, ℕ, zero, suc, Bool, true, false, cond, not, ◌&&◌, ◌||◌, List, [], ◌∷◌, ◌++◌, map, length, Option, Some, None, refl, ap, sym, subst, ◌∙◌, arith}
use Rattle.std.specs.Prelude.{IsTrue, slice_get, slice_set, is_some}
use Rattle.std.specs.List.{AllByRecursion as Each, filter, list_any}
use Rattle.std.proofs.lemmas.List.Elements.{All-from_recursion}
use Rattle.moos_io.proofs.Lists.{each_append}
use Rattle.ivp_domain.specs.declared.axis.Axis.{Axis}
use Rattle.bhv_file.specs.declared.file.Block.{Block}
use Rattle.bhv_life.specs.Lives.{can_run}
use Rattle.helm_core.specs.declared.iteration.How.{How}
use Rattle.helm_core.specs.declared.iteration.How.TheVariants.{Changed, Refused, Spawned}
use Rattle.helm_core.specs.declared.iteration.Update.{Update}
use Rattle.helm_core.specs.Behaviors.{BhvSoFar, Birth, all_after, all_begun, begun_at, bhv_after, has_fault, past_so_far, unstarted}
use Rattle.helm_core.specs.Lists.{AlwaysListed, AreMadeBehind, IsBornBehind, IsEarlier, list_at, list_before, spawned_in, stays}
use Rattle.helm_core.specs.Plans.{Plan, is_template}
use Rattle.helm_core.specs.Templates.{Spawning, changed_by, made_from, none_spawned}
use Rattle.helm_core.specs.Ticks.{Seen, Tick, seen_at}
use Rattle.helm_core.proofs.Letters.{LastsLetters, next_birth, spawned_last}
use Rattle.helm_core.proofs.Listing.{any_block, begun_same, each_after, each_filtered, each_set}

abbrev birth_of : ℕ → ℕ → Birth
birth_of at letter = record { iteration = at; letter = letter }

-- of the file, or made by an earlier letter than this
abbrev IsBefore : ℕ → ℕ → Option Birth → Type 0
IsBefore at letter None = Unit {0}
IsBefore at letter (Some birth) = IsEarlier birth (birth_of at letter)

abbrev AreBefore : ℕ → ℕ → List BhvSoFar → Type 0
AreBefore at letter ones = Each (λ (one : BhvSoFar). IsBefore at letter one.born) ones

-- these blocks' behaviours come first, and then made ones, each by a later letter than the one before it
abbrev pub AreInOrder : List Block → List BhvSoFar → Type 0
AreInOrder [] ones = AreMadeBehind None ones
AreInOrder (block ∷ file) [] = ⊥
AreInOrder (block ∷ file) (one ∷ ones) = (one.block ≡ block) × (one.born ≡ None) × AreInOrder file ones

-- what is before a letter is before the next one, and before those of the next iteration
later : (at letter : ℕ) (born : Option Birth) → IsBefore at letter born → IsBefore at (suc letter) born
later at letter None is = tt
later at letter (Some birth) (inl before) = inl before
later at letter (Some birth) (inr before) = inr (before.0, omega (arith, before.1))

next : (at letter : ℕ) (born : Option Birth) → IsBefore at letter born → IsBefore (suc at) 0 born
next at letter None is = tt
next at letter (Some birth) (inl before) = inl (omega (arith, before))
next at letter (Some birth) (inr before) = let same = before.0 in inl (omega arith)

all_later : (at letter : ℕ) (ones : List BhvSoFar) → AreBefore at letter ones → AreBefore at (suc letter) ones
all_later at letter [] all = tt
all_later at letter (one ∷ ones) all = (later at letter one.born all.0, all_later at letter ones all.1)

all_next : (at letter : ℕ) (ones : List BhvSoFar) → AreBefore at letter ones → AreBefore (suc at) 0 ones
all_next at letter [] all = tt
all_next at letter (one ∷ ones) all = (next at letter one.born all.0, all_next at letter ones all.1)

-- the birth by a letter is behind each before it
born_behind : (at letter : ℕ) (before : Option Birth) → IsBefore at letter before → IsBornBehind before (Some (birth_of at letter))
born_behind at letter None is = tt
born_behind at letter (Some birth) is = is

-- one more is made
made_more : (at letter : ℕ) (before : Option Birth) (ones : List BhvSoFar) (one : BhvSoFar) → one.born ≡ Some (birth_of at letter) → IsBefore at letter before → AreBefore at letter ones → AreMadeBehind before ones → AreMadeBehind before (ones ++ one ∷ [])
made_more at letter before [] one born is all order = (subst (IsBornBehind before) (sym born) (born_behind at letter before is), tt)
made_more at letter before (first ∷ ones) one born is all order = (order.0, made_more at letter first.born ones one born all.0 all.1 order.1)

order_more : (at letter : ℕ) (file : List Block) (ones : List BhvSoFar) (one : BhvSoFar) → one.born ≡ Some (birth_of at letter) → AreBefore at letter ones → AreInOrder file ones → AreInOrder file (ones ++ one ∷ [])
order_more at letter [] ones one born all order = made_more at letter None ones one born tt all order
order_more at letter (block ∷ file) [] one born all order = absurd order
order_more at letter (block ∷ file) (first ∷ ones) one born all order = (order.0, order.1, order_more at letter file ones one born all.1 order.2)

-- one is changed
made_set : (before : Option Birth) (ones : List BhvSoFar) (place : ℕ) (one other : BhvSoFar) → slice_get ones place ≡ Some one → other.born ≡ one.born → AreMadeBehind before ones → AreMadeBehind before (slice_set ones place other)
made_set before [] place one other at same order = order
made_set before (first ∷ ones) zero one other at same order =
    let e : Some first ≡ Some one = at in
    let is : first ≡ one = cc in
    let born : first.born ≡ other.born = ap (λ (it : BhvSoFar). it.born) is ∙ sym same in
    (subst (IsBornBehind before) born order.0, subst (λ b. AreMadeBehind b ones) born order.1)
made_set before (first ∷ ones) (suc place) one other at same order = (order.0, made_set first.born ones place one other at same order.1)

order_set : (file : List Block) (ones : List BhvSoFar) (place : ℕ) (one other : BhvSoFar) → slice_get ones place ≡ Some one → other.born ≡ one.born → other.block ≡ one.block → AreInOrder file ones → AreInOrder file (slice_set ones place other)
order_set [] ones place one other at same of order = made_set None ones place one other at same order
order_set (block ∷ file) [] place one other at same of order = absurd order
order_set (block ∷ file) (first ∷ ones) zero one other at same of order =
    let e : Some first ≡ Some one = at in
    let is : first ≡ one = cc in
    (of ∙ ap (λ (it : BhvSoFar). it.block) (sym is) ∙ order.0, same ∙ ap (λ (it : BhvSoFar). it.born) (sym is) ∙ order.1, order.2)
order_set (block ∷ file) (first ∷ ones) (suc place) one other at same of order = (order.0, order.1, order_set file ones place one other at same of order.2)

before_at : (at letter : ℕ) (ones : List BhvSoFar) (place : ℕ) (one : BhvSoFar) → slice_get ones place ≡ Some one → AreBefore at letter ones → IsBefore at letter one.born
before_at at letter [] place one there all = absurd (let e : None ≡ Some one = there in cc)
before_at at letter (first ∷ ones) zero one there all = let e : Some first ≡ Some one = there in let is : first ≡ one = cc in subst (λ (it : BhvSoFar). IsBefore at letter it.born) is all.0
before_at at letter (first ∷ ones) (suc place) one there all = before_at at letter ones place one there all.1

-- the list in the middle of an iteration
record IsOrdered (file : List Block) (at : ℕ) (so_far : Spawning) : Type 0 where
  order : AreInOrder file so_far.ones
  before : AreBefore at (length so_far.answers) so_far.ones

long_more : {A : Type 0} (xs : List A) (x : A) → length (xs ++ x ∷ []) ≡ suc (length xs)
long_more [] x = refl
long_more (first ∷ xs) x = ap suc (long_more xs x)

abbrev update : Block → How → Update
update template how = record { name = template.common.name; how = how }

letters_ordered : (axes : List Axis) (file blocks : List Block) (at : ℕ) → LastsLetters axes blocks at (λ block. Unit {0}) (IsOrdered file at)
letters_ordered axes file blocks at = record {
  refuses = λ template so_far q is. record {
    order = is.order;
    before = subst (λ n. AreBefore at n so_far.ones) (sym (long_more so_far.answers (update template Refused))) (all_later at (length so_far.answers) so_far.ones is.before);
  };
  makes = λ template so_far said q named room free is.
      let n = length so_far.answers in
      let one : BhvSoFar = made_from axes template (next_birth at so_far) said in
      record {
        order = order_more at n file so_far.ones one refl is.before is.order;
        before = subst (λ m. AreBefore at m (so_far.ones ++ one ∷ [])) (sym (long_more so_far.answers (update template (Spawned said.name))))
            (each_append (λ (it : BhvSoFar). IsBefore at (suc n) it.born) so_far.ones (one ∷ []) (all_later at n so_far.ones is.before) (inr (refl, omega arith), tt));
      };
  changes = λ template so_far said place one q there is.
      let n = length so_far.answers in
      let other : BhvSoFar = changed_by axes said one in
      record {
        order = order_set file so_far.ones place one other there refl refl is.order;
        before = subst (λ m. AreBefore at m (slice_set so_far.ones place other)) (sym (long_more so_far.answers (update template Changed)))
            (each_set (λ (it : BhvSoFar). IsBefore at (suc n) it.born) so_far.ones place other (all_later at n so_far.ones is.before) (later at n one.born (before_at at n so_far.ones place one there is.before)));
      };
}

-- turns
made_after : (axes : List Axis) (seen : Seen) (fault : Bool) (before before' : Option Birth) (ones : List BhvSoFar) → before' ≡ before → AreMadeBehind before ones → AreMadeBehind before' (map (bhv_after seen fault) (map (begun_at axes seen) ones))
made_after axes seen fault before before' [] same order = tt
made_after axes seen fault before before' (one ∷ ones) same order =
    let born = (begun_same axes seen one).2 in
    (subst (λ b. IsBornBehind b (begun_at axes seen one).standing.born) (sym same) (subst (IsBornBehind before) (sym born) order.0), made_after axes seen fault one.born (begun_at axes seen one).standing.born ones born order.1)

pub order_after : (axes : List Axis) (seen : Seen) (fault : Bool) (file : List Block) (ones : List BhvSoFar) → AreInOrder file ones → AreInOrder file (map (bhv_after seen fault) (map (begun_at axes seen) ones))
order_after axes seen fault [] ones order = made_after axes seen fault None None ones refl order
order_after axes seen fault (block ∷ file) [] order = absurd order
order_after axes seen fault (block ∷ file) (one ∷ ones) order =
    let same = begun_same axes seen one in
    (same.1 ∙ order.0, same.2 ∙ order.1, order_after axes seen fault file ones order.2)

before_after : (at letter : ℕ) (axes : List Axis) (seen : Seen) (fault : Bool) (ones : List BhvSoFar) → AreBefore at letter ones → AreBefore at letter (map (bhv_after seen fault) (map (begun_at axes seen) ones))
before_after at letter axes seen fault ones all = each_after (λ (one : BhvSoFar). IsBefore at letter one.born) (λ axes seen fault one is. subst (IsBefore at letter) (sym (begun_same axes seen one).2) is) axes seen fault ones all

-- some leave
earlier_on : (first second third : Birth) → IsEarlier first second → IsEarlier second third → IsEarlier first third
earlier_on first second third (inl a) (inl b) = inl (omega (arith, a, b))
earlier_on first second third (inl a) (inr b) = let same = b.0 in inl (omega (arith, a))
earlier_on first second third (inr a) (inl b) = let same = a.0 in inl (omega (arith, b))
earlier_on first second third (inr a) (inr b) = inr (a.0 ∙ b.0, omega (arith, a.1, b.1))

behind_on : (before one other : Option Birth) → IsBornBehind before one → IsBornBehind one other → IsBornBehind before other
behind_on before one None a b = absurd b
behind_on before None (Some other) a b = absurd a
behind_on None (Some one) (Some other) a b = tt
behind_on (Some before) (Some one) (Some other) a b = earlier_on before one other a b

pub made_behind : (before one : Option Birth) (rest : List BhvSoFar) → IsBornBehind before one → AreMadeBehind one rest → AreMadeBehind before rest
made_behind before one [] a order = tt
made_behind before one (other ∷ rest) a order = (behind_on before one other.born a order.0, order.1)

made_filtered : (test : BhvSoFar → Bool) (before : Option Birth) (ones : List BhvSoFar) → AreMadeBehind before ones → AreMadeBehind before (filter test ones)
made_filtered test before [] order = tt
made_filtered test before (one ∷ ones) order = by (test one) (made_filtered test one.born ones order.1)
  where
    by : (b : Bool) → AreMadeBehind one.born (filter test ones) → AreMadeBehind before (cond b (one ∷ filter test ones) (filter test ones))
    by true rest = (order.0, rest)
    by false rest = made_behind before one.born (filter test ones) order.0 rest

-- those of the file never leave
order_staying : (file : List Block) (ones : List BhvSoFar) → AreInOrder file ones → AreInOrder file (filter stays ones)
order_staying [] ones order = made_filtered stays None ones order
order_staying (block ∷ file) [] order = absurd order
order_staying (block ∷ file) (one ∷ ones) order =
    let can = can_run one.block.common (past_so_far one) in
    subst (λ (born : Option Birth). AreInOrder (block ∷ file) (cond (not (is_some born && not can)) (one ∷ filter stays ones) (filter stays ones))) (sym order.1) (order.0, order.1, order_staying file ones order.2)

-- the behaviours of the file before the first iteration
order_first : (file : List Block) → AreInOrder file (map unstarted file)
order_first [] = tt
order_first (block ∷ file) = (refl, refl, order_first file)

before_first : (file : List Block) → AreBefore 0 0 (map unstarted file)
before_first [] = tt
before_first (block ∷ file) = (tt, before_first file)

abbrev pub file_of : Plan → List Block
file_of plan = filter (λ (block : Block). not (is_template block)) plan.blocks

spawned_ordered : (plan : Plan) (ticks : List Tick) (i : ℕ) (ones : List BhvSoFar) → IsOrdered (file_of plan) i (none_spawned ones) → IsOrdered (file_of plan) i (spawned_in plan ticks i ones)
spawned_ordered plan ticks i ones is = spawned_last plan.axes plan.blocks i (λ block. Unit {0}) (IsOrdered (file_of plan) i) (letters_ordered plan.axes (file_of plan) plan.blocks i) (seen_at plan.decls ticks i).letters ones (any_block plan.blocks) is

before_ordered : (plan : Plan) (ticks : List Tick) (i : ℕ) → IsOrdered (file_of plan) i (none_spawned (list_before plan ticks i))
before_ordered plan ticks zero = record { order = order_first (file_of plan); before = before_first (file_of plan) }
before_ordered plan ticks (suc i) =
    let seen = seen_at plan.decls ticks i in
    let spawning = spawned_in plan ticks i (list_before plan ticks i) in
    let fault = list_any has_fault (all_begun plan.axes seen spawning.ones) in
    let after = map (bhv_after seen fault) (all_begun plan.axes seen spawning.ones) in
    let now = spawned_ordered plan ticks i (list_before plan ticks i) (before_ordered plan ticks i) in
    record {
      order = order_staying (file_of plan) after (order_after plan.axes seen fault (file_of plan) spawning.ones now.order);
      before = each_filtered (λ (one : BhvSoFar). IsBefore (suc i) 0 one.born) stays after (all_next i (length spawning.answers) after (before_after i (length spawning.answers) plan.axes seen fault spawning.ones now.before));
    }

pub list_ordered : (plan : Plan) (ticks : List Tick) (i : ℕ) → AreInOrder (file_of plan) (list_at plan ticks i)
list_ordered plan ticks i = (spawned_ordered plan ticks i (list_before plan ticks i) (before_ordered plan ticks i)).order

-- All of the list stay in it up to their turns.
abbrev AllStay : List BhvSoFar → Type 0
AllStay ones = Each (λ (one : BhvSoFar). IsTrue (stays one)) ones

stays_new : (perpetual : Bool) → IsTrue (not (true && not (perpetual || true)))
stays_new true = refl
stays_new false = refl

stay_at : (ones : List BhvSoFar) (place : ℕ) (one : BhvSoFar) → slice_get ones place ≡ Some one → AllStay ones → IsTrue (stays one)
stay_at [] place one there all = absurd (let e : None ≡ Some one = there in cc)
stay_at (first ∷ ones) zero one there all = let e : Some first ≡ Some one = there in let is : first ≡ one = cc in subst (λ (it : BhvSoFar). IsTrue (stays it)) is all.0
stay_at (first ∷ ones) (suc place) one there all = stay_at ones place one there all.1

letters_stay : (axes : List Axis) (blocks : List Block) (at : ℕ) → LastsLetters axes blocks at (λ block. Unit {0}) (λ so_far. AllStay so_far.ones)
letters_stay axes blocks at = record {
  refuses = λ template so_far q all. all;
  makes = λ template so_far said q named room free all. each_append (λ (one : BhvSoFar). IsTrue (stays one)) so_far.ones (made_from axes template (next_birth at so_far) said ∷ []) all (stays_new template.common.perpetual, tt);
  changes = λ template so_far said place one q there all. each_set (λ (one : BhvSoFar). IsTrue (stays one)) so_far.ones place (changed_by axes said one) all (stay_at so_far.ones place one there all);
}

filtered_stay : (ones : List BhvSoFar) → AllStay (filter stays ones)
filtered_stay [] = tt
filtered_stay (one ∷ ones) = by (stays one) refl (filtered_stay ones)
  where
    by : (b : Bool) → stays one ≡ b → AllStay (filter stays ones) → AllStay (cond b (one ∷ filter stays ones) (filter stays ones))
    by true is rest = (is, rest)
    by false is rest = rest

first_stay : (file : List Block) → AllStay (map unstarted file)
first_stay [] = tt
first_stay (block ∷ file) = (refl, first_stay file)

before_stay : (plan : Plan) (ticks : List Tick) (i : ℕ) → AllStay (list_before plan ticks i)
before_stay plan ticks zero = first_stay (file_of plan)
before_stay plan ticks (suc i) = filtered_stay (all_after (seen_at plan.decls ticks i) (all_begun plan.axes (seen_at plan.decls ticks i) (list_at plan ticks i)))

list_stays : (plan : Plan) (ticks : List Tick) (i : ℕ) → AllStay (list_at plan ticks i)
list_stays plan ticks i = spawned_last plan.axes plan.blocks i (λ block. Unit {0}) (λ so_far. AllStay so_far.ones) (letters_stay plan.axes plan.blocks i) (seen_at plan.decls ticks i).letters (list_before plan ticks i) (any_block plan.blocks) (before_stay plan ticks i)

-- the list in two parts
record AreParts (file : List Block) (ones : List BhvSoFar) : Type 0 where
  own : List BhvSoFar
  made : List BhvSoFar
  parts : ones ≡ own ++ made
  of_file : map (λ (one : BhvSoFar). one.block) own ≡ file
  unmade : Each (λ (one : BhvSoFar). one.born ≡ None) own
  in_order : AreMadeBehind None made
  staying : AllStay made

parted : (file : List Block) (ones : List BhvSoFar) → AreInOrder file ones → AllStay ones → AreParts file ones
parted [] ones order all = record { own = []; made = ones; parts = refl; of_file = refl; unmade = tt; in_order = order; staying = all }
parted (block ∷ file) [] order all = absurd order
parted (block ∷ file) (one ∷ ones) order all =
    let rest = parted file ones order.2 all.1 in
    record {
      own = one ∷ rest.own;
      made = rest.made;
      parts = ap (λ list. one ∷ list) rest.parts;
      of_file = ap (λ it. it ∷ map (λ (one : BhvSoFar). one.block) rest.own) order.0 ∙ ap (λ list. block ∷ list) rest.of_file;
      unmade = (order.1, rest.unmade);
      in_order = rest.in_order;
      staying = rest.staying;
    }

pub always_listed : AlwaysListed
always_listed plan ticks i =
    let is = parted (file_of plan) (list_at plan ticks i) (list_ordered plan ticks i) (list_stays plan ticks i) in
    record {
      own = is.own;
      made = is.made;
      parts = is.parts;
      of_file = is.of_file;
      unmade = All-from_recursion (λ (one : BhvSoFar). one.born ≡ None) is.own is.unmade;
      in_order = is.in_order;
      staying = All-from_recursion (λ (one : BhvSoFar). IsTrue (stays one)) is.made is.staying;
    }
