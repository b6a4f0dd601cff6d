-- An iteration is a function of the plan and of what was said at each tick.
use Rattle.std.proofs.Common.{◌≡◌, ◌<◌, Some, ℕ, zero, suc, inl, inr, List, [], ◌∷◌, ◌++◌, length, map, take, drop, refl, sym, ap, ◌∙◌, arith}
use Rattle.std.proofs.lemmas.Bool.{cases_lt}
use Rattle.std.proofs.lemmas.List.{length-take, take-append-drop, take_all}
use Rattle.std.specs.Prelude.{slice_index_or}
use Rattle.std.specs.List.{filter, flat_map}
use Rattle.helm_cond.specs.Learnt.{latest_of}
use Rattle.mode_tree.specs.Modes.{mode_text}
use Rattle.bhv_file.specs.declared.decl.Decl.{Decl}
use Rattle.helm_core.specs.Plans.{Plan}
use Rattle.helm_core.specs.Behaviors.{BhvSoFar, all_after, all_begun, all_showings}
use Rattle.helm_core.specs.Lists.{list_before, spawned_at, stays}
use Rattle.helm_core.specs.Templates.{Spawning, spawned}
use Rattle.helm_core.specs.PastIterations.{PastIteration, past_iteration_at, past_iteration_before}
use Rattle.helm_core.specs.Iterations.{iteration_at, iteration_of}
use Rattle.helm_core.specs.Ticks.{Seen, Tick, is_parked, seen_at}
use Rattle.helm_laws.specs.Files.{OfEveryPlan}
use Rattle.helm_laws.specs.Inputs.{Input, SameInputSameIteration, input_of}

maps : {A B C : Type 0} (g : B → C) (f : A → B) (xs : List A) → map g (map f xs) ≡ map (λ x. g (f x)) xs
maps g f [] = refl
maps g f (x ∷ xs) = ap (λ rest. g (f x) ∷ rest) (maps g f xs)

joined : {A B C : Type 0} (g : B → List C) (f : A → B) (n : ℕ) (xs : List A) → flat_map g (take n (map f xs)) ≡ flat_map (λ x. g (f x)) (take n xs)
joined g f zero [] = refl
joined g f (suc n) [] = refl
joined g f zero (x ∷ xs) = refl
joined g f (suc n) (x ∷ xs) = ap (λ rest. g (f x) ++ rest) (joined g f n xs)

-- what an iteration sees, by what was said at all ticks
abbrev seen_by : List Decl → List Input → ℕ → Seen
seen_by decls inputs i =
    let learnt = flat_map (λ input. input.letters) (take (suc i) inputs) in
    record {
      stamp = slice_index_or (map (λ input. input.stamp) inputs) i 0;
      letters = slice_index_or (map (λ input. input.letters) inputs) i [];
      parked = is_parked learnt;
      known = latest_of learnt;
      mode = mode_text decls (latest_of learnt);
    }

seen_is : (decls : List Decl) (ticks : List Tick) (i : ℕ) → seen_by decls (map input_of ticks) i ≡ seen_at decls ticks i
seen_is decls ticks i =
    rw (maps (λ (input : Input). input.stamp) input_of ticks, maps (λ (input : Input). input.letters) input_of ticks, joined (λ (input : Input). input.letters) input_of (suc i) ticks) refl

seen_same : (decls : List Decl) (ticks others : List Tick) → map input_of ticks ≡ map input_of others → (i : ℕ) → seen_at decls ticks i ≡ seen_at decls others i
seen_same decls ticks others same i = sym (seen_is decls ticks i) ∙ ap (λ inputs. seen_by decls inputs i) same ∙ seen_is decls others i

abbrev past_iteration_with : Plan → Seen → Spawning → PastIteration
past_iteration_with plan seen spawning = record { seen = seen; answers = spawning.answers; showings = all_showings seen (all_begun plan.axes seen spawning.ones) }

abbrev after_seen : Plan → ℕ → Seen → List BhvSoFar → List BhvSoFar
after_seen plan at seen ones = filter stays (all_after seen (all_begun plan.axes seen (spawned plan.axes plan.blocks at seen.letters ones).ones))

list_same : (plan : Plan) (ticks others : List Tick) → map input_of ticks ≡ map input_of others → (n : ℕ) → list_before plan ticks n ≡ list_before plan others n
list_same plan ticks others same zero = refl
list_same plan ticks others same (suc n) =
    ap (λ seen. after_seen plan n seen (list_before plan ticks n)) (seen_same plan.decls ticks others same n)
    ∙ ap (after_seen plan n (seen_at plan.decls others n)) (list_same plan ticks others same n)

spawning_same : (plan : Plan) (ticks others : List Tick) → map input_of ticks ≡ map input_of others → (i : ℕ) → spawned_at plan ticks i ≡ spawned_at plan others i
spawning_same plan ticks others same i =
    ap (λ seen. spawned plan.axes plan.blocks i seen.letters (list_before plan ticks i)) (seen_same plan.decls ticks others same i)
    ∙ ap (spawned plan.axes plan.blocks i (seen_at plan.decls others i).letters) (list_same plan ticks others same i)

at_same : (plan : Plan) (ticks others : List Tick) → map input_of ticks ≡ map input_of others → (i : ℕ) → past_iteration_at plan ticks i ≡ past_iteration_at plan others i
at_same plan ticks others same i =
    ap (λ seen. past_iteration_with plan seen (spawned_at plan ticks i)) (seen_same plan.decls ticks others same i)
    ∙ ap (past_iteration_with plan (seen_at plan.decls others i)) (spawning_same plan ticks others same i)

before_same : (plan : Plan) (ticks others : List Tick) → map input_of ticks ≡ map input_of others → (i : ℕ) → past_iteration_before plan ticks i ≡ past_iteration_before plan others i
before_same plan ticks others same zero = refl
before_same plan ticks others same (suc i) = ap Some (at_same plan ticks others same i)

-- the whole lists
all_same : (plan : Plan) (ticks others : List Tick) → map input_of ticks ≡ map input_of others → (i : ℕ) → iteration_at plan ticks i ≡ iteration_at plan others i
all_same plan ticks others same i =
    ap (λ before. iteration_of plan before (past_iteration_at plan ticks i)) (before_same plan ticks others same i)
    ∙ ap (iteration_of plan (past_iteration_before plan others i)) (at_same plan ticks others same i)

-- no later tick counts
abbrev pub NoneLater : Type 0
NoneLater = (plan : Plan) (ticks later : List Tick) (i : ℕ) → i < length ticks → iteration_at plan (ticks ++ later) i ≡ iteration_at plan ticks i

cut : NoneLater → (plan : Plan) (ticks : List Tick) (i : ℕ) → iteration_at plan ticks i ≡ iteration_at plan (take (suc i) ticks) i
cut law plan ticks i = elim (cases_lt i (length ticks)) [
  | inl within ↦ ap (λ (all : List Tick). iteration_at plan all i) (sym (take-append-drop (suc i) ticks))
      ∙ law plan (take (suc i) ticks) (drop (suc i) ticks) i (let long = length-take (suc i) ticks in omega (arith, long, within))
  | inr past ↦ ap (λ (all : List Tick). iteration_at plan all i) (sym (take_all (suc i) ticks (omega (arith, past))))
]

pub input : NoneLater → OfEveryPlan SameInputSameIteration
input law plan ticks others i same = cut law plan ticks i ∙ all_same plan (take (suc i) ticks) (take (suc i) others) same i ∙ sym (cut law plan others i)
