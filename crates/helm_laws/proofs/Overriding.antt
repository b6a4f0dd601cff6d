-- From which iteration on an override holds.
use Rattle.std.proofs.Common.{◌≡◌, ℕ, zero, suc, ◌≤◌, inl, inr, Bool, true, false, not, ◌||◌, cond, List, [], ◌∷◌, ◌++◌, append_assoc, fold, map, take, Option, Some, None, refl, sym, ap, subst, ◌∙◌, arith}
use Rattle.std.specs.Prelude.{slice_index_or}
use Rattle.std.specs.List.{flat_map}
use Rattle.std.specs.Option.{option_or}
use Rattle.std.proofs.lemmas.Grind.{fold-append}
use Rattle.std.proofs.lemmas.Bool.{cases_lt}
use Rattle.std.proofs.lemmas.List.{append-nil}
use Rattle.moos_post.specs.declared.value.Pair.{Pair}
use Rattle.moos_post.specs.declared.value.Value.{Value}
use Rattle.helm_core.specs.Decisions.{some_active}
use Rattle.helm_core.specs.PastIterations.{past_iteration_at}
use Rattle.helm_core.specs.Posts.{some_fault}
use Rattle.helm_core.specs.Ticks.{Tick, gives_way, heard_at, is_override, latest_override, learnt_at, pairs_mailed}
use Rattle.helm_laws.specs.Files.{OfEveryPlan}
use Rattle.helm_laws.specs.Overrides.{HoldsFromOverride, NoOverrideBetween, ParkedBeforeOverride, ParkedDecideNothing}
use Rattle.helm_laws.proofs.Stopping.{nothing}

-- the lists of one element more
joined_next : {A B : Type 0} (f : A → List B) (xs : List A) (n : ℕ) → flat_map f (take (suc n) xs) ≡ flat_map f (take n xs) ++ slice_index_or (map f xs) n []
joined_next f [] zero = refl
joined_next f [] (suc n) = refl
joined_next f (x ∷ xs) zero = append-nil (f x)
joined_next f (x ∷ xs) (suc n) = ap (λ rest. f x ++ rest) (joined_next f xs n) ∙ sym (append_assoc (f x) (flat_map f (take n xs)) (slice_index_or (map f xs) n []))

abbrev step : Option Value → Pair → Option Value
step latest pair = cond (is_override pair.var) (Some pair.value) latest

or_behind : (own : Option Value) (value : Value) (latest : Option Value) → option_or own (Some value) ≡ option_or (option_or own (Some value)) latest
or_behind None value latest = refl
or_behind (Some own) value latest = refl

-- the latest override behind others
override_on : (latest : Option Value) (posts : List Pair) → fold step latest posts ≡ option_or (latest_override posts) latest
override_on latest [] = refl
override_on latest (pair ∷ posts) = by (is_override pair.var) (override_on (Some pair.value) posts) (override_on latest posts)
  where
    by : (own : Bool) → fold step (Some pair.value) posts ≡ option_or (latest_override posts) (Some pair.value) → fold step latest posts ≡ option_or (latest_override posts) latest
        → fold step (cond own (Some pair.value) latest) posts ≡ option_or (fold step (cond own (Some pair.value) None) posts) latest
    by true this other = this ∙ or_behind (latest_override posts) pair.value latest ∙ ap (λ found. option_or found latest) (sym this)
    by false this other = other

-- a mail more
override_next : (ticks : List Tick) (i : ℕ) → latest_override (learnt_at ticks (suc i)) ≡ option_or (latest_override (heard_at ticks (suc i))) (latest_override (learnt_at ticks i))
override_next ticks i =
    ap latest_override (joined_next (λ (tick : Tick). pairs_mailed tick.mail) ticks (suc i))
    ∙ fold-append step None (learnt_at ticks i) (heard_at ticks (suc i)) ∙ override_on (latest_override (learnt_at ticks i)) (heard_at ticks (suc i))

-- in the iteration itself
override_here : (ticks : List Tick) (i : ℕ) (value : Value) → latest_override (heard_at ticks i) ≡ Some value → latest_override (learnt_at ticks i) ≡ Some value
override_here ticks zero value is = ap latest_override (joined_next (λ (tick : Tick). pairs_mailed tick.mail) ticks 0) ∙ is
override_here ticks (suc i) value is = override_next ticks i ∙ ap (λ found. option_or found (latest_override (learnt_at ticks i))) is

-- and in later ones
override_same : (ticks : List Tick) (from i : ℕ) (value : Value) → from ≡ i → latest_override (heard_at ticks from) ≡ Some value → latest_override (learnt_at ticks i) ≡ Some value
override_same ticks from i value same is = subst (λ (n : ℕ). latest_override (learnt_at ticks n) ≡ Some value) same (override_here ticks from value is)

override_at : (ticks : List Tick) (from i : ℕ) (value : Value) → latest_override (heard_at ticks from) ≡ Some value → from ≤ i → NoOverrideBetween ticks from i → latest_override (learnt_at ticks i) ≡ Some value
override_at ticks from zero value is within none = override_same ticks from 0 value (omega arith) is
override_at ticks from (suc i) value is within none =
    elim (cases_lt from (suc i)) [
      | inl less ↦ override_next ticks i ∙ ap (λ found. option_or found (latest_override (learnt_at ticks i))) (none (suc i) less (omega arith))
          ∙ override_at ticks from i value is (omega arith) (λ j above below. none j above (omega arith))
      | inr more ↦ override_same ticks from (suc i) value (omega arith) is
    ]

override_none : (ticks : List Tick) (i : ℕ) → ((j : ℕ) → j ≤ i → latest_override (heard_at ticks j) ≡ None) → latest_override (learnt_at ticks i) ≡ None
override_none ticks zero none = ap latest_override (joined_next (λ (tick : Tick). pairs_mailed tick.mail) ticks 0) ∙ none 0 (omega arith)
override_none ticks (suc i) none =
    override_next ticks i ∙ ap (λ found. option_or found (latest_override (learnt_at ticks i))) (none (suc i) (omega arith)) ∙ override_none ticks i (λ j within. none j (omega arith))

pub unheard : OfEveryPlan ParkedBeforeOverride
unheard plan ticks i none = ap (λ latest. not (gives_way latest)) (override_none ticks i none)

pub holds : OfEveryPlan HoldsFromOverride
holds plan ticks from i override is within none = ap (λ latest. not (gives_way latest)) (override_at ticks from i override is within none)

-- a parked helm steers nothing
pub parked_steers : (parks fault active : Bool) → parks ≡ true → (parks || fault || not active) ≡ true
parked_steers parks fault active is = rw is refl

pub nothing_parked : OfEveryPlan ParkedDecideNothing
nothing_parked plan ticks i is =
    let now = past_iteration_at plan ticks i in
    nothing plan ticks i (parked_steers now.seen.parked (some_fault now.showings) (some_active now.showings) is)
