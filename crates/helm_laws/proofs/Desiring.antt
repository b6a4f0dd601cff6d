-- What is desired is a value of its axis.
use Rattle.std.proofs.Common.{◌≡◌, ℕ, zero, suc, pos, ◌+◌, ◌<◌, ◌⊎◌, inl, inr, Bool, true, false, not, ◌||◌, cond, List, [], ◌∷◌, ◌++◌, length, Option, Some, None, refl, sym, ap, subst, ◌∙◌, arith}
use Rattle.std.specs.Prelude.{if◌then◌else◌, bytes_eq, codes, position, slice_get, slice_index, slice_index_or}
use Rattle.std.specs.List.{All, list_any, position_from}
use Rattle.std.proofs.lemmas.Iterator.Adapters.{position_from-zero}
use Rattle.std.proofs.lemmas.List.Elements.{All-append, All-cons, All-nil}
use Rattle.moos_post.specs.declared.value.Pair.{Pair}
use Rattle.ivp_domain.specs.declared.axis.Axis.{Axis}
use Rattle.ivp_domain.specs.declared.boxes.Point.{Point}
use Rattle.ivp_domain.specs.Axes.{no_axis, value_on}
use Rattle.ivp_domain.specs.Domains.{is_domain, is_point, size_of_axis, size_on}
use Rattle.ivp_domain.proofs.Sizes.{four_axes, places_below}
use Rattle.ivp_problem.specs.Problems.{WeightedSum}
use Rattle.ivp_problem.specs.Sums.{best_of}
use Rattle.ivp_problem.proofs.KeyOrder.{best_point}
use Rattle.ivp_cert.specs.Certificates.{best_decision}
use Rattle.helm_core.specs.Decisions.{active_problem, number_at, number_on, some_active}
use Rattle.helm_core.specs.PastIterations.{past_iteration_at}
use Rattle.helm_core.specs.Posts.{allstop_of, desired, mentions_course, mentions_depth, mentions_speed, number_pair}
use Rattle.helm_laws.specs.Files.{OfEveryPlan}
use Rattle.helm_laws.specs.Desires.{DesiresInDomain, IsDesired, IsInDomain, IsStopSpeed, IsValueOn}
use Rattle.helm_laws.specs.Stops.{must_stop}
use Rattle.helm_laws.proofs.Stopping.{told}

-- where a test first passes
record Found {A : Type 0} (test : A → Bool) (xs : List A) (from : ℕ) : Type 0 where
  k : ℕ
  x : A
  at : position_from test from xs ≡ Some (from + k)
  is : slice_get xs k ≡ Some x
  passes : test x ≡ true

found : {A : Type 0} (test : A → Bool) (xs : List A) (from : ℕ) → list_any test xs ≡ true → Found test xs from
found test [] from is = absurd (let e : false ≡ true = is in cc)
found test (x ∷ xs) from is = by (test x) refl is (found test xs (from + 1))
  where
    by : (b : Bool) → test x ≡ b → (b || list_any test xs) ≡ true → (list_any test xs ≡ true → Found test xs (from + 1)) → Found test (x ∷ xs) from
    by true e is later = record { k = 0; x = x; at = ap (λ b. cond b (Some from) (position_from test (from + 1) xs)) e ∙ ap Some (let zeroed : from ≡ from + 0 = omega arith in zeroed); is = refl; passes = e }
    by false e is later =
        let rest = later is in
        record { k = suc rest.k; x = rest.x; at = ap (λ b. cond b (Some from) (position_from test (from + 1) xs)) e ∙ rest.at ∙ ap Some (let more : (from + 1) + rest.k ≡ from + suc rest.k = omega arith in more); is = rest.is; passes = rest.passes }

get_there : {A : Type 0} (xs : List A) (k : ℕ) (x d : A) → slice_get xs k ≡ Some x → slice_index_or xs k d ≡ x
get_there [] k x d is = absurd (let e : None ≡ Some x = is in cc)
get_there (y ∷ xs) zero x d is = let e : Some y ≡ Some x = is in cc
get_there (y ∷ xs) (suc k) x d is = get_there xs k x d is

there_within : {A : Type 0} (xs : List A) (k : ℕ) (x : A) → slice_get xs k ≡ Some x → k < length xs
there_within [] k x is = absurd (let e : None ≡ Some x = is in cc)
there_within (y ∷ xs) zero x is = omega arith
there_within (y ∷ xs) (suc k) x is = let l = there_within xs k x is in omega (arith, l)

-- a place of a point of the domain
place_within : (axes : List Axis) (point : Point) (k : ℕ) → is_domain axes ≡ true → is_point axes point ≡ true → k < 4 → slice_index point.at k < size_on k axes
place_within axes point zero domain inside few = (places_below axes point domain inside).0
place_within axes point (suc zero) domain inside few = (places_below axes point domain inside).1
place_within axes point (suc (suc zero)) domain inside few = (places_below axes point domain inside).2
place_within axes point (suc (suc (suc zero))) domain inside few = (places_below axes point domain inside).3
place_within axes point (suc (suc (suc (suc k)))) domain inside few = absurd (omega arith)

on_axis : (axes : List Axis) (name : List ℕ) (point : Point) → is_domain axes ≡ true → is_point axes point ≡ true → list_any (λ axis. bytes_eq axis.name name) axes ≡ true → IsValueOn axes name (number_on axes name point)
on_axis axes name point domain inside has =
    let test = λ (axis : Axis). bytes_eq axis.name name in
    let here = found test axes 0 has in
    let at : position test axes ≡ Some here.k = position_from-zero test axes ∙ here.at ∙ ap Some (let e : 0 + here.k ≡ here.k = omega arith in e) in
    let few : here.k < 4 = (let l = there_within axes here.k here.x here.is in let m = four_axes axes domain in omega (arith, l, m)) in
    let below : slice_index point.at here.k < here.x.points = subst (λ (found : Option Axis). slice_index point.at here.k < size_of_axis found) here.is (place_within axes point here.k domain inside few) in
    record {
      axis = here.x;
      at = here.k;
      place = slice_index point.at here.k;
      among = here.is;
      named = here.passes;
      within = below;
      is = ap (number_at axes point) at ∙ ap (λ axis. value_on axis (slice_index point.at here.k)) (get_there axes here.k here.x no_axis here.is);
    }

-- what is desired on an axis
desired_on : (P : Pair → Type 0) (axes : List Axis) (var name : List ℕ) (mentioned active : Bool) (problem : WeightedSum) → problem.axes ≡ axes → is_domain axes ≡ true
    → ((pair : Pair) → IsDesired axes var name mentioned pair → P pair) → All P (desired var name mentioned (cond active (Some (best_decision problem)) None))
desired_on P axes var name true true problem same domain each =
    let pair = number_pair var (number_on problem.axes name (best_of problem)) in
    All-cons P pair [] (each pair (record {
      number = number_on problem.axes name (best_of problem);
      is = refl;
      mentions = refl;
      on = λ has. subst (λ (own : List Axis). IsValueOn axes name (number_on own name (best_of problem))) (sym same)
          (on_axis axes name (best_of problem) domain (subst (λ (own : List Axis). is_point own (best_of problem) ≡ true) same (best_point problem)) has);
    })) (All-nil P)
desired_on P axes var name true false problem same domain each = All-nil P
desired_on P axes var name false active problem same domain each = All-nil P

-- and the speed
speed_on : (P : Pair → Type 0) (stop clears : Bool) (rest zeros : List Pair) → clears ≡ not stop → (stop ≡ true → All P zeros) → (stop ≡ false → All P rest) → All P (if clears then rest else zeros)
speed_on P true clears rest zeros is stopped driven = rw is (stopped refl)
speed_on P false clears rest zeros is stopped driven = rw is (driven refl)

pub in_domain : OfEveryPlan DesiresInDomain
in_domain plan ticks i domain =
    let now = past_iteration_at plan ticks i in
    let P : Pair → Type 0 = λ pair. IsStopSpeed plan ticks i pair ⊎ IsInDomain plan.axes now pair in
    let acts = some_active now.showings in
    let problem = active_problem plan.axes now.showings in
    let decision = cond acts (Some (best_decision problem)) None in
    let headings = desired (codes "DESIRED_HEADING") (codes "course") (mentions_course now.showings) decision in
    let speeds = desired (codes "DESIRED_SPEED") (codes "speed") (mentions_speed now.showings) decision in
    let depths = desired (codes "DESIRED_DEPTH") (codes "depth") (mentions_depth now.showings) decision in
    let clears = bytes_eq (allstop_of plan now) (codes "clear") in
    let heading = desired_on P plan.axes (codes "DESIRED_HEADING") (codes "course") (mentions_course now.showings) acts problem refl domain (λ pair is. inr (inl is)) in
    let speed = desired_on P plan.axes (codes "DESIRED_SPEED") (codes "speed") (mentions_speed now.showings) acts problem refl domain (λ pair is. inr (inr (inl is))) in
    let depth = desired_on P plan.axes (codes "DESIRED_DEPTH") (codes "depth") (mentions_depth now.showings) acts problem refl domain (λ pair is. inr (inr (inr is))) in
    let zero = number_pair (codes "DESIRED_SPEED") (pos 0) in
    let either = speed_on P (must_stop plan ticks i) clears speeds (zero ∷ []) (told plan ticks i)
    (λ stops. All-cons P zero [] (inl (record { stops = stops; is = refl })) (All-nil P)) (λ goes. speed) in
    let stopping : List Pair = if clears then speeds else zero ∷ [] in
    All-append P (headings ++ stopping) depths (All-append P headings stopping heading either) depth
