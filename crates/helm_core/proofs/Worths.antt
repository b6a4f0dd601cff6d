-- The sum of a decision's problem is what a point is worth to all behaviours.
use Rattle.std.proofs.Common.{◌≡◌, ℕ, ◌+◌, ◌*◌, ◌<◌, ◌≤◌, ℤ, pos, nat_abs, Bool, true, false, not, ◌&&◌, ◌||◌, ◌⊎◌, cond, List, [], ◌∷◌, map, Option, Some, None, refl, sym, ap, ◌∙◌, subst, arith}
use Rattle.std.specs.Prelude.{IfSome, is_some, nat_lt, option_map, sum_by}
use Rattle.std.specs.List.{All, AllByRecursion as Each, cons_option, filter_map, list_any}
use Rattle.std.proofs.lemmas.Bool.{and_parts}
use Rattle.std.proofs.lemmas.Bool.Decides.{nat_tests}
use Rattle.std.proofs.lemmas.List.Elements.{recursion_from_All}
use Rattle.std.proofs.lemmas.List.Sums.{sum_by-cons}
use Rattle.ivp_domain.specs.declared.axis.Axis.{Axis}
use Rattle.ivp_domain.specs.declared.boxes.Point.{Point}
use Rattle.ivp_domain.specs.Domains.{index_of, is_domain, is_point}
use Rattle.ivp_func.specs.Functions.{Function}
use Rattle.ivp_func.specs.Pieces.{value_at}
use Rattle.ivp_problem.specs.declared.term.Term.{Term}
use Rattle.ivp_problem.specs.Problems.{WeightedSum}
use Rattle.ivp_problem.specs.Sums.{best_of, sum_at, weighted_at}
use Rattle.ivp_problem.proofs.KeyOrder.{best_most, best_point}
use Rattle.bhv_file.specs.Params.{has_axes}
use Rattle.bhv_file.specs.Serving.{suits}
use Rattle.bhv_kinds.specs.Utilities.{Utility, worth_at}
use Rattle.bhv_kinds.specs.Changes.{params_at, step_of}
use Rattle.bhv_kinds.specs.Worths.{IsWorth, StepsAreWorth}
use Rattle.bhv_life.specs.Lives.{is_fresh, is_stepped}
use Rattle.helm_core.specs.Behaviors.{TurnSoFar, BhvSoFar, Judged, all_begun, begun_at, begun_by_step, beginning_at, has_fault, judged_at, past_so_far, showing_of, weight_now}
use Rattle.ivp_cert.specs.Certificates.{best_decision}
use Rattle.helm_core.specs.Decisions.{active_problem, active_term, decision_made, some_active, term_of}
use Rattle.helm_core.specs.Lists.{list_at}
use Rattle.helm_core.specs.Plans.{Plan, plan_made}
use Rattle.helm_core.specs.Standings.{MayStep}
use Rattle.helm_core.specs.Ticks.{Seen, seen_at}
use Rattle.helm_core.specs.Worths.{DecidesByWorth, IsByWorth, ValidFilesDecideByWorth, times_worth, wanted_by_step, worth_to, worth_to_all}
use Rattle.helm_core.proofs.Listing.{blocks_hold}
use Rattle.helm_core.proofs.Turning.{all_may_step}

-- what a turn's function is worth at each point, and its weight
stepped_worth : StepsAreWorth → (axes : List Axis) (seen : Seen) (one : BhvSoFar) (judged : Judged) (stepped : Bool) → is_domain axes ≡ true → MayStep axes one.block
    → IsWorth axes (wanted_by_step axes seen one judged stepped) (begun_by_step axes seen one judged stepped).out.func
stepped_worth law axes seen one judged true lawful may = law one.block.spec judged.changes (step_of axes seen.known seen.stamp (is_fresh (past_so_far one))) may.valid lawful (and_parts (has_axes axes one.block.spec.shape) (suits axes one.block.spec.shape) may.served).0
stepped_worth law axes seen one judged false lawful may = tt

weight_kept : (axes : List Axis) (seen : Seen) (one : BhvSoFar) (judged : Judged) (stepped : Bool) → weight_now (begun_by_step axes seen one judged stepped) ≡ (params_at one.block.spec judged.changes).weight
weight_kept axes seen one judged true = refl
weight_kept axes seen one judged false = refl

-- the weighted value of a term, and of none
abbrev term_at : Point → Option Term → ℕ
term_at point None = 0
term_at point (Some term) = weighted_at point term

value_abs : (v : ℤ) (n : ℕ) → v ≡ pos n → nat_abs v ≡ n
value_abs v n is = ap nat_abs is

-- a term by its weight and function: where the weight is 0 nothing is lost
term_worth : (axes : List Axis) (point : Point) (weight : ℕ) (utility : Option Utility) (func : Option Function) → is_point axes point ≡ true → IsWorth axes utility func
    → term_at point (cond (is_some func && nat_lt 0 weight && not false) (option_map (term_of weight) func) None) ≡ times_worth axes point weight utility
term_worth axes point weight None None inside is = refl
term_worth axes point weight None (Some func) inside is = absurd is
term_worth axes point weight (Some utility) None inside is = absurd is
term_worth axes point weight (Some utility) (Some func) inside is = by (nat_lt 0 weight) refl (value_abs (value_at func.pieces point) (worth_at axes utility point) (is.1.value point inside))
  where
    none : nat_lt 0 weight ≡ false → weight ≡ 0
    none e = grind (arith, nat_tests)

    by : (b : Bool) → nat_lt 0 weight ≡ b → nat_abs (value_at func.pieces point) ≡ worth_at axes utility point
        → term_at point (cond (true && nat_lt 0 weight && not false) (Some (term_of weight func)) None) ≡ weight * worth_at axes utility point
    by true e same = rw e (ap (λ (n : ℕ). weight * n) same)
    by false e same = let zeroed : weight ≡ 0 = none e in rw (e, zeroed) (omega arith)

-- a term more of a sum
with_term : (point : Point) (term : Option Term) (rest : List Term) → sum_by (weighted_at point) (cons_option term rest) ≡ term_at point term + sum_by (weighted_at point) rest
with_term point None rest = omega arith
with_term point (Some term) rest = sum_by-cons (weighted_at point) term rest

-- the sum of the active behaviours' terms, where none raised a fault
all_worth : StepsAreWorth → (axes : List Axis) (seen : Seen) (point : Point) (ones : List BhvSoFar) → is_domain axes ≡ true → is_point axes point ≡ true → Each (λ one. MayStep axes one.block) ones
    → sum_by (weighted_at point) (filter_map active_term (map (showing_of seen false) (map (begun_at axes seen) ones))) ≡ sum_by (worth_to axes seen point) ones
all_worth law axes seen point [] lawful inside may = refl
all_worth law axes seen point (one ∷ ones) lawful inside may =
    let judged = judged_at axes seen one in
    let stepped = is_stepped one.block.common (past_so_far one) (beginning_at seen one.block.common) in
    let begun = begun_by_step axes seen one judged stepped in
    let worth = stepped_worth law axes seen one judged stepped lawful may.0 in
    let weight = weight_kept axes seen one judged stepped in
    let this = term_worth axes point (weight_now begun) (wanted_by_step axes seen one judged stepped) begun.out.func inside worth
    ∙ ap (λ (w : ℕ). times_worth axes point w (wanted_by_step axes seen one judged stepped)) weight in
    let rest = all_worth law axes seen point ones lawful inside may.1 in
    with_term point (active_term (showing_of seen false begun)) (filter_map active_term (map (showing_of seen false) (map (begun_at axes seen) ones)))
    ∙ ap (λ (n : ℕ). n + sum_by (weighted_at point) (filter_map active_term (map (showing_of seen false) (map (begun_at axes seen) ones)))) this
    ∙ ap (λ (n : ℕ). worth_to axes seen point one + n) rest
    ∙ sym (sum_by-cons (worth_to axes seen point) one ones)

-- where a behaviour raised a fault none is active
none_active : (seen : Seen) (all : List TurnSoFar) → some_active (map (showing_of seen true) all) ≡ false
none_active seen [] = refl
none_active seen (one ∷ all) = by (is_some one.out.func) (nat_lt 0 (weight_now one)) (none_active seen all)
  where
    by : (a b : Bool) → some_active (map (showing_of seen true) all) ≡ false → ((a && b && not true) || some_active (map (showing_of seen true) all)) ≡ false
    by true true rest = rest
    by true false rest = rest
    by false b rest = rest

-- so what is decided is decided by worth
by_worth : (problem : WeightedSum) (worth : Point → ℕ) → is_domain problem.axes ≡ true → ((point : Point) → is_point problem.axes point ≡ true → sum_at problem point ≡ worth point) → IsByWorth problem.axes worth (best_decision problem)
by_worth problem worth lawful same =
    let best = best_of problem in
    record {
      sum = same;
      inside = best_point problem;
      claimed = same best (best_point problem);
      first = λ point inside. subst (λ (s : ℕ). (s < worth best) ⊎ ((s ≡ worth best) × (index_of problem.axes best ≤ index_of problem.axes point))) (same point inside)
          (subst (λ (s : ℕ). (sum_at problem point < s) ⊎ ((sum_at problem point ≡ s) × (index_of problem.axes best ≤ index_of problem.axes point))) (same best (best_point problem))
          (best_most problem point inside));
    }

decided : StepsAreWorth → (axes : List Axis) (seen : Seen) (ones : List BhvSoFar) (fault : Bool) → is_domain axes ≡ true → Each (λ one. MayStep axes one.block) ones
    → IfSome (decision_made axes (map (showing_of seen fault) (all_begun axes seen ones))) (IsByWorth axes (worth_to_all axes seen ones))
decided law axes seen ones true lawful may =
    subst (λ (b : Bool). IfSome (cond b (Some (best_decision (active_problem axes (map (showing_of seen true) (all_begun axes seen ones))))) None) (IsByWorth axes (worth_to_all axes seen ones)))
    (sym (none_active seen (all_begun axes seen ones))) tt
decided law axes seen ones false lawful may =
    by (some_active (map (showing_of seen false) (all_begun axes seen ones)))
    (by_worth (active_problem axes (map (showing_of seen false) (all_begun axes seen ones))) (worth_to_all axes seen ones) lawful (λ point inside. all_worth law axes seen point ones lawful inside may))
  where
    by : (b : Bool) → IsByWorth axes (worth_to_all axes seen ones) (best_decision (active_problem axes (map (showing_of seen false) (all_begun axes seen ones))))
        → IfSome (cond b (Some (best_decision (active_problem axes (map (showing_of seen false) (all_begun axes seen ones))))) None) (IsByWorth axes (worth_to_all axes seen ones))
    by true made = made
    by false made = tt

pub plan_worth : StepsAreWorth → (plan : Plan) → is_domain plan.axes ≡ true → All (MayStep plan.axes) plan.blocks → DecidesByWorth plan
plan_worth law plan lawful may ticks i =
    let seen = seen_at plan.decls ticks i in
    let ones = list_at plan ticks i in
    decided law plan.axes seen ones (list_any has_fault (all_begun plan.axes seen ones)) lawful
    (blocks_hold (MayStep plan.axes) plan ticks i (recursion_from_All (MayStep plan.axes) plan.blocks may))

pub files_worth : StepsAreWorth → ValidFilesDecideByWorth
files_worth law mission file valid read served = plan_worth law (plan_made mission file) valid.domain (all_may_step mission.domain [] file.blocks read.blocks served)
