-- What is decided depends on the turns with a say alone.
use Rattle.std.proofs.Common.{◌≡◌, ℕ, Bool, true, false, not, ◌&&◌, ◌||◌, cond, List, [], ◌∷◌, ◌++◌, map, Option, Some, None, refl, sym, ap, ◌∙◌}
use Rattle.std.specs.Prelude.{codes, option_map}
use Rattle.std.specs.List.{cons_option, filter, filter_map, list_any}
use Rattle.moos_post.specs.declared.value.Pair.{Pair}
use Rattle.ivp_domain.specs.declared.axis.Axis.{Axis}
use Rattle.bhv_file.specs.Params.{has_axis}
use Rattle.ivp_problem.specs.declared.term.Term.{Term}
use Rattle.ivp_cert.specs.Certificates.{best_decision}
use Rattle.ivp_cert.specs.declared.claim.Decision.{Decision}
use Rattle.helm_core.specs.Behaviors.{TurnSoFar, all_begun, has_fault, is_active_in, showing_of, weight_now}
use Rattle.helm_core.specs.Decisions.{active_term, some_active, term_of}
use Rattle.helm_core.specs.Posts.{desired, desired_speed, mentions_course, mentions_depth, mentions_speed, some_fault}
use Rattle.helm_core.specs.Lists.{list_at}
use Rattle.helm_core.specs.Ticks.{Seen, seen_at}
use Rattle.helm_laws.specs.Files.{OfEveryPlan}
use Rattle.helm_laws.specs.Influences.{SaysNothingUnstepped, WithoutInfluence, has_say}
use Rattle.helm_laws.proofs.Inactive.{silent_faultless, silent_inactive, silent_unstepped}

-- what passes a test that the quiet fail, of all or of those that aren't quiet
any_kept : {A B : Type 0} (say : A → Bool) (shown : A → B) (test : B → Bool) → ((one : A) → say one ≡ false → test (shown one) ≡ false) → (all : List A)
    → list_any test (map shown all) ≡ list_any test (map shown (filter say all))
any_kept say shown test quiet [] = refl
any_kept say shown test quiet (one ∷ all) = by (say one) (quiet one) (any_kept say shown test quiet all)
  where
    by : (says : Bool) → (says ≡ false → test (shown one) ≡ false) → list_any test (map shown all) ≡ list_any test (map shown (filter say all))
        → (test (shown one) || list_any test (map shown all)) ≡ list_any test (map shown (cond says (one ∷ filter say all) (filter say all)))
    by true none rest = ap (λ b. test (shown one) || b) rest
    by false none rest = ap (λ b. b || list_any test (map shown all)) (none refl) ∙ rest

-- the same of what they give
given_kept : {A B C : Type 0} (say : A → Bool) (shown : A → B) (give : B → Option C) → ((one : A) → say one ≡ false → give (shown one) ≡ None) → (all : List A)
    → filter_map give (map shown all) ≡ filter_map give (map shown (filter say all))
given_kept say shown give quiet [] = refl
given_kept say shown give quiet (one ∷ all) = by (say one) (quiet one) (given_kept say shown give quiet all)
  where
    by : (says : Bool) → (says ≡ false → give (shown one) ≡ None) → filter_map give (map shown all) ≡ filter_map give (map shown (filter say all))
        → cons_option (give (shown one)) (filter_map give (map shown all)) ≡ filter_map give (map shown (cond says (one ∷ filter say all) (filter say all)))
    by true none rest = ap (cons_option (give (shown one))) rest
    by false none rest = ap (λ given. cons_option given (filter_map give (map shown all))) (none refl) ∙ rest

faults_kept : (all : List TurnSoFar) → list_any has_fault all ≡ list_any has_fault (filter has_say all)
faults_kept [] = refl
faults_kept (one ∷ all) = by (has_say one) (silent_faultless one) (faults_kept all)
  where
    by : (says : Bool) → (says ≡ false → has_fault one ≡ false) → list_any has_fault all ≡ list_any has_fault (filter has_say all)
        → (has_fault one || list_any has_fault all) ≡ list_any has_fault (cond says (one ∷ filter has_say all) (filter has_say all))
    by true none rest = ap (λ b. has_fault one || b) rest
    by false none rest = ap (λ b. b || list_any has_fault all) (none refl) ∙ rest

-- what is decided on
record Summary : Type 0 where
  fault : Bool
  active : Bool
  course : Bool
  speed : Bool
  depth : Bool
  terms : List Term

abbrev summary : Seen → Bool → List TurnSoFar → Summary
summary seen fault all =
    let showings = map (showing_of seen fault) all in
    record {
      fault = some_fault showings;
      active = some_active showings;
      course = mentions_course showings;
      speed = mentions_speed showings;
      depth = mentions_depth showings;
      terms = filter_map active_term showings;
    }

and_first : (a b : Bool) → a ≡ false → (a && b) ≡ false
and_first a b is = ap (λ c. c && b) is

summary_kept : (seen : Seen) (fault : Bool) (all : List TurnSoFar) → summary seen fault all ≡ summary seen fault (filter has_say all)
summary_kept seen fault all =
    let shown = showing_of seen fault in
    let one : some_fault (map shown all) ≡ some_fault (map shown (filter has_say all)) = any_kept has_say shown _ (λ one none. silent_faultless one none) all in
    let two : some_active (map shown all) ≡ some_active (map shown (filter has_say all)) = any_kept has_say shown _ (λ one none. silent_inactive fault one none) all in
    let three : mentions_course (map shown all) ≡ mentions_course (map shown (filter has_say all)) = any_kept has_say shown _ (λ one none. and_first (is_active_in fault one) one.out.course (silent_inactive fault one none)) all in
    let four : mentions_speed (map shown all) ≡ mentions_speed (map shown (filter has_say all)) = any_kept has_say shown _ (λ one none. and_first (is_active_in fault one) one.out.speed (silent_inactive fault one none)) all in
    let five : mentions_depth (map shown all) ≡ mentions_depth (map shown (filter has_say all)) = any_kept has_say shown _ (λ one none. and_first (is_active_in fault one) one.out.depth (silent_inactive fault one none)) all in
    let six : filter_map active_term (map shown all) ≡ filter_map active_term (map shown (filter has_say all))
    = given_kept has_say shown active_term (λ one none. ap (λ b. cond b (option_map (term_of (weight_now one)) one.out.func) None) (silent_inactive fault one none)) all in
    rw (one, two, three, four, five, six) refl

abbrev summary_of : Seen → List TurnSoFar → Summary
summary_of seen all = summary seen (list_any has_fault all) all

-- so it is a function of the turns with a say
summary_same : (seen : Seen) (all others : List TurnSoFar) → filter has_say all ≡ filter has_say others → summary_of seen all ≡ summary_of seen others
summary_same seen all others same =
    kept seen all ∙ ap (λ turns. summary seen (list_any has_fault turns) turns) same ∙ sym (kept seen others)
  where
    kept : (seen : Seen) (all : List TurnSoFar) → summary_of seen all ≡ summary seen (list_any has_fault (filter has_say all)) (filter has_say all)
    kept seen all = summary_kept seen (list_any has_fault all) all ∙ ap (λ b. summary seen b (filter has_say all)) (faults_kept all)

abbrev decision_from : List Axis → Summary → Option Decision
decision_from axes of = cond of.active (Some (best_decision (record { axes = axes; terms = of.terms }))) None

abbrev allstop_from : List Axis → Bool → Summary → List ℕ
allstop_from axes parked of =
    cond parked (codes "ManualOverride") (cond of.fault (codes "BehaviorError") (cond (not of.active) (codes "NothingToDo")
    (cond ((has_axis axes (codes "course") && not of.course) || (has_axis axes (codes "speed") && not of.speed)) (codes "MissingDecVars") (codes "clear"))))

abbrev desired_from : List Axis → Bool → Summary → List Pair
desired_from axes parked of =
    desired (codes "DESIRED_HEADING") (codes "course") of.course (decision_from axes of) ++ desired_speed (allstop_from axes parked of) of.speed (decision_from axes of)
    ++ desired (codes "DESIRED_DEPTH") (codes "depth") of.depth (decision_from axes of)

pub without : OfEveryPlan WithoutInfluence
without plan ticks i others same =
    let seen = seen_at plan.decls ticks i in
    let same : summary_of seen (all_begun plan.axes seen (list_at plan ticks i)) ≡ summary_of seen (all_begun plan.axes seen others)
    = summary_same seen (all_begun plan.axes seen (list_at plan ticks i)) (all_begun plan.axes seen others) same in
    record { decision = ap (decision_from plan.axes) same; desires = ap (desired_from plan.axes seen.parked) same; reason = ap (allstop_from plan.axes seen.parked) same }

pub unstepped : SaysNothingUnstepped
unstepped axes seen one is = silent_unstepped axes seen one is
