-- The problem of an iteration is one: the active behaviours are few, and each has a function over the domain with a good
-- weight.
use Rattle.std.proofs.Common.{◌≡◌, ℕ, ℤ, suc, get_or, ◌+◌, ◌≤◌, ◌<◌, Bool, true, false, not, ◌||◌, cond, if◌then◌else◌, List, [], ◌∷◌, ◌++◌, append_assoc, length, Option, Some, None, Ok, Err, refl, ap, sym, subst, ◌∙◌, arith}
use Rattle.std.specs.Prelude.{IfSome, IsTrue, is_some, nat_lt, option_map, position, slice_get, slice_index, ◌==◌}
use Rattle.std.specs.Option.{option_to_list}
use Rattle.std.specs.List.{All, cons_option, filter_map, position_from}
use Rattle.std.proofs.lemmas.Bool.Decides.{Decides-int_eq, nat_tests}
use Rattle.std.proofs.lemmas.Iterator.Adapters.{position_from-zero}
use Rattle.std.proofs.lemmas.List.Elements.{All-cons, All-head, All-nil, All-tail, All-weaker}
use Rattle.std.proofs.lemmas.Option.{slice_get-get_or}
use Rattle.std.proofs.lemmas.Slice.Eq.{bytes_eq-Decides}
use Rattle.ivp_domain.specs.declared.axis.Axis.{Axis}
use Rattle.ivp_domain.specs.Axes.{no_axis, value_on}
use Rattle.ivp_domain.specs.declared.boxes.Point.{Point}
use Rattle.ivp_func.specs.Functions.{Function}
use Rattle.ivp_problem.specs.declared.term.Term.{Term}
use Rattle.ivp_problem.specs.declared.term.ProblemFault.{ProblemFault}
use Rattle.ivp_problem.specs.Problems.{WeightedSum, bad_weight, is_weight, other_domain, problem_from, same_axis, same_domain}
use Rattle.helm_core.specs.declared.showing.TurnShown.{TurnShown}
use Rattle.helm_core.specs.Decisions.{IsFitTerm, active_term, number_at, some_active, term_of}
use Rattle.helm_core.specs.Standings.{IsFit, IsOverAxes}

same_axis-itself : (axis : Axis) → same_axis axis axis ≡ true
same_axis-itself axis =
    let points : (axis.points == axis.points) ≡ true = grind (arith, nat_tests) in
    rw ((bytes_eq-Decides axis.name axis.name).1 refl, (Decides-int_eq axis.low axis.low).1 refl, (Decides-int_eq axis.high axis.high).1 refl, points) refl

same_domain-itself : (axes : List Axis) → same_domain axes axes ≡ true
same_domain-itself [] = refl
same_domain-itself (axis ∷ axes) = rw (same_axis-itself axis, same_domain-itself axes) refl

none_from : {A : Type 0} (test : A → Bool) (i : ℕ) (xs : List A) → All (λ x. test x ≡ false) xs → position_from test i xs ≡ None
none_from test i [] none = refl
none_from test i (x ∷ xs) none =
    ap (λ first. cond first (Some i) (position_from test (i + 1) xs)) (All-head (λ x. test x ≡ false) x xs none)
    ∙ none_from test (i + 1) xs (All-tail (λ x. test x ≡ false) x xs none)

none_at : {A : Type 0} (test : A → Bool) (xs : List A) → All (λ x. test x ≡ false) xs → position test xs ≡ None
none_at test xs none = position_from-zero test xs ∙ none_from test 0 xs none

good_weight : (axes : List Axis) (term : Term) → IsFitTerm axes term → not (is_weight term.weight) ≡ false
good_weight axes term fit = let is : is_weight term.weight ≡ true = fit.weight in rw is refl

good_domain : (axes : List Axis) (term : Term) → IsFitTerm axes term → not (same_domain axes term.func.axes) ≡ false
good_domain axes term fit = ap (λ (own : List Axis). not (same_domain axes own)) fit.over ∙ ap not (same_domain-itself axes)

-- the terms make a problem
pub problem_made : (axes : List Axis) (terms : List Term) → 0 < length terms → length terms ≤ 64 → All (IsFitTerm axes) terms → problem_from axes terms ≡ Ok (record { axes = axes; terms = terms })
problem_made axes terms some few fit =
    let weights : bad_weight terms ≡ None = none_at (λ (term : Term). not (is_weight term.weight)) terms (All-weaker (IsFitTerm axes) _ (good_weight axes) terms fit) in
    let domains : other_domain axes terms ≡ None = none_at (λ (term : Term). not (same_domain axes term.func.axes)) terms (All-weaker (IsFitTerm axes) _ (good_domain axes) terms fit) in
    let empty : (length terms == 0) ≡ false = grind (arith, nat_tests) in
    let many : nat_lt 64 (length terms) ≡ false = grind (arith, nat_tests) in
    rw (empty, many, weights, domains) refl

fit_with : (axes : List Axis) (active : Bool) (func : Option Function) (weight : ℕ) (rest : List Term) → IfSome func (IsOverAxes axes) → (active ≡ true → IsTrue (is_weight weight))
    → All (IsFitTerm axes) rest → All (IsFitTerm axes) (cons_option (if active then option_map (term_of weight) func else None) rest)
fit_with axes false func weight rest over weighs all = all
fit_with axes true None weight rest over weighs all = all
fit_with axes true (Some func) weight rest over weighs all = All-cons (IsFitTerm axes) (term_of weight func) rest (record { weight = weighs refl; over = over }) all

-- the active behaviours of a list
pub fit_terms : (axes : List Axis) (showings : List TurnShown) → All (IsFit axes) showings → All (IsFitTerm axes) (filter_map active_term showings)
fit_terms axes [] all = All-nil (IsFitTerm axes)
fit_terms axes (one ∷ showings) all =
    let this : IsFit axes one = All-head (IsFit axes) one showings all in
    fit_with axes one.active one.out.func one.weight (filter_map active_term showings) this.over this.weight (fit_terms axes showings (All-tail (IsFit axes) one showings all))

few_with : (active : Bool) (func : Option Function) (weight : ℕ) (rest : List Term) (n : ℕ) → length rest ≤ n → length (cons_option (if active then option_map (term_of weight) func else None) rest) ≤ suc n
few_with false func weight rest n few = omega arith
few_with true None weight rest n few = omega arith
few_with true (Some func) weight rest n few = omega arith

pub few_terms : (showings : List TurnShown) → length (filter_map active_term showings) ≤ length showings
few_terms [] = omega arith
few_terms (one ∷ showings) = few_with one.active one.out.func one.weight (filter_map active_term showings) (length showings) (few_terms showings)

some_with : (active : Bool) (func : Option Function) (weight : ℕ) (rest : List Term) (others : Bool) → (active ≡ true → is_some func ≡ true) → (active || others) ≡ true → (others ≡ true → 0 < length rest)
    → 0 < length (cons_option (if active then option_map (term_of weight) func else None) rest)
some_with false func weight rest others given is later = later is
some_with true None weight rest others given is later = absurd (let e : false ≡ true = given refl in cc)
some_with true (Some func) weight rest others given is later = omega arith

pub some_terms : (axes : List Axis) (showings : List TurnShown) → All (IsFit axes) showings → some_active showings ≡ true → 0 < length (filter_map active_term showings)
some_terms axes [] all is = absurd (let e : false ≡ true = is in cc)
some_terms axes (one ∷ showings) all is =
    some_with one.active one.out.func one.weight (filter_map active_term showings) (some_active showings) (All-head (IsFit axes) one showings all).given is
    (some_terms axes showings (All-tail (IsFit axes) one showings all))

pub terms_first : (terms : List Term) (left all : List TurnShown) → terms ≡ [] → left ≡ all → terms ++ filter_map active_term left ≡ filter_map active_term all
terms_first terms left all none is = ap (λ list. list ++ filter_map active_term left) none ∙ ap (filter_map active_term) is

cons_as_list : (term : Option Term) (rest : List Term) → cons_option term rest ≡ option_to_list term ++ rest
cons_as_list None rest = refl
cons_as_list (Some term) rest = refl

pub terms_next : (terms terms' : List Term) (showing : TurnShown) (before left : List TurnShown) (all : List Term) → before ≡ showing ∷ left → terms' ≡ terms ++ option_to_list (active_term showing)
    → terms ++ filter_map active_term before ≡ all → terms' ++ filter_map active_term left ≡ all
terms_next terms terms' showing before left all is more so_far =
    ap (λ list. list ++ filter_map active_term left) more ∙ append_assoc terms (option_to_list (active_term showing)) (filter_map active_term left)
    ∙ ap (λ list. terms ++ list) (sym (cons_as_list (active_term showing) (filter_map active_term left))) ∙ ap (λ list. terms ++ filter_map active_term list) (sym is) ∙ so_far

abbrev sum_of_terms : List Axis → List Term → WeightedSum
sum_of_terms axes terms = record { axes = axes; terms = terms }

pub is_made : (axes : List Axis) (terms : List Term) (problem : WeightedSum) → problem_from axes terms ≡ Ok (record { axes = axes; terms = terms }) → Ok problem ≡ problem_from axes terms → problem ≡ record { axes = axes; terms = terms }
is_made axes terms problem made is = let e : Ok problem ≡ Ok (sum_of_terms axes terms) = is ∙ made in cc

pub never_refused : (axes : List Axis) (terms : List Term) (fault : ProblemFault) → problem_from axes terms ≡ Ok (record { axes = axes; terms = terms }) → Err fault ≡ problem_from axes terms → ⊥
never_refused axes terms fault made is = let e : Err fault ≡ Ok (sum_of_terms axes terms) = is ∙ made in cc

-- the number there
pub number_there : (axes : List Axis) (point : Point) (k : ℕ) (number : ℤ) → k < length axes → IfSome (slice_get axes k) (λ axis. number ≡ value_on axis (slice_index point.at k)) → number ≡ number_at axes point (Some k)
number_there axes point k number within is =
    let there : slice_get axes k ≡ Some (get_or axes k no_axis) = slice_get-get_or axes k no_axis within in
    subst (λ found. IfSome found (λ (axis : Axis). number ≡ value_on axis (slice_index point.at k))) there is
