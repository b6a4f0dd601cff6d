-- The finished functions of a problem: with one more, and as a problem.
use Rattle.std.proofs.Common.{◌≡◌, ℕ, ◌+◌, ◌<◌, ◌≤◌, ◌&&◌, ◌==◌, Bool, true, false, not, nat_lt, None, Ok, List, [], ◌∷◌, ◌++◌, length, refl, ap, ◌∙◌, arith, length-append}
use Rattle.std.specs.Ordering.{int_eq}
use Rattle.std.specs.List.{list_all, position, position_from}
use Rattle.std.specs.Str.{bytes_eq}
use Rattle.std.proofs.lemmas.Bool.{and_from, and_parts}
use Rattle.std.proofs.lemmas.Bool.Decides.{Decides-int_eq, nat_tests}
use Rattle.std.proofs.lemmas.Slice.Eq.{bytes_eq-Decides}
use Rattle.std.proofs.lemmas.Iterator.Adapters.{position_from-zero}
use Rattle.std.proofs.lemmas.List.Folds.{list_all-append}
use Rattle.ivp_domain.specs.declared.axis.Axis.{Axis}
use Rattle.ivp_problem.specs.declared.term.Term.{Term}
use Rattle.ivp_problem.specs.Problems.{is_weight, problem_from, same_axis, same_domain}

-- where all pass, none fails
none_from : {X : Type 0} (test : X → Bool) (xs : List X) (i : ℕ) → list_all test xs ≡ true → position_from (λ x. not (test x)) i xs ≡ None
none_from test [] i all = refl
none_from test (x ∷ xs) i all = let both = and_parts (test x) (list_all test xs) all in rw both.0 (none_from test xs (i + 1) both.1)

none_found : {X : Type 0} (test : X → Bool) (xs : List X) → list_all test xs ≡ true → position (λ x. not (test x)) xs ≡ None
none_found test xs all = position_from-zero (λ x. not (test x)) xs ∙ none_from test xs 0 all

-- weights and functions
abbrev pub have_weights : List Term → Bool
have_weights terms = list_all (λ term. is_weight term.weight) terms

abbrev pub are_over : List Axis → List Term → Bool
are_over axes terms = list_all (λ term. same_domain axes term.func.axes) terms

-- 1 to 64 such functions make a problem
pub makes_problem : (axes : List Axis) (terms : List Term) → 0 < length terms → length terms ≤ 64 → have_weights terms ≡ true → are_over axes terms ≡ true → problem_from axes terms ≡ Ok (record { axes = axes; terms = terms })
makes_problem axes terms some few weights same =
    let no_weight = none_found (λ (term : Term). is_weight term.weight) terms weights in
    let no_other = none_found (λ (term : Term). same_domain axes term.func.axes) terms same in
    let not_none : (length terms == 0) ≡ false = grind (arith, nat_tests) in
    let not_many : nat_lt 64 (length terms) ≡ false = grind (arith, nat_tests) in
    rw (not_none, not_many, no_weight, no_other) refl

same_axis-self : (axis : Axis) → same_axis axis axis ≡ true
same_axis-self axis =
    let name = (bytes_eq-Decides axis.name axis.name).1 refl in
    let low = (Decides-int_eq axis.low axis.low).1 refl in
    let high = (Decides-int_eq axis.high axis.high).1 refl in
    let points : (axis.points == axis.points) ≡ true = grind (arith, nat_tests) in
    and_from (bytes_eq axis.name axis.name && int_eq axis.low axis.low && int_eq axis.high axis.high) (axis.points == axis.points)
    (and_from (bytes_eq axis.name axis.name && int_eq axis.low axis.low) (int_eq axis.high axis.high) (and_from (bytes_eq axis.name axis.name) (int_eq axis.low axis.low) name low) high) points

-- a domain is the same as itself
pub same_domain-self : (axes : List Axis) → same_domain axes axes ≡ true
same_domain-self [] = refl
same_domain-self (axis ∷ axes) = and_from (same_axis axis axis) (same_domain axes axes) (same_axis-self axis) (same_domain-self axes)

-- one more passes too
pub one_more : {X : Type 0} (test : X → Bool) (before after : List X) (x : X) → after ≡ before ++ x ∷ [] → list_all test before ≡ true → test x ≡ true → list_all test after ≡ true
one_more test before after x more all here = ap (list_all test) more ∙ list_all-append test before (x ∷ []) ∙ and_from (list_all test before) (test x && true) all (and_from (test x) true here refl)

pub weights_more : (before after : List Term) (term : Term) → after ≡ before ++ term ∷ [] → have_weights before ≡ true → is_weight term.weight ≡ true → have_weights after ≡ true
weights_more before after term more all here = one_more (λ t. is_weight t.weight) before after term more all here

pub over_more : (axes : List Axis) (before after : List Term) (term : Term) → after ≡ before ++ term ∷ [] → are_over axes before ≡ true → term.func.axes ≡ axes → are_over axes after ≡ true
over_more axes before after term more all here =
    one_more (λ t. same_domain axes t.func.axes) before after term more all (ap (same_domain axes) here ∙ same_domain-self axes)

pub few_more : (before after : List Term) (term : Term) → after ≡ before ++ term ∷ [] → length before < 64 → length after ≤ 64
few_more before after term more few = omega (arith, ap length more, length-append before (term ∷ []))
