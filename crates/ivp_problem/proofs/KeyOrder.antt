-- Keys in order: by sum, then by least index; and the keys of points.
use Rattle.std.proofs.Common.{◌≡◌, ℕ, zero, suc, ◌+◌, ◌*◌, ◌^◌, ◌<◌, ◌≤◌, ◌⊎◌, inl, inr, Bool, true, false, cond, Option, Some, None, List, [], ◌∷◌, length, refl, sym, ap, subst, ◌∙◌, arith}
use Rattle.std.specs.Prelude.{slice_get, slice_index}
use Rattle.std.specs.List.{fold}
use Rattle.std.proofs.Math.Nat.{mul-le-mul_right}
use Rattle.std.proofs.lemmas.Bool.{cases_lt}
use Rattle.std.proofs.lemmas.Bool.Decides.{nat_tests}
use Rattle.ivp_domain.specs.declared.axis.Axis.{Axis}
use Rattle.ivp_domain.specs.declared.boxes.Point.{Point}
use Rattle.ivp_domain.specs.Boxes.{point_from}
use Rattle.ivp_domain.specs.Domains.{index_of, is_domain, is_point, points_of, size_on, whole}
use Rattle.ivp_domain.proofs.BoxLemmas.{listed_point}
use Rattle.ivp_domain.proofs.Sizes.{few, places_below, point_in_list_at, radix}
use Rattle.ivp_problem.specs.declared.key.Key.{Key}
use Rattle.ivp_problem.specs.Keys.{AtMost, greater_key, greater_own, is_at_most, Reaches}
use Rattle.ivp_problem.specs.Problems.{IsProblem, WeightedSum}
use Rattle.ivp_problem.specs.Sums.{best_among, best_of, better, key_at, sum_at}
use Rattle.ivp_problem.proofs.Terms.{at_places, listed_at, weighted_sums_most, weighted_sums_places}

pub at_most_self : (a : Key) → AtMost a a
at_most_self a = inr (refl, omega arith)

pub at_most_then : (a b c : Key) → AtMost a b → AtMost b c → AtMost a c
at_most_then a b c (inl p) (inl q) = inl (omega arith)
at_most_then a b c (inl p) (inr (q, r)) = inl (omega arith)
at_most_then a b c (inr (p, r)) (inl q) = inl (omega arith)
at_most_then a b c (inr (p, r)) (inr (q, s)) = inr (p ∙ q, omega arith)

-- a sum that is no greater and an index that is no less make a key that is no greater
pub at_most_from : (a b : Key) → a.sum ≤ b.sum → b.index ≤ a.index → AtMost a b
at_most_from a b p q = elim (cases_lt a.sum b.sum) [ inl less ↦ inl less | inr more ↦ inr (omega arith, q) ]

pub at_most_sum : (a b : Key) → AtMost a b → a.sum ≤ b.sum
at_most_sum a b (inl p) = omega arith
at_most_sum a b (inr (p, q)) = omega arith

-- keys at most each other are equal
pub at_most_both : (a b : Key) → AtMost a b → AtMost b a → a ≡ b
at_most_both a b (inl p) q = absurd (omega (arith, at_most_sum b a q))
at_most_both a b (inr (p, i)) (inl q) = absurd (omega arith)
at_most_both a b (inr (p, i)) (inr (q, j)) = let index : a.index ≡ b.index = omega arith in rw (p, index) refl

-- of two keys one is at most the other
at_most_either : (a b : Key) → AtMost a b ⊎ AtMost b a
at_most_either a b =
    elim (cases_lt a.sum b.sum) [
      | inl less ↦ inl (inl less)
      | inr more ↦ elim (cases_lt b.sum a.sum) [ inl less ↦ inr (inl less) | inr same ↦ elim (cases_lt a.index b.index) [ inl before ↦ inr (inr (omega arith, omega arith)) | inr behind ↦ inl (inr (omega arith, behind)) ] ]
    ]

-- the test tells the order
pub at_most_true : (a b : Key) → is_at_most a b ≡ true → AtMost a b
at_most_true a b e = elim (cases_lt a.sum b.sum) [ inl less ↦ inl less | inr more ↦ inr (grind (arith, nat_tests, e), grind (arith, nat_tests, e)) ]

pub true_at_most : (a b : Key) → AtMost a b → is_at_most a b ≡ true
true_at_most a b (inl less) = grind (arith, nat_tests, less)
true_at_most a b (inr (same, index)) = grind (arith, nat_tests, same, index)

pub at_most_false : (a b : Key) → is_at_most a b ≡ false → AtMost b a
at_most_false a b e = elim (at_most_either a b) [ inl most ↦ absurd (let told = true_at_most a b most in cc) | inr least ↦ least ]

pub false_at_most : (a b : Key) → (AtMost a b → ⊥) → is_at_most a b ≡ false
false_at_most a b none = by (is_at_most a b) refl
  where
    by : (t : Bool) → is_at_most a b ≡ t → t ≡ false
    by true e = absurd (none (at_most_true a b e))
    by false e = refl

-- the greater of two keys is at least both
pub greater_first : (a b : Key) → AtMost a (greater_key a b)
greater_first a b = by (is_at_most b a) refl
  where
    by : (t : Bool) → is_at_most b a ≡ t → AtMost a (cond t a b)
    by true e = at_most_self a
    by false e = at_most_false b a e

pub greater_second : (a b : Key) → AtMost b (greater_key a b)
greater_second a b = by (is_at_most b a) refl
  where
    by : (t : Bool) → is_at_most b a ≡ t → AtMost b (cond t a b)
    by true e = at_most_true b a e
    by false e = at_most_self b

-- what reaches a key reaches a lesser one
pub reaches_less : (own : Option Key) (a b : Key) → AtMost a b → Reaches own b → Reaches own a
reaches_less None a b le r = r
reaches_less (Some own) a b le r = at_most_then a b own le r

pub at_most_other : (a b : Key) → (AtMost a b → ⊥) → AtMost b a
at_most_other a b none = at_most_false a b (false_at_most a b none)

-- a key that isn't reached reaches all that is
pub reaches_more : (own : Option Key) (b : Key) → (Reaches own b → ⊥) → (a : Key) → Reaches own a → AtMost a b
reaches_more None b none a reach = absurd reach
reaches_more (Some own) b none a reach = at_most_then a own b reach (at_most_other b own none)

-- and the greater of two reaches what each reaches
pub reaches_first : (own other : Option Key) (a : Key) → Reaches own a → Reaches (greater_own own other) a
reaches_first None other a r = absurd r
reaches_first (Some own) None a r = r
reaches_first (Some own) (Some other) a r = at_most_then a own (greater_key own other) r (greater_first own other)

pub reaches_second : (own other : Option Key) (a : Key) → Reaches other a → Reaches (greater_own own other) a
reaches_second None other a r = r
reaches_second (Some own) None a r = absurd r
reaches_second (Some own) (Some other) a r = at_most_then a other (greater_key own other) r (greater_second own other)

-- it is one of the two
pub greater_own_one : (own other : Option Key) → (greater_own own other ≡ own) ⊎ (greater_own own other ≡ other)
greater_own_one None other = inr refl
greater_own_one (Some own) None = inl refl
greater_own_one (Some own) (Some other) = by (is_at_most other own)
  where
    by : (t : Bool) → (Some (cond t own other) ≡ Some own) ⊎ (Some (cond t own other) ≡ Some other)
    by true = inl refl
    by false = inr refl

-- the better of two points has a key that is none of the two's lesser
better_first : (problem : WeightedSum) (a b : Point) → AtMost (key_at problem a) (key_at problem (better problem a b))
better_first problem a b = by (is_at_most (key_at problem b) (key_at problem a)) refl
  where
    by : (t : Bool) → is_at_most (key_at problem b) (key_at problem a) ≡ t → AtMost (key_at problem a) (key_at problem (cond t a b))
    by true e = at_most_self (key_at problem a)
    by false e = at_most_false (key_at problem b) (key_at problem a) e

better_second : (problem : WeightedSum) (a b : Point) → AtMost (key_at problem b) (key_at problem (better problem a b))
better_second problem a b = by (is_at_most (key_at problem b) (key_at problem a)) refl
  where
    by : (t : Bool) → is_at_most (key_at problem b) (key_at problem a) ≡ t → AtMost (key_at problem b) (key_at problem (cond t a b))
    by true e = at_most_true (key_at problem b) (key_at problem a) e
    by false e = at_most_self (key_at problem b)

best_start : (problem : WeightedSum) (a : Point) (ps : List Point) → AtMost (key_at problem a) (key_at problem (fold (better problem) a ps))
best_start problem a [] = at_most_self (key_at problem a)
best_start problem a (p ∷ ps) = at_most_then (key_at problem a) (key_at problem (better problem a p)) (key_at problem (fold (better problem) (better problem a p) ps)) (better_first problem a p) (best_start problem (better problem a p) ps)

best_each : (problem : WeightedSum) (a : Point) (ps : List Point) (n : ℕ) (p : Point) → slice_get ps n ≡ Some p → AtMost (key_at problem p) (key_at problem (fold (better problem) a ps))
best_each problem a [] n p e = absurd (cc)
best_each problem a (q ∷ ps) zero p e =
    let same : q ≡ p = cc in
    subst (λ (x : Point). AtMost (key_at problem x) (key_at problem (fold (better problem) (better problem a q) ps))) same
    (at_most_then (key_at problem q) (key_at problem (better problem a q)) (key_at problem (fold (better problem) (better problem a q) ps)) (better_second problem a q) (best_start problem (better problem a q) ps))
best_each problem a (q ∷ ps) (suc n) p e = best_each problem (better problem a q) ps n p e

-- no key of these is above the best one's
pub among_each : (problem : WeightedSum) (ps : List Point) (n : ℕ) (p : Point) → slice_get ps n ≡ Some p → AtMost (key_at problem p) (key_at problem (best_among problem ps))
among_each problem [] n p e = absurd (cc)
among_each problem (q ∷ ps) zero p e =
    let same : q ≡ p = cc in
    subst (λ (x : Point). AtMost (key_at problem x) (key_at problem (fold (better problem) q ps))) same (best_start problem q ps)
among_each problem (q ∷ ps) (suc n) p e = best_each problem q ps n p e

-- the best of these is one of them
better_one : (problem : WeightedSum) (a b : Point) → (better problem a b ≡ a) ⊎ (better problem a b ≡ b)
better_one problem a b = by (is_at_most (key_at problem b) (key_at problem a))
  where
    by : (t : Bool) → (cond t a b ≡ a) ⊎ (cond t a b ≡ b)
    by true = inl refl
    by false = inr refl

abbrev pub Chosen : Point → Point → List Point → Type 0
Chosen best a ps = (best ≡ a) ⊎ ((n : ℕ) × (slice_get ps n ≡ Some best))

pub best_one : (problem : WeightedSum) (a : Point) (ps : List Point) → Chosen (fold (better problem) a ps) a ps
best_one problem a [] = inl refl
best_one problem a (p ∷ ps) = by (better_one problem a p) (best_one problem (better problem a p) ps)
  where
    by : (better problem a p ≡ a) ⊎ (better problem a p ≡ p) → Chosen (fold (better problem) (better problem a p) ps) (better problem a p) ps → Chosen (fold (better problem) a (p ∷ ps)) a (p ∷ ps)
    by (inl first) (inl same) = inl (same ∙ first)
    by (inr second) (inl same) = inr (0, ap Some (sym (same ∙ second)))
    by either (inr found) = inr (suc found.0, found.1)

pub among_one : (problem : WeightedSum) (ps : List Point) (n : ℕ) (p : Point) → slice_get ps n ≡ Some p → (k : ℕ) × (slice_get ps k ≡ Some (best_among problem ps))
among_one problem [] n p e = absurd (cc)
among_one problem (q ∷ ps) n p e = by (best_one problem q ps)
  where
    by : Chosen (fold (better problem) q ps) q ps → (k : ℕ) × (slice_get (q ∷ ps) k ≡ Some (fold (better problem) q ps))
    by (inl first) = (0, ap Some (sym first))
    by (inr found) = (suc found.0, found.1)

-- and has this key, where one of them has it and none has a greater
pub among_is : (problem : WeightedSum) (ps : List Point) (n : ℕ) (p corner : Point) → slice_get ps n ≡ Some p → key_at problem p ≡ key_at problem corner → ((k : ℕ) (q : Point) → slice_get ps k ≡ Some q → AtMost (key_at problem q) (key_at problem corner)) → key_at problem (best_among problem ps) ≡ key_at problem corner
among_is problem ps n p corner e same each =
    let best = best_among problem ps in
    let one = among_one problem ps n p e in
    at_most_both (key_at problem best) (key_at problem corner) (each one.0 best one.1) (subst (λ (k : Key). AtMost k (key_at problem best)) same (among_each problem ps n p e))

-- a point has the key of its places
pub key_places : (problem : WeightedSum) (p : Point) → key_at problem (at_places p) ≡ key_at problem p
key_places problem p = let same = weighted_sums_places problem.terms p in rw same refl

-- no point has a greater key than the best
pub best_most : (problem : WeightedSum) (p : Point) → is_point problem.axes p ≡ true → AtMost (key_at problem p) (key_at problem (best_of problem))
best_most problem p inside =
    let at = listed_at (whole problem.axes) p inside in
    subst (λ (k : Key). AtMost k (key_at problem (best_of problem))) (key_places problem p) (best_each problem (point_from 0 0 0 0) (points_of problem.axes) at.0 (at_places p) at.1)

better_point : (problem : WeightedSum) (a b : Point) → is_point problem.axes a ≡ true → is_point problem.axes b ≡ true → is_point problem.axes (better problem a b) ≡ true
better_point problem a b p q = by (is_at_most (key_at problem b) (key_at problem a))
  where
    by : (t : Bool) → is_point problem.axes (cond t a b) ≡ true
    by true = p
    by false = q

best_in : (problem : WeightedSum) (a : Point) (ps : List Point) → is_point problem.axes a ≡ true → ((n : ℕ) (p : Point) → slice_get ps n ≡ Some p → is_point problem.axes p ≡ true) → is_point problem.axes (fold (better problem) a ps) ≡ true
best_in problem a [] start each = start
best_in problem a (p ∷ ps) start each = best_in problem (better problem a p) ps (better_point problem a p start (each 0 p refl)) (λ n q e. each (suc n) q e)

-- the best point is one of the domain
pub best_point : (problem : WeightedSum) → is_point problem.axes (best_of problem) ≡ true
best_point problem = best_in problem (point_from 0 0 0 0) (points_of problem.axes) (grind (arith, nat_tests)) (λ n p e. listed_point (whole problem.axes) n p e)

-- an index is below the number of points
pub index_small : (axes : List Axis) (p : Point) → is_domain axes ≡ true → is_point axes p ≡ true → index_of axes p < 2 ^ 28
index_small axes p h inside =
    let at = places_below axes p h inside in
    let below = radix (slice_index p.at 0) (slice_index p.at 1) (slice_index p.at 2) (slice_index p.at 3) (size_on 0 axes) (size_on 1 axes) (size_on 2 axes) (size_on 3 axes) at.0 at.1 at.2 at.3 in
    omega (arith, below.2, few axes h)

-- places that are no greater have an index that is none either
pub index_le : (i j k l i' j' k' l' b c d : ℕ) → i ≤ i' → j ≤ j' → k ≤ k' → l ≤ l' → ((i * b + j) * c + k) * d + l ≤ ((i' * b + j') * c + k') * d + l'
index_le i j k l i' j' k' l' b c d p q r s =
    let one = mul-le-mul_right {m = i} {n = i'} b p in
    let two : i * b + j ≤ i' * b + j' = omega arith in
    let three = mul-le-mul_right {m = i * b + j} {n = i' * b + j'} c two in
    let four : (i * b + j) * c + k ≤ (i' * b + j') * c + k' = omega arith in
    let five = mul-le-mul_right {m = (i * b + j) * c + k} {n = (i' * b + j') * c + k'} d four in
    omega arith

pub sum_most : (problem : WeightedSum) (p : Point) → IsProblem problem → is_point problem.axes p ≡ true → sum_at problem p ≤ 64 * 10 ^ 12
sum_most problem p h inside = let few_terms = h.few in omega (arith, weighted_sums_most problem.axes problem.terms p h.terms inside)

-- different points have different keys
pub key_distinct : (problem : WeightedSum) (p q : Point) → IsProblem problem → is_point problem.axes p ≡ true → is_point problem.axes q ≡ true → length p.at ≡ 4 → length q.at ≡ 4 → key_at problem p ≡ key_at problem q → p ≡ q
key_distinct problem p q h in_p in_q four four' e =
    let axes = problem.axes in
    let same : index_of axes p ≡ index_of axes q = ap (λ (k : Key). k.index) e in
    let at_p = point_in_list_at axes p h.domain in_p four in
    let at_q = point_in_list_at axes q h.domain in_q four' in
    let both : Some p ≡ Some q = sym at_p ∙ (ap (slice_get (points_of axes)) same ∙ at_q) in
    cc
