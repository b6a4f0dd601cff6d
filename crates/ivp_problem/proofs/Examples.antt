-- The definitions on worked examples.
use Rattle.std.proofs.Common.{◌≡◌, ℕ, zero, suc, true, false, inl, inr, Some, None, Ok, Err, ℤ, pos, negsuc, neg_ℤ, ◌≤ℤ◌, ◌<◌, ◌+◌, ◌*◌, ◌^◌, List, [], ◌∷◌, length, replicate, refl, ap, subst, arith}
use Rattle.std.specs.Prelude.{codes, slice_get}
use Rattle.std.proofs.lemmas.Int.{ints}
use Rattle.ivp_domain.specs.declared.axis.Axis.{Axis}
use Rattle.ivp_domain.specs.Boxes.{point_from}
use Rattle.ivp_func.specs.declared.piece.Piece.{Piece}
use Rattle.ivp_func.proofs.PointTests.{passes_partition, passes_values}
use Rattle.ivp_problem.specs.declared.term.Term.{Term}
use Rattle.ivp_problem.specs.declared.term.ProblemFault.TheVariants.{NoFunction, TooMany, BadWeight, OtherDomain}
use Rattle.ivp_problem.specs.declared.key.Key.{Key}
use Rattle.ivp_problem.specs.declared.node.Node.{Node}
use Rattle.ivp_problem.specs.Corners.{Beats, IsSmall}
use Rattle.ivp_problem.specs.Keys.{AtMost, greater_own, is_at_most, key_of, Reaches}
use Rattle.ivp_problem.specs.Problems.{IsProblem, IsTermOf, problem_from, WeightedSum}
use Rattle.ivp_problem.specs.Sums.{best_of, key_at, sum_at}
use Rattle.ivp_problem.specs.Found.{IsKnownSum, IsOwnKey}
use Rattle.ivp_problem.specs.Nodes.{nodes_of, tree_size}
use Rattle.ivp_problem.proofs.KeyOrder.{best_most}
use Rattle.ivp_problem.proofs.Nodes.{node_keeps}
use Rattle.ivp_problem.specs.Trees.{AreTops, bound_of, child_of, children_of, chosen_at, has_in, IsNode, node_of, own_top, root_of, slope_at}

abbrev axis : List ℕ → ℕ → ℕ → Axis
axis name high points = record { name = name; low = pos 0; high = pos high; points = points }

-- a piece by its low and high ends, base and slopes on three axes
abbrev piece : ℕ → ℕ → ℕ → ℕ → ℕ → ℕ → ℤ → ℤ → ℤ → ℤ → Piece
piece a b c d e f base s t u =
    record {
      area = record { low = a ∷ c ∷ e ∷ 0 ∷ []; high = b ∷ d ∷ f ∷ 0 ∷ [] };
      base = base;
      slope = s ∷ t ∷ u ∷ pos 0 ∷ [];
    }

-- domain a:0:2:3, b:0:1:2, d:0:1:2
abbrev pub twelve : List Axis
twelve = axis (codes "a") 2000 3 ∷ axis (codes "b") 1000 2 ∷ axis (codes "d") 1000 2 ∷ []

abbrev pub term : List Axis → ℕ → List Piece → Term
term axes weight pieces = record { weight = weight; func = record { axes = axes; pieces = pieces } }

abbrev pub rising : Term
rising = term twelve 2 (piece 0 2 0 1 0 1 (pos 0) (pos 10) (pos 0) (pos 0) ∷ [])

abbrev pub split : Term
split = term twelve 3 (piece 0 0 0 1 0 1 (pos 20) (pos 0) (pos 5) (pos 0) ∷ piece 1 2 0 1 0 1 (pos 0) (pos 0) (pos 5) (pos 0) ∷ [])

abbrev pub two : WeightedSum
two = record { axes = twelve; terms = rising ∷ split ∷ [] }

two_is_a_problem : problem_from twelve (rising ∷ split ∷ []) ≡ Ok two
two_is_a_problem = refl

-- the greatest sum, 75, is that of index 2 first
best_of_two : (best_of two ≡ point_from 0 1 0 0) × (sum_at two (point_from 0 1 0 0) ≡ 75) × (key_at two (point_from 0 1 0 0) ≡ key_of 75 2)
best_of_two = (refl, refl, refl)

-- the root's bound: nothing is chosen, and the tops are 2 * 20 and 3 * 25
root_bound : bound_of two (root_of two) ≡ key_of 115 0
root_bound = refl

-- these tops, from each number on
tops_of_two : (own_top rising ≡ 40) × (own_top split ≡ 75) × AreTops (rising ∷ split ∷ []) (115 ∷ 75 ∷ 0 ∷ [])
tops_of_two = (refl, refl, each)
  where
    each : AreTops (rising ∷ split ∷ []) (115 ∷ 75 ∷ 0 ∷ [])
    each zero within = refl
    each (suc zero) within = refl
    each (suc (suc zero)) within = refl
    each (suc (suc (suc from))) within = absurd (omega arith)

-- not with the top of the first function left out, or of the second
first_left_out : AreTops (rising ∷ split ∷ []) (75 ∷ 75 ∷ 0 ∷ []) → ⊥
first_left_out are = omega (arith, are 0 (omega arith))

second_left_out : AreTops (rising ∷ split ∷ []) (115 ∷ 0 ∷ 0 ∷ []) → ⊥
second_left_out are = omega (arith, are 1 (omega arith))

-- the one child of the root, and its two children
abbrev pub first : Node
first = record { depth = 1; area = record { low = 0 ∷ 0 ∷ 0 ∷ 0 ∷ []; high = 2 ∷ 1 ∷ 1 ∷ 0 ∷ [] }; base = pos 0; slope = pos 20 ∷ pos 0 ∷ pos 0 ∷ pos 0 ∷ [] }

first_of_root : (children_of two (root_of two) ≡ first ∷ []) × (bound_of two first ≡ key_of 115 0)
first_of_root = (refl, refl)

abbrev pub left : Node
left = record { depth = 2; area = record { low = 0 ∷ 0 ∷ 0 ∷ 0 ∷ []; high = 0 ∷ 1 ∷ 1 ∷ 0 ∷ [] }; base = pos 60; slope = pos 20 ∷ pos 15 ∷ pos 0 ∷ pos 0 ∷ [] }

abbrev pub right : Node
right = record { depth = 2; area = record { low = 1 ∷ 0 ∷ 0 ∷ 0 ∷ []; high = 2 ∷ 1 ∷ 1 ∷ 0 ∷ [] }; base = pos 0; slope = pos 20 ∷ pos 15 ∷ pos 0 ∷ pos 0 ∷ [] }

leaves : (children_of two first ≡ left ∷ right ∷ []) × (node_of two (0 ∷ 1 ∷ []) ≡ Some right) × (children_of two right ≡ [])
leaves = (refl, refl, refl)

-- the pieces of the second leaf add 20 and 15 at this point, which the leaf has
second_leaf : (chosen_at right (point_from 1 1 0 0) ≡ pos 35) × (has_in (left ∷ right ∷ []) (point_from 1 1 0 0) ≡ true) × (has_in (left ∷ []) (point_from 1 1 0 0) ≡ false)
second_leaf = (refl, refl, refl)

-- along no slope the lesser place beats the greater
level_places : Beats (pos 0) 2 5
level_places = inr (refl, omega arith)

-- a rising slope adds more at the greater place, and a falling one at the lesser
places : Beats (pos 3) 5 2 × Beats (negsuc 2) 2 5
places = (inl (omega (arith, ints)), inl (omega (arith, ints)))

no_lesser_place : Beats (pos 3) 2 5 → ⊥
no_lesser_place (inl more) = absurd (omega (arith, ints))
no_lesser_place (inr level) = absurd (omega (arith, ints, level.0))

no_greater_place : Beats (pos 0) 5 2 → ⊥
no_greater_place (inl more) = absurd (omega (arith, ints))
no_greater_place (inr level) = omega (arith, level.1)

-- the leaf is the node of its path
left_is_a_node : IsNode two left
left_is_a_node = record { path = 0 ∷ 0 ∷ []; reached = refl }

-- all nodes, depth first
nodes_of_two : (nodes_of two ≡ root_of two ∷ first ∷ left ∷ right ∷ []) × (tree_size two ≡ 4)
nodes_of_two = (refl, refl)

leaf_bounds : (bound_of two left ≡ key_of 75 2) × (bound_of two right ≡ key_of 55 10)
leaf_bounds = (refl, refl)

-- a piece that shares no point with the node is no child
flat : Term
flat = term twelve 1 (piece 0 2 0 1 0 1 (pos 0) (pos 0) (pos 0) (pos 0) ∷ [])

apart : child_of (record { axes = twelve; terms = split ∷ split ∷ [] }) (record { depth = 1; area = record { low = 0 ∷ 0 ∷ 0 ∷ 0 ∷ []; high = 0 ∷ 1 ∷ 1 ∷ 0 ∷ [] }; base = pos 60; slope = pos 0 ∷ pos 15 ∷ pos 0 ∷ pos 0 ∷ [] }) 1 ≡ None
apart = refl

-- so the root, two children, and one child of each
nodes_apart : tree_size (record { axes = twelve; terms = split ∷ split ∷ [] }) ≡ 5
nodes_apart = refl

-- 64 functions of weight 10,000,000 and value 100,000
abbrev course : List Axis
course = axis (codes "course") 359000 360 ∷ []

abbrev most : Term
most = term course 10000000 (piece 0 359 0 0 0 0 (pos 100000) (pos 0) (pos 0) (pos 0) ∷ [])

sum_of_most : sum_at (record { axes = course; terms = replicate 64 most }) (point_from 0 0 0 0) ≡ 64 * 10 ^ 12
sum_of_most = refl

-- a node a level, and the root
nodes_of_most : tree_size (record { axes = course; terms = replicate 64 most }) ≡ 65
nodes_of_most = refl

-- keys in order: by sum, then by least index
ordered : (is_at_most (key_of 75 2) (key_of 76 9) ≡ true) × (is_at_most (key_of 75 2) (key_of 75 1) ≡ true) × (is_at_most (key_of 75 2) (key_of 75 2) ≡ true) × (is_at_most (key_of 75 1) (key_of 75 2) ≡ false) × (is_at_most (key_of 76 9) (key_of 75 2) ≡ false)
ordered = (refl, refl, refl, refl, refl)

lesser_index : AtMost (key_of 75 1) (key_of 75 2) → ⊥
lesser_index (inl less) = omega arith
lesser_index (inr (same, index)) = omega arith

-- the greater of two keys that may be none
greater_ones : (greater_own (Some (key_of 75 2)) (Some (key_of 75 1)) ≡ Some (key_of 75 1)) × (greater_own (Some (key_of 75 2)) (Some (key_of 55 1)) ≡ Some (key_of 75 2)) × (greater_own None (Some (key_of 0 3)) ≡ Some (key_of 0 3)) × (greater_own (Some (key_of 0 3)) None ≡ Some (key_of 0 3))
greater_ones = (refl, refl, refl, refl)

-- a key reaches itself, and none reaches nothing
reached : Reaches (Some (key_of 75 2)) (key_of 75 2)
reached = inr (refl, omega arith)

unreached : Reaches None (key_of 0 3) → ⊥
unreached is = is

-- the best point's sum and key may have been found, and no key above that of each point
found_best : IsKnownSum two 75 × IsOwnKey two (Some (key_of 75 2)) × IsKnownSum two 0 × IsOwnKey two None
found_best = (inr (point_from 0 1 0 0, refl, refl), inr (point_from 0 1 0 0, refl, refl), inl refl, inl refl)

above_best : AtMost (key_of 115 0) (key_of 75 2) → ⊥
above_best (inl less) = omega arith
above_best (inr (same, index)) = omega arith

found_too_much : IsOwnKey two (Some (key_of 115 0)) → ⊥
found_too_much (inl none) = absurd (cc)
found_too_much (inr (p, inside, same)) = let key : key_at two p ≡ key_of 115 0 = cc in above_best (subst (λ (k : Key). AtMost k (key_of 75 2)) key (best_most two p inside))

-- no function, then too many, then a bad weight, then another domain
none : problem_from twelve [] ≡ Err NoFunction
none = refl

many : problem_from twelve (replicate 65 most) ≡ Err TooMany
many = refl

heavy : problem_from twelve (most ∷ rising ∷ term twelve 10000001 [] ∷ []) ≡ Err (BadWeight 2)
heavy = refl

other : problem_from twelve (rising ∷ most ∷ []) ≡ Err (OtherDomain 1)
other = refl

-- both terms keep what each term does, so the two are a problem
rising_is_a_term : IsTermOf twelve rising
rising_is_a_term =
    record {
      weight = refl;
      domain = refl;
      func =
          record {
            domain = refl;
            few = omega arith;
            pieces = refl;
            partition = passes_partition twelve rising.func.pieces refl;
            values = passes_values twelve rising.func.pieces refl;
          };
    }

split_is_a_term : IsTermOf twelve split
split_is_a_term =
    record {
      weight = refl;
      domain = refl;
      func =
          record {
            domain = refl;
            few = omega arith;
            pieces = refl;
            partition = passes_partition twelve split.func.pieces refl;
            values = passes_values twelve split.func.pieces refl;
          };
    }

pub two_is_lawful : IsProblem two
two_is_lawful = record { domain = refl; some = omega arith; few = omega arith; terms = each }
  where
    each : (place : ℕ) (one : Term) → slice_get two.terms place ≡ Some one → IsTermOf twelve one
    each zero one here = let same : rising ≡ one = cc in subst (IsTermOf twelve) same rising_is_a_term
    each (suc zero) one here = let same : split ≡ one = cc in subst (IsTermOf twelve) same split_is_a_term
    each (suc (suc place)) one here = cc

-- a node of it chooses no third piece, and adds what its pieces do
third_piece : IsNode two (record left { depth = 3 }) → ⊥
third_piece is = let keeps = node_keeps two (record left { depth = 3 }) two_is_lawful is in omega (arith, keeps.depth)

other_base : IsNode two (record left { base = pos 61 }) → ⊥
other_base is = let keeps = node_keeps two (record left { base = pos 61 }) two_is_lawful is in absurd (omega (arith, ints, keeps.sum (point_from 0 0 0 0) refl))

-- no term has the weight 0, is over a domain with other axes, or has pieces that leave out a point
weightless : IsTermOf twelve (term twelve 0 rising.func.pieces) → ⊥
weightless is = let weight : false ≡ true = is.weight in absurd (cc)

elsewhere : IsTermOf twelve most → ⊥
elsewhere is = absurd (omega (arith, ap length is.domain))

left_out : IsTermOf twelve (term twelve 3 (piece 0 0 0 1 0 1 (pos 20) (pos 0) (pos 5) (pos 0) ∷ [])) → ⊥
left_out is = omega (arith, is.func.partition (point_from 1 0 0 0) refl)

-- so these are no problems: without a function, of 65, and of one whose weight is too great
without_terms : IsProblem (record { axes = twelve; terms = [] }) → ⊥
without_terms is = omega (arith, is.some)

many_terms : IsProblem (record { axes = course; terms = replicate 65 most }) → ⊥
many_terms is = omega (arith, is.few)

heavy_term : IsProblem (record { axes = twelve; terms = rising ∷ term twelve 10000001 rising.func.pieces ∷ [] }) → ⊥
heavy_term is = let second = is.terms 1 (term twelve 10000001 rising.func.pieces) refl in let weight : false ≡ true = second.weight in absurd (cc)

-- a node by its base and its slope on the last axis: one piece of weight 10,000,000 may add 10^21 and 10^12, and no more
abbrev added : ℤ → ℤ → Node
added base slope = record { depth = 1; area = record { low = 0 ∷ 0 ∷ 0 ∷ 0 ∷ []; high = 0 ∷ 0 ∷ 0 ∷ 0 ∷ [] }; base = base; slope = pos 0 ∷ pos 0 ∷ pos 0 ∷ slope ∷ [] }

small : IsSmall 1 (added (neg_ℤ (pos (10 ^ 21))) (pos (10 ^ 12)))
small = record { base = (omega (arith, ints), omega (arith, ints)); slope = each }
  where
    each : (axis : ℕ) → axis < 4 → (neg_ℤ (pos (10 ^ 12)) ≤ℤ slope_at (added (neg_ℤ (pos (10 ^ 21))) (pos (10 ^ 12))) axis) × (slope_at (added (neg_ℤ (pos (10 ^ 21))) (pos (10 ^ 12))) axis ≤ℤ pos (10 ^ 12))
    each zero within = (omega (arith, ints), omega (arith, ints))
    each (suc zero) within = (omega (arith, ints), omega (arith, ints))
    each (suc (suc zero)) within = (omega (arith, ints), omega (arith, ints))
    each (suc (suc (suc zero))) within = (omega (arith, ints), omega (arith, ints))
    each (suc (suc (suc (suc axis)))) within = absurd (omega arith)

great_base : IsSmall 1 (added (pos (10 ^ 21 + 1)) (pos 0)) → ⊥
great_base is = absurd (omega (arith, ints, is.base.1))

great_slope : IsSmall 1 (added (pos 0) (neg_ℤ (pos (10 ^ 12 + 1)))) → ⊥
great_slope is = absurd (omega (arith, ints, (is.slope 3 (omega arith)).0))

-- and where no piece is chosen, nothing is added
none_chosen : IsSmall 0 left → ⊥
none_chosen is = absurd (omega (arith, ints, is.base.1))
