-- The tree of a problem: a node is a choice of one piece from each of the first functions whose boxes share a point.
use Rattle.std.specs.Prelude.{◌≡◌, ℕ, ◌+◌, ◌*◌, ◌≤◌, Bool, ℤ, pos, ◌+ℤ◌, ◌*ℤ◌, nat_abs, nat_lt, if◌then◌else◌, Option, Some, None, option_map, List, [], ◌∷◌, length, take, drop, slice_get, slice_index, slice_index_or}
use Rattle.std.specs.List.{flat_map, list_any, sum_by}
use Rattle.std.specs.Option.{option_and_then, option_to_list}
use Rattle.ivp_domain.specs.declared.axis.Axis.{Axis}
use Rattle.ivp_domain.specs.declared.boxes.BoxN.{BoxN}
use Rattle.ivp_domain.specs.declared.boxes.Point.{Point}
use Rattle.ivp_domain.specs.Boxes.{has_point, meet_of, numbers_from, points_in}
use Rattle.ivp_domain.specs.Domains.{index_of, points_of, whole}
use Rattle.ivp_func.specs.declared.piece.Piece.{Piece}
use Rattle.ivp_func.specs.Pieces.{slope_on, value_at, piece_value}
use Rattle.ivp_problem.specs.declared.term.Term.{Term}
use Rattle.ivp_problem.specs.declared.node.Node.{Node}
use Rattle.ivp_problem.specs.declared.key.Key.{Key}
use Rattle.ivp_problem.specs.Keys.{key_of}
use Rattle.ivp_problem.specs.Problems.{WeightedSum}
use Rattle.ivp_problem.specs.Sums.{best_among, greatest, key_at, least, weighted_sum}

-- no piece chosen yet: the whole domain
abbrev pub root_of : WeightedSum → Node
root_of problem = record { depth = 0; area = whole problem.axes; base = pos 0; slope = pos 0 ∷ pos 0 ∷ pos 0 ∷ pos 0 ∷ [] }

-- the slope of the chosen pieces along an axis
abbrev pub slope_at : Node → ℕ → ℤ
slope_at node axis = slice_index_or node.slope axis (pos 0)

-- the slope along an axis with that of a weighted piece added
abbrev pub slope_with : ℕ → Piece → Node → ℕ → ℤ
slope_with weight piece node axis = slope_at node axis +ℤ pos weight *ℤ slope_on axis piece

-- a node with one more piece chosen, which leaves this box: the weighted base and slopes are added
abbrev pub with_chosen : ℕ → Piece → Node → BoxN → Node
with_chosen weight piece node area =
    record {
      depth = node.depth + 1;
      area = area;
      base = node.base +ℤ pos weight *ℤ piece.base;
      slope = slope_with weight piece node 0 ∷ slope_with weight piece node 1 ∷ slope_with weight piece node 2 ∷ slope_with weight piece node 3 ∷ [];
    }

-- the node that also chooses this piece, if the boxes share a point
abbrev pub child_with : ℕ → Node → Piece → Option Node
child_with weight node piece = option_map (with_chosen weight piece node) (meet_of node.area piece.area)

-- the node that also chooses the term's piece of this number, if there is one and its box shares a point with the node's
abbrev pub child_in : Term → Node → ℕ → Option Node
child_in term node number = option_and_then (child_with term.weight node) (slice_get term.func.pieces number)

-- the term of the next function
abbrev pub next_of : WeightedSum → Node → Option Term
next_of problem node = slice_get problem.terms node.depth

-- the child of a node by the number of the next function's piece
abbrev pub child_of : WeightedSum → Node → ℕ → Option Node
child_of problem node number = option_and_then (λ term. child_in term node number) (next_of problem node)

-- the nodes with one piece of a term chosen too, in piece order
abbrev pub children_in : Term → Node → List Node
children_in term node = flat_map (λ number. option_to_list (child_in term node number)) (numbers_from 0 (length term.func.pieces))

-- the children of a node, in piece order: none at full depth
abbrev pub children_of : WeightedSum → Node → List Node
children_of problem node = flat_map (λ term. children_in term node) (option_to_list (next_of problem node))

-- one of these nodes has the point
abbrev pub has_in : List Node → Point → Bool
has_in nodes point = list_any (λ node. has_point node.area point) nodes

-- what the chosen pieces add at a point of the box: base plus slopes times places
abbrev pub chosen_at : Node → Point → ℤ
chosen_at node point = piece_value (record { area = node.area; base = node.base; slope = node.slope }) point

-- the node below this one that chooses the pieces of these numbers, one from each of these terms in turn
abbrev pub node_below : List Term → List ℕ → Node → Option Node
node_below terms [] node = Some node
node_below [] (number ∷ path) node = None
node_below (term ∷ terms) (number ∷ path) node = option_and_then (node_below terms path) (child_in term node number)

-- the node of a path: the numbers of the pieces chosen, one from each of the first functions
abbrev pub node_of : WeightedSum → List ℕ → Option Node
node_of problem path = node_below problem.terms path (root_of problem)

-- the node is one of the tree
pub record IsNode (problem : WeightedSum) (node : Node) : Type 0 where
  pub path : List ℕ
  pub reached : node_of problem path ≡ Some node

-- the weighted top of a term: its weight times the greatest value over the domain
abbrev pub top_of : List Axis → Term → ℕ
top_of axes term = term.weight * greatest (λ point. nat_abs (value_at term.func.pieces point)) (points_of axes)

-- the weighted top of a term over its own domain
abbrev pub own_top : Term → ℕ
own_top term = top_of term.func.axes term

-- these are the sums of the weighted tops of the terms from each number on
abbrev pub AreTops : List Term → List ℕ → Type 0
AreTops terms tops = (from : ℕ) → from ≤ length terms → slice_index tops from ≡ sum_by own_top (drop from terms)

-- the most that the functions not chosen yet can add
abbrev pub rest_of : WeightedSum → Node → ℕ
rest_of problem node = sum_by (top_of problem.axes) (drop node.depth problem.terms)

-- the bound of a node that hasn't chosen from every function: the greatest sum in its box of those that it has chosen from, with
-- the tops of the others, and the least index in the box
abbrev pub partial_bound : WeightedSum → Node → Key
partial_bound problem node =
    key_of (greatest (weighted_sum (take node.depth problem.terms)) (points_in node.area) + rest_of problem node) (least (index_of problem.axes) (points_in node.area))

-- the bound of a node: the greatest key in its box if it has chosen from every function, and else `partial_bound`
abbrev pub bound_of : WeightedSum → Node → Key
bound_of problem node = if nat_lt node.depth (length problem.terms) then partial_bound problem node else key_at problem (best_among problem (points_in node.area))
