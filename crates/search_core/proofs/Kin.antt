-- A node has one parent: two choices of pieces that meet in a point and are of one depth are the same.
use Rattle.std.proofs.Common.{◌≡◌, ℕ, ◌+◌, true, inl, inr, Some, List, [], ◌∷◌, length, drop, refl, sym, ap, ◌∙◌, subst, arith}
use Rattle.std.specs.Prelude.{slice_get}
use Rattle.std.proofs.lemmas.Bool.{and_parts, cases_lt}
use Rattle.std.proofs.lemmas.Option.{option_and_then_some}
use Rattle.ivp_domain.specs.declared.axis.Axis.{Axis}
use Rattle.ivp_domain.specs.declared.boxes.Point.{Point}
use Rattle.ivp_domain.specs.Boxes.{common, has_point}
use Rattle.ivp_domain.specs.Domains.{is_point}
use Rattle.ivp_domain.proofs.BoxLemmas.{has_low_corner, has_point-common}
use Rattle.ivp_func.specs.declared.piece.Piece.{Piece}
use Rattle.ivp_func.specs.Functions.{IsPartition}
use Rattle.ivp_func.specs.Pieces.{count_at}
use Rattle.ivp_func.proofs.Counting.{two_hold}
use Rattle.ivp_func.proofs.Facts.{area_point, box_parts}
use Rattle.ivp_problem.specs.declared.node.Node.{Node}
use Rattle.ivp_problem.specs.declared.term.Term.{Term}
use Rattle.ivp_problem.specs.Problems.{IsProblem, IsTermOf, WeightedSum}
use Rattle.ivp_problem.specs.Trees.{child_in, child_of, IsNode, next_of, node_below, root_of}
use Rattle.ivp_problem.proofs.Nodes.{child_node, child_of_in, child_parts, IsChild, next_at, node_keeps}
use Rattle.ivp_problem.proofs.Pieces.{child_depth}

-- a child chooses a piece of the next function
pub record IsChildOf (problem : WeightedSum) (node : Node) (number : ℕ) (child : Node) : Type 0 where
  pub term : Term
  pub stands : next_of problem node ≡ Some term
  pub in_term : child_in term node number ≡ Some child

pub child_is : (problem : WeightedSum) (node : Node) (number : ℕ) (child : Node) → child_of problem node number ≡ Some child → IsChildOf problem node number child
child_is problem node number child e =
    option_and_then_some (λ (term : Term). child_in term node number) (next_of problem node) child e (λ term stands in_term. record { term = term; stands = stands; in_term = in_term })

pub child_is_node : (problem : WeightedSum) (node : Node) (number : ℕ) (child : Node) → IsNode problem node → child_of problem node number ≡ Some child → IsNode problem child
child_is_node problem node number child is e = let of = child_is problem node number child e in child_node problem node child of.term number is of.stands of.in_term

-- a point of a child lies in the node and in the piece
with_parts_out : (term : Term) (node : Node) (number : ℕ) (child : Node) (p : Point) → (of : IsChild term node number child) → has_point child.area p ≡ true → (has_point node.area p ≡ true) × (has_point of.piece.area p ≡ true)
with_parts_out term node number child p of inside =
    let here : has_point (common node.area of.piece.area) p ≡ true = subst (λ (n : Node). has_point n.area p ≡ true) (sym of.same) inside in
    and_parts (has_point node.area p) (has_point of.piece.area p) (sym (has_point-common node.area of.piece.area p) ∙ here)

pub child_point : (problem : WeightedSum) (node : Node) (number : ℕ) (child : Node) (p : Point) → child_of problem node number ≡ Some child → has_point child.area p ≡ true → has_point node.area p ≡ true
child_point problem node number child p e inside =
    let of = child_is problem node number child e in (with_parts_out of.term node number child p (child_parts of.term node number child of.in_term) inside).0

-- a point of a node lies in each node above it
above : (terms : List Term) (path : List ℕ) (start node : Node) (p : Point) → node_below terms path start ≡ Some node → has_point node.area p ≡ true → has_point start.area p ≡ true
above terms [] start node p e inside = let same : start ≡ node = cc in subst (λ (n : Node). has_point n.area p ≡ true) (sym same) inside
above [] (number ∷ path) start node p e inside = absurd (cc)
above (term ∷ terms) (number ∷ path) start node p e inside =
    option_and_then_some (node_below terms path) (child_in term start number) node e
    (λ child first later. (with_parts_out term start number child p (child_parts term start number child first) (above terms path child node p later inside)).0)

-- a path leads as deep as it is long
deeper : (terms : List Term) (path : List ℕ) (start node : Node) → node_below terms path start ≡ Some node → node.depth ≡ start.depth + length path
deeper terms [] start node e = let same : start ≡ node = cc in omega (arith, ap (λ (n : Node). n.depth) same)
deeper [] (number ∷ path) start node e = absurd (cc)
deeper (term ∷ terms) (number ∷ path) start node e =
    option_and_then_some (node_below terms path) (child_in term start number) node e
    (λ child first later.
    let of = child_parts term start number child first in
    omega (arith, deeper terms path child node later, ap (λ (n : Node). n.depth) of.same))

-- pieces of a function that have a point in common are one
one_piece : (axes : List Axis) (term : Term) (i j : ℕ) (x y : Piece) (p : Point) → IsTermOf axes term → is_point axes p ≡ true → slice_get term.func.pieces i ≡ Some x → slice_get term.func.pieces j ≡ Some y → has_point x.area p ≡ true → has_point y.area p ≡ true → i ≡ j
one_piece axes term i j x y p h inside at_i at_j in_x in_y =
    let partition = subst (λ (a : List Axis). IsPartition a term.func.pieces) h.domain h.func.partition in
    let one : count_at term.func.pieces p ≡ 1 = partition p inside in
    elim (cases_lt i j) [
      | inl less ↦ absurd (omega (arith, one, two_hold term.func.pieces i j x y p less at_i at_j in_x in_y))
      | inr more ↦ elim (cases_lt j i) [ inl less ↦ absurd (omega (arith, one, two_hold term.func.pieces j i y x p less at_j at_i in_y in_x)) | inr same ↦ omega arith ]
    ]

-- the children with a point in common are one
one_child : (axes : List Axis) (term : Term) (node : Node) (i j : ℕ) (x y : Node) (p : Point) → IsTermOf axes term → is_point axes p ≡ true → child_in term node i ≡ Some x → child_in term node j ≡ Some y → has_point x.area p ≡ true → has_point y.area p ≡ true → i ≡ j
one_child axes term node i j x y p h inside e e' in_x in_y =
    let of = child_parts term node i x e in
    let of' = child_parts term node j y e' in
    one_piece axes term i j of.piece of'.piece p h inside of.stands of'.stands (with_parts_out term node i x p of in_x).1 (with_parts_out term node j y p of' in_y).1

-- nodes of one depth with a point in common are one
one_path : (problem : WeightedSum) → IsProblem problem → (terms : List Term) (path path' : List ℕ) (start a b : Node) (p : Point) → drop start.depth problem.terms ≡ terms → is_point problem.axes p ≡ true → node_below terms path start ≡ Some a → node_below terms path' start ≡ Some b → a.depth ≡ b.depth → has_point a.area p ≡ true → has_point b.area p ≡ true → a ≡ b
one_path problem h terms [] [] start a b p rest inside e e' deep in_a in_b = let one : start ≡ a = cc in let two : start ≡ b = cc in sym one ∙ two
one_path problem h terms [] (m ∷ path') start a b p rest inside e e' deep in_a in_b =
    absurd (omega (arith, deep, deeper terms [] start a e, deeper terms (m ∷ path') start b e'))
one_path problem h terms (n ∷ path) [] start a b p rest inside e e' deep in_a in_b =
    absurd (omega (arith, deep, deeper terms (n ∷ path) start a e, deeper terms [] start b e'))
one_path problem h [] (n ∷ path) (m ∷ path') start a b p rest inside e e' deep in_a in_b = absurd (cc)
one_path problem h (term ∷ terms) (n ∷ path) (m ∷ path') start a b p rest inside e e' deep in_a in_b =
    let next = next_at problem.terms start.depth term terms rest in
    option_and_then_some (node_below terms path) (child_in term start n) a e
    (λ x first later.
    option_and_then_some (node_below terms path') (child_in term start m) b e'
    (λ y first' later'.
    let in_x = above terms path x a p later in_a in
    let in_y = above terms path' y b p later' in_b in
    let number : n ≡ m = one_child problem.axes term start n m x y p (h.terms start.depth term next.0) inside first first' in_x in_y in
    let both : Some x ≡ Some y = sym first ∙ (ap (child_in term start) number ∙ first') in
    let same : x ≡ y = cc in
    let of = child_parts term start n x first in
    one_path problem h terms path path' x a b p (subst (λ (c : Node). drop c.depth problem.terms ≡ terms) of.same next.1) inside later (subst (λ (c : Node). node_below terms path' c ≡ Some b) (sym same) later') deep in_a in_b))

-- so a node has one parent, by one piece
pub one_parent : (problem : WeightedSum) → IsProblem problem → (a b : Node) (i j : ℕ) (child : Node) → IsNode problem a → IsNode problem b → child_of problem a i ≡ Some child → child_of problem b j ≡ Some child → (a ≡ b) × (i ≡ j)
one_parent problem h a b i j child is_a is_b e e' =
    let axes = problem.axes in
    let of = child_is problem a i child e in
    let keeps = node_keeps problem child h (child_is_node problem a i child is_a e) in
    let p : Point = record { at = child.area.low } in
    let inside = has_low_corner child.area (box_parts axes child.area keeps.inside).0 in
    let point = area_point axes child.area p keeps.inside inside in
    let deep : a.depth ≡ b.depth = omega (arith, child_depth problem a child i e, child_depth problem b child j e') in
    let same : a ≡ b = one_path problem h problem.terms is_a.path is_b.path (root_of problem) a b p refl point is_a.reached is_b.reached deep (child_point problem a i child p e inside) (child_point problem b j child p e' inside) in
    let there : child_in of.term a j ≡ Some child = sym (child_of_in problem a of.term j of.stands) ∙ subst (λ (n : Node). child_of problem n j ≡ Some child) (sym same) e' in
    (same, one_child axes of.term a i j child child p (h.terms a.depth of.term of.stands) point of.in_term there inside inside)
