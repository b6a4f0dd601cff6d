-- The children of a node have its points, each in exactly one of them.
use Rattle.std.proofs.Common.{◌≡◌, ℕ, zero, suc, ◌+◌, ◌<◌, Bool, true, false, cond, ◌&&◌, Option, Some, None, List, [], ◌∷◌, ◌++◌, length, get_or, refl, sym, ap, subst, ◌∙◌, arith}
use Rattle.std.specs.Prelude.{slice_get, count_by}
use Rattle.std.specs.List.{flat_map}
use Rattle.std.specs.Option.{option_map, option_and_then, option_to_list}
use Rattle.std.proofs.lemmas.List.{append-nil}
use Rattle.std.proofs.lemmas.List.Sums.{sum_by-append, sum_by-cons}
use Rattle.std.proofs.lemmas.Option.{slice_get-get_or}
use Rattle.ivp_domain.specs.declared.axis.Axis.{Axis}
use Rattle.ivp_domain.specs.declared.boxes.Point.{Point}
use Rattle.ivp_domain.specs.Boxes.{common, has_point, is_box, numbers_from}
use Rattle.ivp_domain.proofs.BoxLemmas.{has_point-common, is_box-from_point}
use Rattle.ivp_func.specs.declared.piece.Piece.{Piece}
use Rattle.ivp_func.specs.Functions.{IsPartition}
use Rattle.ivp_func.specs.Pieces.{count_at, piece_has}
use Rattle.ivp_func.proofs.Counting.{count_at-cons, one_if}
use Rattle.ivp_func.proofs.Facts.{area_point}
use Rattle.ivp_problem.specs.declared.node.Node.{Node}
use Rattle.ivp_problem.specs.declared.term.Term.{Term}
use Rattle.ivp_problem.specs.Problems.{IsProblem, WeightedSum}
use Rattle.ivp_problem.specs.Trees.{child_with, children_in, children_of, IsNode, with_chosen}
use Rattle.ivp_problem.proofs.Nodes.{blank_term, Keeps, node_keeps}

-- a list over the numbers of a list's elements is one over the elements
shifted : {A : Type 0} (f : ℕ → List A) (low n : ℕ) → flat_map f (numbers_from (suc low) n) ≡ flat_map (λ k. f (suc k)) (numbers_from low n)
shifted f low zero = refl
shifted f low (suc n) = ap (λ rest. f (suc low) ++ rest) (shifted f (suc low) n)

by_numbers : {A X : Type 0} (f : Option X → List A) (xs : List X) → flat_map (λ k. f (slice_get xs k)) (numbers_from 0 (length xs)) ≡ flat_map (λ x. f (Some x)) xs
by_numbers f [] = refl
by_numbers f (x ∷ xs) = ap (λ rest. f (Some x) ++ rest) (shifted (λ k. f (slice_get (x ∷ xs) k)) 0 (length xs) ∙ by_numbers f xs)

abbrev pub has : Point → Node → Bool
has p child = has_point child.area p

count_append : (p : Point) (xs ys : List Node) → count_by (has p) (xs ++ ys) ≡ count_by (has p) xs + count_by (has p) ys
count_append p xs ys = sum_by-append (λ (y : Node). one_if (has p y)) xs ys

-- the child with one piece has the points of both boxes
count_one : (weight : ℕ) (node : Node) (piece : Piece) (p : Point) → count_by (has p) (option_to_list (child_with weight node piece)) ≡ one_if (has_point node.area p && piece_has p piece)
count_one weight node piece p =
    by (is_box (common node.area piece.area)) refl
  where
    by : (b : Bool) → is_box (common node.area piece.area) ≡ b → count_by (has p) (option_to_list (option_map (with_chosen weight piece node) (cond b (Some (common node.area piece.area)) None))) ≡ one_if (has_point node.area p && piece_has p piece)
    by true e = sum_by-cons (λ (y : Node). one_if (has p y)) (with_chosen weight piece node (common node.area piece.area)) [] ∙ (let none : one_if (has_point (common node.area piece.area) p) + 0 ≡ one_if (has_point (common node.area piece.area) p) = omega arith in none ∙ ap one_if (has_point-common node.area piece.area p))
    by false e = ap one_if (none (has_point node.area p && piece_has p piece) (λ both. sym e ∙ is_box-from_point (common node.area piece.area) p (has_point-common node.area piece.area p ∙ both)))
      where
        none : (t : Bool) → (t ≡ true → false ≡ true) → false ≡ t
        none true h = h refl
        none false h = refl

-- so the children have each point of the node as often as the pieces do, and no other
count_pieces : (weight : ℕ) (node : Node) (xs : List Piece) (p : Point) → count_by (has p) (flat_map (λ piece. option_to_list (child_with weight node piece)) xs) ≡ cond (has_point node.area p) (count_at xs p) 0
count_pieces weight node [] p = by (has_point node.area p)
  where
    by : (t : Bool) → ◌≡◌ {A = ℕ} 0 (cond t 0 0)
    by true = refl
    by false = refl
count_pieces weight node (x ∷ xs) p =
    count_append p (option_to_list (child_with weight node x)) (flat_map (λ piece. option_to_list (child_with weight node piece)) xs)
    ∙ joined (has_point node.area p) (piece_has p x) (count_by (has p) (option_to_list (child_with weight node x))) (count_by (has p) (flat_map (λ piece. option_to_list (child_with weight node piece)) xs)) (count_at xs p) (count_at (x ∷ xs) p) (count_one weight node x p) (count_pieces weight node xs p) (count_at-cons x xs p)
  where
    joined : (t u : Bool) (a b m n : ℕ) → a ≡ one_if (t && u) → b ≡ cond t m 0 → n ≡ one_if u + m → a + b ≡ cond t n 0
    joined true u a b m n e e' e'' = omega arith
    joined false u a b m n e e' e'' = omega arith

children_list : (term : Term) (node : Node) → children_in term node ≡ flat_map (λ piece. option_to_list (child_with term.weight node piece)) term.func.pieces
children_list term node = by_numbers (λ (piece : Option Piece). option_to_list (option_and_then (child_with term.weight node) piece)) term.func.pieces

pub count_children : (problem : WeightedSum) (node : Node) (term : Term) (p : Point) → IsProblem problem → Keeps problem node → slice_get problem.terms node.depth ≡ Some term → count_by (λ (child : Node). has_point child.area p) (children_of problem node) ≡ cond (has_point node.area p) 1 0
count_children problem node term p h keeps stands =
    let of_term = h.terms node.depth term stands in
    let partition = subst (λ (a : List Axis). IsPartition a term.func.pieces) of_term.domain of_term.func.partition in
    let children : children_of problem node ≡ children_in term node = rw stands (append-nil (children_in term node)) in
    ap (count_by (has p)) (children ∙ children_list term node) ∙ (count_pieces term.weight node term.func.pieces p ∙ once (has_point node.area p) refl (λ inside. partition p (area_point problem.axes node.area p keeps.inside inside)))
  where
    once : (t : Bool) → has_point node.area p ≡ t → (has_point node.area p ≡ true → count_at term.func.pieces p ≡ 1) → cond t (count_at term.func.pieces p) 0 ≡ cond t 1 0
    once true e h = h e
    once false e h = refl

-- so each point of a node below full depth lies in one child
pub once_in : (problem : WeightedSum) (node : Node) (p : Point) → IsProblem problem → IsNode problem node → node.depth < length problem.terms → count_by (has p) (children_of problem node) ≡ cond (has_point node.area p) 1 0
once_in problem node p h is below = count_children problem node (get_or problem.terms node.depth blank_term) p h (node_keeps problem node h is) (slice_get-get_or problem.terms node.depth blank_term below)
