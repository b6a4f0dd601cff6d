-- Worked examples of what a deque and its ends know, with nodes of the worked problem's tree.
use Rattle.std.proofs.Common.{◌≡◌, [], ◌∷◌, map, refl, arith}
use Rattle.std.specs.Global.{Global}
use Rattle.atomic_blocks.specs.Lent.{RowsId}
use Rattle.ivp_problem.specs.Trees.{IsNode, root_of}
use Rattle.ivp_problem.proofs.Examples.{left, two}
use Rattle.ivp_pool.specs.Hands.{both_hands, EndState, hand, IsBalanced, IsIdleEmpty, IsSettled, AreTaken}
use Rattle.ivp_pool.specs.Members.{first_parts, new_door, tag_of}
use Rattle.ivp_pool.specs.Teams.{HasEmptied}

root_is_one : IsNode two (root_of two)
root_is_one = record { path = []; reached = refl }

-- two nodes were put, one was stolen, and the other stands there
balanced : IsBalanced two (root_of two ∷ []) (hand 1023 (left ∷ root_of two ∷ []) [] ∷ hand 1 [] (left ∷ []) ∷ [])
balanced = record { parts = refl; each_once = λ weigh. omega arith; idle = ((λ none. absurd (omega (arith, none))), ((λ none. absurd (omega (arith, none))), tt)); here = (root_is_one, tt) }

-- none is lost, none is taken twice, and none for another; and no part goes
lost : IsBalanced two [] (hand 1024 (left ∷ []) [] ∷ []) → ⊥
lost is = omega (arith, is.each_once (λ node. 1))

taken_twice : IsBalanced two [] (hand 1024 (left ∷ []) (left ∷ left ∷ []) ∷ []) → ⊥
taken_twice is = omega (arith, is.each_once (λ node. 1))

other_taken : IsBalanced two [] (hand 1024 (left ∷ []) (root_of two ∷ []) ∷ []) → ⊥
other_taken is = omega (arith, is.each_once (λ node. node.depth))

part_gone : IsBalanced two [] (hand 1023 [] [] ∷ []) → ⊥
part_gone is = omega (arith, is.parts)

-- who has no part has put nothing
put_without_a_part : IsIdleEmpty (hand 0 (left ∷ []) []) → ⊥
put_without_a_part is = let none : left ∷ [] ≡ [] = (is refl).0 in absurd (cc)

-- with all parts it is settled where all was taken; with fewer that says nothing
settled : IsSettled (hand 1024 (left ∷ []) (left ∷ []))
settled = λ all weigh. refl

not_settled : IsSettled (hand 1024 (left ∷ []) []) → ⊥
not_settled is = omega (arith, is refl (λ node. 1))

one_part_out : IsSettled (hand 1023 (left ∷ []) [])
one_part_out = λ all weigh. absurd (omega (arith, all))

-- a node is taken through a door, and the door is taken back
took : AreTaken two (hand 1 [] []) (root_of two ∷ []) (hand 1 [] (root_of two ∷ []))
took = (refl, (root_is_one, tt))

took_nothing : AreTaken two (hand 1 [] []) (root_of two ∷ []) (hand 1 [] []) → ⊥
took_nothing is = let none : [] ≡ root_of two ∷ [] = λ i. (is.0 i).taken in absurd (cc)

came_back : both_hands (hand 1023 (left ∷ []) []) (hand 1 [] (left ∷ [])) ≡ hand 1024 (left ∷ []) (left ∷ [])
came_back = refl

-- a new door has one part of its deque
new_tag : (deque : RowsId × Global) → map tag_of (new_door deque ∷ []) ≡ first_parts (deque ∷ [])
new_tag deque = refl

-- of two deques the second was emptied, and not while a node stands there
emptied : (deque : RowsId × Global) (other : EndState) → HasEmptied 1 (other ∷ record { deque = deque; hand = hand 1024 (left ∷ []) [] } ∷ []) (other ∷ record { deque = deque; hand = hand 1024 (left ∷ []) (left ∷ []) } ∷ [])
emptied deque other = record { end = record { deque = deque; hand = hand 1024 (left ∷ []) (left ∷ []) }; is = refl; settled = settled; parts = λ d within. refl }
