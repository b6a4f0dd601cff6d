-- Nodes of a tree by how deep they are, and how their children follow.
use Rattle.std.proofs.Common.{◌≡◌, ℕ, suc, ◌+◌, ◌≤◌, Option, Some, None, List, [], ◌∷◌, length, refl, subst, arith}
use Rattle.std.specs.List.{flat_map, AllByRecursion as Each}
use Rattle.std.specs.Option.{option_to_list}
use Rattle.std.proofs.lemmas.Option.{option_and_then_some}
use Rattle.moos_io.proofs.Lists.{each_append}
use Rattle.ivp_domain.specs.Boxes.{numbers_from}
use Rattle.ivp_problem.specs.declared.node.Node.{Node}
use Rattle.ivp_problem.specs.declared.term.Term.{Term}
use Rattle.ivp_problem.specs.Problems.{WeightedSum}
use Rattle.ivp_problem.specs.Trees.{child_in, child_of, children_of, IsNode, next_of}
use Rattle.ivp_problem.proofs.Nodes.{child_node}
use Rattle.ivp_problem.proofs.Pieces.{child_depth, children_all, children_to}

-- a node of the tree, no less deep than this, with at most so many levels below it
pub record Stands (problem : WeightedSum) (from levels : ℕ) (node : Node) : Type 0 where
  pub is : IsNode problem node
  pub deep : from ≤ node.depth
  pub most : length problem.terms ≤ node.depth + levels

pub child_stands : (problem : WeightedSum) (from levels : ℕ) (node child : Node) (number : ℕ) → Stands problem from (suc levels) node → child_of problem node number ≡ Some child → Stands problem (suc from) levels child
child_stands problem from levels node child number h is =
    let deeper = child_depth problem node child number is in
    let deep = h.deep in
    let most = h.most in
    record {
      is = option_and_then_some (λ (term : Term). child_in term node number) (next_of problem node) child is (λ term at in_term. child_node problem node child term number h.is at in_term);
      deep = omega arith;
      most = omega arith;
    }

-- the children by any pieces
by_numbers : (problem : WeightedSum) (from levels : ℕ) (node : Node) → Stands problem from (suc levels) node → (numbers : List ℕ) → Each (Stands problem (suc from) levels) (flat_map (λ number. option_to_list (child_of problem node number)) numbers)
by_numbers problem from levels node h [] = tt
by_numbers problem from levels node h (number ∷ numbers) = each_append (Stands problem (suc from) levels) (option_to_list (child_of problem node number)) (flat_map (λ k. option_to_list (child_of problem node k)) numbers) (one (child_of problem node number) refl) (by_numbers problem from levels node h numbers)
  where
    one : (o : Option Node) → child_of problem node number ≡ o → Each (Stands problem (suc from) levels) (option_to_list o)
    one None e = tt
    one (Some child) e = (child_stands problem from levels node child number h e, tt)

pub first_stand : (problem : WeightedSum) (from levels : ℕ) (node : Node) (count : ℕ) → Stands problem from (suc levels) node → Each (Stands problem (suc from) levels) (children_to problem node count)
first_stand problem from levels node count h = by_numbers problem from levels node h (numbers_from 0 count)

pub children_stand : (problem : WeightedSum) (from levels : ℕ) (node : Node) → Stands problem from (suc levels) node → Each (Stands problem (suc from) levels) (children_of problem node)
children_stand problem from levels node h = by (next_of problem node) refl
  where
    by : (o : Option Term) → next_of problem node ≡ o → Each (Stands problem (suc from) levels) (children_of problem node)
    by None e = rw e tt
    by (Some term) e = subst (Each (Stands problem (suc from) levels)) (children_all problem node term e) (first_stand problem from levels node (length term.func.pieces) h)

-- a node as it stands, with all levels of the tree
pub standing : (problem : WeightedSum) (node : Node) → IsNode problem node → Stands problem node.depth (length problem.terms) node
standing problem node is = record { is = is; deep = omega arith; most = omega arith }
