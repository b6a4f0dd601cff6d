-- Nodes by their paths, and the nodes of full depth below them.
use Rattle.std.proofs.Common.{◌≡◌, ℕ, suc, ◌+◌, ◌≤◌, Bool, true, false, ◌||◌, Option, Some, None, List, [], ◌∷◌, ◌++◌, length, drop, refl, sym, ap, subst, ◌∙◌, arith, length-drop, append-nil, append_assoc}
use Rattle.std.specs.Prelude.{slice_get}
use Rattle.std.specs.List.{flat_map}
use Rattle.std.specs.Option.{option_to_list}
use Rattle.std.proofs.lemmas.Option.{option_and_then_some}
use Rattle.ivp_domain.specs.declared.boxes.Point.{Point}
use Rattle.ivp_domain.specs.Boxes.{has_point, numbers_from}
use Rattle.ivp_domain.proofs.BoxLemmas.{has_low_corner, has_point-common}
use Rattle.ivp_func.proofs.Facts.{box_parts}
use Rattle.ivp_problem.specs.declared.node.Node.{Node}
use Rattle.ivp_problem.specs.declared.term.Term.{Term}
use Rattle.ivp_problem.specs.Problems.{IsProblem, WeightedSum}
use Rattle.ivp_problem.specs.Trees.{child_in, child_of, children_of, has_in, IsNode, node_below, node_of, root_of}
use Rattle.ivp_problem.proofs.Children.{count_children}
use Rattle.ivp_problem.proofs.Nodes.{below_more, child_parts, next_at, node_keeps}
use Rattle.ivp_problem.proofs.Pieces.{children_all, has_all}
use Rattle.std.proofs.lemmas.Bool.{and_parts}

-- the node of a path, and the functions of which it has chosen no piece
pub record Reached (problem : WeightedSum) (terms : List Term) (path : List ℕ) (node : Node) : Type 0 where
  pub here : node_of problem path ≡ Some node
  pub rest : drop node.depth problem.terms ≡ terms

pub root_reached : (problem : WeightedSum) → Reached problem problem.terms [] (root_of problem)
root_reached problem = record { here = refl; rest = refl }

pub child_reached : (problem : WeightedSum) (term : Term) (terms : List Term) (path : List ℕ) (node child : Node) (number : ℕ) → Reached problem (term ∷ terms) path node → child_in term node number ≡ Some child → Reached problem terms (path ++ number ∷ []) child
child_reached problem term terms path node child number at more =
    let next = next_at problem.terms node.depth term terms at.rest in
    let of = child_parts term node number child more in
    record {
      here = below_more problem.terms problem.terms path (root_of problem) node child term number refl at.here next.0 more;
      rest = subst (λ (c : Node). drop c.depth problem.terms ≡ terms) of.same next.1;
    }

pub reached_node : (problem : WeightedSum) (terms : List Term) (path : List ℕ) (node : Node) → Reached problem terms path node → IsNode problem node
reached_node problem terms path node at = record { path = path; reached = at.here }

pub reached_full : (problem : WeightedSum) (path : List ℕ) (node : Node) → Reached problem [] path node → length problem.terms ≤ node.depth
reached_full problem path node at = omega (arith, ap length at.rest, length-drop node.depth problem.terms)

-- a path goes on from the node that its beginning reaches
pub below_append : (terms : List Term) (path more : List ℕ) (node below : Node) → node_below terms path node ≡ Some below → node_below terms (path ++ more) node ≡ node_below (drop (length path) terms) more below
below_append terms [] more node below e = let same : node ≡ below = cc in ap (node_below terms more) same
below_append [] (number ∷ path) more node below e = absurd (cc)
below_append (term ∷ terms) (number ∷ path) more node below e =
    option_and_then_some (node_below terms path) (child_in term node number) below e
    (λ child first later. rw first (below_append terms path more child below later))

-- a path has as many numbers as it goes deep
pub below_depth : (terms : List Term) (path : List ℕ) (node below : Node) → node_below terms path node ≡ Some below → below.depth ≡ node.depth + length path
below_depth terms [] node below e = let same : node ≡ below = cc in omega (arith, ap (λ (n : Node). n.depth) same)
below_depth [] (number ∷ path) node below e = absurd (cc)
below_depth (term ∷ terms) (number ∷ path) node below e =
    option_and_then_some (node_below terms path) (child_in term node number) below e
    (λ child first later.
    let of = child_parts term node number child first in
    omega (arith, below_depth terms path child below later, ap (λ (n : Node). n.depth) of.same))

pub below_length : (terms : List Term) (path : List ℕ) (node below : Node) → node_below terms path node ≡ Some below → length path ≤ length terms
below_length terms [] node below e = omega arith
below_length [] (number ∷ path) node below e = absurd (cc)
below_length (term ∷ terms) (number ∷ path) node below e =
    option_and_then_some (node_below terms path) (child_in term node number) below e
    (λ child first later. omega (arith, below_length terms path child below later))

-- what lies in a node lies in those above it
pub below_inside : (terms : List Term) (path : List ℕ) (node below : Node) (p : Point) → node_below terms path node ≡ Some below → has_point below.area p ≡ true → has_point node.area p ≡ true
below_inside terms [] node below p e inside = let same : node ≡ below = cc in ap (λ (n : Node). has_point n.area p) same ∙ inside
below_inside [] (number ∷ path) node below p e inside = absurd (cc)
below_inside (term ∷ terms) (number ∷ path) node below p e inside =
    option_and_then_some (node_below terms path) (child_in term node number) below e
    (λ child first later.
    let of = child_parts term node number child first in
    let here = below_inside terms path child below p later inside in
    let both = ap (λ (n : Node). has_point n.area p) of.same ∙ here in
    (and_parts (has_point node.area p) (has_point of.piece.area p) (sym (has_point-common node.area of.piece.area p) ∙ both)).0)

-- a child that has the point
pub record HasChild (problem : WeightedSum) (node : Node) (p : Point) : Type 0 where
  pub number : ℕ
  pub child : Node
  pub is : child_of problem node number ≡ Some child
  pub inside : has_point child.area p ≡ true

-- none of these nodes, or one of the others
abbrev HasIn : List Node → Point → Type 0
HasIn nodes p = has_in nodes p ≡ true

one_or : (problem : WeightedSum) (node : Node) (p : Point) (number : ℕ) (o : Option Node) (others : List Node) → child_of problem node number ≡ o → HasIn (option_to_list o ++ others) p → (HasIn others p → HasChild problem node p) → HasChild problem node p
one_or problem node p number None others e h more = more h
one_or problem node p number (Some child) others e h more = by (has_point child.area p) refl h
  where
    by : (t : Bool) → has_point child.area p ≡ t → (t || has_in others p) ≡ true → HasChild problem node p
    by true e' h = record { number = number; child = child; is = e; inside = e' }
    by false e' h = more h

one_of : (problem : WeightedSum) (node : Node) (p : Point) (numbers : List ℕ) → HasIn (flat_map (λ number. option_to_list (child_of problem node number)) numbers) p → HasChild problem node p
one_of problem node p [] h = absurd (cc)
one_of problem node p (number ∷ numbers) h = one_or problem node p number (child_of problem node number) (flat_map (λ k. option_to_list (child_of problem node k)) numbers) refl h (one_of problem node p numbers)

has_child : (problem : WeightedSum) (term : Term) (node : Node) (p : Point) → IsProblem problem → IsNode problem node → slice_get problem.terms node.depth ≡ Some term → has_point node.area p ≡ true → HasChild problem node p
has_child problem term node p h is stands inside =
    let counted = count_children problem node term p h (node_keeps problem node h is) stands in
    let has = sym (has_all node (children_of problem node) p counted) ∙ inside in
    let all = children_all problem node term stands in
    one_of problem node p (numbers_from 0 (length term.func.pieces)) (ap (λ ns. has_in ns p) all ∙ has)

-- a node of full depth below this one, which has the point
pub record HasLeaf (terms : List Term) (node : Node) (p : Point) : Type 0 where
  pub path : List ℕ
  pub leaf : Node
  pub reached : node_below terms path node ≡ Some leaf
  pub full : length path ≡ length terms
  pub inside : has_point leaf.area p ≡ true

pub has_leaf : (problem : WeightedSum) (terms : List Term) (path : List ℕ) (node : Node) (p : Point) → IsProblem problem → Reached problem terms path node → has_point node.area p ≡ true → HasLeaf terms node p
has_leaf problem [] path node p h at inside = record { path = []; leaf = node; reached = refl; full = refl; inside = inside }
has_leaf problem (term ∷ terms) path node p h at inside =
    let stands = (next_at problem.terms node.depth term terms at.rest).0 in
    let one = has_child problem term node p h (reached_node problem (term ∷ terms) path node at) stands inside in
    let is : child_in term node one.number ≡ Some one.child = rw stands at one.is in
    let more = has_leaf problem terms (path ++ one.number ∷ []) one.child p h (child_reached problem term terms path node one.child one.number at is) one.inside in
    record { path = one.number ∷ more.path; leaf = more.leaf; reached = rw is more.reached; full = ap suc more.full; inside = more.inside }

-- each node has one
pub some_leaf : (problem : WeightedSum) (terms : List Term) (path : List ℕ) (node : Node) → IsProblem problem → Reached problem terms path node → (p : Point) × HasLeaf terms node p
some_leaf problem terms path node h at =
    let keeps = node_keeps problem node h (reached_node problem terms path node at) in
    let low : Point = record { at = node.area.low } in
    (low, has_leaf problem terms path node low h at (has_low_corner node.area (box_parts problem.axes node.area keeps.inside).0))

-- the functions behind those that a path below a node chooses from
pub below_reached : (problem : WeightedSum) (terms : List Term) (path more : List ℕ) (node below : Node) → Reached problem terms path node → node_below terms more node ≡ Some below → Reached problem (drop (length more) terms) (path ++ more) below
below_reached problem terms path [] node below at e = let same : node ≡ below = cc in subst (Reached problem terms (path ++ [])) same (subst (λ q. Reached problem terms q node) (sym (append-nil path)) at)
below_reached problem [] path (number ∷ more) node below at e = absurd (cc)
below_reached problem (term ∷ terms) path (number ∷ more) node below at e =
    option_and_then_some (node_below terms more) (child_in term node number) below e
    (λ child first later. subst (λ q. Reached problem (drop (length more) terms) q below) (append_assoc path (number ∷ []) more) (below_reached problem terms (path ++ number ∷ []) more child below (child_reached problem term terms path node child number at first) later))
