-- How the part of a node grows child by child, and what it covers.
use Rattle.std.proofs.Common.{◌≡◌, ◌≢◌, ℕ, zero, suc, ◌+◌, ◌*◌, ◌^◌, ◌<◌, ◌≤◌, ◌⊎◌, inl, inr, Bool, true, false, ◌||◌, Some, None, List, [], ◌∷◌, ◌++◌, length, refl, sym, ap, ◌∙◌, subst, arith, append_assoc, length-append}
use Rattle.std.specs.List.{AllByRecursion as Each}
use Rattle.std.specs.Option.{option_to_list}
use Rattle.std.proofs.Math.Bool.{or-true}
use Rattle.std.proofs.lemmas.List.{append-nil}
use Rattle.std.proofs.lemmas.List.Folds.{list_any-append}
use Rattle.moos_io.proofs.Lists.{each_append, each_weaker}
use Rattle.ivp_domain.specs.declared.boxes.Point.{Point}
use Rattle.ivp_domain.specs.Boxes.{has_point}
use Rattle.ivp_problem.specs.declared.node.Node.{Node}
use Rattle.ivp_problem.specs.Problems.{IsProblem, WeightedSum}
use Rattle.ivp_problem.specs.Sums.{key_at}
use Rattle.ivp_problem.specs.Trees.{bound_of, child_of, children_of, has_in, IsNode}
use Rattle.ivp_problem.proofs.Bounds.{key_bound}
use Rattle.ivp_problem.proofs.Children.{once_in}
use Rattle.ivp_problem.proofs.Nodes.{node_keeps}
use Rattle.ivp_problem.proofs.Pieces.{children_more, children_to, has_all}
use Rattle.ivp_pool.specs.Closing.{AreCovered, Closed, Pushed}
use Rattle.ivp_pool.specs.Parts.{AreParts, Done, Handed, handed_in, handed_within, IsPart, Incumbent, KnowsMore, Outdoes, TreePart, TreeParts, Pruned, size_in, part_size, Expanded, Then}
use Rattle.ivp_pool.proofs.Knowing.{knows_same, outdoes_less}
use Rattle.ivp_pool.proofs.Standing.{children_stand, first_stand, standing, Stands}
use Rattle.ivp_pool.proofs.Weights.{few_weight, first_weight, sizes_most}

mutual
  -- a part stays one where the scout learns more
  pub raised : (problem : WeightedSum) (low high : Incumbent) → KnowsMore low high → (node : Node) (part : TreePart) → IsPart problem low node part → IsPart problem high node part
  raised problem low high up node Pruned is = up (bound_of problem node) is
  raised problem low high up node Handed is = tt
  raised problem low high up node (Expanded parts) is = (is.0, all_raised problem low high up (children_of problem node) parts is.1)

  all_raised : (problem : WeightedSum) (low high : Incumbent) → KnowsMore low high → (nodes : List Node) (parts : TreeParts) → AreParts problem low nodes parts → AreParts problem high nodes parts
  all_raised problem low high up [] Done are = tt
  all_raised problem low high up (node ∷ nodes) Done are = absurd are
  all_raised problem low high up [] (Then part parts) are = absurd are
  all_raised problem low high up (node ∷ nodes) (Then part parts) are = (raised problem low high up node part are.0, all_raised problem low high up nodes parts are.1)

-- a point of one of these nodes lies in the first one or in a later one
first_or_later : (problem : WeightedSum) (low : Incumbent) (node : Node) (nodes some more : List Node) (p : Point) → (has_point node.area p ≡ true → Outdoes low (key_at problem p) ⊎ (has_in some p ≡ true)) → (has_in nodes p ≡ true → Outdoes low (key_at problem p) ⊎ (has_in more p ≡ true)) → has_in (node ∷ nodes) p ≡ true → Outdoes low (key_at problem p) ⊎ (has_in (some ++ more) p ≡ true)
first_or_later problem low node nodes some more p in_first in_later inside = either (has_point node.area p) refl inside
  where
    all : has_in (some ++ more) p ≡ (has_in some p || has_in more p)
    all = list_any-append (λ (n : Node). has_point n.area p) some more

    first : Outdoes low (key_at problem p) ⊎ (has_in some p ≡ true) → Outdoes low (key_at problem p) ⊎ (has_in (some ++ more) p ≡ true)
    first (inl less) = inl less
    first (inr found) = inr (all ∙ ap (λ t. t || has_in more p) found)

    later : Outdoes low (key_at problem p) ⊎ (has_in more p ≡ true) → Outdoes low (key_at problem p) ⊎ (has_in (some ++ more) p ≡ true)
    later (inl less) = inl less
    later (inr found) = inr (all ∙ (ap (λ t. has_in some p || t) found ∙ or-true (has_in some p)))

    either : (t : Bool) → has_point node.area p ≡ t → (t || has_in nodes p) ≡ true → Outdoes low (key_at problem p) ⊎ (has_in (some ++ more) p ≡ true)
    either true e inside = first (in_first e)
    either false e inside = later (in_later inside)

mutual
  -- each point of a node is unwanted, or lies in a node that was handed to others
  pub covered : (problem : WeightedSum) → IsProblem problem → (low : Incumbent) (from levels : ℕ) (node : Node) (part : TreePart) → Stands problem from levels node → IsPart problem low node part → (p : Point) → has_point node.area p ≡ true → Outdoes low (key_at problem p) ⊎ (has_in (handed_within problem node part) p ≡ true)
  covered problem h low from levels node Pruned stands is p inside = inl (outdoes_less low (key_at problem p) (bound_of problem node) (key_bound problem node p (node_keeps problem node h stands.is) inside) is)
  covered problem h low from levels node Handed stands is p inside = inr (ap (λ t. t || false) inside)
  covered problem h low from zero node (Expanded parts) stands is p inside = absurd (omega (arith, stands.most, is.0))
  covered problem h low from (suc levels) node (Expanded parts) stands is p inside =
      let children = children_of problem node in
      all_covered problem h low (suc from) levels children parts (children_stand problem from levels node stands) is.1 p (sym (has_all node children p (once_in problem node p h stands.is is.0)) ∙ inside)

  all_covered : (problem : WeightedSum) → IsProblem problem → (low : Incumbent) (from levels : ℕ) (nodes : List Node) (parts : TreeParts) → Each (Stands problem from levels) nodes → AreParts problem low nodes parts → (p : Point) → has_in nodes p ≡ true → Outdoes low (key_at problem p) ⊎ (has_in (handed_in problem nodes parts) p ≡ true)
  all_covered problem h low from levels [] Done stand are p inside = absurd (cc)
  all_covered problem h low from levels (node ∷ nodes) Done stand are p inside = absurd are
  all_covered problem h low from levels [] (Then part parts) stand are p inside = absurd are
  all_covered problem h low from levels (node ∷ nodes) (Then part parts) stand are p inside =
      first_or_later problem low node nodes (handed_within problem node part) (handed_in problem nodes parts) p (covered problem h low from levels node part stand.0 are.0 p) (all_covered problem h low from levels nodes parts stand.1 are.1 p) inside

-- what closing a node leaves behind covers its points
pub closed_covers : (problem : WeightedSum) (low : Incumbent) (took took' : List Node) (node : Node) (count : ℕ) → IsProblem problem → IsNode problem node → Closed problem low took took' node count → AreCovered problem low took took' (has_point node.area)
closed_covers problem low took took' node count h is closed =
    (handed_within problem node closed.part, closed.taken, λ p inside. covered problem h low node.depth (length problem.terms) node closed.part (standing problem node is) closed.is p inside)

-- a node of the tree, no less deep than this
pub record IsBelow (problem : WeightedSum) (from : ℕ) (node : Node) : Type 0 where
  pub is : IsNode problem node
  pub deep : from ≤ node.depth

less_deep : (problem : WeightedSum) (from : ℕ) (nodes : List Node) → Each (IsBelow problem (suc from)) nodes → Each (IsBelow problem from) nodes
less_deep problem from nodes h = each_weaker (IsBelow problem (suc from)) (IsBelow problem from) (λ node below. let deep = below.deep in record { is = below.is; deep = omega arith }) nodes h

mutual
  -- what was handed to others are nodes of the tree, no less deep than the node
  handed_below : (problem : WeightedSum) (low : Incumbent) (from levels : ℕ) (node : Node) (part : TreePart) → Stands problem from levels node → IsPart problem low node part → Each (IsBelow problem from) (handed_within problem node part)
  handed_below problem low from levels node Pruned stands is = tt
  handed_below problem low from levels node Handed stands is = (record { is = stands.is; deep = stands.deep }, tt)
  handed_below problem low from zero node (Expanded parts) stands is = absurd (omega (arith, stands.most, is.0))
  handed_below problem low from (suc levels) node (Expanded parts) stands is = less_deep problem from (handed_in problem (children_of problem node) parts) (all_below problem low (suc from) levels (children_of problem node) parts (children_stand problem from levels node stands) is.1)

  all_below : (problem : WeightedSum) (low : Incumbent) (from levels : ℕ) (nodes : List Node) (parts : TreeParts) → Each (Stands problem from levels) nodes → AreParts problem low nodes parts → Each (IsBelow problem from) (handed_in problem nodes parts)
  all_below problem low from levels nodes Done stand are = tt
  all_below problem low from levels [] (Then part parts) stand are = absurd are
  all_below problem low from levels (node ∷ nodes) (Then part parts) stand are = each_append (IsBelow problem from) (handed_within problem node part) (handed_in problem nodes parts) (handed_below problem low from levels node part stand.0 are.0) (all_below problem low from levels nodes parts stand.1 are.1)

-- below a closed node they are deeper
pub handed_deeper : (problem : WeightedSum) (low : Incumbent) (levels : ℕ) (node : Node) (part : TreePart) → Stands problem node.depth levels node → IsPart problem low node part → part ≢ Handed → Each (IsBelow problem (suc node.depth)) (handed_within problem node part)
handed_deeper problem low levels node Pruned stands is here = tt
handed_deeper problem low levels node Handed stands is here = absurd (here refl)
handed_deeper problem low zero node (Expanded parts) stands is here = absurd (omega (arith, stands.most, is.0))
handed_deeper problem low (suc levels) node (Expanded parts) stands is here = all_below problem low (suc node.depth) levels (children_of problem node) parts (children_stand problem node.depth levels node stands) is.1

-- one part more at the end
abbrev with_last : TreeParts → TreePart → TreeParts
with_last Done part = Then part Done
with_last (Then first parts) part = Then first (with_last parts part)

are_more : (problem : WeightedSum) (low : Incumbent) (nodes : List Node) (parts : TreeParts) (node : Node) (part : TreePart) → AreParts problem low nodes parts → IsPart problem low node part → AreParts problem low (nodes ++ node ∷ []) (with_last parts part)
are_more problem low [] Done node part are is = (is, tt)
are_more problem low (first ∷ nodes) Done node part are is = absurd are
are_more problem low [] (Then one parts) node part are is = absurd are
are_more problem low (first ∷ nodes) (Then one parts) node part are is = (are.0, are_more problem low nodes parts node part are.1 is)

size_more : (parts : TreeParts) (part : TreePart) → size_in (with_last parts part) ≡ size_in parts + part_size part
size_more Done part = omega arith
size_more (Then one parts) part = omega (arith, size_more parts part)

handed_more : (problem : WeightedSum) (low : Incumbent) (nodes : List Node) (parts : TreeParts) (node : Node) (part : TreePart) → AreParts problem low nodes parts → handed_in problem (nodes ++ node ∷ []) (with_last parts part) ≡ handed_in problem nodes parts ++ handed_within problem node part
handed_more problem low [] Done node part are = append-nil (handed_within problem node part)
handed_more problem low (first ∷ nodes) Done node part are = absurd are
handed_more problem low [] (Then one parts) node part are = absurd are
handed_more problem low (first ∷ nodes) (Then one parts) node part are = ap (λ rest. handed_within problem first one ++ rest) (handed_more problem low nodes parts node part are.1) ∙ sym (append_assoc (handed_within problem first one) (handed_in problem nodes parts) (handed_within problem node part))

-- some children of an expanded node were searched; the count has the node itself too
pub record Searched (problem : WeightedSum) (low : Incumbent) (took took' : List Node) (nodes : List Node) (count : ℕ) : Type 0 where
  pub parts : TreeParts
  pub are : AreParts problem low nodes parts
  pub taken : took' ≡ took ++ handed_in problem nodes parts
  pub counted : count + length (handed_in problem nodes parts) ≡ 1 + size_in parts

pub nothing_searched : (problem : WeightedSum) (low : Incumbent) (took : List Node) → Searched problem low took took [] 1
nothing_searched problem low took = record { parts = Done; are = tt; taken = sym (append-nil took); counted = omega arith }

-- one child more
searched_more : (problem : WeightedSum) (low high : Incumbent) (took took' took'' : List Node) (nodes : List Node) (count : ℕ) (node : Node) (part : TreePart) (more : ℕ) → KnowsMore low high → Searched problem low took took' nodes count → IsPart problem high node part → took'' ≡ took' ++ handed_within problem node part → more + length (handed_within problem node part) ≡ part_size part → Searched problem high took took'' (nodes ++ node ∷ []) (count + more)
searched_more problem low high took took' took'' nodes count node part more up searched is taken counted =
    let all = handed_more problem low nodes searched.parts node part searched.are in
    let handed = handed_in problem nodes searched.parts in
    record {
      parts = with_last searched.parts part;
      are = are_more problem high nodes searched.parts node part (all_raised problem low high up nodes searched.parts searched.are) is;
      taken = taken ∙ (ap (λ t. t ++ handed_within problem node part) searched.taken ∙ (append_assoc took handed (handed_within problem node part) ∙ ap (λ t. took ++ t) (sym all)));
      counted = omega (arith, searched.counted, counted, ap length all, length-append handed (handed_within problem node part), size_more searched.parts part);
    }

-- pieces that have no point of the node
pub searched_on : (problem : WeightedSum) (low : Incumbent) (took took' : List Node) (node : Node) (from number count : ℕ) → children_to problem node number ≡ children_to problem node from → Searched problem low took took' (children_to problem node from) count → Searched problem low took took' (children_to problem node number) count
searched_on problem low took took' node from number count same searched = subst (λ ns. Searched problem low took took' ns count) (sym same) searched

-- the child by a piece was handed to the tray
pub searched_passed : (problem : WeightedSum) (low : Incumbent) (took took' took'' : List Node) (node child : Node) (number count : ℕ) → child_of problem node number ≡ Some child → Searched problem low took took' (children_to problem node number) count → Pushed took' took'' child None → Searched problem low took took'' (children_to problem node (number + 1)) count
searched_passed problem low took took' took'' node child number count is searched taken =
    let none : count + 0 ≡ count = omega arith in
    let more = searched_more problem low low took took' took'' (children_to problem node number) count child Handed 0 (knows_same low) searched tt taken (omega arith) in
    subst (λ ns. Searched problem low took took'' ns count) (sym (children_more problem node number ∙ ap (λ o. children_to problem node number ++ option_to_list o) is)) (subst (Searched problem low took took'' (children_to problem node number ++ child ∷ [])) none more)

-- it came back, and was closed
pub searched_closed : (problem : WeightedSum) (low high : Incumbent) (took took' took'' took''' : List Node) (node child back : Node) (number count more : ℕ) → KnowsMore low high → child_of problem node number ≡ Some child → Searched problem low took took' (children_to problem node number) count → Pushed took' took'' child (Some back) → Closed problem high took'' took''' back more → Searched problem high took took''' (children_to problem node (number + 1)) (count + more)
searched_closed problem low high took took' took'' took''' node child back number count more up is searched passed closed =
    let same : child_of problem node number ≡ Some back = is ∙ ap Some (sym passed.0) in
    subst (λ ns. Searched problem high took took''' ns (count + more)) (sym (children_more problem node number ∙ ap (λ o. children_to problem node number ++ option_to_list o) same))
    (searched_more problem low high took took' took''' (children_to problem node number) count back closed.part more up searched closed.is (closed.taken ∙ ap (λ t. t ++ handed_within problem back closed.part) passed.1) closed.counted)

-- the count stays small
pub searched_few : (problem : WeightedSum) (low : Incumbent) (took took' : List Node) (node : Node) (number pieces count : ℕ) → IsProblem problem → IsNode problem node → node.depth < length problem.terms → number ≤ pieces → children_to problem node pieces ≡ children_of problem node → Searched problem low took took' (children_to problem node number) count → count ≤ 1 + 65 * 2 ^ 28
searched_few problem low took took' node number pieces count h is below within all searched =
    let stands : Stands problem node.depth (suc 64) node = record { is = is; deep = omega arith; most = omega (arith, h.few) } in
    let weight = first_weight problem node number pieces h is below within all in
    omega (arith, searched.counted, weight, few_weight problem node h, sizes_most problem h low (suc node.depth) 64 (children_to problem node number) searched.parts (first_stand problem node.depth 64 node number stands) searched.are)

-- all children were searched
pub searched_all : (problem : WeightedSum) (low : Incumbent) (took took' : List Node) (node : Node) (count : ℕ) → node.depth < length problem.terms → Searched problem low took took' (children_of problem node) count → Closed problem low took took' node count
searched_all problem low took took' node count below searched =
    record {
      part = Expanded searched.parts;
      is = (below, searched.are);
      here = λ same. absurd (cc);
      taken = searched.taken;
      counted = searched.counted;
    }

-- a node was pruned, since no point of its bound is wanted
pub pruned : (problem : WeightedSum) (low : Incumbent) (took : List Node) (node : Node) → Outdoes low (bound_of problem node) → Closed problem low took took node 1
pruned problem low took node is =
    record {
      part = Pruned;
      is = is;
      here = λ same. absurd (cc);
      taken = sym (append-nil took);
      counted = omega arith;
    }
