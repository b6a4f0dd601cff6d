-- How many nodes a part may have: nodes side by side share no point, and each has one of the domain.
use Rattle.std.proofs.Common.{◌≡◌, ℕ, zero, suc, ◌+◌, ◌-◌, ◌*◌, ◌^◌, ◌<◌, ◌≤◌, List, [], ◌∷◌, length, get_or, refl, ap, ◌∙◌, subst, arith}
use Rattle.std.specs.Prelude.{count_by}
use Rattle.std.specs.List.{sum_by, AllByRecursion as Each}
use Rattle.std.specs.Option.{option_to_list}
use Rattle.std.proofs.Math.Nat.{mul-add, mul-le-mul_left, suc-mul}
use Rattle.std.proofs.lemmas.List.Sums.{count_by-le-length, get_or-le-sum_by, sum_by-append, sum_by-cons, sum_by-le-sum_by}
use Rattle.std.proofs.lemmas.Option.{get_or_from_slice_get, slice_get_within}
use Rattle.ivp_domain.specs.declared.boxes.Point.{Point}
use Rattle.ivp_domain.specs.Boxes.{has_point}
use Rattle.ivp_domain.specs.Domains.{points_of, whole}
use Rattle.ivp_domain.proofs.BoxLemmas.{has_low_corner}
use Rattle.ivp_domain.proofs.Sizes.{few, length-points_of}
use Rattle.ivp_func.proofs.Counting.{one_if}
use Rattle.ivp_func.proofs.Facts.{area_point, box_parts}
use Rattle.ivp_problem.specs.declared.node.Node.{Node}
use Rattle.ivp_problem.specs.Problems.{IsProblem, WeightedSum}
use Rattle.ivp_problem.specs.Trees.{child_of, children_of, IsNode}
use Rattle.ivp_problem.proofs.Children.{has, once_in}
use Rattle.ivp_problem.proofs.Nodes.{node_keeps}
use Rattle.ivp_problem.proofs.Pieces.{children_more, children_to}
use Rattle.ivp_problem.proofs.Terms.{at_places, listed_at}
use Rattle.ivp_pool.specs.Parts.{AreParts, Done, Handed, IsPart, Incumbent, TreePart, TreeParts, Pruned, size_in, part_size, Expanded, Then}
use Rattle.ivp_pool.proofs.Standing.{children_stand, Stands}

-- how many of the domain's points a node has
abbrev pub weight_of : WeightedSum → Node → ℕ
weight_of problem node = count_by (has_point node.area) (points_of problem.axes)

-- and all of these nodes, a point as often as nodes have it
abbrev weight_at : List Point → List Node → ℕ
weight_at points nodes = sum_by (λ point. count_by (has point) nodes) points

abbrev pub weight_in : WeightedSum → List Node → ℕ
weight_in problem nodes = weight_at (points_of problem.axes) nodes

weight_cons_at : (points : List Point) (node : Node) (nodes : List Node) → weight_at points (node ∷ nodes) ≡ count_by (has_point node.area) points + weight_at points nodes
weight_cons_at [] node nodes = refl
weight_cons_at (p ∷ ps) node nodes =
    omega (
      arith,
      sum_by-cons (λ (q : Point). count_by (has q) (node ∷ nodes)) p ps,
      sum_by-cons (λ (n : Node). one_if (has p n)) node nodes,
      sum_by-cons (λ (q : Point). one_if (has_point node.area q)) p ps,
      sum_by-cons (λ (q : Point). count_by (has q) nodes) p ps,
      weight_cons_at ps node nodes,
    )

pub weight_cons : (problem : WeightedSum) (node : Node) (nodes : List Node) → weight_in problem (node ∷ nodes) ≡ weight_of problem node + weight_in problem nodes
weight_cons problem node nodes = weight_cons_at (points_of problem.axes) node nodes

-- a node has a point of the domain, and no more than there are
pub some_weight : (problem : WeightedSum) (node : Node) → IsProblem problem → IsNode problem node → 0 < weight_of problem node
some_weight problem node h is =
    let keeps = node_keeps problem node h is in
    let low : Point = record { at = node.area.low } in
    let inside = has_low_corner node.area (box_parts problem.axes node.area keeps.inside).0 in
    let at = listed_at (whole problem.axes) low (area_point problem.axes node.area low keeps.inside inside) in
    let points = points_of problem.axes in
    let same : get_or points at.0 (at_places low) ≡ at_places low = get_or_from_slice_get points at.0 (at_places low) (at_places low) at.1 in
    let one : one_if (has_point node.area (get_or points at.0 (at_places low))) ≡ 1 = ap (λ (q : Point). one_if (has_point node.area q)) same ∙ ap one_if inside in
    let within = get_or-le-sum_by (λ (q : Point). one_if (has_point node.area q)) points at.0 (at_places low) (slice_get_within points at.0 (at_places low) at.1) in
    subst (λ n. n ≤ weight_of problem node) one within

pub few_weight : (problem : WeightedSum) (node : Node) → IsProblem problem → weight_of problem node ≤ 2 ^ 28
few_weight problem node h = omega (arith, count_by-le-length (has_point node.area) (points_of problem.axes), length-points_of problem.axes h.domain, few problem.axes h.domain)

-- nodes that have each point of a node at most once weigh no more than it
weight_most : (problem : WeightedSum) (node : Node) (nodes : List Node) → ((p : Point) → count_by (has p) nodes ≤ one_if (has_point node.area p)) → weight_in problem nodes ≤ weight_of problem node
weight_most problem node nodes once = sum_by-le-sum_by (λ (p : Point). count_by (has p) nodes) (λ (p : Point). one_if (has_point node.area p)) (points_of problem.axes) once

pub children_weight : (problem : WeightedSum) (node : Node) → IsProblem problem → IsNode problem node → node.depth < length problem.terms → weight_in problem (children_of problem node) ≤ weight_of problem node
children_weight problem node h is below = weight_most problem node (children_of problem node) (λ p. omega (arith, once_in problem node p h is below))

count_to : (problem : WeightedSum) (node : Node) (p : Point) (count more : ℕ) → count_by (has p) (children_to problem node count) ≤ count_by (has p) (children_to problem node (count + more))
count_to problem node p count zero = let same : count + 0 ≡ count = omega arith in rw same (omega arith)
count_to problem node p count (suc more) =
    let next : count + suc more ≡ (count + more) + 1 = omega arith in
    let all = children_to problem node (count + more) in
    rw next
    (omega (
      arith,
      count_to problem node p count more,
      ap (count_by (has p)) (children_more problem node (count + more)),
      sum_by-append (λ (n : Node). one_if (has p n)) all (option_to_list (child_of problem node (count + more))),
    ))

-- so do the children by the first pieces
pub first_weight : (problem : WeightedSum) (node : Node) (count pieces : ℕ) → IsProblem problem → IsNode problem node → node.depth < length problem.terms → count ≤ pieces → children_to problem node pieces ≡ children_of problem node → weight_in problem (children_to problem node count) ≤ weight_of problem node
first_weight problem node count pieces h is below within all = rest (pieces - count) (omega arith)
  where
    rest : (more : ℕ) → count + more ≡ pieces → weight_in problem (children_to problem node count) ≤ weight_of problem node
    rest more e =
        weight_most problem node (children_to problem node count)
        (λ p.
        omega (
          arith,
          count_to problem node p count more,
          ap (λ k. count_by (has p) (children_to problem node k)) e,
          ap (count_by (has p)) all,
          once_in problem node p h is below,
        ))

mutual
  -- a part has at most as many nodes as levels times points
  pub size_most : (problem : WeightedSum) → IsProblem problem → (low : Incumbent) (from levels : ℕ) (node : Node) (part : TreePart) → Stands problem from levels node → IsPart problem low node part → part_size part ≤ suc levels * weight_of problem node
  size_most problem h low from levels node Pruned stands is = omega (arith, suc-mul levels (weight_of problem node), some_weight problem node h stands.is)
  size_most problem h low from levels node Handed stands is = omega (arith, suc-mul levels (weight_of problem node), some_weight problem node h stands.is)
  size_most problem h low from zero node (Expanded parts) stands is = absurd (omega (arith, stands.most, is.0))
  size_most problem h low from (suc levels) node (Expanded parts) stands is =
      let weight = weight_of problem node in
      let children = children_of problem node in
      omega (
        arith,
        suc-mul (suc levels) weight,
        some_weight problem node h stands.is,
        mul-le-mul_left (suc levels) (children_weight problem node h stands.is is.0),
        sizes_most problem h low (suc from) levels children parts (children_stand problem from levels node stands) is.1,
      )

  pub sizes_most : (problem : WeightedSum) → IsProblem problem → (low : Incumbent) (from levels : ℕ) (nodes : List Node) (parts : TreeParts) → Each (Stands problem from levels) nodes → AreParts problem low nodes parts → size_in parts ≤ suc levels * weight_in problem nodes
  sizes_most problem h low from levels nodes Done stand are = omega arith
  sizes_most problem h low from levels [] (Then part parts) stand are = absurd are
  sizes_most problem h low from levels (node ∷ nodes) (Then part parts) stand are =
      omega (
        arith,
        size_most problem h low from levels node part stand.0 are.0,
        sizes_most problem h low from levels nodes parts stand.1 are.1,
        ap (λ n. suc levels * n) (weight_cons problem node nodes),
        mul-add (suc levels) (weight_of problem node) (weight_in problem nodes),
      )
