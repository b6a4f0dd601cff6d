-- How tallies come together: each handed node is another tally's, whose part takes its place.
use Rattle.std.proofs.Common.{◌≡◌, ◌≢◌, ℕ, zero, suc, ◌+◌, ◌-◌, ◌*◌, ◌<◌, ◌≤◌, ◌⊎◌, inl, inr, Bool, true, false, List, [], ◌∷◌, ◌++◌, length, refl, sym, ap, ◌∙◌, subst, arith, append_assoc, length-append}
use Rattle.std.specs.List.{sum_by, AllByRecursion as Each}
use Rattle.std.proofs.Math.Nat.{mul-add, mul-le-mul, mul-le-mul_left, suc-mul}
use Rattle.std.proofs.lemmas.List.Sums.{sum_by-append, sum_by-cons}
use Rattle.ivp_domain.specs.declared.boxes.Point.{Point}
use Rattle.ivp_func.proofs.Counting.{one_if}
use Rattle.ivp_problem.specs.declared.node.Node.{Node}
use Rattle.ivp_problem.specs.Problems.{IsProblem, WeightedSum}
use Rattle.ivp_problem.specs.Sums.{key_at}
use Rattle.ivp_problem.specs.Trees.{children_of, has_in, IsNode, root_of}
use Rattle.ivp_problem.proofs.SameNodes.{is_same, is_same-self, is_same-true}
use Rattle.ivp_pool.specs.Parts.{AreParts, Done, Handed, handed_in, handed_within, IsPart, Incumbent, Outdoes, TreePart, TreeParts, Pruned, size_in, part_size, Expanded, Then}
use Rattle.ivp_pool.specs.Tallies.{AreLinked, handed_by, IsTally, IsWholeTree, Tally}
use Rattle.ivp_pool.proofs.Growing.{covered}
use Rattle.ivp_pool.proofs.Standing.{children_stand, standing, Stands}
use Rattle.ivp_pool.proofs.Weights.{children_weight, some_weight, weight_cons, weight_in, weight_of}

both_empty : {X : Type 0} (xs ys : List X) → xs ++ ys ≡ [] → (xs ≡ []) × (ys ≡ [])
both_empty [] ys e = (refl, e)
both_empty (x ∷ xs) ys e = absurd (cc)

-- a part whose handed nodes were filled by the first of some whole parts, and what is left of these
record Filled (problem : WeightedSum) (key : Incumbent) (node : Node) (part : TreePart) (rest : List Node) (parts : TreeParts) : Type 0 where
  whole : TreePart
  left : TreeParts
  is : IsPart problem key node whole
  none : handed_within problem node whole ≡ []
  are : AreParts problem key rest left
  nothing : handed_in problem rest left ≡ []
  size : part_size whole + size_in left + length (handed_within problem node part) ≡ part_size part + size_in parts

record AllFilled (problem : WeightedSum) (key : Incumbent) (nodes : List Node) (old : TreeParts) (rest : List Node) (parts : TreeParts) : Type 0 where
  wholes : TreeParts
  left : TreeParts
  all : AreParts problem key nodes wholes
  none : handed_in problem nodes wholes ≡ []
  are : AreParts problem key rest left
  nothing : handed_in problem rest left ≡ []
  size : size_in wholes + size_in left + length (handed_in problem nodes old) ≡ size_in old + size_in parts

mutual
  fill : (problem : WeightedSum) (key : Incumbent) (node : Node) (part : TreePart) (rest : List Node) (parts : TreeParts) → IsPart problem key node part → AreParts problem key (handed_within problem node part ++ rest) parts → handed_in problem (handed_within problem node part ++ rest) parts ≡ [] → Filled problem key node part rest parts
  fill problem key node Pruned rest parts is are none = record { whole = Pruned; left = parts; is = is; none = refl; are = are; nothing = none; size = omega arith }
  fill problem key node Handed rest Done is are none = absurd are
  fill problem key node Handed rest (Then one others) is are none =
      let both = both_empty (handed_within problem node one) (handed_in problem rest others) none in
      record { whole = one; left = others; is = are.0; none = both.0; are = are.1; nothing = both.1; size = omega arith }
  fill problem key node (Expanded old) rest parts is are none =
      let filled = fill_all problem key (children_of problem node) old rest parts is.1 are none in
      let size = filled.size in
      record { whole = Expanded filled.wholes; left = filled.left; is = (is.0, filled.all); none = filled.none; are = filled.are; nothing = filled.nothing; size = omega arith }

  fill_all : (problem : WeightedSum) (key : Incumbent) (nodes : List Node) (old : TreeParts) (rest : List Node) (parts : TreeParts) → AreParts problem key nodes old → AreParts problem key (handed_in problem nodes old ++ rest) parts → handed_in problem (handed_in problem nodes old ++ rest) parts ≡ [] → AllFilled problem key nodes old rest parts
  fill_all problem key [] Done rest parts all are none = record { wholes = Done; left = parts; all = tt; none = refl; are = are; nothing = none; size = omega arith }
  fill_all problem key (node ∷ nodes) Done rest parts all are none = absurd all
  fill_all problem key [] (Then part more) rest parts all are none = absurd all
  fill_all problem key (node ∷ nodes) (Then part more) rest parts all are none =
      let mine = handed_within problem node part in
      let others = handed_in problem nodes more in
      let again = append_assoc mine others rest in
      let first = fill problem key node part (others ++ rest) parts all.0 (subst (λ ns. AreParts problem key ns parts) again are) (subst (λ ns. handed_in problem ns parts ≡ []) again none) in
      let later = fill_all problem key nodes more rest first.left all.1 first.are first.nothing in
      let size = first.size in
      let size' = later.size in
      record {
        wholes = Then first.whole later.wholes;
        left = later.left;
        all = (first.is, later.all);
        none = ap (λ ns. ns ++ handed_in problem nodes later.wholes) first.none ∙ later.none;
        are = later.are;
        nothing = later.nothing;
        size = omega (arith, length-append mine others);
      }

-- what a node weighs that goes with its depth: less than a node above it of the same points
abbrev burden : WeightedSum → Node → ℕ
burden problem node = suc (length problem.terms - node.depth) * weight_of problem node

mutual
  burden_most : (problem : WeightedSum) → IsProblem problem → (key : Incumbent) (from levels : ℕ) (node : Node) (part : TreePart) → Stands problem from levels node → IsPart problem key node part → sum_by (burden problem) (handed_within problem node part) ≤ suc levels * weight_of problem node
  burden_most problem h key from levels node Pruned stands is = omega arith
  burden_most problem h key from levels node Handed stands is =
      let most = stands.most in
      let fewer : suc (length problem.terms - node.depth) ≤ suc levels = omega arith in
      let same : weight_of problem node ≤ weight_of problem node = omega arith in
      omega (arith, sum_by-cons (burden problem) node [], mul-le-mul {n₁ = suc (length problem.terms - node.depth)} {m₁ = weight_of problem node} {n₂ = suc levels} {m₂ = weight_of problem node} fewer same)
  burden_most problem h key from zero node (Expanded parts) stands is = absurd (omega (arith, stands.most, is.0))
  burden_most problem h key from (suc levels) node (Expanded parts) stands is =
      omega (
        arith,
        suc-mul (suc levels) (weight_of problem node),
        mul-le-mul_left (suc levels) (children_weight problem node h stands.is is.0),
        burdens_most problem h key (suc from) levels (children_of problem node) parts (children_stand problem from levels node stands) is.1,
      )

  burdens_most : (problem : WeightedSum) → IsProblem problem → (key : Incumbent) (from levels : ℕ) (nodes : List Node) (parts : TreeParts) → Each (Stands problem from levels) nodes → AreParts problem key nodes parts → sum_by (burden problem) (handed_in problem nodes parts) ≤ suc levels * weight_in problem nodes
  burdens_most problem h key from levels nodes Done stand are = omega arith
  burdens_most problem h key from levels [] (Then part parts) stand are = absurd are
  burdens_most problem h key from levels (node ∷ nodes) (Then part parts) stand are =
      omega (
        arith,
        sum_by-append (burden problem) (handed_within problem node part) (handed_in problem nodes parts),
        burden_most problem h key from levels node part stand.0 are.0,
        burdens_most problem h key from levels nodes parts stand.1 are.1,
        ap (λ n. suc levels * n) (weight_cons problem node nodes),
        mul-add (suc levels) (weight_of problem node) (weight_in problem nodes),
      )

-- what a tally handed on weighs less than its node
lighter : (problem : WeightedSum) → IsProblem problem → (key : Incumbent) (node : Node) (part : TreePart) → IsNode problem node → IsPart problem key node part → part ≢ Handed → sum_by (burden problem) (handed_within problem node part) < burden problem node
lighter problem h key node Pruned is part here = omega (arith, suc-mul (length problem.terms - node.depth) (weight_of problem node), some_weight problem node h is)
lighter problem h key node Handed is part here = absurd (here refl)
lighter problem h key node (Expanded parts) is part here = by (length problem.terms - node.depth) refl
  where
    by : (levels : ℕ) → length problem.terms - node.depth ≡ levels → sum_by (burden problem) (handed_in problem (children_of problem node) parts) < burden problem node
    by zero e = let below = part.0 in absurd (omega (arith, below))
    by (suc levels) e =
        let below = part.0 in
        let stands : Stands problem node.depth (suc levels) node = record { is = is; deep = omega arith; most = omega arith } in
        omega (
          arith,
          ap (λ n. suc n * weight_of problem node) e,
          suc-mul (suc levels) (weight_of problem node),
          some_weight problem node h is,
          mul-le-mul_left (suc levels) (children_weight problem node h is below),
          burdens_most problem h key (suc node.depth) levels (children_of problem node) parts (children_stand problem node.depth levels node stands) part.1,
        )

all_lighter : (problem : WeightedSum) → IsProblem problem → (key : Incumbent) (tallies : List Tally) → Each (IsTally problem key) tallies → sum_by (λ tally. sum_by (burden problem) (handed_by problem tally)) tallies + length tallies ≤ sum_by (λ tally. burden problem tally.node) tallies
all_lighter problem h key [] each = omega arith
all_lighter problem h key (tally ∷ tallies) each =
    omega (
      arith,
      lighter problem h key tally.node tally.part each.0.node each.0.is each.0.here,
      all_lighter problem h key tallies each.1,
      sum_by-cons (λ (t : Tally). sum_by (burden problem) (handed_by problem t)) tally tallies,
      sum_by-cons (λ (t : Tally). burden problem t.node) tally tallies,
    )

-- the tally of a node, and those in front of it and behind it
record Picked (node : Node) (tallies : List Tally) : Type 0 where
  front : List Tally
  tally : Tally
  behind : List Tally
  split : tallies ≡ front ++ tally ∷ behind
  same : tally.node ≡ node

pick : (node : Node) (tallies : List Tally) → 0 < sum_by (λ tally. one_if (is_same tally.node node)) tallies → Picked node tallies
pick node [] some = absurd (omega arith)
pick node (tally ∷ tallies) some = by (is_same tally.node node) refl (pick node tallies)
  where
    later : Picked node tallies → Picked node (tally ∷ tallies)
    later p = record { front = tally ∷ p.front; tally = p.tally; behind = p.behind; split = ap (λ ts. tally ∷ ts) p.split; same = p.same }

    by : (t : Bool) → is_same tally.node node ≡ t → (0 < sum_by (λ t. one_if (is_same t.node node)) tallies → Picked node tallies) → Picked node (tally ∷ tallies)
    by true e go = record { front = []; tally = tally; behind = tallies; split = refl; same = is_same-true tally.node node e }
    by false e go = later (go (omega (arith, some, sum_by-cons (λ (t : Tally). one_if (is_same t.node node)) tally tallies, ap one_if e)))

sum_picked : (f : Tally → ℕ) (front : List Tally) (tally : Tally) (behind : List Tally) → sum_by f (front ++ tally ∷ behind) ≡ f tally + sum_by f (front ++ behind)
sum_picked f front tally behind = omega (arith, sum_by-append f front (tally ∷ behind), sum_by-append f front behind, sum_by-cons f tally behind)

each_picked : (P : Tally → Type 0) (front : List Tally) (tally : Tally) (behind : List Tally) → Each P (front ++ tally ∷ behind) → P tally × Each P (front ++ behind)
each_picked P [] tally behind h = h
each_picked P (first ∷ front) tally behind h = let rest = each_picked P front tally behind h.1 in (rest.0, (h.0, rest.1))

-- whole parts of some nodes, made of tallies
record Glued (problem : WeightedSum) (key : Incumbent) (nodes : List Node) (tallies : List Tally) : Type 0 where
  parts : TreeParts
  are : AreParts problem key nodes parts
  none : handed_in problem nodes parts ≡ []
  size : size_in parts + sum_by (λ tally. length (handed_by problem tally)) tallies ≡ sum_by (λ tally. part_size tally.part) tallies

-- no nodes, no tallies
no_tally : (problem : WeightedSum) → IsProblem problem → (key : Incumbent) (tallies : List Tally) → Each (IsTally problem key) tallies → AreLinked problem [] tallies → Glued problem key [] tallies
no_tally problem h key [] each linked = record { parts = Done; are = tt; none = refl; size = omega arith }
no_tally problem h key (tally ∷ tallies) each linked = absurd (omega (arith, linked (burden problem), all_lighter problem h key (tally ∷ tallies) each))

-- without the tally of the first node, whose handed nodes take its place
linked_rest : (problem : WeightedSum) (node : Node) (nodes : List Node) (front : List Tally) (tally : Tally) (behind : List Tally) → tally.node ≡ node → AreLinked problem (node ∷ nodes) (front ++ tally ∷ behind) → AreLinked problem (handed_by problem tally ++ nodes) (front ++ behind)
linked_rest problem node nodes front tally behind same linked = λ weigh.
    omega (
      arith,
      linked weigh,
      sum_by-cons weigh node nodes,
      sum_by-append weigh (handed_by problem tally) nodes,
      sum_picked (λ (t : Tally). weigh t.node) front tally behind,
      sum_picked (λ (t : Tally). sum_by weigh (handed_by problem t)) front tally behind,
      ap weigh same,
    )

glued_with : (problem : WeightedSum) (key : Incumbent) (node : Node) (nodes : List Node) (front : List Tally) (tally : Tally) (behind : List Tally) → tally.node ≡ node → IsTally problem key tally → Glued problem key (handed_by problem tally ++ nodes) (front ++ behind) → Glued problem key (node ∷ nodes) (front ++ tally ∷ behind)
glued_with problem key node nodes front tally behind same is rest =
    let filled = fill problem key tally.node tally.part nodes rest.parts is.is rest.are rest.none in
    let none : handed_within problem node filled.whole ≡ [] = subst (λ n. handed_within problem n filled.whole ≡ []) same filled.none in
    let size = filled.size in
    let size' = rest.size in
    record {
      parts = Then filled.whole filled.left;
      are = (subst (λ n. IsPart problem key n filled.whole) same filled.is, filled.are);
      none = ap (λ ns. ns ++ handed_in problem nodes filled.left) none ∙ filled.nothing;
      size =
          omega (
            arith,
            sum_picked (λ (t : Tally). length (handed_by problem t)) front tally behind,
            sum_picked (λ (t : Tally). part_size t.part) front tally behind,
          );
    }

found : (problem : WeightedSum) (node : Node) (nodes : List Node) (tallies : List Tally) → AreLinked problem (node ∷ nodes) tallies → 0 < sum_by (λ tally. one_if (is_same tally.node node)) tallies
found problem node nodes tallies linked = omega (arith, linked (λ n. one_if (is_same n node)), sum_by-cons (λ (n : Node). one_if (is_same n node)) node nodes, ap one_if (is_same-self node))

-- the first node's tally takes its place, and then those of the nodes that it handed on
glue : (problem : WeightedSum) → IsProblem problem → (key : Incumbent) (count : ℕ) (nodes : List Node) (tallies : List Tally) → length tallies ≡ count → Each (IsTally problem key) tallies → AreLinked problem nodes tallies → Glued problem key nodes tallies
glue problem h key zero [] tallies e each linked = no_tally problem h key tallies each linked
glue problem h key (suc count) [] tallies e each linked = no_tally problem h key tallies each linked
glue problem h key zero (node ∷ nodes) [] e each linked = absurd (omega (arith, found problem node nodes [] linked))
glue problem h key zero (node ∷ nodes) (tally ∷ tallies) e each linked = absurd (omega arith)
glue problem h key (suc count) (node ∷ nodes) tallies e each linked =
    let p = pick node tallies (found problem node nodes tallies linked) in
    let both = each_picked (IsTally problem key) p.front p.tally p.behind (subst (Each (IsTally problem key)) p.split each) in
    let rest = glue problem h key count (handed_by problem p.tally ++ nodes) (p.front ++ p.behind) (omega (arith, ap length p.split, length-append p.front (p.tally ∷ p.behind), length-append p.front p.behind)) both.1 (linked_rest problem node nodes p.front p.tally p.behind p.same (subst (AreLinked problem (node ∷ nodes)) p.split linked)) in
    subst (Glued problem key (node ∷ nodes)) (sym p.split) (glued_with problem key node nodes p.front p.tally p.behind p.same both.0 rest)

-- all tallies together are the whole tree
pub whole : (problem : WeightedSum) → IsProblem problem → (key : Incumbent) (tallies : List Tally) → Each (IsTally problem key) tallies → AreLinked problem (root_of problem ∷ []) tallies → IsWholeTree problem key tallies
whole problem h key tallies each linked = by (glue problem h key (length tallies) (root_of problem ∷ []) tallies refl each linked)
  where
    root : IsNode problem (root_of problem)
    root = record { path = []; reached = refl }

    first : (parts : TreeParts) → AreParts problem key (root_of problem ∷ []) parts → handed_in problem (root_of problem ∷ []) parts ≡ [] → size_in parts + sum_by (λ tally. length (handed_by problem tally)) tallies ≡ sum_by (λ tally. part_size tally.part) tallies → IsWholeTree problem key tallies
    first Done are none size = absurd are
    first (Then part (Then one more)) are none size = absurd are.1
    first (Then part Done) are none size =
        let empty = (both_empty (handed_within problem (root_of problem) part) [] none).0 in
        record {
          part = part;
          is = are.0;
          none = empty;
          size = omega (arith, size);
          most = λ p inside. known p (covered problem h key 0 (length problem.terms) (root_of problem) part (standing problem (root_of problem) root) are.0 p inside) empty;
        }
      where
        known : (p : Point) → (Outdoes key (key_at problem p)) ⊎ (has_in (handed_within problem (root_of problem) part) p ≡ true) → handed_within problem (root_of problem) part ≡ [] → Outdoes key (key_at problem p)
        known p (inl less) empty = less
        known p (inr there) empty = let no = subst (λ ns. has_in ns p ≡ true) empty there in absurd (cc)

    by : Glued problem key (root_of problem ∷ []) tallies → IsWholeTree problem key tallies
    by glued = first glued.parts glued.are glued.none glued.size
