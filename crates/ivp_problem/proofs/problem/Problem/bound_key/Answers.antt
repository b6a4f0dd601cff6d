use Rattle.std.proofs.Common.{◌≡◌, ℕ, ◌+◌, ◌*◌, ◌^◌, ◌≤◌, true, drop, length-drop, refl, ap, ◌∙◌, arith}
use Rattle.ivp_domain.specs.declared.boxes.Point.{Point}
use Rattle.ivp_domain.specs.Domains.{index_of, is_point}
use Rattle.ivp_func.proofs.Facts.{area_point, box_parts, has_first_point}
use Rattle.ivp_problem.specs.Keys.{key_of}
use Rattle.ivp_problem.specs.declared.node.Node.{Node}
use Rattle.ivp_problem.specs.Problems.{IsProblem, WeightedSum}
use Rattle.ivp_problem.specs.Trees.{bound_of, rest_of}
use Rattle.ivp_problem.proofs.Bounds.{bound_below, bound_chosen, IsHighCorner, key_bound}
use Rattle.ivp_problem.proofs.KeyOrder.{index_small}
use Rattle.ivp_problem.proofs.Nodes.{Keeps, node_keeps}
use Rattle.ivp_problem.proofs.Terms.{each_drop, tops_most}
use Rattle.ivp_problem.proofs.problem.Problem.bound_key.Goals as goal

-- what the chosen functions and the others add stays within the greatest sum
sum_within : (problem : WeightedSum) (node : Node) (most rest : ℕ) → IsProblem problem → Keeps problem node → most ≤ 10 ^ 12 * node.depth → rest ≡ rest_of problem node → most + rest ≤ 64 * 10 ^ 12
sum_within problem node most rest h keeps few e =
    let tops = tops_most problem.axes (drop node.depth problem.terms) (each_drop problem.axes node.depth problem.terms h.terms) in
    let depth = keeps.depth in
    let terms = h.few in
    omega (arith, length-drop node.depth problem.terms)

-- the low corner of a node's box is a point of the domain
first_inside : (problem : WeightedSum) (node : Node) (first : Point) → Keeps problem node → first.at ≡ node.area.low → is_point problem.axes first ≡ true
first_inside problem node first keeps low = area_point problem.axes node.area first keeps.inside (has_first_point node.area first (box_parts problem.axes node.area keeps.inside).0 low)

pub high_corner-corner-requires : goal.high_corner-corner-requires
high_corner-corner-requires c =
    let problem = c.args.self.now in
    let keeps = node_keeps problem c.args.node.now c.len-len.ensures.problem c.requires in
    (box_parts problem.axes c.args.node.now.area keeps.inside).0

pub overflow_add-most : goal.overflow_add-most
overflow_add-most c =
    let h = c.len-len.ensures.problem in
    let within = sum_within c.args.self.now c.args.node.now c.chosen_sum-most.result c.tops_from.result h (node_keeps c.args.self.now c.args.node.now h c.requires) c.chosen_sum-most.ensures.range c.tops_from.ensures in
    omega arith

pub index_of-requires : goal.index_of-requires
index_of-requires c =
    let problem = c.args.self.now in
    let keeps = node_keeps problem c.args.node.now c.len-len.ensures.problem c.requires in
    rw c.lent_domain-domain.ensures (first_inside problem c.args.node.now (record { at = c.args.node.now.area.low }) keeps refl)

pub key_of-requires-clause-sum : goal.key_of-requires-clause-sum
key_of-requires-clause-sum c =
    let h = c.len-len.ensures.problem in
    sum_within c.args.self.now c.args.node.now c.chosen_sum-most.result c.tops_from.result h (node_keeps c.args.self.now c.args.node.now h c.requires) c.chosen_sum-most.ensures.range c.tops_from.ensures

pub key_of-requires-clause-index : goal.key_of-requires-clause-index
key_of-requires-clause-index c =
    let problem = c.args.self.now in
    let h = c.len-len.ensures.problem in
    let keeps = node_keeps problem c.args.node.now h c.requires in
    let first : Point = record { at = c.args.node.now.area.low } in
    let same : c.index_of.result ≡ index_of problem.axes first = c.index_of.ensures.index ∙ ap (λ a. index_of a first) c.lent_domain-domain.ensures in
    rw same (index_small problem.axes first h.domain (first_inside problem c.args.node.now first keeps refl))

pub index_of-requires-else-node-len : goal.index_of-requires-else-node-len
index_of-requires-else-node-len c =
    let problem = c.args.self.now in
    let keeps = node_keeps problem c.args.node.now c.len-len.ensures.problem c.requires in
    rw c.lent_domain-domain.ensures (area_point problem.axes c.args.node.now.area c.high_corner-corner.result keeps.inside c.high_corner-corner.ensures.inside)

pub key_of-requires-else-node-len-clause-sum : goal.key_of-requires-else-node-len-clause-sum
key_of-requires-else-node-len-clause-sum c =
    let h = c.len-len.ensures.problem in
    let keeps = node_keeps c.args.self.now c.args.node.now h c.requires in
    let depth = keeps.depth in
    let terms = h.few in
    let most = c.chosen_sum-most.ensures.range in
    omega arith

pub key_of-requires-else-node-len-clause-index : goal.key_of-requires-else-node-len-clause-index
key_of-requires-else-node-len-clause-index c =
    let problem = c.args.self.now in
    let h = c.len-len.ensures.problem in
    let keeps = node_keeps problem c.args.node.now h c.requires in
    let corner = c.high_corner-corner.result in
    let same : c.index_of-else-node-len.result ≡ index_of problem.axes corner = c.index_of-else-node-len.ensures.index ∙ ap (λ a. index_of a corner) c.lent_domain-domain.ensures in
    rw same (index_small problem.axes corner h.domain (area_point problem.axes c.args.node.now.area corner keeps.inside c.high_corner-corner.ensures.inside))

pub returns-then-node-len-clause-bound : goal.returns-then-node-len-clause-bound
returns-then-node-len-clause-bound c =
    let problem = c.args.self.now in
    let node = c.args.node.now in
    let keeps = node_keeps problem node c.len-len.ensures.problem c.requires in
    let corner = c.high_corner-corner.result in
    let first : Point = record { at = node.area.low } in
    let high : IsHighCorner node corner = record { inside = c.high_corner-corner.ensures.inside; most = c.high_corner-corner.ensures.most } in
    let same : c.index_of.result ≡ index_of problem.axes first = c.index_of.ensures.index ∙ ap (λ a. index_of a first) c.lent_domain-domain.ensures in
    let bound = bound_below problem node corner first keeps high refl (omega (arith, c.if-node-len.true, c.len-len.ensures.len)) in
    c.key_of.ensures ∙ (rw (c.chosen_sum-most.ensures.sum, c.tops_from.ensures, same) bound)

pub returns-then-node-len-clause-above : goal.returns-then-node-len-clause-above
returns-then-node-len-clause-above c = λ p inside.
    let problem = c.args.self.now in
    let node = c.args.node.now in
    let keeps = node_keeps problem node c.len-len.ensures.problem c.requires in
    let corner = c.high_corner-corner.result in
    let first : Point = record { at = node.area.low } in
    let high : IsHighCorner node corner = record { inside = c.high_corner-corner.ensures.inside; most = c.high_corner-corner.ensures.most } in
    let same : c.index_of.result ≡ index_of problem.axes first = c.index_of.ensures.index ∙ ap (λ a. index_of a first) c.lent_domain-domain.ensures in
    let bound = bound_below problem node corner first keeps high refl (omega (arith, c.if-node-len.true, c.len-len.ensures.len)) in
    let whole : key_of (c.chosen_sum-most.result + c.tops_from.result) c.index_of.result ≡ bound_of problem node = rw (c.chosen_sum-most.ensures.sum, c.tops_from.ensures, same) bound in
    rw (c.key_of.ensures ∙ whole) (key_bound problem node p keeps inside)

pub returns-else-node-len-clause-bound : goal.returns-else-node-len-clause-bound
returns-else-node-len-clause-bound c =
    let problem = c.args.self.now in
    let node = c.args.node.now in
    let keeps = node_keeps problem node c.len-len.ensures.problem c.requires in
    let corner = c.high_corner-corner.result in
    let high : IsHighCorner node corner = record { inside = c.high_corner-corner.ensures.inside; most = c.high_corner-corner.ensures.most } in
    let same : c.index_of-else-node-len.result ≡ index_of problem.axes corner = c.index_of-else-node-len.ensures.index ∙ ap (λ a. index_of a corner) c.lent_domain-domain.ensures in
    let bound = bound_chosen problem node corner keeps high (omega (arith, c.if-node-len.false, c.len-len.ensures.len)) in
    c.key_of-else-node-len.ensures ∙ (rw (c.chosen_sum-most.ensures.sum, same) bound)

pub returns-else-node-len-clause-above : goal.returns-else-node-len-clause-above
returns-else-node-len-clause-above c = λ p inside.
    let problem = c.args.self.now in
    let node = c.args.node.now in
    let keeps = node_keeps problem node c.len-len.ensures.problem c.requires in
    let corner = c.high_corner-corner.result in
    let high : IsHighCorner node corner = record { inside = c.high_corner-corner.ensures.inside; most = c.high_corner-corner.ensures.most } in
    let same : c.index_of-else-node-len.result ≡ index_of problem.axes corner = c.index_of-else-node-len.ensures.index ∙ ap (λ a. index_of a corner) c.lent_domain-domain.ensures in
    let bound = bound_chosen problem node corner keeps high (omega (arith, c.if-node-len.false, c.len-len.ensures.len)) in
    let whole : key_of c.chosen_sum-most.result c.index_of-else-node-len.result ≡ bound_of problem node = rw (c.chosen_sum-most.ensures.sum, same) bound in
    rw (c.key_of-else-node-len.ensures ∙ whole) (key_bound problem node p keeps inside)
